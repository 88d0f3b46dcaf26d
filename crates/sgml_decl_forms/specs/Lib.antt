pub mod Words
pub mod Groups
pub mod Elements
pub mod Attributes
pub mod Externals
pub mod EntityForms
pub mod Maps
pub mod Doctypes
pub mod Declarations
pub mod Due
pub use Rattle.sgml_delim.specs as delim
pub use Rattle.sgml_decl_lexemes.specs as sgml_decl_lexemes
pub use Rattle.sgml_decl_lexemes.specs.marked as marked
pub use Rattle.sgml_decl_lexemes.specs.decl_parts as decl_parts
