pub mod Errors
pub mod Folded
pub mod Kept
pub mod Laws
pub mod Naming
pub mod Rows
pub mod Types
pub use Rattle.sgml_decl_forms.specs as sgml_decl_forms
pub use Rattle.sgml_decl_forms.specs.sgml_decl_lexemes as sgml_decl_lexemes
pub use Rattle.sgml_decl_forms.specs.delim as delim
pub use Rattle.sgml_decl_forms.specs.marked as marked
pub use Rattle.sgml_model.specs as model
pub use Rattle.sgml_decl_forms.specs.decl_parts as decl_parts
pub use Rattle.sgml_automaton.specs.ambiguity as ambiguity
