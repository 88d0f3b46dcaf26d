pub mod Written
pub mod Specified
pub mod Read
pub mod Rows
pub mod Told
pub mod Plain
pub mod Taken
pub mod SoFar
pub mod Numbers
pub mod Noted
pub mod Values
pub mod Currents
pub mod Filled
pub mod Setting
pub mod Starts
pub mod Answered
pub use Rattle.sgml_attr.specs as attr
pub use Rattle.sgml_decl_lexemes.specs as decl_lexemes
pub use Rattle.sgml_decl_lexemes.specs.decl_parts as decl_parts
pub use Rattle.sgml_dtd.specs.delim as delim
pub use Rattle.sgml_dtd.specs as dtd
pub use Rattle.sgml_dtd.specs.dtd_attlists as dtd_attlists
pub use Rattle.sgml_dtd.specs.dtd_elements as dtd_elements
pub use Rattle.sgml_dtd.specs.dtd_maps as dtd_maps
pub use Rattle.sgml_entity.specs as entity
pub use Rattle.sgml_markup.specs as markup
pub use Rattle.sgml_names.specs as names
pub use Rattle.sgml_dtd.specs.shortref as shortref
pub use Rattle.sgml_syntax.specs as syntax
pub use Rattle.sgml_text.specs as text
