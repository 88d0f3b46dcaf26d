pub mod Doctypes
pub mod Errors
pub mod Laws
pub mod Rows
pub use Rattle.sgml_dtd_attlists.specs.sgml_attr as attr
pub use Rattle.sgml_dtd_elements.specs.sgml_decl_forms as decl_forms
pub use Rattle.sgml_dtd_elements.specs.sgml_decl_lexemes as decl_lexemes
pub use Rattle.sgml_dtd_elements.specs.delim as delim
pub use Rattle.sgml_dtd_attlists.specs as dtd_attlists
pub use Rattle.sgml_dtd_elements.specs as dtd_elements
pub use Rattle.sgml_dtd_maps.specs as dtd_maps
pub use Rattle.sgml_entity.specs as entity
pub use Rattle.sgml_dtd_elements.specs.marked as marked
pub use Rattle.sgml_dtd_elements.specs.model as model
pub use Rattle.sgml_entity.specs.sgml_names as names
pub use Rattle.sgml_dtd_maps.specs.sgml_shortref as shortref
pub use Rattle.sgml_syntax.specs as syntax
pub use Rattle.sgml_text.specs as text
pub use Rattle.sgml_dtd_elements.specs.decl_parts as decl_parts
pub use Rattle.sgml_dtd_elements.specs.ambiguity as ambiguity
