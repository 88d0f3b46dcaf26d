pub mod Shown
pub mod Lines
pub mod Placed
pub mod Spelled
pub mod Marks
pub mod Standing
pub mod Whole
pub mod ReadBack
pub use Rattle.sgml_attr.specs as attr
pub use Rattle.sgml_dtd.specs.decl_forms as decl_forms
pub use Rattle.sgml_dtd.specs.decl_lexemes as decl_lexemes
pub use Rattle.sgml_dtd.specs.decl_parts as decl_parts
pub use Rattle.sgml_dtd.specs as dtd
pub use Rattle.sgml_dtd.specs.dtd_attlists as dtd_attlists
pub use Rattle.sgml_dtd.specs.dtd_elements as dtd_elements
pub use Rattle.sgml_entity.specs as entity
pub use Rattle.sgml_esis.specs as esis
pub use Rattle.sgml_entity.specs.sgml_names as sgml_names
pub use Rattle.sgml_theory_reading.specs.records as records
pub use Rattle.sgml_attr.specs.syntax as syntax
pub use Rattle.sgml_text.specs as text
pub use Rattle.sgml_theory_reading.specs as theory_reading
