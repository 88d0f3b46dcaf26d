pub mod Named
pub mod Spellings
pub mod Points
pub mod Raw
pub mod Written
pub mod Conforming
pub mod Standing
pub mod ReadRaw
pub mod Following
pub mod Instances
pub mod Worked
pub mod WorkedStrings
pub mod Laws
pub use Rattle.sgml_theory_values.specs.attr as attr
pub use Rattle.sgml_theory_values.specs.decl_forms as decl_forms
pub use Rattle.sgml_theory_values.specs.decl_lexemes as decl_lexemes
pub use Rattle.sgml_theory_values.specs.decl_parts as decl_parts
pub use Rattle.sgml_theory_values.specs.delim as delim
pub use Rattle.sgml_theory_values.specs.dtd as dtd
pub use Rattle.sgml_theory_values.specs.dtd_attlists as dtd_attlists
pub use Rattle.sgml_theory_values.specs.dtd_elements as dtd_elements
pub use Rattle.sgml_theory_values.specs.dtd_maps as dtd_maps
pub use Rattle.sgml_theory_values.specs.entity as entity
pub use Rattle.sgml_theory_values.specs.full as full
pub use Rattle.sgml_theory_values.specs.marked as marked
pub use Rattle.sgml_theory_values.specs.markup as markup
pub use Rattle.sgml_theory_values.specs.model as model
pub use Rattle.sgml_theory_values.specs.names as names
pub use Rattle.sgml_theory_values.specs.records as records
pub use Rattle.sgml_theory_values.specs.scan as scan
pub use Rattle.sgml_theory_values.specs.sgmldecl as sgmldecl
pub use Rattle.sgml_theory_values.specs.syntax as syntax
pub use Rattle.sgml_theory_values.specs.text as text
pub use Rattle.sgml_theory_values.specs.theory_kinds as theory_kinds
pub use Rattle.sgml_theory_values.specs.theory_reading as theory_reading
pub use Rattle.sgml_theory_values.specs.theory_spelling as theory_spelling
pub use Rattle.sgml_theory_values.specs as sgml_theory_values
pub use Rattle.sgml_theory_written.specs as theory_written
