pub mod Declared
pub mod Spelling
pub mod Documents
pub mod Cases
pub mod Whole
pub mod Shows
pub mod Parts
pub use Rattle.sgml_theory_reading.specs.decl_forms as decl_forms
pub use Rattle.sgml_theory_reading.specs.dtd as dtd
pub use Rattle.sgml_theory_reading.specs.dtd_elements as dtd_elements
pub use Rattle.sgml_theory_reading.specs.model as model
pub use Rattle.sgml_theory_reading.specs.records as records
pub use Rattle.sgml_theory_reading.specs as theory_reading
