pub mod Told
pub use Rattle.sgml_theory_reading.specs.records as records
pub use Rattle.sgml_theory_reading.specs as theory_reading
