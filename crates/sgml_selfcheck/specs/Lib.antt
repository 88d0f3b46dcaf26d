pub mod Checking
pub mod Counts
pub use Rattle.sgml_gen.specs as gen
pub use Rattle.sgml_conversion.specs as sgml_conversion
pub use Rattle.sgml_conversion.specs.theory_reading as theory_reading
