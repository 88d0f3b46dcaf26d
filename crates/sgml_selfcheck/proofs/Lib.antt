pub mod Converted
pub mod Counted
pub mod One
pub use Rattle.sgml_conversion.proofs as sgml_conversion
pub use Rattle.sgml_conversion.proofs.theory_reading as theory_reading
