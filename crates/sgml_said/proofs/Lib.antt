pub mod Paired
pub use Rattle.sgml_theory_reading.proofs as theory_reading
