pub mod Worked
pub mod Parts
pub mod Wholes
pub use Rattle.sgml_theory_reading.proofs as theory_reading
