pub use Rattle.sgml_theory_reading.proofs.ElementNumbers as Numbers
pub mod Declared
pub mod Knowing
pub mod Stepping
pub mod Contents
pub mod Links
pub mod Nets
pub mod Points
pub mod Asked
pub mod First
pub mod Places
pub mod Behind
pub mod Leaving
pub mod Growing
pub mod Running
pub mod Unopposed
pub mod Accepting
pub use Rattle.sgml_theory_reading.proofs as theory_reading
