pub mod Missed
pub mod Silent
pub mod Tables
pub mod Knowing
pub mod Located
pub mod Leading
pub mod Holding
pub mod Told
pub mod Together
pub mod Gains
pub mod Unsupplied
pub use Rattle.sgml_declared.proofs.theory_standing as theory_standing
pub use Rattle.sgml_declared.proofs.theory_reading as theory_reading
