pub mod Answered
pub mod Begun
pub mod Found
pub mod Placed
pub mod Taken
pub mod Typed
pub mod Turned
pub mod Written
pub mod Reaching
pub mod Fed
pub mod Documented
pub mod OneFull
pub mod Ended
pub mod FullEnded
pub use Rattle.sgml_theory_ending.proofs as theory_ending
pub use Rattle.sgml_said.proofs.theory_reading as theory_reading
