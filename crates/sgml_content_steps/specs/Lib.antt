pub mod Standing
pub mod Modes
pub mod Found
pub mod Laws
pub mod Content
pub mod Places
pub mod Steps
pub mod Plainly
pub mod Starts
pub mod Runs
pub mod LeftOut
pub mod Judged
pub mod Begun
pub mod Taken
pub use Rattle.sgml_theory_starts.specs as theory_starts
pub use Rattle.sgml_events.specs as events
pub use Rattle.sgml_infer.specs as sgml_infer
pub use Rattle.sgml_said.specs as said
