pub mod Numbered
pub mod Levels
pub mod Undefined
pub mod Going
pub mod Still
pub mod Stopping
pub mod Ending
pub mod From
pub mod Finishing
pub mod Others
pub mod Tagged
pub mod Tags
pub mod Settling
pub mod Noted
pub mod Started
pub mod Valuing
pub mod Fitting
pub mod Emptied
pub mod Refusing
pub mod Emptying
pub mod Tagging
pub mod Plainly
pub use Rattle.sgml_content_steps.proofs as sgml_content_steps
pub use Rattle.sgml_content_steps.proofs.theory_starts as theory_starts
