pub mod Lexed
pub mod Says
pub mod Steps
pub mod Falling
pub mod Ending
pub mod Coming
pub mod Faulting
pub mod There
pub mod Outcomes
pub mod First
pub use Rattle.sgml_theory_spelling.proofs.scan as scan
pub use Rattle.sgml_theory_spelling.proofs as theory_spelling
