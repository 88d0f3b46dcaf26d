pub mod Directories
pub mod Numbered
pub mod Noting
pub mod Opened
pub mod Stacks
pub mod Wanting
pub mod Lexing
pub mod Taken
pub mod Statuses
pub mod Wanted
pub mod Heads
pub use Rattle.sgml_theory_standing.proofs as theory_standing
pub use Rattle.sgml_theory_standing.proofs.theory_reading as theory_reading
pub use Rattle.sgml_theory_standing.proofs.theory_spelling as theory_spelling
