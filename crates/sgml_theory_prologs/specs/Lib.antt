pub mod Names
pub mod Prologs
pub mod Laws
pub use Rattle.sgml_theory_standing.specs.theory_spelling as theory_spelling
