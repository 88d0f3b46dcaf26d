pub mod Left
pub mod Places
pub mod Outcomes
pub mod Laws
pub use Rattle.sgml_theory_spelling.specs.scan as scan
pub use Rattle.sgml_theory_spelling.specs as theory_spelling
