pub mod Ambiguity
pub mod Names
pub mod Scan
pub mod Firsts
pub mod Parts
pub mod Once
pub mod Answers
pub mod Laws
pub use Rattle.sgml_names.specs as sgml_names
