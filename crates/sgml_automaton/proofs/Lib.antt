pub mod Places
pub mod Bits
pub mod Steps
pub mod Lists
pub mod Alike
pub mod OneTerm
pub mod Among
pub mod Reached
pub mod Still
pub mod Keeping
pub mod Planned
pub mod Following
pub mod Knowing
pub mod Chasing
pub use Rattle.sgml_model.proofs as model
pub use Rattle.sgml_ambiguity.proofs as ambiguity
