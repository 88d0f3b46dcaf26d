pub mod Members
pub mod Position
pub mod Moves
pub mod Moved
pub mod Alike
pub mod Cores
pub mod Grouped
pub mod Unique
pub mod Last
pub mod Plan
pub mod Known
pub mod Automaton
pub mod Built
pub mod Laws
pub use Rattle.sgml_ambiguity.specs as ambiguity
pub use Rattle.sgml_model.specs as model
