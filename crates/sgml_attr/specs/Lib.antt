pub mod Answers
pub mod Parts
pub mod Literal
pub mod Spacing
pub mod Tokens
pub mod Rows
pub mod Values
pub mod Against
pub mod Equality
pub mod Matching
pub mod Finding
pub mod Currents
pub use Rattle.sgml_syntax.specs as syntax
