pub mod Naming
pub mod Index
pub mod Lists
pub mod Hashing
pub mod Slots
pub mod Hashed
pub use Rattle.sgml_syntax.specs as syntax
