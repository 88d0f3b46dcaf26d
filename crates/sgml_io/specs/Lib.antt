pub mod Asked
pub mod Causes
pub mod Failing
pub mod Files
pub mod InMemory
pub mod Lifted
pub mod Pieces
pub mod Records
pub mod Storage
pub mod Writes
pub use Rattle.sgml_text.specs as text
