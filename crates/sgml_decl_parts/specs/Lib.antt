pub mod Bytes
pub mod Ends
pub mod Forms
pub mod Parts
pub use Rattle.sgml_delim.specs as sgml_delim
