pub mod Declaring
pub mod Heads
pub mod Sgml
pub mod Ending
pub mod Reading
pub mod Going
pub use Rattle.sgml_sgmldecl.specs as sgmldecl
