pub mod Storage
pub mod Fronts
pub use Rattle.sgml_io.specs as io
pub use Rattle.sgml_text.specs as text
