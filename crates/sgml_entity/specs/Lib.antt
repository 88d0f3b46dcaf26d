pub mod Entities
pub mod Numbered
pub mod Stack
pub mod Texts
pub use Rattle.sgml_names.specs as sgml_names
pub use Rattle.sgml_text.specs as text
