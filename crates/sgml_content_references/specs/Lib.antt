pub mod Referring
pub mod Strings
pub mod Entities
pub mod Ordinary
pub mod Mapped
pub use Rattle.sgml_content_data.specs as content_data
