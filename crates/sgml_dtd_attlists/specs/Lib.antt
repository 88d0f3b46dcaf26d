pub mod Interpreted
pub mod Tables
pub mod Rows
pub mod Numbered
pub mod InOrder
pub use Rattle.sgml_attr.specs as sgml_attr
