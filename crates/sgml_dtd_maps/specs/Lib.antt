pub mod Written
pub mod Tables
pub mod Rows
pub mod Numbered
pub mod InOrder
pub use Rattle.sgml_shortref.specs as sgml_shortref
