pub mod Numbers
pub mod Specified
pub mod Data
pub mod Told
pub mod Said
pub mod Contents
pub mod Whole
pub use Rattle.sgml_attr.proofs as attr
