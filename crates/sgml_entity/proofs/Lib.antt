pub mod Numbers
pub mod Turned
pub mod Grown
pub mod Mapped
pub use Rattle.sgml_names.proofs as sgml_names
