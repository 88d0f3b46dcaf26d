pub mod Tables
pub mod Links
pub mod Known
pub mod Trees
pub mod Seen
pub mod Visibles
pub mod Laws
pub use Rattle.sgml_dtd.specs as sgml_dtd
pub use Rattle.sgml_theory_reading.specs as theory_reading
