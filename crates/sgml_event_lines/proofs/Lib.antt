pub mod Joining
pub mod Bytes
pub mod Marked
pub mod Naming
pub mod Placing
pub mod Standing
pub mod Definitions
pub mod Ending
pub mod Written
pub mod ReadBack
pub use Rattle.sgml_dtd.proofs.decl_parts as decl_parts
pub use Rattle.sgml_esis.proofs as esis
pub use Rattle.sgml_theory_reading.proofs as theory_reading
