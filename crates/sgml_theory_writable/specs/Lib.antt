pub mod Spelled
pub mod Laws
pub use Rattle.sgml_theory_again.specs as sgml_theory_again
pub use Rattle.sgml_theory_again.specs.sgml_theory_full as sgml_theory_full
pub use Rattle.sgml_theory_again.specs.theory_written as theory_written
