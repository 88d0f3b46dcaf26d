pub mod BadFiles
pub mod Declarations
pub mod Setting
pub use Rattle.sgml_declared.specs.theory_spelling as theory_spelling
