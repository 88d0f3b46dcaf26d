mod Basics
mod Lexemes
mod Instructions
mod Walking
mod Tokens
mod Values
mod Attributes
mod Defaults
mod Growing
mod Holding
mod Reading
mod Told
pub use Rattle.sgml_theory_again.proofs.sgml_theory_full as sgml_theory_full
