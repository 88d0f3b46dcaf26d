mod Tokens
mod Rows
mod Lists
mod Written
mod Facts
mod Starts
mod Ends
mod Holding
mod Full
mod Referring
mod Growing
mod Declared
mod Reading
mod Given
mod Worked
pub use Rattle.sgml_theory_starts.proofs.markup as markup
pub use Rattle.sgml_theory_kinds.proofs as theory_kinds
pub use Rattle.sgml_theory_worked.proofs.theory_reading as theory_reading
pub use Rattle.sgml_theory_starts.proofs.theory_spelling as theory_spelling
