pub mod Matched
pub mod Refused
pub mod Valued
pub mod Read
pub mod One
pub mod Files
pub mod Quoted
pub mod Answered
pub mod Walked
pub mod Pieces
pub mod Scanned
pub mod Apart
pub mod Holding
pub mod Reading
pub use Rattle.sgml_declared.proofs.theory_spelling as theory_spelling
pub use Rattle.sgml_declared.proofs.theory_standing as theory_standing
pub use Rattle.sgml_starts.proofs.markup as markup
