pub mod Beginning
pub mod Prologs
pub mod Given
pub mod Entities
pub mod First
pub mod Supplied
pub mod Standing
pub mod Falls
pub mod Reading
pub mod Gaining
pub mod Omitted
pub mod Alone
pub mod Parsing
pub mod Moving
pub use Rattle.sgml_theory_spelling.proofs as theory_spelling
pub use Rattle.sgml_theory_spelling.proofs.theory_reading as theory_reading
pub use Rattle.sgml_theory_spelling.proofs.delim as delim
pub use Rattle.sgml_theory_spelling.proofs.markup as markup
pub use Rattle.sgml_theory_spelling.proofs.scan as scan
pub use Rattle.sgml_theory_spelling.proofs.sgmldecl as sgmldecl
