pub mod Tokens
pub mod Staying
pub mod Growing
pub mod Scanning
pub mod Sizes
pub mod Decides
pub mod Ends
pub mod Taken
pub mod Nested
pub mod Bridge
pub mod Asked
pub mod Opened
pub mod Judged
pub mod Valued
pub mod Named
pub mod Statuses
pub mod Values
pub mod Given
pub mod Worked
pub use Rattle.sgml_theory_reading.proofs as theory_reading
pub use Rattle.sgml_scan.proofs as scan
pub use Rattle.sgml_scan.proofs.delim as delim
pub use Rattle.sgml_scan.proofs.markup as markup
pub use Rattle.sgml_sgmldecl.proofs as sgmldecl
