pub mod Top
pub mod Scanned
pub mod Whole
pub mod Told
pub mod Shared
pub mod Bytes
pub mod Separating
pub mod Nesting
pub mod Closing
pub mod Referring
pub mod Misplacing
pub mod Starting
pub mod Constructs
pub use Rattle.sgml_declared.proofs.theory_standing as theory_standing
