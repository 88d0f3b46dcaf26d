mod Texts
mod Standing
mod Tokens
mod Content
mod Nested
mod Found
mod Instance
mod Live
mod Strings
mod Moving
mod Cdata
mod CdataMoves
mod Folding
mod Lexing
mod Declaring
mod Saying
mod Naming
mod Holding
pub use Rattle.sgml_theory_full.proofs.theory_reading as theory_reading
pub use Rattle.sgml_theory_full.proofs as sgml_theory_full
