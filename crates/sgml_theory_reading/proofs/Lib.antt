pub mod Search
pub mod FirstDeclared
pub mod Numbered
pub mod Contexts
pub mod Runs
pub mod Table
pub mod Prologs
pub mod Walking
pub mod Again
pub mod Steps
pub mod Reading
pub mod Cutting
pub mod Told
pub mod Sessions
pub mod Computed
pub mod Identified
pub mod Stack
pub mod DataAgain
pub mod Texts
pub mod ByNumber
pub mod InOrder
pub mod Counted
pub mod Borders
pub mod ElementNumbers
pub use Rattle.sgml_dtd.proofs.ambiguity as ambiguity
pub use Rattle.sgml_dtd.proofs.decl_lexemes as decl_lexemes
pub use Rattle.sgml_dtd.proofs.decl_parts as decl_parts
pub use Rattle.sgml_dtd.proofs.model as model
