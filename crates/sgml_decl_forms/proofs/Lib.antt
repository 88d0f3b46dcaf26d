pub mod InOrder
mod OneGrammar
pub use Rattle.sgml_decl_lexemes.proofs.decl_parts as decl_parts
pub use Rattle.sgml_decl_lexemes.proofs as sgml_decl_lexemes
