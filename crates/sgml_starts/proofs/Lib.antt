pub mod Parts
pub mod Literals
pub mod Walked
pub mod Ranked
pub mod Added
pub mod Completed
pub mod Numbered
pub mod Whole
pub mod Tags
pub mod Tokens
pub mod Plain
pub mod Judged
pub mod SoFar
pub mod Lone
pub mod Flagged
pub mod Calm
pub mod Several
pub use Rattle.sgml_decl_lexemes.proofs as decl_lexemes
pub use Rattle.sgml_decl_lexemes.proofs.decl_parts as decl_parts
pub use Rattle.sgml_names.proofs as names
pub use Rattle.sgml_markup.proofs as markup
