pub mod Groups
pub mod NumberedNames
pub mod PlacedNames
pub mod KeptRows
pub mod PreparedRows
pub mod OneDeclaration
pub mod Reasons
pub use Rattle.sgml_decl_forms.proofs.decl_parts as decl_parts
pub use Rattle.sgml_automaton.proofs.ambiguity as ambiguity
pub use Rattle.sgml_decl_forms.proofs.sgml_decl_lexemes as sgml_decl_lexemes
pub use Rattle.sgml_model.proofs as model
