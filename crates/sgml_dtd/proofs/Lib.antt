pub mod AfterAll
pub mod FirstEntity
pub mod Searching
pub use Rattle.sgml_dtd_elements.proofs as dtd_elements
pub use Rattle.sgml_entity.proofs.sgml_names as names
pub use Rattle.sgml_dtd_elements.proofs.decl_parts as decl_parts
pub use Rattle.sgml_dtd_elements.proofs.ambiguity as ambiguity
pub use Rattle.sgml_dtd_elements.proofs.sgml_decl_lexemes as decl_lexemes
pub use Rattle.sgml_dtd_elements.proofs.model as model
