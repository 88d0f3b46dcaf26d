pub mod Files
pub mod Opening
pub mod Taking
pub mod Heads
pub mod Reading
pub mod Statuses
pub mod Adding
pub mod Over
pub use Rattle.sgml_theory_standing.specs as theory_standing
pub use Rattle.sgml_theory_standing.specs.theory_reading as theory_reading
pub use Rattle.sgml_theory_standing.specs.theory_spelling as theory_spelling
pub use Rattle.sgml_catalog.specs as catalog
pub use Rattle.sgml_decl_forms.specs as decl_forms
pub use Rattle.sgml_decl_lexemes.specs as decl_lexemes
pub use Rattle.sgml_decl_lexemes.specs.decl_parts as decl_parts
pub use Rattle.sgml_dtd.specs as sgml_dtd
pub use Rattle.sgml_marked.specs as marked
pub use Rattle.sgml_theory_standing.specs.scan as scan
pub use Rattle.sgml_theory_standing.specs.sgmldecl as sgmldecl
