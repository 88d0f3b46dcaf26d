pub mod There
pub mod Missing
pub mod Locating
pub mod Parsing
pub mod Wanting
pub mod Held
pub mod Batches
pub mod Going
pub mod Together
pub mod Calls
pub mod Laws
pub use Rattle.sgml_declared.specs as declaring
pub use Rattle.sgml_instance.specs as instance
pub use Rattle.sgml_instance.specs.content_steps as content_steps
pub use Rattle.sgml_declared.specs.theory_standing as theory_standing
pub use Rattle.sgml_instance.specs.said as said
pub use Rattle.sgml_syntax.specs as syntax
pub use Rattle.sgml_declared.specs.theory_reading as theory_reading
pub use Rattle.sgml_declared.specs.theory_spelling as theory_spelling
pub use Rattle.sgml_decl_lexemes.specs.decl_parts as decl_parts
pub use Rattle.sgml_prolog_steps.specs.markup as markup
