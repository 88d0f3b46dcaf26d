pub mod Starts
pub mod Read
pub mod There
pub mod Scanned
pub mod Valued
pub mod Apart
pub use Rattle.sgml_declared.specs as declaring
pub use Rattle.sgml_declared.specs.theory_reading as theory_reading
pub use Rattle.sgml_declared.specs.theory_spelling as theory_spelling
pub use Rattle.sgml_declared.specs.theory_standing as theory_standing
pub use Rattle.sgml_declared.specs.decl_forms as decl_forms
pub use Rattle.sgml_starts.specs.decl_lexemes as decl_lexemes
pub use Rattle.sgml_starts.specs.entity as entity
pub use Rattle.sgml_starts.specs.names as names
pub use Rattle.sgml_starts.specs.syntax as syntax
pub use Rattle.sgml_starts.specs.decl_parts as decl_parts
pub use Rattle.sgml_declared.specs.marked as marked
pub use Rattle.sgml_starts.specs.markup as markup
