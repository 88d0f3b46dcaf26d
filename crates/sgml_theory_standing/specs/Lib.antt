pub mod Supplied
pub mod Kept
pub mod Prologs
pub mod Next
pub mod Laws
pub mod Held
pub mod Moves
pub mod ContentLaws
pub use Rattle.sgml_theory_spelling.specs as theory_spelling
pub use Rattle.sgml_theory_spelling.specs.theory_reading as theory_reading
pub use Rattle.sgml_theory_spelling.specs.decl_forms as decl_forms
pub use Rattle.sgml_theory_spelling.specs.decl_lexemes as decl_lexemes
pub use Rattle.sgml_theory_spelling.specs.decl_parts as decl_parts
pub use Rattle.sgml_theory_spelling.specs.delim as delim
pub use Rattle.sgml_theory_spelling.specs.dtd as dtd
pub use Rattle.sgml_theory_spelling.specs.entity as entity
pub use Rattle.sgml_theory_spelling.specs.marked as marked
pub use Rattle.sgml_theory_spelling.specs.markup as markup
pub use Rattle.sgml_theory_spelling.specs.scan as scan
pub use Rattle.sgml_theory_spelling.specs.sgmldecl as sgmldecl
pub use Rattle.sgml_theory_spelling.specs.syntax as syntax
