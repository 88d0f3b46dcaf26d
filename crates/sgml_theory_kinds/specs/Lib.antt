pub mod Kinds
pub use Rattle.sgml_theory_spelling.specs.delim as delim
pub use Rattle.sgml_theory_spelling.specs.syntax as syntax
pub use Rattle.sgml_theory_spelling.specs.text as text
pub use Rattle.sgml_theory_spelling.specs as theory_spelling
pub use Rattle.sgml_theory_spelling.specs.scan as scan
pub use Rattle.sgml_theory_spelling.specs.sgmldecl as sgmldecl
pub use Rattle.sgml_theory_spelling.specs.shortref as shortref
