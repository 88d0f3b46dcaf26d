pub mod Moves
pub mod Strings
pub mod Content
pub mod Names
pub mod Laws
pub mod Holding
pub use Rattle.sgml_theory_full.specs.attr as attr
pub use Rattle.sgml_theory_full.specs.decl_forms as decl_forms
pub use Rattle.sgml_theory_full.specs.decl_lexemes as decl_lexemes
pub use Rattle.sgml_theory_full.specs.decl_parts as decl_parts
pub use Rattle.sgml_theory_full.specs.delim as delim
pub use Rattle.sgml_theory_full.specs.dtd as dtd
pub use Rattle.sgml_theory_full.specs.dtd_attlists as dtd_attlists
pub use Rattle.sgml_theory_full.specs.dtd_maps as dtd_maps
pub use Rattle.sgml_theory_full.specs.entity as entity
pub use Rattle.sgml_theory_full.specs.full as full
pub use Rattle.sgml_theory_full.specs.marked as marked
pub use Rattle.sgml_theory_full.specs.markup as markup
pub use Rattle.sgml_theory_full.specs.records as records
pub use Rattle.sgml_theory_full.specs.scan as scan
pub use Rattle.sgml_theory_full.specs.sgmldecl as sgmldecl
pub use Rattle.sgml_theory_full.specs.syntax as syntax
pub use Rattle.sgml_theory_full.specs.text as text
pub use Rattle.sgml_theory_full.specs as sgml_theory_full
pub use Rattle.sgml_theory_full.specs.theory_reading as theory_reading
pub use Rattle.sgml_theory_full.specs.theory_spelling as theory_spelling
pub use Rattle.sgml_theory_full.specs.sgml_theory_values as sgml_theory_values
pub use Rattle.sgml_theory_full.specs.theory_written as theory_written
