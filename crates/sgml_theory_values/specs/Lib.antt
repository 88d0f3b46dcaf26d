pub mod Given
pub mod Starts
pub mod Full
pub mod Laws
pub mod Read
pub mod Worked
pub use Rattle.sgml_full.specs.attr as attr
pub use Rattle.sgml_theory_starts.specs.decl_forms as decl_forms
pub use Rattle.sgml_theory_starts.specs.decl_lexemes as decl_lexemes
pub use Rattle.sgml_theory_starts.specs.decl_parts as decl_parts
pub use Rattle.sgml_theory_kinds.specs.delim as delim
pub use Rattle.sgml_full.specs.dtd as dtd
pub use Rattle.sgml_full.specs.dtd_attlists as dtd_attlists
pub use Rattle.sgml_full.specs.dtd_elements as dtd_elements
pub use Rattle.sgml_full.specs.dtd_maps as dtd_maps
pub use Rattle.sgml_theory_starts.specs.entity as entity
pub use Rattle.sgml_full.specs.esis as esis
pub use Rattle.sgml_full.specs as full
pub use Rattle.sgml_full.specs.io as io
pub use Rattle.sgml_theory_starts.specs.marked as marked
pub use Rattle.sgml_theory_starts.specs.markup as markup
pub use Rattle.sgml_full.specs.model as model
pub use Rattle.sgml_theory_starts.specs.names as names
pub use Rattle.sgml_theory_worked.specs.records as records
pub use Rattle.sgml_theory_kinds.specs.scan as scan
pub use Rattle.sgml_theory_kinds.specs.sgmldecl as sgmldecl
pub use Rattle.sgml_theory_kinds.specs.shortref as shortref
pub use Rattle.sgml_theory_starts.specs.syntax as syntax
pub use Rattle.sgml_full.specs.text as text
pub use Rattle.sgml_theory_kinds.specs as theory_kinds
pub use Rattle.sgml_theory_starts.specs.theory_reading as theory_reading
pub use Rattle.sgml_theory_kinds.specs.theory_spelling as theory_spelling
