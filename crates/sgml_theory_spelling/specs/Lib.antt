pub mod Stacked
pub mod Sized
pub mod Tokens
pub mod Places
pub mod References
pub mod Texts
pub mod Declared
pub mod Attributes
pub mod Tags
pub mod SgmlDeclared
pub mod Content
pub mod Prolog
pub mod Decided
pub mod Spelled
pub mod Taken
pub mod Nested
pub mod Asked
pub mod Opened
pub mod Judged
pub mod Named
pub mod Valued
pub mod Statuses
pub mod Laws
pub mod Worked
pub mod Random
pub use Rattle.sgml_theory_reading.specs.dtd as dtd
pub use Rattle.sgml_theory_reading.specs as theory_reading
pub use Rattle.sgml_theory_reading.specs.catalog as catalog
pub use Rattle.sgml_theory_reading.specs.decl_forms as decl_forms
pub use Rattle.sgml_theory_reading.specs.decl_lexemes as decl_lexemes
pub use Rattle.sgml_theory_reading.specs.decl_parts as decl_parts
pub use Rattle.sgml_scan.specs.delim as delim
pub use Rattle.sgml_theory_reading.specs.dtd_maps as dtd_maps
pub use Rattle.sgml_theory_reading.specs.entity as entity
pub use Rattle.sgml_theory_reading.specs.marked as marked
pub use Rattle.sgml_scan.specs.markup as markup
pub use Rattle.sgml_theory_reading.specs.records as records
pub use Rattle.sgml_scan.specs as scan
pub use Rattle.sgml_sgmldecl.specs as sgmldecl
pub use Rattle.sgml_scan.specs.syntax as syntax
pub use Rattle.sgml_scan.specs.text as text
pub use Rattle.sgml_scan.specs.shortref as shortref
