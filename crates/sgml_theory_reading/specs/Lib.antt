pub mod Names
pub mod Types
pub mod Said
pub mod Pieces
pub mod Facets
pub mod Nest
pub mod Context
pub mod Omission
pub mod Runs
pub mod Reasons
pub mod ShortTags
pub mod Walk
pub mod Unread
pub mod Sections
pub mod Maps
pub mod Currents
pub mod State
pub mod Characters
pub mod Reads
pub mod Events
pub mod Identifiers
pub mod Lines
pub mod Outcome
pub use Rattle.sgml_dtd.specs.ambiguity as ambiguity
pub use Rattle.sgml_dtd.specs.attr as attr
pub use Rattle.sgml_catalog.specs as catalog
pub use Rattle.sgml_dtd.specs.decl_forms as decl_forms
pub use Rattle.sgml_dtd.specs.decl_lexemes as decl_lexemes
pub use Rattle.sgml_dtd.specs.decl_parts as decl_parts
pub use Rattle.sgml_dtd.specs.delim as delim
pub use Rattle.sgml_dtd.specs as dtd
pub use Rattle.sgml_dtd.specs.dtd_elements as dtd_elements
pub use Rattle.sgml_dtd.specs.dtd_maps as dtd_maps
pub use Rattle.sgml_dtd.specs.entity as entity
pub use Rattle.sgml_dtd.specs.marked as marked
pub use Rattle.sgml_dtd.specs.model as model
pub use Rattle.sgml_dtd.specs.names as names
pub use Rattle.sgml_records.specs as records
pub use Rattle.sgml_dtd.specs.syntax as syntax
pub use Rattle.sgml_dtd.specs.text as text
