pub mod Lines
pub mod Converting
pub mod Laws
pub mod Failing
pub mod Ending
pub mod Writing
pub mod Showing
pub mod Beginning
pub mod Documents
pub mod Full
pub mod Telling
pub use Rattle.sgml_source.specs as source
pub use Rattle.sgml_source.specs.declaring as declaring
pub use Rattle.sgml_dtd.specs as dtd
pub use Rattle.sgml_dtd.specs.dtd_maps as dtd_maps
pub use Rattle.sgml_dtd.specs.entity as entity
pub use Rattle.sgml_full.specs as sgml_full
pub use Rattle.sgml_said.specs.records as records
pub use Rattle.sgml_syntax.specs as syntax
pub use Rattle.sgml_theory_ending.specs as theory_ending
pub use Rattle.sgml_said.specs.theory_reading as theory_reading
