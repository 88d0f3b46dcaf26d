pub mod Spelled
pub mod Full
pub mod Events
pub mod Writing
pub use Rattle.sgml_attr.specs as attr
pub use Rattle.sgml_dtd.specs as dtd
pub use Rattle.sgml_dtd.specs.dtd_attlists as dtd_attlists
pub use Rattle.sgml_dtd_elements.specs as dtd_elements
pub use Rattle.sgml_esis.specs as esis
pub use Rattle.sgml_text.specs as text
pub use Rattle.sgml_dtd.specs.dtd_maps as dtd_maps
pub use Rattle.sgml_io.specs as io
pub use Rattle.sgml_dtd_elements.specs.model as model
