pub mod Sources
pub mod Lengths
pub mod Readings
pub mod Quiet
pub mod Declares
pub mod Reads
pub mod Alike
pub mod Wholeness
pub mod Starts
pub mod Standing
pub use Rattle.sgml_attr.specs as sgml_attr
pub use Rattle.sgml_decl_parts.specs as decl_parts
pub use Rattle.sgml_entity.specs as sgml_entity
pub use Rattle.sgml_marked.specs as marked
