pub mod Inside
pub mod Laws
pub use Rattle.sgml_records.specs as records
