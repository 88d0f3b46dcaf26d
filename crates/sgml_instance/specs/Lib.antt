pub mod Reading
pub mod Batches
pub mod Stepping
pub mod Going
pub mod Quick
pub mod Laws
pub use Rattle.sgml_content_tags.specs.sgml_content_steps as content_steps
pub use Rattle.sgml_inside.specs.records as records
pub use Rattle.sgml_content_tags.specs.said as said
