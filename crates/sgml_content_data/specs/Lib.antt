pub mod Roles
pub mod Taking
pub mod Steps
pub mod Alike
pub mod Laws
pub use Rattle.sgml_infer.specs.sgml_dtd.model as model
