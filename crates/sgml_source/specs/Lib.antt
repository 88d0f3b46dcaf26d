pub mod Inputs
pub mod Stopping
pub mod Feeding
pub mod Turning
pub use Rattle.sgml_parse.specs as parse
pub use Rattle.sgml_parse.specs.content_steps as content_steps
pub use Rattle.sgml_parse.specs.declaring as declaring
pub use Rattle.sgml_parse.specs.instance as instance
pub use Rattle.sgml_parse.specs.theory_standing as theory_standing
pub use Rattle.sgml_parse.specs.decl_parts as decl_parts
pub use Rattle.sgml_parse.specs.markup as markup
