pub mod Classes
pub mod Openings
pub mod Sure
pub mod Tokens
pub mod Parts
pub mod Decided
pub mod Lone
pub mod StartTags
pub use Rattle.sgml_delim.specs as delim
pub use Rattle.sgml_markup.specs as markup
pub use Rattle.sgml_shortref.specs as shortref
pub use Rattle.sgml_syntax.specs as syntax
pub use Rattle.sgml_text.specs as text
