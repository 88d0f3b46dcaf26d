pub mod Standing
pub mod Lawful
pub mod Unique
pub mod Continuing
pub mod Quick
pub mod Longest
pub mod Markup
pub mod Runs
pub mod Tested
pub mod Firsts
pub mod Told
pub mod LoneTags
pub mod StartTags
pub use Rattle.sgml_shortref.proofs as shortref
pub use Rattle.sgml_delim.proofs as delim
pub use Rattle.sgml_markup.proofs as markup
