mod Fed
mod Supplied
mod Cut
mod Turned
mod Rest
pub mod Many
pub use Rattle.sgml_parse.proofs as parse
