pub mod Begun
pub mod Each
pub mod One
pub mod Plain
