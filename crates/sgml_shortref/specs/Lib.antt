pub mod Strings
pub mod Matches
pub mod Maps
