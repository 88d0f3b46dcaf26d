pub mod Changes
pub mod Starts
pub mod Lexing
pub mod Uses
