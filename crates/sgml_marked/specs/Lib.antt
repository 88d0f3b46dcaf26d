pub mod Keywords
pub mod Opened
