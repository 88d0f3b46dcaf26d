pub mod Words
pub mod Fits
pub mod Tokens
pub mod Keywords
pub mod Entries
pub mod Keys
pub mod Resolving
pub mod Grammar
