pub mod Numbering
pub mod Grouping
pub mod Declaring
pub mod Hashed
