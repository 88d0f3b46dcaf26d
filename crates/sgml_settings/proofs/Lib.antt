pub mod Nothing
pub mod OneReading
pub mod One
pub mod Reading
pub mod Spelled
pub mod Each
