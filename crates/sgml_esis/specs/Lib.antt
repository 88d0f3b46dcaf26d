pub mod Grammar
pub mod Kept
pub mod Outcome
pub mod Plain
pub mod Reading
pub mod Spelling
pub mod Writing
pub mod Short
