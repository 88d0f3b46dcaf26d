pub mod Places
pub mod Asked
pub mod Logging
pub mod Counting
pub mod Outcome
pub mod Converting
pub mod Back
