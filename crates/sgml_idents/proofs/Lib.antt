pub mod Faults
pub mod Growing
pub mod Unnamed
