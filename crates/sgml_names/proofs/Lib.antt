pub mod Chains
pub mod Finding
pub mod Numbering
pub mod Repeating
pub mod Standing
