pub mod Targets
pub mod Numbering
pub mod Places
pub mod FirstUse
pub mod Ordering
pub mod Pairing
pub mod Writing
