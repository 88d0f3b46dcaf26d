pub mod Bytes
pub mod Made
pub mod Stored
pub mod Plain
