pub mod Parted
pub mod Again
pub mod Plain
pub mod Stored
