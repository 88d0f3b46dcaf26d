pub mod Steps
pub mod Waiting
pub mod Words
pub mod Places
pub mod Once
