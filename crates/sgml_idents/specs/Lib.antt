pub mod Noted
pub mod Judged
