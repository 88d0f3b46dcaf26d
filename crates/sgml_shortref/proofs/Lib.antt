pub mod Beginning
pub mod Deciding
pub mod Spelling
pub mod Standing
