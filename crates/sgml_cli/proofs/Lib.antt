pub mod Numbered
pub mod Inputs
pub mod Outcomes
pub mod OneCount
pub mod Exits
pub mod Each
mod Back
