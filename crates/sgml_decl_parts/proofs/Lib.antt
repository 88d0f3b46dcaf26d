pub mod Names
pub mod Continuing
pub mod Quotes
pub mod Fitting
pub mod Standing
