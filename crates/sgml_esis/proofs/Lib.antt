pub mod Contents
pub mod Files
pub mod Forms
pub mod Holding
pub mod Tokens
pub mod Runs
pub mod Fronts
pub mod Units
