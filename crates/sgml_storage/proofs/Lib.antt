pub mod Fronts
pub mod Exact
