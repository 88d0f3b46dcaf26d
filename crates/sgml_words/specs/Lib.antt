pub mod Words
pub mod Numbers
pub mod Told
pub mod Says
pub mod Uses
pub mod Clap
pub mod Usage
