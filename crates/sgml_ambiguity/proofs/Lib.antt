pub mod Indexing
pub mod Sets
pub mod Rests
pub mod Sound
pub mod Exact
pub mod Scanning
pub mod Ranges
pub mod Found
pub mod Judged
mod Naming
