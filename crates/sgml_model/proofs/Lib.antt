pub mod Rows
pub mod Taken
pub mod Grammar
pub mod Signs
pub mod Judging
pub mod Building
pub mod Words
