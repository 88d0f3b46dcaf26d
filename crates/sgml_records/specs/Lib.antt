pub mod Items
pub mod RecordEnds
pub mod Facts
pub mod Puts
