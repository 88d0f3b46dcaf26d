mod Items
pub mod Spelled
mod Walking
mod KeyLemmas
mod Noted
mod Grammatical
mod Complete
mod OneReading
mod Refused
mod Spacing
mod Parting
mod Dashes
