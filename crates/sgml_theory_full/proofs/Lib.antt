pub mod Plain
pub mod Lined
pub mod Tokens
pub mod References
pub mod Tags
pub mod Scanned
pub mod Literals
pub mod LiteralParts
pub mod Reading
pub mod Pointed
pub mod Characters
pub mod Referring
pub mod Instructions
pub mod Values
pub mod Starts
pub mod Written
pub mod Conforming
pub mod RawCharacters
pub mod RawParts
pub mod Told
pub mod Restarted
pub mod Ended
pub mod Endable
pub mod Following
pub mod EndFollowed
pub mod RawFollowed
pub mod StartFollowed
pub mod ExternalFollowed
pub mod StringFollowed
pub mod Followed
pub mod ReadRaw
pub mod Instances
pub mod Worked
pub mod WorkedStrings
pub mod Texts
pub use Rattle.sgml_theory_values.proofs.theory_kinds as theory_kinds
pub use Rattle.sgml_theory_values.proofs.theory_reading as theory_reading
pub use Rattle.sgml_theory_written.proofs as theory_written
