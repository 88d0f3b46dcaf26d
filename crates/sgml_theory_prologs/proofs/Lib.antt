pub mod Recognised
pub mod Ends
pub mod SgmlEnds
pub mod Tokens
pub mod PieceKinds
pub mod Shapes
pub mod Local
pub mod SgmlAlike
pub mod Steps
pub mod Coming
pub mod Longer
pub mod Deciding
pub mod AtBorder
pub mod Before
pub mod Closing
pub mod Closed
pub use Rattle.sgml_theory_standing.proofs.theory_spelling as theory_spelling
