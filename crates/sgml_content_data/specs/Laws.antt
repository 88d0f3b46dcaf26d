-- Why a stretch of data is one turn.
use Rattle.std.specs.Prelude.{◌≡◌, ℕ}
use Rattle.sgml_infer.specs.theory_reading.Pieces.{Piece, Char}
use Rattle.sgml_infer.specs.theory_reading.State.{State, after_piece}
use Rattle.sgml_prolog_steps.specs.theory_spelling.Sized.{sized}
use Rattle.sgml_prolog_steps.specs.theory_standing.Prologs.{alone}
use Rattle.sgml_prolog_steps.specs.theory_standing.Moves.{IsMove}

-- a data character of one byte (7.6)
abbrev pub character : ℕ → Piece
character b = sized 1 (Char b)

-- it is read with no tag left out before it, and leaves the state
pub record GoesOn (s : State) (b : ℕ) : Type 0 where
  pub moves : IsMove s (character b) (alone (character b))
  pub same : after_piece (character b) s ≡ s

-- BEHIND ONE before which no tag was left out, each does
abbrev pub CharactersGoOn : Type 0
CharactersGoOn = (s : State) (a b : ℕ) → IsMove s (character a) (alone (character a)) → GoesOn (after_piece (character a) s) b
