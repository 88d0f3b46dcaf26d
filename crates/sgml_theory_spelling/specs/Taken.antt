-- What a piece takes of the text that is being read.
use Rattle.std.specs.Prelude.{◌≡◌, ◌≤◌, ◌<◌, Bool, true, false, Ok}
use Rattle.sgml_theory_reading.specs.Pieces.{Piece, Kind, EntityEnd, Finish}
use Rattle.sgml_theory_reading.specs.Unread.{Outside, Standing}
use Rattle.sgml_theory_reading.specs.State.{State}
use Rattle.sgml_theory_reading.specs.Reads.{length_of_first}
use Rattle.sgml_theory_spelling.specs.Spelled.{spelled}

-- the end of a text: of an entity, or of the document (9.4)
abbrev pub is_text_end : Kind → Bool
is_text_end EntityEnd = true
is_text_end Finish = true
is_text_end _ = false

pub record TakesItsBytes (t : Standing) (p : Piece) : Type 0 where
  -- it lies in what is unread of the text at the top
  pub within : p.size ≤ length_of_first t.rests
  -- it has a byte, unless it is the end of that text
  pub has_byte : is_text_end p.kind ≡ false → 0 < p.size
  -- an end has none, and stands where all of that text was read
  pub ends : is_text_end p.kind ≡ true → (p.size ≡ 0) × (length_of_first t.rests ≡ 0)

abbrev pub SpelledTakesItsBytes : Type 0
SpelledTakesItsBytes = (outside : Outside) (s : State) (t : Standing) (p : Piece) → spelled outside s t ≡ Ok p → TakesItsBytes t p
