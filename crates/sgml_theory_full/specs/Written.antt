-- WHAT IS WRITTEN READS as its pieces, with no tag left out.
use Rattle.std.specs.Prelude.{◌≡◌, ℕ, false, List, [], ◌∷◌, ◌++◌, length, None, Ok, IsFalse}
use Rattle.sgml_theory_values.specs.theory_reading.Names.{Text}
use Rattle.sgml_theory_values.specs.theory_reading.Pieces.{Piece, Kind, History}
use Rattle.sgml_theory_values.specs.theory_reading.Facets.{StaysInText, turn, token, is_finish}
use Rattle.sgml_theory_values.specs.theory_reading.Reasons.{Stands}
use Rattle.sgml_theory_values.specs.theory_reading.Unread.{Outside, Standing, Input, standing}
use Rattle.sgml_theory_values.specs.theory_reading.State.{State, state, after_piece}
use Rattle.sgml_theory_values.specs.theory_reading.Reads.{Move, ReadOn, undefined, judged, ends_in_finish, after_moves}
use Rattle.sgml_theory_values.specs.theory_reading.Characters.{kind_noted}
use Rattle.sgml_theory_values.specs.theory_spelling.Sized.{sized}
use Rattle.sgml_theory_values.specs.theory_spelling.Attributes.{unvalued}
use Rattle.sgml_theory_values.specs.theory_spelling.Spelled.{spelled, forms}
use Rattle.sgml_theory_full.specs.Spellings.{Spelling, text_of}

-- it may stand in this state by itself: its type is declared, what is open lets it stand, and its attributes have values;
-- it stays in its text, and isn't the end of the document
pub record StandsThere (s : State) (k : Kind) : Type 0 where
  pub declared : undefined s.context k ≡ None
  pub stands : Stands s.context k (token k)
  pub valued : unvalued s k ≡ None
  pub within : turn k ≡ StaysInText
  pub goes_on : is_finish k ≡ false

-- the document alone is open, with this text unread
abbrev pub at_document : ℕ → Text → Standing
at_document spent text = record { rests = record { entity = 0; bytes = text } ∷ []; spent = spent }

-- the piece that is read, with all that is noted of it
abbrev pub piece_in : State → Spelling → Piece
piece_in s x = record { kind = judged s.context (kind_noted s x.kind); size = length x.text; spent = 0 }

-- A SPELLING is its piece where this text follows, and may stand there
pub record IsReadThere (outside : Outside) (spent : ℕ) (s : State) (x : Spelling) (rest : Text) : Type 0 where
  pub spelled_is : spelled outside s (at_document spent (x.text ++ rest)) ≡ Ok (sized (length x.text) (kind_noted s x.kind))
  pub stands : StandsThere s (kind_noted s x.kind)

-- one after another, before the rest of the document
abbrev pub AreReadThere : Outside → ℕ → State → List Spelling → Text → Type 0
AreReadThere outside spent s [] rest = Unit {0}
AreReadThere outside spent s (x ∷ xs) rest =
    IsReadThere outside spent s x (text_of xs ++ rest) × AreReadThere outside spent (after_piece (piece_in s x) s) xs rest

-- a visible piece alone for each
abbrev pub moves_of : State → List Spelling → List Move
moves_of s [] = []
moves_of s (x ∷ xs) = record { omitted = []; visible = piece_in s x } ∷ moves_of (after_piece (piece_in s x) s) xs

abbrev pub state_by : State → List Spelling → State
state_by s [] = s
state_by s (x ∷ xs) = state_by (after_piece (piece_in s x) s) xs

-- they read, and what follows them is left
pub record ReadAsWritten (I : Input) (h : History) (spent : ℕ) (xs : List Spelling) (rest : Text) : Type 0 where
  pub reads : ReadOn forms I h (moves_of (state h) xs)
  pub left : standing I (after_moves h (moves_of (state h) xs)) ≡ at_document spent rest
  pub state_is : state (after_moves h (moves_of (state h) xs)) ≡ state_by (state h) xs
  pub goes_on : IsFalse (ends_in_finish (after_moves h (moves_of (state h) xs)))

-- LAW: where the document alone is open, and isn't cut, spellings that are their pieces and may stand there are read so,
-- and no tag is left out.
abbrev pub WrittenReads : Type 0
WrittenReads =
    (I : Input) (h : History) (spent : ℕ) (xs : List Spelling) (rest : Text) → I.was_cut ≡ false → IsFalse (ends_in_finish h)
    → standing I h ≡ at_document spent (text_of xs ++ rest) → AreReadThere I.outside spent (state h) xs rest → ReadAsWritten I h spent xs rest
