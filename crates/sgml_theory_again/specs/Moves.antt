-- THE PIECES OF A MOVE: those that were left out, and the visible one.
use Rattle.std.specs.Prelude.{◌≡◌, ◌⊎◌, true, List, [], ◌∷◌, ◌++◌}
use Rattle.sgml_theory_full.specs.records.Items.{Item, Subelement}
use Rattle.sgml_theory_full.specs.records.Facts.{takes_end}
use Rattle.sgml_theory_full.specs.theory_reading.Names.{Name}
use Rattle.sgml_theory_full.specs.theory_reading.Pieces.{Piece, Kind, Re, History}
use Rattle.sgml_theory_full.specs.theory_reading.Nest.{Open, nest, items}
use Rattle.sgml_theory_full.specs.theory_reading.Omission.{omitted_end}
use Rattle.sgml_theory_full.specs.theory_reading.Runs.{after_run}
use Rattle.sgml_theory_full.specs.theory_reading.State.{State, state, after_piece}
use Rattle.sgml_theory_full.specs.theory_reading.Characters.{facts_in}
use Rattle.sgml_theory_full.specs.theory_reading.Reads.{Move, moved_on}

-- a piece of a move, where these of its pieces stand before it
abbrev pub IsPieceOf : Move → List Piece → Piece → Type 0
IsPieceOf m before p = (after : List Piece) × (m.omitted ++ (m.visible ∷ []) ≡ before ++ (p ∷ after))

-- the state in which it is read
abbrev pub state_at : History → List Piece → State
state_at h before = state (after_run h before)

-- what holds of each of these pieces, in the state before it
abbrev pub Along : (State → Kind → Type 0) → State → List Piece → Type 0
Along P s [] = Unit {0}
Along P s (p ∷ ps) = P s p.kind × Along P (after_piece p s) ps

-- what holds of each move, after what was read before it
abbrev pub OfEach : (History → Move → Type 0) → History → List Move → Type 0
OfEach P h [] = Unit {0}
OfEach P h (m ∷ ms) = P h m × OfEach P (moved_on h m) ms

-- A RECORD END that is live where it comes, before the tags that are left out, is live, too, in the element in which it
-- then stands, after them (7.6.1)
abbrev pub StaysLive : History → Move → Type 0
StaysLive h m = m.visible.kind ≡ Re true → takes_end (facts_in (state_at h m.omitted).record_ends) ≡ true

-- the innermost element is a proper subelement of the one around it
abbrev pub IsProper : List Open → Type 0
IsProper (inner ∷ outer ∷ os) = (earlier : List Item) × (items outer.inside ≡ Subelement ∷ earlier)
IsProper os = ⊥

-- the last of these tags that are left out is the end-tag of a proper subelement
pub record EndsProper (h : History) (os : List Piece) : Type 0 where
  pub before : List Piece
  pub element : Name
  pub parts : os ≡ before ++ (omitted_end element ∷ [])
  pub proper : IsProper (nest (after_run h before))

-- no tag is left out before a record end that is live where it comes, or the last one is the end-tag of a proper subelement
abbrev pub ComesDirectly : History → Move → Type 0
ComesDirectly h m = m.visible.kind ≡ Re true → (m.omitted ≡ []) ⊎ EndsProper h m.omitted
