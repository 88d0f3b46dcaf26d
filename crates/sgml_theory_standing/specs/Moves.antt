-- Moves by the state alone, and what stands next in content.
use Rattle.std.specs.Prelude.{◌≡◌, ℕ, ◌⊎◌, ◌&&◌, Bool, true, false, not, Option, Some, None, is_none, List, [], ◌∷◌, Ok, Err}
use Rattle.std.specs.Option.{option_or}
use Rattle.sgml_theory_spelling.specs.text.declared.reason.Reason.{Reason}
use Rattle.sgml_theory_spelling.specs.theory_reading.Names.{Text}
use Rattle.sgml_theory_spelling.specs.theory_reading.Pieces.{Piece, Kind, Finish}
use Rattle.sgml_theory_spelling.specs.theory_reading.Facets.{Effect, Stays, effect, token, is_finish, is_omitted}
use Rattle.sgml_theory_spelling.specs.theory_reading.Runs.{LongestRunFrom}
use Rattle.sgml_theory_spelling.specs.theory_reading.Reasons.{reason}
use Rattle.sgml_theory_spelling.specs.theory_reading.Unread.{Outside}
use Rattle.sgml_theory_spelling.specs.theory_reading.State.{State, after_piece}
use Rattle.sgml_theory_spelling.specs.theory_reading.Characters.{piece_noted}
use Rattle.sgml_theory_spelling.specs.theory_reading.Reads.{Move, judged_piece, undefined, pieces}
use Rattle.sgml_theory_spelling.specs.theory_reading.Events.{Event, events_of_run}
use Rattle.sgml_theory_spelling.specs.Attributes.{unvalued}
use Rattle.sgml_theory_spelling.specs.Spelled.{forms}
use Rattle.sgml_theory_standing.specs.Next.{IsThere, after}
use Rattle.sgml_theory_standing.specs.Held.{Held, state_of, is_of_content, state_after_run, state_after, IsSpelledIn}

-- WHY A PIECE MAY NOT STAND in a state, with these omitted pieces before it

-- the omitted starts have values, each in the state where it stands
abbrev pub run_unvalued : State → List Piece → Option Reason
run_unvalued s [] = None
run_unvalued s (o ∷ os) = option_or (unvalued s o.kind) (run_unvalued (after_piece o s) os)

-- the first of the rows, in their order
abbrev pub reason_against : State → List Piece → Piece → Option Reason
reason_against s os p =
    option_or (undefined s.context p.kind)
    (option_or (reason (state_after_run os s).context p.kind)
    (option_or (run_unvalued s os)
    (unvalued (state_after_run os s) p.kind)))

-- THE MOVE of the piece p in this state: the longest run of omitted pieces before it, after which no reason holds
pub record IsMove (s : State) (p : Piece) (m : Move) : Type 0 where
  pub longest : LongestRunFrom s.context p.kind m.omitted
  pub visible : m.visible ≡ judged_piece (state_after_run m.omitted s).context p
  pub no_reason : reason_against s m.omitted p ≡ None

-- there is none, for this reason
abbrev pub IsAgainst : State → Piece → Reason → Type 0
IsAgainst s p r = (os : List Piece) × LongestRunFrom s.context p.kind os × (reason_against s os p ≡ Some r)

-- IT STANDS ALONE, with no tag left out before it: it is no content and no tag, and doesn't end the document
abbrev pub ends_nothing : Effect → Bool
ends_nothing Stays = true
ends_nothing _ = false

abbrev pub stands_alone : Kind → Bool
stands_alone x = is_none (token x) && (ends_nothing (effect x) && not (is_finish x))

-- what a parser keeps after a move
abbrev pub held_in : Outside → Piece → Held → State → Held
held_in outside p x s = record {
  kept = after outside p x.kept;
  levels = s.context.levels;
  begun = s.context.begun;
  record_ends = s.record_ends;
  ended = s.ended;
  map_settings = s.map_settings;
  currents = s.currents;
}

abbrev pub held_after : Outside → Move → Held → Held
held_after outside m x = held_in outside m.visible x (state_after m (state_of x))

-- THE MOVE THAT STANDS NEXT, in the texts that were given
pub record IsNextMove (outside : Outside) (x : Held) (texts : List (ℕ × Text)) (ended : Bool) (m : Move) : Type 0 where
  pub piece : Piece
  pub spelled : IsSpelledIn outside x texts ended (Ok piece)
  pub moves : IsMove (state_of x) (piece_noted (state_of x) piece) m
  pub of_content : is_of_content piece.kind ≡ true
  pub written : is_omitted piece.kind ≡ false
  pub there : IsThere outside x.kept texts m.visible

-- these moves, one after another, and what is kept after them
abbrev pub AreNextMoves : Outside → Held → List (ℕ × Text) → Bool → List Move → Held → Type 0
AreNextMoves outside x texts ended [] new = new ≡ x
AreNextMoves outside x texts ended (m ∷ ms) new =
    IsNextMove outside x texts ended m × AreNextMoves outside (held_after outside m x) texts ended ms new

-- THE END of the document stands next (7.1)
pub record IsEndNext (outside : Outside) (x : Held) (texts : List (ℕ × Text)) (ended : Bool) (m : Move) : Type 0 where
  pub piece : Piece
  pub spelled : IsSpelledIn outside x texts ended (Ok piece)
  pub moves : IsMove (state_of x) (piece_noted (state_of x) piece) m
  pub finishes : piece.kind ≡ Finish

-- WHY NOTHING READS: nothing is spelled, or what is may not stand there
abbrev pub IsRefusedNext : Outside → Held → List (ℕ × Text) → Bool → Reason → Type 0
IsRefusedNext outside x texts ended r =
    IsSpelledIn outside x texts ended (Err r)
    ⊎ ((p : Piece) × IsSpelledIn outside x texts ended (Ok p) × IsAgainst (state_of x) (piece_noted (state_of x) p) r)

-- WHAT MOVES TELL, from the state before them (7.3 to 7.9)
abbrev pub told_by_moves : Held → List Move → List Event
told_by_moves x ms = events_of_run forms (state_of x) (pieces ms)
