-- Pieces that stand one after another, as contexts alone tell it.
use Rattle.std.specs.Prelude.{◌≡◌, IsFalse, Some, None, Ok, List, [], ◌∷◌}
use Rattle.sgml_theory_worked.specs.theory_reading.Pieces.{Piece, Kind, End, Short, Net, History}
use Rattle.sgml_theory_worked.specs.theory_reading.ShortTags.{empty_end_type, net_type}
use Rattle.sgml_theory_worked.specs.theory_reading.Context.{Context, context, context_after}
use Rattle.sgml_theory_worked.specs.theory_reading.Runs.{LongestRunFrom, context_after_run}
use Rattle.sgml_theory_worked.specs.theory_reading.Reasons.{reason}
use Rattle.sgml_theory_worked.specs.theory_reading.Unread.{Outside, Input, Standing}
use Rattle.sgml_theory_worked.specs.theory_reading.State.{State, state}
use Rattle.sgml_theory_worked.specs.theory_reading.Reads.{Forms, Move, judged, judged_piece, undefined, spelled_next, ends_in_finish}
use Rattle.sgml_theory_written.specs.Written.{IsWritten}

-- </> and NET are of the type that they have there (7.5.1)
abbrev pub HasItsType : Context → Kind → Type 0
HasItsType c (End n Short) = empty_end_type c ≡ Some n
HasItsType c (End n Net) = net_type c ≡ Some n
HasItsType c x = Unit {0}

abbrev pub TypesItsEnds : Forms → Type 0
TypesItsEnds forms =
    (outside : Outside) (s : State) (t : Standing) (p : Piece) → forms.spelled outside s t ≡ Ok p → HasItsType s.context p.kind

-- x, as it is spelled in the context c, stands there by this move: it is of a declared type, after the longest run of
-- omitted pieces it is refused for no reason, and the visible piece is x with what is noted of it there
pub record StandsBy (c : Context) (x : Kind) (m : Move) : Type 0 where
  pub has_its_type : HasItsType c x
  pub declared : undefined c x ≡ None
  pub longest : LongestRunFrom c x m.omitted
  pub no_reason : reason (context_after_run c m.omitted) x ≡ None
  pub noted : m.visible.kind ≡ judged (context_after_run c m.omitted) x

-- the context after a move
abbrev pub context_moved : Context → Move → Context
context_moved c m = context_after m.visible (context_after_run c m.omitted)

-- the moves stand, one after another
abbrev pub StandBy : Context → List Move → Type 0
StandBy c [] = Unit {0}
StandBy c (m ∷ ms) = (x : Kind) × StandsBy c x m × StandBy (context_moved c m) ms

-- with no tag left out before it
abbrev pub alone_move : Piece → Move
alone_move p = record { omitted = []; visible = p }

-- the piece stands as it is, with no tag left out before it
abbrev pub StandsAlone : Context → Piece → Type 0
StandsAlone c p = StandsBy c p.kind (alone_move p)

-- so does each of the pieces, one after another
abbrev pub StandAlone : Context → List Piece → Type 0
StandAlone c [] = Unit {0}
StandAlone c (p ∷ ps) = StandsAlone c p × StandAlone (context_after p c) ps

-- the second pieces are the first ones written, one for one
abbrev pub AreWritten : Context → List Piece → List Piece → Type 0
AreWritten c [] [] = Unit {0}
AreWritten c (p ∷ ps) (q ∷ qs) = IsWritten c.doctype p.kind q.kind × AreWritten (context_after p c) ps qs
AreWritten c _ _ = ⊥

-- THE PIECE IS SPELLED NEXT after h, with what is noted of it there, and its attributes have values
pub record IsSpelled (forms : Forms) (I : Input) (h : History) (q : Piece) : Type 0 where
  pub goes_on : IsFalse (ends_in_finish h)
  pub spelling : Piece
  pub spelled : spelled_next forms I h ≡ Ok spelling
  pub noted : judged_piece (context h) spelling ≡ q
  pub has_values : forms.unvalued (state h) spelling.kind ≡ None

-- each of the pieces is spelled where those before it were read
abbrev pub AreSpelled : Forms → Input → History → List Piece → Type 0
AreSpelled forms I h [] = Unit {0}
AreSpelled forms I h (q ∷ qs) = IsSpelled forms I h q × AreSpelled forms I (q ∷ h) qs
