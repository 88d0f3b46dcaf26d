-- What reading comes to, computed piece by piece from the state and from what is unread alone.
use Rattle.std.specs.Prelude.{◌≡◌, ℕ, zero, suc, Bool, true, false, IsTrue, Option, Some, None, Result, Ok, Err, List, [], ◌∷◌}
use Rattle.std.specs.Option.{option_or}
use Rattle.sgml_dtd.specs.text.declared.reason.Reason.{Reason}
use Rattle.sgml_theory_reading.specs.Pieces.{Piece, History}
use Rattle.sgml_theory_reading.specs.Facets.{is_finish}
use Rattle.sgml_theory_reading.specs.Walk.{longest_run}
use Rattle.sgml_theory_reading.specs.Reasons.{reason}
use Rattle.sgml_theory_reading.specs.Unread.{Outside, Input, Standing, rests_after, spent_after}
use Rattle.sgml_theory_reading.specs.State.{State, after_piece, sources_in}
use Rattle.sgml_theory_reading.specs.Reads.{Forms, Move, ReadOn, Stops, undefined, judged_piece, next_answer, after_moves, ends_in_finish, pieces}
use Rattle.sgml_theory_reading.specs.Events.{events_of_run}
use Rattle.sgml_theory_reading.specs.Lines.{Line, lines, lines_by}

-- what is unread after a piece, by the state after it
abbrev pub standing_after : Outside → State → Piece → Standing → Standing
standing_after outside s p t =
    record { rests = rests_after outside (sources_in s) p t.rests; spent = spent_after outside (sources_in s) p t.spent }

abbrev pub state_after : State → List Piece → State
state_after s [] = s
state_after s (p ∷ ps) = state_after (after_piece p s) ps

abbrev pub run_reason_by : Forms → State → List Piece → Option Reason
run_reason_by forms s [] = None
run_reason_by forms s (o ∷ os) = option_or (forms.unvalued s o.kind) (run_reason_by forms (after_piece o s) os)

-- the reason that holds of the piece p with the run os before it
abbrev pub refusal_by : Forms → State → List Piece → Piece → Option Reason
refusal_by forms s os p =
    option_or (undefined s.context p.kind)
    (option_or (reason (state_after s os).context p.kind)
    (option_or (run_reason_by forms s os)
    (forms.unvalued (state_after s os) p.kind)))

-- how reading ended: at the document's end, for a reason, or not yet
pub data Ending : Type 0 where
  AtFinish : Ending
  AtStop : (reason : Reason) → Ending
  NotYet : Ending

pub record Outcome : Type 0 where
  pub moves : List Move
  pub ending : Ending

abbrev pub with_move : Move → Outcome → Outcome
with_move m o = record { moves = m ∷ o.moves; ending = o.ending }

abbrev pub stopped : Reason → Outcome
stopped r = record { moves = []; ending = AtStop r }

abbrev pub finished_by : Move → Outcome
finished_by m = record { moves = m ∷ []; ending = AtFinish }

abbrev pub move_by : State → List Piece → Piece → Move
move_by s os p = record { omitted = os; visible = judged_piece (state_after s os).context p }

abbrev pub unless_finish : Bool → Move → (Piece → Outcome) → Outcome
unless_finish true m go_on = finished_by m
unless_finish false m go_on = with_move m (go_on m.visible)

-- with no reason against it the move reads, and reading goes on or is at the document's end
abbrev pub unless_refused : Option Reason → Move → (Piece → Outcome) → Outcome
unless_refused (Some r) m go_on = stopped r
unless_refused None m go_on = unless_finish (is_finish m.visible.kind) m go_on

-- after the run and the visible piece
abbrev pub go_on_after : Outside → State → Standing → (State → Standing → Outcome) → Piece → Outcome
go_on_after outside s t go_on v = go_on (after_piece v s) (standing_after outside (after_piece v s) v t)

abbrev pub with_run : Forms → Outside → State → Standing → (State → Standing → Outcome) → Piece → List Piece → Outcome
with_run forms outside s t go_on p os =
    unless_refused (refusal_by forms s os p) (move_by s os p) (go_on_after outside (state_after s os) t go_on)

abbrev pub of_answer : Forms → Outside → State → Standing → (State → Standing → Outcome) → Result Piece Reason → Outcome
of_answer forms outside s t go_on (Err r) = stopped r
of_answer forms outside s t go_on (Ok p) = with_run forms outside s t go_on p (longest_run s.context p.kind)

-- reading from a state on, for n moves at most
abbrev pub outcome : ℕ → Forms → Bool → Outside → State → Standing → Outcome
outcome zero forms was_cut outside s t = record { moves = []; ending = NotYet }
outcome (suc n) forms was_cut outside s t =
    of_answer forms outside s t (λ s' t'. outcome n forms was_cut outside s' t') (next_answer forms was_cut outside s t)

abbrev pub at_finish : Ending → Bool
at_finish AtFinish = true
at_finish _ = false

-- the lines that an outcome comes to from a state on, with no event before it
abbrev pub outcome_lines : Forms → State → Outcome → List Line
outcome_lines forms s o = lines_by (state_after s (pieces o.moves)).context.doctype (events_of_run forms s (pieces o.moves)) (at_finish o.ending)

abbrev pub is_ended : Ending → Bool
is_ended NotYet = false
is_ended _ = true

abbrev pub EndsSo : Forms → Input → History → Ending → Type 0
EndsSo forms I h AtFinish = IsTrue (ends_in_finish h)
EndsSo forms I h (AtStop r) = Stops forms I h r
EndsSo forms I h NotYet = Unit {0}

-- the input, read after h, gives these lines, and it ends so
pub record Gives (forms : Forms) (I : Input) (h : History) (ls : List Line) (ending : Ending) : Type 0 where
  pub moves : List Move
  pub reads : ReadOn forms I h moves
  pub ends : EndsSo forms I (after_moves h moves) ending
  pub lines_are : lines forms (after_moves h moves) ≡ ls
