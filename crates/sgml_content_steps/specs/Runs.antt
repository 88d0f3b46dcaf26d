-- A run of omitted tags before a visible piece, with the values of its starts (7.3.1, 7.9).
use Rattle.std.specs.Prelude.{◌≡◌, ℕ, ◌+◌, ◌*◌, List, length}
use Rattle.sgml_theory_starts.specs.theory_reading.Pieces.{Piece}
use Rattle.sgml_theory_starts.specs.theory_reading.State.{State}
use Rattle.sgml_theory_starts.specs.theory_reading.Reads.{Move, judged_piece}
use Rattle.sgml_theory_starts.specs.theory_standing.Held.{Held, state_of, state_after_run}
use Rattle.sgml_infer.specs.Seen.{ended}
use Rattle.sgml_infer.specs.declared.visible.Visible.{Visible}
use Rattle.sgml_infer.specs.Visibles.{left_out, IsJudged}
use Rattle.sgml_content_steps.specs.Content.{Content, Holds}
use Rattle.sgml_content_steps.specs.declared.run.Run.{Run}
use Rattle.sgml_content_steps.specs.Starts.{AreStartsValued}

-- the tags that were left out last
abbrev pub run_of : Content → List Piece
run_of c = left_out c.kept.doctype c.tree

-- the state after them
abbrev pub state_left : Content → Held → State
state_left c x = state_after_run (run_of c) (state_of x)

-- the state after the ends among them, which stand first
abbrev pub state_ended : Content → Held → State
state_ended c x = state_after_run (ended c.kept.doctype c.tree.ended.items) (state_of x)

-- THE MOVE of a visible piece after them
abbrev pub move_of : Content → Held → Piece → Move
move_of c x p = record { omitted = run_of c; visible = judged_piece (state_left c x).context p }

-- A RUN THAT WAS JUDGED before a visible piece, of all that may be held
pub record IsRun (c : Content) (visible : Visible) (run : Run) : Type 0 where
  pub judged : IsJudged c.kept.doctype c.tree visible run.chain
  pub as_many : length run.values.items ≡ length c.tree.starts.items
  -- each omitted start has values, in the state where it stands, and these are they
  pub valued : (x : Held) → Holds c x → AreStartsValued c.kept.doctype (state_ended c x) c.tree.starts.items run.values.items

-- how many events it may tell: of each start a record end besides
abbrev pub room_of : Run → ℕ
room_of run = run.chain.ends + 2 * run.chain.starts
