-- What it is to judge a visible piece: its move, or why there is none.
use Rattle.std.specs.Prelude.{◌≡◌, Some, None}
use Rattle.sgml_text.specs.declared.reason.Reason.{Reason}
use Rattle.sgml_infer.specs.sgml_dtd.Doctypes.{Doctype}
use Rattle.sgml_theory_starts.specs.theory_reading.Pieces.{Piece}
use Rattle.sgml_theory_starts.specs.theory_reading.Currents.{AreCurrents}
use Rattle.sgml_theory_starts.specs.theory_reading.State.{State}
use Rattle.sgml_theory_starts.specs.theory_reading.Reads.{undefined}
use Rattle.sgml_theory_starts.specs.theory_spelling.Attributes.{unvalued}
use Rattle.sgml_theory_starts.specs.theory_standing.Held.{Held, state_of}
use Rattle.sgml_theory_starts.specs.theory_standing.Moves.{IsMove, IsAgainst}
use Rattle.sgml_infer.specs.declared.visible.Visible.{Visible}
use Rattle.sgml_infer.specs.Visibles.{IsVisible, after_left_out}
use Rattle.sgml_prolog_steps.specs.declared.stepping.Stop.{Stop}
use Rattle.sgml_prolog_steps.specs.declared.stepping.Stop.TheVariants as stop
use Rattle.sgml_content_steps.specs.Content.{Content, Holds, IsContent}
use Rattle.sgml_content_steps.specs.declared.run.Run.{Run}
use Rattle.sgml_content_steps.specs.Runs.{IsRun, state_left, move_of}

-- IT MAY NOT STAND in this state, for the reason of the walk or of an omitted start before it; that the type of a
-- tag is undeclared would come first
abbrev pub IsRefusedFor : Doctype → Visible → State → Reason → Type 0
IsRefusedFor d visible s r = (p : Piece) → IsVisible d visible p.kind → undefined s.context p.kind ≡ None → IsAgainst s p r

-- no text is wanted, since an omitted start specifies nothing, and more of the document decides nothing
abbrev pub IsJudgedStop : Stop → Type 0
IsJudgedStop (stop.Refused r) = Unit {0}
IsJudgedStop (stop.Wanted entity file) = ⊥
IsJudgedStop stop.More = ⊥
IsJudgedStop stop.Memory = Unit {0}

-- LAWS: what a judged piece comes to, whatever else is said of it
pub record MayStand (c : Content) (visible : Visible) (x : Held) (p : Piece) : Type 0 where
  -- it is known after the run what stands open
  pub left : (state_left c x).context ≡ after_left_out c.kept.doctype c.tree
  -- the current values are still those that are kept, from which its own values are taken
  pub currents : AreCurrents c.kept.doctype c.currents (state_left c x).currents
  -- where it has values, it is a move, and where it has none, it isn't for that reason
  pub moves : unvalued (state_left c x) p.kind ≡ None → IsMove (state_of x) p (move_of c x p)
  pub against : (r : Reason) → unvalued (state_left c x) p.kind ≡ Some r → IsAgainst (state_of x) p r

abbrev pub JudgedMayStand : Type 0
JudgedMayStand =
    (c : Content) (visible : Visible) (run : Run) (x : Held) (p : Piece)
    → IsContent c → IsRun c visible run → Holds c x → IsVisible c.kept.doctype visible p.kind → undefined (state_of x).context p.kind ≡ None
    → MayStand c visible x p

-- WHY IT MAY NOT STAND, in each state that may be held
abbrev pub IsRefusal : Content → Visible → Stop → Type 0
IsRefusal c visible e = (r : Reason) → e ≡ stop.Refused r → (x : Held) → Holds c x → IsRefusedFor c.kept.doctype visible (state_of x) r
