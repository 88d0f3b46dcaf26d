-- The end of the document (7.1): what it tells, or why it may not stand.
use Rattle.std.specs.Prelude.{◌≡◌, ℕ, Bool, List, [], ◌∷◌, Result, Ok, Err, OnErr}
use Rattle.sgml_scan.specs.declared.state.ScanState.{ScanState}
use Rattle.sgml_dtd.specs.Doctypes.{Doctype}
use Rattle.sgml_events.specs.declared.event.Event.{Event}
use Rattle.sgml_content_steps.specs.said.Told.{all_said}
use Rattle.sgml_theory_spelling.specs.theory_reading.Names.{Text}
use Rattle.sgml_theory_spelling.specs.theory_reading.Unread.{Outside}
use Rattle.sgml_theory_spelling.specs.theory_reading.Reads.{Move, pieces}
use Rattle.sgml_declared.specs.theory_standing.Held.{Held}
use Rattle.sgml_declared.specs.theory_standing.Moves.{IsEndNext, IsRefusedNext, told_by_moves}
use Rattle.sgml_prolog_steps.specs.declared.stepping.Stop.{Stop}
use Rattle.sgml_prolog_steps.specs.declared.stepping.Stop.TheVariants as stop
use Rattle.sgml_content_steps.specs.Standing.{IsHeld}
use Rattle.sgml_content_steps.specs.Found.{IsEndThere}
use Rattle.sgml_content_steps.specs.Content.{Content, Holds, IsContent}
use Rattle.sgml_content_steps.specs.Steps.{entities_of, entities_told, LeavesAsItWas, TellsBy}

-- the end stands next, with the tags that are left out before it, and this is what they tell
pub record Finishes (outside : Outside) (texts : List (ℕ × Text)) (ended : Bool) (x : Held) (d : Doctype) (told : List Event) : Type 0 where
  pub move : Move
  pub next : IsEndNext outside x texts ended move
  pub said : all_said d told ≡ told_by_moves x (move ∷ [])
  pub entities : entities_told told ≡ entities_of (pieces (move ∷ []))

abbrev pub FinishesBy : Outside → List (ℕ × Text) → Bool → Held → Doctype → List Event → Result (Unit {0}) Stop → Type 0
FinishesBy outside texts ended x d told (Ok done) = Finishes outside texts ended x d told
FinishesBy outside texts ended x d told (Err (stop.Refused r)) = IsRefusedNext outside x texts ended r
FinishesBy outside texts ended x d told (Err (stop.Wanted number file)) = ⊥
FinishesBy outside texts ended x d told (Err stop.More) = ⊥
FinishesBy outside texts ended x d told (Err stop.Memory) = Unit {0}

-- THE LAST STEP where content is scanned in this state, for all that may be held
pub record IsLastStep (st : ScanState) (texts : List (ℕ × Text)) (ended : Bool) (old new : Content) (told : List Event) (result : Result (Unit {0}) Stop) : Type 0 where
  pub finishes : (outside : Outside) (x : Held) → Holds old x → IsHeld old.kept st x → FinishesBy outside texts ended x old.kept.doctype told result
  -- an error leaves it as it was
  pub left : OnErr result (LeavesAsItWas old new told)
  pub content : IsContent new
  pub kept : new.kept ≡ old.kept

-- where the end of the text stands next
abbrev pub EndsDocument : List (ℕ × Text) → Content → Content → List Event → Result (Unit {0}) Stop → Type 0
EndsDocument texts old new told result = (st : ScanState) (ended : Bool) → IsEndThere old.kept st texts ended → IsLastStep st texts ended old new told result

abbrev pub TellsDocumentEnd : List (ℕ × Text) → Content → Content → List Event → List Event → Result (Unit {0}) Stop → Type 0
TellsDocumentEnd texts old new before after result = TellsBy (λ told. EndsDocument texts old new told result) old.kept before after
