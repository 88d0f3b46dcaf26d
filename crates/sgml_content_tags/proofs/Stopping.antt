-- Where nothing is taken.
use Rattle.std.specs.Prelude.{◌≡◌, ℕ, Bool, zero, suc, List, [], ◌∷◌, All, Err, Ok}
use Rattle.std.proofs.Common.{refl, sym, ap, ◌∙◌, arith, append-nil, inr, subst}
use Rattle.sgml_text.specs.declared.reason.Reason.{Reason}
use Rattle.sgml_text.specs.declared.place.Place.{Place}
use Rattle.sgml_scan.specs.declared.state.ScanState.{ScanState}
use Rattle.sgml_events.specs.declared.event.Event.{Event}
use Rattle.sgml_theory_spelling.specs.theory_reading.Names.{Text}
use Rattle.sgml_theory_spelling.specs.theory_reading.Pieces.{Piece}
use Rattle.sgml_theory_spelling.specs.theory_reading.Unread.{Outside}
use Rattle.sgml_theory_spelling.specs.theory_reading.Characters.{piece_noted}
use Rattle.sgml_theory_spelling.specs.theory_reading.Reads.{top_place}
use Rattle.sgml_declared.specs.theory_standing.Kept.{Kept}
use Rattle.sgml_declared.specs.theory_standing.Held.{Held, state_of, IsSpelledIn}
use Rattle.sgml_declared.specs.theory_standing.Moves.{IsAgainst, IsRefusedNext}
use Rattle.sgml_declared.specs.Files.{Choices}
use Rattle.sgml_prolog_steps.specs.declared.stepping.Stop.{Stop}
use Rattle.sgml_content_steps.specs.Standing.{IsHeld}
use Rattle.sgml_content_steps.specs.Content.{Content, Holds, IsContent}
use Rattle.sgml_content_steps.specs.Steps.{IsAt, LeavesAsItWas, IsOutside, StepsBy, IsStep, TellsBy}

pub at-none : (place : Place) → All (IsAt place) []
at-none place k d l = absurd (omega (arith, l))

pub at-one : (place : Place) (e : Event) → IsAt place e → All (IsAt place) (e ∷ [])
at-one place e at zero d l = at
at-one place e at (suc k) d l = absurd (omega (arith, l))

-- nothing is told
pub silent : (takes : List Event → Type 0) (k : Kept) (before after : List Event) → after ≡ before → takes [] → TellsBy takes k before after
silent takes k before after e t = ([], e ∙ sym (append-nil before), at-none (top_place k.stack.places), t)

pub leaves-itself : (c : Content) → LeavesAsItWas c c []
leaves-itself c = record { holds = λ x h. h; kept = refl; silent = refl }

-- AN ERROR is a step
pub stop-step : (c : Choices) (st : ScanState) (texts : List (ℕ × Text)) (more : Bool) (old new : Content) (e : Stop)
    → ((outside : Outside) (x : Held) → IsOutside c outside old.kept texts → Holds old x → IsHeld old.kept st x → StepsBy outside texts more x new [] (Err e))
    → LeavesAsItWas old new [] → IsContent new → IsStep c st texts more old new [] (Err e)
stop-step c st texts more old new e steps left is = record {
  steps = steps;
  falls = tt;
  left = left;
  content = is;
  doctype = ap (λ (k : Kept). k.doctype) left.kept;
  expand = ap (λ (k : Kept). k.stack.expand) left.kept;
}

-- what is spelled may not stand there
pub refused-next : (outside : Outside) (x : Held) (texts : List (ℕ × Text)) (more : Bool) (p : Piece) (r : Reason) → IsSpelledIn outside x texts more (Ok p)
    → piece_noted (state_of x) p ≡ p → IsAgainst (state_of x) p r → IsRefusedNext outside x texts more r
refused-next outside x texts more p r s n a = inr (p, s, subst (λ (q : Piece). IsAgainst (state_of x) q r) (sym n) a)
