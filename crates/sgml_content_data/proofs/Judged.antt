-- Where a piece of content was judged and isn't taken: it may not stand there, or there is no memory.
use Rattle.std.specs.Prelude.{◌≡◌, ℕ, Bool, true, List, [], Some, None, Err}
use Rattle.std.proofs.Common.{refl, sym, ap, ◌∙◌, subst, append-nil, inr}
use Rattle.sgml_text.specs.declared.reason.Reason.{Reason}
use Rattle.sgml_scan.specs.declared.state.ScanState.{ScanState}
use Rattle.sgml_events.specs.declared.event.Event.{Event}
use Rattle.sgml_infer.specs.theory_reading.Names.{Text}
use Rattle.sgml_infer.specs.theory_reading.Pieces.{Piece, Kind, Char, Re}
use Rattle.sgml_infer.specs.theory_reading.Facets.{Pcdata, token}
use Rattle.sgml_infer.specs.theory_reading.Context.{Context}
use Rattle.sgml_infer.specs.theory_reading.State.{State}
use Rattle.sgml_infer.specs.theory_reading.Characters.{kind_noted}
use Rattle.sgml_infer.specs.theory_reading.Reads.{judged, undefined}
use Rattle.sgml_prolog_steps.specs.theory_spelling.Attributes.{unvalued}
use Rattle.sgml_prolog_steps.specs.theory_spelling.Sized.{sized}
use Rattle.sgml_prolog_steps.specs.theory_standing.Kept.{Kept}
use Rattle.sgml_prolog_steps.specs.theory_standing.Held.{Held, state_of}
use Rattle.sgml_infer.specs.declared.visible.Visible.TheVariants as visible
use Rattle.sgml_infer.specs.Visibles.{accepted}
use Rattle.sgml_prolog_steps.specs.declaring.Files.{Choices}
use Rattle.sgml_prolog_steps.specs.declared.stepping.Stop.{Stop}
use Rattle.sgml_prolog_steps.specs.declared.stepping.Stop.TheVariants as stop
use Rattle.sgml_content_steps.specs.Content.{Content, Holds, IsContent, context_of}
use Rattle.sgml_content_steps.specs.Steps.{IsStep, entity_of_kind}
use Rattle.sgml_content_steps.specs.Judged.{IsRefusedFor, IsJudgedStop}
use Rattle.sgml_content_data.specs.Steps.{IsPieceThere, TellsPiece}
use Rattle.sgml_content_data.proofs.Alone.{at-none}

-- A PIECE THAT IS #PCDATA
pub record IsText (y : Kind) : Type 0 where
  pub token_is : token y ≡ Some Pcdata
  pub none_undefined : (s : Context) → undefined s y ≡ None
  pub none_unvalued : (s : State) → unvalued s y ≡ None
  pub judged_is : (s : Context) → judged s y ≡ y
  pub accepted_is : (s : Context) → accepted s y ≡ y
  pub entities : entity_of_kind y ≡ []

pub character-text : (b : ℕ) → IsText (Char b)
unfolding token unvalued
character-text b = record { token_is = refl; none_undefined = λ s. refl; none_unvalued = λ s. refl; judged_is = λ s. refl; accepted_is = λ s. refl; entities = refl }

pub end-text : IsText (Re true)
unfolding token unvalued
end-text = record { token_is = refl; none_undefined = λ s. refl; none_unvalued = λ s. refl; judged_is = λ s. refl; accepted_is = λ s. refl; entities = refl }

-- WHAT WAS JUDGED holds what was held
pub record IsJudgedFrom (old new : Content) : Type 0 where
  pub holds : (x : Held) → Holds old x → Holds new x
  pub kept : new.kept ≡ old.kept
  pub context : context_of new ≡ context_of old
  pub content : IsContent new

pub judged-from : (old new : Content) → ((x : Held) → Holds old x → Holds new x) → new ≡ record old { tree = new.tree; currents = new.currents } → context_of new ≡ context_of old
    → IsContent new → IsJudgedFrom old new
judged-from old new h e c is = record { holds = h; kept = ap (λ (z : Content). z.kept) e; context = c; content = is }

pub unjudged : (c : Content) → IsContent c → IsJudgedFrom c c
unjudged c is = record { holds = λ x h. h; kept = refl; context = refl; content = is }

pub unchanged-from : (old j new : Content) → IsJudgedFrom old j → new ≡ j → IsJudgedFrom old new
unchanged-from old j new from e = subst (λ (z : Content). IsJudgedFrom old z) (sym e) from

-- IT ISN'T TAKEN
pub memory-step : (c : Choices) (st : ScanState) (texts : List (ℕ × Text)) (ended : Bool) (old new : Content) → IsJudgedFrom old new
    → IsStep c st texts ended old new [] (Err stop.Memory)
memory-step c st texts ended old new j = record {
  steps = λ outside x o h held. tt;
  falls = tt;
  left = record { holds = j.holds; kept = j.kept; silent = refl };
  content = j.content;
  doctype = ap (λ (k : Kept). k.doctype) j.kept;
  expand = ap (λ (k : Kept). k.stack.expand) j.kept;
}

-- why it may not stand there, of all that may be held
pub record IsRefusedOf (old : Content) (e : Stop) : Type 0 where
  pub refused : (r : Reason) → e ≡ stop.Refused r → (x : Held) → Holds old x → IsRefusedFor old.kept.doctype visible.Chars (state_of x) r
  pub stops : IsJudgedStop e

pub refused-step : (c : Choices) (st : ScanState) (texts : List (ℕ × Text)) (ended : Bool) (old new : Content) (y : Kind) (n : ℕ) (e : Stop) → IsJudgedFrom old new → IsText y
    → ((x : Held) → Holds old x → kind_noted (state_of x) y ≡ y) → IsPieceThere old st texts ended n y → IsRefusedOf old e → IsStep c st texts ended old new [] (Err e)
refused-step c st texts ended old new y n (stop.Refused r) j t noted there none = record {
  steps = λ outside x o h held.
      let p : Piece = record { kind = kind_noted (state_of x) y; size = n; spent = 0 } in
      let same = noted x h in
      inr (
        sized n y,
        there outside x h held,
        none.refused r refl x h p (ap token same ∙ t.token_is) (ap (undefined (state_of x).context) same ∙ t.none_undefined (state_of x).context),
      );
  falls = tt;
  left = record { holds = j.holds; kept = j.kept; silent = refl };
  content = j.content;
  doctype = ap (λ (k : Kept). k.doctype) j.kept;
  expand = ap (λ (k : Kept). k.stack.expand) j.kept;
}
refused-step c st texts ended old new y n (stop.Wanted number file) j t noted there none = absurd none.stops
refused-step c st texts ended old new y n stop.More j t noted there none = absurd none.stops
refused-step c st texts ended old new y n stop.Memory j t noted there none = memory-step c st texts ended old new j

pub memory-piece : (texts : List (ℕ × Text)) (n : ℕ) (y : Kind) (old new : Content) (before after : List Event) → IsJudgedFrom old new → after ≡ before
    → TellsPiece texts n y old new before after (Err stop.Memory)
memory-piece texts n y old new before after j e = ([], e ∙ sym (append-nil before), at-none _, λ c st ended there. memory-step c st texts ended old new j)

pub refused-piece : (texts : List (ℕ × Text)) (n : ℕ) (y : Kind) (old new : Content) (before : List Event) (e : Stop) → IsJudgedFrom old new → IsText y
    → ((x : Held) → Holds old x → kind_noted (state_of x) y ≡ y) → IsRefusedOf old e → TellsPiece texts n y old new before before (Err e)
refused-piece texts n y old new before e j t noted none =
    ([], sym (append-nil before), at-none _, λ c st ended there. refused-step c st texts ended old new y n e j t noted there none)
