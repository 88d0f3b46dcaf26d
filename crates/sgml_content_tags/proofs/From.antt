-- What is taken where a piece was judged is taken where it stands: judging left what was held.
use Rattle.std.specs.Prelude.{◌≡◌, ℕ, ◌<◌, ◌≤◌, List, Bool, length, Result, Ok, Err, OnErr, OnOk}
use Rattle.std.proofs.Common.{sym, ap, ◌∙◌, subst}
use Rattle.sgml_scan.specs.declared.state.ScanState.{ScanState}
use Rattle.sgml_events.specs.declared.event.Event.{Event}
use Rattle.sgml_theory_spelling.specs.theory_reading.Names.{Text}
use Rattle.sgml_declared.specs.theory_standing.Kept.{Kept}
use Rattle.sgml_declared.specs.theory_standing.Next.{left_to_read}
use Rattle.sgml_declared.specs.theory_standing.Held.{Held}
use Rattle.sgml_theory_spelling.specs.Sized.{sized}
use Rattle.sgml_declared.specs.theory_standing.Held.{IsSpelledIn}
use Rattle.sgml_infer.specs.declared.tree.Tree.{Tree}
use Rattle.sgml_infer.specs.declared.visible.Visible.{Visible}
use Rattle.sgml_declared.specs.Files.{Choices}
use Rattle.sgml_prolog_steps.specs.Found.{rest_in}
use Rattle.sgml_prolog_steps.specs.declared.stepping.Stop.{Stop}
use Rattle.sgml_content_steps.specs.Standing.{IsHeld}
use Rattle.sgml_content_steps.specs.Content.{Content, Holds, context_of}
use Rattle.sgml_content_steps.specs.Steps.{IsStep, IsOutside, LeavesAsItWas, ToldAt}
use Rattle.sgml_content_tags.specs.Ends.{end_kind, TellsEnd}
use Rattle.sgml_content_tags.proofs.Ending.{judged_from}

-- JUDGING left all but the open elements' own notes
pub record IsPlainFrom (old j : Content) : Type 0 where
  pub holds : (x : Held) → Holds old x → Holds j x
  pub back : (x : Held) → Holds j x → Holds old x
  pub kept : j.kept ≡ old.kept
  pub same : j ≡ judged_from old j.tree j.currents

holds-back : (old j : Content) (t : Tree) (x : Held) → j ≡ record old { tree = t } → context_of j ≡ context_of old → Holds j x → Holds old x
holds-back old j t x e c was =
    let h = subst (λ (z : Content). Holds z x) e was in
    record {
      kept = h.kept;
      context = h.context ∙ (ap context_of (sym e) ∙ c);
      record_ends = h.record_ends;
      map_settings = h.map_settings;
      ended = h.ended;
      currents = h.currents;
      apart = h.apart;
    }

pub plain-from : (old j : Content) → ((x : Held) → Holds old x → Holds j x) → j ≡ record old { tree = j.tree } → context_of j ≡ context_of old → IsPlainFrom old j
plain-from old j h e c = record {
  holds = h;
  back = λ x. holds-back old j j.tree x e c;
  kept = ap (λ (z : Content). z.kept) e;
  same = e ∙ (λ i. record old { tree = j.tree; currents = (ap (λ (z : Content). z.currents) (sym e)) i });
}

left-from : (old j new : Content) (told : List Event) (result : Result (Unit {0}) Stop) → IsPlainFrom old j → OnErr result (LeavesAsItWas j new told)
    → OnErr result (LeavesAsItWas old new told)
left-from old j new told (Ok done) from l = tt
left-from old j new told (Err e) from l = record { holds = λ x h. l.holds x (from.holds x h); kept = l.kept ∙ from.kept; silent = l.silent }

pub step-from : (c : Choices) (st : ScanState) (texts : List (ℕ × Text)) (ended : Bool) (old j new : Content) (told : List Event) (result : Result (Unit {0}) Stop)
    → IsPlainFrom old j → IsStep c st texts ended j new told result → IsStep c st texts ended old new told result
step-from c st texts ended old j new told result from s = record {
  steps = λ outside x o h held.
      s.steps outside x (subst (λ (k : Kept). IsOutside c outside k texts) (sym from.kept) o) (from.holds x h) (subst (λ (k : Kept). IsHeld k st x) (sym from.kept) held);
  falls = subst (λ (k : Kept). OnOk result (left_to_read new.kept texts < left_to_read k texts)) from.kept s.falls;
  left = left-from old j new told result from s.left;
  content = s.content;
  doctype = s.doctype ∙ ap (λ (k : Kept). k.doctype) from.kept;
  expand = s.expand ∙ ap (λ (k : Kept). k.stack.expand) from.kept;
}

-- AN END that is taken then
pub end-from : (texts : List (ℕ × Text)) (n : ℕ) (visible : Visible) (number : ℕ) (old j new : Content) (before after : List Event) (result : Result (Unit {0}) Stop)
    → IsPlainFrom old j → TellsEnd texts n visible number j new before after result → TellsEnd texts n visible number old new before after result
end-from texts n visible number old j new before after result from t = (
  t.0,
  t.1,
  subst (λ (k : Kept). ToldAt k t.0) from.kept t.2,
  λ c st ended some l there.
      step-from c st texts ended old j new t.0 result from
      (t.3 c st ended some (subst (λ (k : Kept). n ≤ length (rest_in k texts)) (sym from.kept) l)
      (λ outside x h held.
      subst (λ (k : Kept). IsSpelledIn outside x texts ended (Ok (sized n (end_kind k.doctype visible number)))) (sym from.kept)
      (there outside x (from.back x h) (subst (λ (k : Kept). IsHeld k st x) from.kept held)))),
)
