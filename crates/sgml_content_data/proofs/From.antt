-- What is taken where a piece was judged is taken where it stands: judging left what was held.
use Rattle.std.specs.Prelude.{◌≡◌, ℕ, ◌<◌, List, Bool, take, reverse, Result, Ok, Err, OnOk, OnErr, if◌then◌else◌, ◌==◌}
use Rattle.std.proofs.Common.{sym, ap, ◌∙◌, subst}
use Rattle.sgml_scan.specs.declared.state.ScanState.{ScanState}
use Rattle.sgml_events.specs.declared.event.Event.{Event}
use Rattle.sgml_infer.specs.theory_reading.Names.{Text}
use Rattle.sgml_infer.specs.theory_reading.Pieces.{Kind}
use Rattle.sgml_infer.specs.theory_reading.Characters.{level_has_text, in_text_section}
use Rattle.sgml_prolog_steps.specs.theory_standing.Kept.{Kept}
use Rattle.sgml_prolog_steps.specs.theory_standing.Next.{left_to_read}
use Rattle.sgml_prolog_steps.specs.theory_standing.Held.{Held}
use Rattle.sgml_infer.specs.declared.tree.Tree.{Tree}
use Rattle.sgml_prolog_steps.specs.declaring.Files.{Choices}
use Rattle.sgml_prolog_steps.specs.Found.{rest_in}
use Rattle.sgml_prolog_steps.specs.declared.stepping.Stop.{Stop}
use Rattle.sgml_content_steps.specs.Standing.{IsHeld}
use Rattle.sgml_content_steps.specs.Content.{Content, Holds, IsContent, context_of}
use Rattle.sgml_content_steps.specs.Steps.{IsStep, IsOutside, LeavesAsItWas, ToldAt}
use Rattle.sgml_content_data.specs.Roles.{around_of}
use Rattle.sgml_content_data.specs.Steps.{AreThere, TellsPiece, TellsStretch}
use Rattle.sgml_content_data.proofs.Judged.{IsJudgedFrom}

-- JUDGING left all but the open elements
pub record IsPlainFrom (old j : Content) : Type 0 where
  pub from : IsJudgedFrom old j
  pub back : (x : Held) → Holds j x → Holds old x

holds-back : (old j : Content) (t : Tree) (x : Held) → j ≡ record old { tree = t } → context_of j ≡ context_of old → Holds j x → Holds old x
holds-back old j t x e c was =
    let h = subst (λ (z : Content). Holds z x) e was in
    record {
      kept = h.kept;
      context = h.context ∙ (ap context_of (sym e) ∙ c);
      record_ends = h.record_ends;
      map_settings = h.map_settings;
      ended = h.ended;
      currents = h.currents;
      apart = h.apart;
    }

pub plain-from : (old j : Content) → ((x : Held) → Holds old x → Holds j x) → j ≡ record old { tree = j.tree } → context_of j ≡ context_of old → IsContent j → IsPlainFrom old j
plain-from old j h e c is = record {
  from = record { holds = h; kept = ap (λ (z : Content). z.kept) e; context = c; content = is };
  back = λ x. holds-back old j j.tree x e c;
}

pub around-from : (old j : Content) → IsJudgedFrom old j → around_of j ≡ around_of old
around-from old j from = λ i. record {
  text = level_has_text (from.kept i).doctype (from.context i).levels;
  section = in_text_section (reverse (from.kept i).sections);
}

left-from : (old j new : Content) (told : List Event) (result : Result (Unit {0}) Stop) → IsJudgedFrom old j → OnErr result (LeavesAsItWas j new told)
    → OnErr result (LeavesAsItWas old new told)
left-from old j new told (Ok done) from l = tt
left-from old j new told (Err e) from l = record { holds = λ x h. l.holds x (from.holds x h); kept = l.kept ∙ from.kept; silent = l.silent }

step-from : (c : Choices) (st : ScanState) (texts : List (ℕ × Text)) (ended : Bool) (old j new : Content) (told : List Event) (result : Result (Unit {0}) Stop)
    → IsJudgedFrom old j → IsStep c st texts ended j new told result → IsStep c st texts ended old new told result
step-from c st texts ended old j new told result from s = record {
  steps = λ outside x o h held.
      s.steps outside x (subst (λ (k : Kept). IsOutside c outside k texts) (sym from.kept) o) (from.holds x h) (subst (λ (k : Kept). IsHeld k st x) (sym from.kept) held);
  falls = subst (λ (k : Kept). OnOk result (left_to_read new.kept texts < left_to_read k texts)) from.kept s.falls;
  left = left-from old j new told result from s.left;
  content = s.content;
  doctype = s.doctype ∙ ap (λ (k : Kept). k.doctype) from.kept;
  expand = s.expand ∙ ap (λ (k : Kept). k.stack.expand) from.kept;
}

-- A STRETCH that is taken then
pub stretch-from : (texts : List (ℕ × Text)) (n : ℕ) (old j new : Content) (before after : List Event) (result : Result (Unit {0}) Stop) → IsPlainFrom old j
    → TellsStretch texts (take n (rest_in j.kept texts)) j new before after result → TellsStretch texts (take n (rest_in old.kept texts)) old new before after result
stretch-from texts n old j new before after result p t =
    let from = p.from in (
      t.0,
      t.1,
      subst (λ (k : Kept). ToldAt k t.0) from.kept t.2,
      λ c st ended read there.
          step-from c st texts ended old j new t.0 result from
          (t.3 c st ended read (subst (λ (k : Kept). AreThere k st texts ended (take n (rest_in k texts))) (sym from.kept) there)),
    )

-- A PIECE
pub piece-from : (texts : List (ℕ × Text)) (n : ℕ) (y : Kind) (old j new : Content) (before after : List Event) (result : Result (Unit {0}) Stop) → IsPlainFrom old j
    → TellsPiece texts n y j new before after result → TellsPiece texts n y old new before after result
piece-from texts n y old j new before after result p t =
    let from = p.from in (
      t.0,
      t.1,
      subst (λ (k : Kept). ToldAt k t.0) from.kept t.2,
      λ c st ended there.
          step-from c st texts ended old j new t.0 result from
          (t.3 c st ended (λ outside x h held. there outside x (p.back x h) (subst (λ (k : Kept). IsHeld k st x) from.kept held))),
    )

-- all of it is taken where the run is empty
pub all-of : (room n : ℕ) → room ≡ 0 → n ≡ (if room == 0 then n else 1)
all-of room n e = ap (λ (r : ℕ). if r == 0 then n else 1) (sym e)
