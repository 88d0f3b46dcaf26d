-- Where no tag is left out before a piece that opens and closes nothing, what follows is scanned as it was.
use Rattle.std.specs.Prelude.{◌≡◌, ℕ, ◌≤◌, Bool, true, false, List, [], ◌∷◌, Option, Some, Ok, take, reverse, option_map}
use Rattle.std.proofs.Common.{refl, sym, ap, ◌∙◌, subst}
use Rattle.sgml_inside.specs.records.Items.{Item, Data}
use Rattle.sgml_scan.specs.declared.state.ScanState.{ScanState}
use Rattle.sgml_events.specs.declared.event.Event.{Event}
use Rattle.sgml_infer.specs.theory_reading.Names.{Text}
use Rattle.sgml_infer.specs.theory_reading.Pieces.{Kind, Char, Rs}
use Rattle.sgml_infer.specs.theory_reading.Context.{Level, Context, context_after, levels_after, levels_with}
use Rattle.sgml_infer.specs.theory_reading.Currents.{AreCurrents}
use Rattle.sgml_infer.specs.theory_reading.Characters.{level_has_text, in_text_section}
use Rattle.sgml_infer.specs.sgml_dtd.Doctypes.{Doctype}
use Rattle.sgml_infer.specs.Tables.{name_at}
use Rattle.sgml_infer.specs.declared.visible.Visible.TheVariants as visible
use Rattle.sgml_inside.specs.Inside.{ends_in, settings_in}
use Rattle.sgml_prolog_steps.specs.theory_spelling.Sized.{sized}
use Rattle.sgml_prolog_steps.specs.theory_standing.Kept.{Kept}
use Rattle.sgml_prolog_steps.specs.theory_standing.Held.{Held, state_of, state_after_run}
use Rattle.sgml_prolog_steps.specs.declaring.Taking.{stacked_on}
use Rattle.sgml_prolog_steps.specs.Found.{rest_in, moved_on}
use Rattle.sgml_prolog_steps.proofs.Told.{stacked-moved}
use Rattle.sgml_content_steps.specs.theory_starts.Apart.{HasListsApart}
use Rattle.sgml_content_steps.specs.Standing.{IsHeld}
use Rattle.sgml_content_steps.specs.Content.{Content, Holds, IsContent, context_of}
use Rattle.sgml_content_steps.specs.Steps.{LeavesAsItWas}
use Rattle.sgml_content_steps.specs.declared.run.Run.{Run}
use Rattle.sgml_content_steps.specs.Runs.{IsRun, room_of}
use Rattle.sgml_content_data.specs.Roles.{around_of}
use Rattle.sgml_content_data.specs.Taking.{with_item, IsTaken}
use Rattle.sgml_content_data.specs.Steps.{TellsRead, TellsStretch}
use Rattle.sgml_content_data.specs.Alike.{StaysAlike, TakesOr, TakesRow, TakesFront, chars}
use Rattle.sgml_content_steps.specs.Plainly.{IsScannedIn}
use Rattle.sgml_content_data.proofs.Quiet.{IsQuiet, character-quiet}
use Rattle.sgml_content_data.proofs.Holding.{scan_of, scan-is, scan-levels, settings-noted, quiet-content}
use Rattle.sgml_content_data.proofs.Alone.{levels-alone, start-alone}
use Rattle.sgml_content_data.proofs.Judged.{IsJudgedFrom, character-text}
use Rattle.sgml_content_data.proofs.From.{IsPlainFrom}
use Rattle.sgml_content_data.proofs.Behind.{open-after, mid-content}
use Rattle.sgml_content_data.proofs.Data.{taken-from}
use Rattle.sgml_content_data.proofs.Stretches.{none-left, left-same}
use Rattle.sgml_content_data.proofs.Scanned.{data-tells}

-- WHAT CHANGES beside what stands directly in the innermost element: bytes are read over, and #PCDATA may be taken there
record IsLike (old new : Content) (n : ℕ) (y : Kind) : Type 0 where
  kept : new.kept ≡ moved_on n old.kept
  levels : (context_of new).levels ≡ levels_with y (context_of old).levels
  currents : new.currents ≡ old.currents
  settings : (x : Held) → Holds old x → settings_in new.inside.elements ≡ settings_in old.inside.elements

-- what may be held where nothing was taken yet, with these current values
abbrev held_before : Content → Held → Held
held_before old x = record {
  kept = old.kept;
  levels = (context_of old).levels;
  begun = (context_of old).begun;
  record_ends = ends_in old.inside.elements;
  ended = option_map (name_at old.kept.doctype) old.inside.ended;
  map_settings = settings_in old.inside.elements;
  currents = x.currents;
}

holds-before : (old new : Content) (n : ℕ) (y : Kind) (x : Held) → IsLike old new n y → Holds new x → Holds old (held_before old x)
holds-before old new n y x l h =
    let d : new.kept.doctype ≡ old.kept.doctype = ap (λ (k : Kept). k.doctype) l.kept in
    record {
      kept = refl;
      context = refl;
      record_ends = refl;
      map_settings = refl;
      ended = refl;
      currents = subst (λ table. AreCurrents old.kept.doctype table x.currents) l.currents
          (subst (λ (z : Doctype). AreCurrents z new.currents x.currents) d h.currents);
      apart = subst (λ (z : Doctype). HasListsApart z) d h.apart;
    }

like-scanned : (old new : Content) (n : ℕ) (y : Kind) (st : ScanState) → IsLike old new n y → IsScannedIn st old → IsScannedIn st new
like-scanned old new n y st l was x h =
    let before = held_before old x in
    let holds = holds-before old new n y x l h in
    let ls = (context_of old).levels in
    let ss = settings_in old.inside.elements in
    let es = (stacked_on old.kept.stack).entities in
    let kept : x.kept ≡ moved_on n old.kept = h.kept ∙ l.kept in
    let levels : x.levels ≡ levels_with y ls = ap (λ (s : Context). s.levels) h.context ∙ l.levels in
    let settings : x.map_settings ≡ ss = h.map_settings ∙ l.settings before holds in
    let entities : (stacked_on new.kept.stack).entities ≡ es =
    ap (λ (k : Kept). (stacked_on k.stack).entities) l.kept ∙ (λ i. (stacked-moved n old.kept i).entities) in
    record {
      kept = h.kept;
      scanned = scan-is x (stacked_on new.kept.stack).entities
          ∙ ((λ i. scan_of (kept i) (levels i) (settings i) (entities i))
          ∙ (scan-levels (moved_on n old.kept) y ls ss es
          ∙ (sym (scan-is before es) ∙ (was before holds).scanned)));
    }

text-with : (d : Doctype) (y : Kind) (ls : List Level) → level_has_text d (levels_with y ls) ≡ level_has_text d ls
text-with d y [] = refl
text-with d y (l ∷ ls) = refl

like-around : (old new : Content) (n : ℕ) (y : Kind) → IsLike old new n y → around_of new ≡ around_of old
like-around old new n y l = λ i. record {
  text = ((λ j. level_has_text (l.kept j).doctype (l.levels j)) ∙ text-with old.kept.doctype y (context_of old).levels) i;
  section = in_text_section (reverse (l.kept i).sections);
}

stays-like : (old new : Content) (n : ℕ) (y : Kind) → IsLike old new n y → StaysAlike old new
stays-like old new n y l = record { scanned = λ st. like-scanned old new n y st l; around = like-around old new n y l }

-- A PIECE that no tag can be left out before
pub alone-stays : (old new : Content) (n : ℕ) (it : Option Item) → new ≡ with_item n it old → StaysAlike old new
alone-stays old new n it e =
    subst (λ (z : Content). StaysAlike old z) (sym e)
    (stays-like old (with_item n it old) n Rs (record {
      kept = refl;
      levels = sym (levels-alone Rs (context_of old).levels start-alone.no_token);
      currents = refl;
      settings = λ x h. settings-noted it old.inside.elements;
    }))

pub alone-content : (old new : Content) (n : ℕ) (it : Option Item) → IsContent old → new ≡ with_item n it old → IsContent new
alone-content old new n it is e = subst IsContent (sym e) (quiet-content n it old is)

-- CONTENT before which none is
levels-after : (y : Kind) (it : Option Item) (n : ℕ) (s : Context) → IsQuiet y it → (context_after (sized n y) s).levels ≡ levels_with y s.levels
unfolding context_after
levels-after y it n s q = ap (λ f. levels_after s.doctype f y s.levels) q.stays

taken-like : (old j new : Content) (n : ℕ) (item : Item) (before after : List Event) (released : Bool) (run : Run) → IsJudgedFrom old j → j.currents ≡ old.currents
    → IsRun j visible.Chars run → room_of run ≡ 0 → IsTaken j new n item before after released → IsLike old new n (Char 0)
taken-like old j new n item before after released run from currents r none t =
    let mid = t.after_run in
    let taken = taken-from j new n item before after released t in
    let no_run = none-left j run r none in
    let opened : context_of mid ≡ context_after (sized 1 (Char 0)) (context_of old) =
    open-after j mid t.run.0 (Char 0) 1 taken (character-text 0)
    ∙ ap (context_after (sized 1 (Char 0))) (left-same j no_run ∙ from.context) in
    record {
      kept = ap (λ (z : Content). z.kept) t.kept ∙ ap (moved_on n) (t.texts ∙ from.kept);
      levels = ap (λ (z : Content). (context_of z).levels) t.kept
          ∙ (ap (λ (s : Context). s.levels) opened ∙ levels-after (Char 0) (Some Data) 1 (context_of old) (character-quiet 0));
      currents = ap (λ (z : Content). z.currents) t.kept ∙ (t.currents ∙ currents);
      settings = λ x h.
          let left = t.run.2.holds x (from.holds x h) in
          ap (λ (z : Content). settings_in z.inside.elements) t.kept
          ∙ (settings-noted (Some item) mid.inside.elements
          ∙ (sym left.map_settings
          ∙ (ap (λ os. (state_after_run os (state_of x)).map_settings) no_run ∙ h.map_settings)));
    }

pub taken-stays : (old j new : Content) (n : ℕ) (item : Item) (before after : List Event) (released : Bool) (run : Run) → IsJudgedFrom old j → j ≡ record old { tree = j.tree }
    → IsRun j visible.Chars run → room_of run ≡ 0 → IsTaken j new n item before after released → StaysAlike old new
taken-stays old j new n item before after released run from same r none t =
    stays-like old new n (Char 0)
    (taken-like old j new n item before after released run from (ap (λ (z : Content). z.currents) same) r none t)

pub taken-content : (j new : Content) (n : ℕ) (item : Item) (before after : List Event) (released : Bool) → IsContent j → IsTaken j new n item before after released → IsContent new
taken-content j new n item before after released is t =
    subst IsContent (sym t.kept)
    (quiet-content n (Some item) t.after_run
    (mid-content j t.after_run t.run.0 (Char 0) (Some Data) 1 is (taken-from j new n item before after released t) (character-text 0) (character-quiet 0)))

-- WHERE IT WAS JUDGED and nothing was taken
pub judged-stays : (old j new : Content) → IsPlainFrom old j → new ≡ j → StaysAlike old new
judged-stays old j new p e =
    subst (λ (z : Content). StaysAlike old z) (sym e) (record {
      scanned = λ st was x h. subst (λ (k : Kept). IsHeld k st x) (sym p.from.kept) (was x (p.back x h));
      around = λ i. record {
        text = level_has_text (p.from.kept i).doctype (p.from.context i).levels;
        section = in_text_section (reverse (p.from.kept i).sections);
      };
    })

pub judged-left : (old j new : Content) → IsPlainFrom old j → new ≡ j → LeavesAsItWas old new []
judged-left old j new p e =
    subst (λ (z : Content). LeavesAsItWas old z []) (sym e) (record { holds = p.from.holds; kept = p.from.kept; silent = refl })

pub from-left : (old j : Content) → IsJudgedFrom old j → LeavesAsItWas old j []
from-left old j from = record { holds = from.holds; kept = from.kept; silent = refl }

pub left-so : (x : Content) → LeavesAsItWas x x []
left-so x = record { holds = λ h a. a; kept = refl; silent = refl }

pub stays-so : (x : Content) → StaysAlike x x
stays-so x = record { scanned = λ st was. was; around = refl }

-- THE SAME as another step
pub either : (A B : Type 0) (old new : Content) (before after : List Event) (went : Bool) → (A → B) → TakesOr A old new before after went → TakesOr B old new before after went
either A B old new before after true f t = f t
either A B old new before after false f t = t

pub row-front : (texts : List (ℕ × Text)) (n m : ℕ) (old new : Content) (before after : List Event) (went : Bool) → m ≤ n → TakesRow texts m old new before after went
    → TakesFront texts n old new before after went
row-front texts n m old new before after went l t =
    either (TellsStretch texts (take m (rest_in old.kept texts)) old new before after (Ok tt)) (TellsRead texts (chars n) old new before after (Ok tt)) old new before after went
    (λ p. data-tells texts (chars n) m old new before after (Ok tt) refl l p) t
