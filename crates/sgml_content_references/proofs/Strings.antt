-- A short reference string that stands for a data entity: it is as a reference to it is.
use Rattle.std.specs.Prelude.{◌≡◌, ℕ, ◌==◌, Bool, true, false, List, [], ◌∷◌, ◌++◌, Some, None, if◌then◌else◌}
use Rattle.std.proofs.Common.{refl, sym, ap, ◌∙◌, append-nil}
use Rattle.sgml_theory_reading.specs.records.Items.{Item, RecordStart, Data as DataItem}
use Rattle.sgml_theory_reading.specs.records.Facts.{Facts, noted, all_noted}
use Rattle.sgml_theory_reading.specs.Names.{Text}
use Rattle.sgml_theory_reading.specs.Types.{body_of}
use Rattle.sgml_theory_reading.specs.Pieces.{Piece, Data, DataRef}
use Rattle.sgml_theory_reading.specs.Facets.{StaysInText, OpensText, start_item, effect, items_of, is_omitted_start, is_start, ended_type, specified, turn, border, declares, map_set, stage_after, subset_named, token}
use Rattle.sgml_theory_reading.specs.Context.{Level, context_after, levels_with}
use Rattle.sgml_theory_reading.specs.State.{State, after_piece, first_noted}
use Rattle.sgml_theory_reading.specs.Characters.{facts_in, kind_noted}
use Rattle.sgml_theory_reading.specs.Events.{Event as Said, External, silent, shown, told_by, body_events, events_at}
use Rattle.sgml_theory_reading.specs.Unread.{Outside}
use Rattle.sgml_declared.specs.theory_spelling.Attributes.{unvalued}
use Rattle.sgml_declared.specs.theory_spelling.Sized.{sized}
use Rattle.sgml_declared.specs.theory_spelling.Spelled.{forms}
use Rattle.sgml_declared.specs.theory_standing.Kept.{Kept, kept_after}
use Rattle.sgml_declared.specs.theory_standing.Next.{IsThere, after}
use Rattle.sgml_declared.specs.theory_standing.Held.{Held, state_of, state_after_run}
use Rattle.sgml_declared.specs.theory_standing.Moves.{held_after}
use Rattle.sgml_content_data.proofs.Judged.{IsText}
use Rattle.sgml_content_data.proofs.Told.{put_out_at}
use Rattle.sgml_content_data.proofs.Holding.{behind}
use Rattle.sgml_content_references.specs.declared.event.Entity.{Entity}
use Rattle.sgml_content_references.specs.declared.event.Entity.TheVariants as entity
use Rattle.sgml_content_references.specs.Entities.{kind_of, string_of}
use Rattle.sgml_content_references.proofs.Referenced.{said_for}

pub string-text : (string : Text) (e : Entity) → IsText (string_of string e)
unfolding token unvalued
string-text string (entity.Internal number) = record { token_is = refl; none_undefined = λ s. refl; none_unvalued = λ s. refl; judged_is = λ s. refl; accepted_is = λ s. refl; entities = refl }
string-text string (entity.External number) = record { token_is = refl; none_undefined = λ s. refl; none_unvalued = λ s. refl; judged_is = λ s. refl; accepted_is = λ s. refl; entities = refl }

pub string-noted : (z : State) (string : Text) (e : Entity) → kind_noted z (string_of string e) ≡ string_of string e
unfolding kind_noted
string-noted z string (entity.Internal number) = refl
string-noted z string (entity.External number) = refl

-- WHAT IT IS TO RECORD ENDS: a record start at its front is nothing to the data behind it
abbrev start_if : Bool → List Item
start_if t = if t then RecordStart ∷ [] else []

data-noted : (t : Bool) (f : Facts) → all_noted f (start_if t ++ (DataItem ∷ [])) ≡ noted f DataItem
unfolding noted
data-noted true f = refl
data-noted false f = refl

start-noted : (string : Text) (f : Facts) → all_noted f (start_item string ++ (DataItem ∷ [])) ≡ noted f DataItem
start-noted [] f = refl
start-noted (b ∷ bs) f = data-noted (b == 10) f

items-noted : (string : Text) (e : Entity) (fs : List Facts) → first_noted (items_of (string_of string e)) fs ≡ first_noted (items_of (kind_of e)) fs
unfolding items_of
items-noted string (entity.Internal number) [] = refl
items-noted string (entity.Internal number) (f ∷ fs) = ap (λ g. g ∷ fs) (start-noted string f)
items-noted string (entity.External number) [] = refl
items-noted string (entity.External number) (f ∷ fs) = ap (λ g. g ∷ fs) (start-noted string f)

-- WHAT IS KEPT after it
pub after-alike : (outside : Outside) (string : Text) (e : Entity) (n : ℕ) (k : Kept) → after outside (sized n (string_of string e)) k ≡ after outside (sized n (kind_of e)) k
unfolding kept_after turn border declares subset_named stage_after
after-alike outside string (entity.Internal number) n k = refl
after-alike outside string (entity.External number) n k = refl

levels-alike : (string : Text) (e : Entity) (ls : List Level) → levels_with (string_of string e) ls ≡ levels_with (kind_of e) ls
unfolding token
levels-alike string e [] = refl
levels-alike string (entity.Internal number) (l ∷ ls) = refl
levels-alike string (entity.External number) (l ∷ ls) = refl

state-alike : (string : Text) (e : Entity) (n : ℕ) (s : State) → after_piece (sized n (string_of string e)) s ≡ after_piece (sized n (kind_of e)) s
unfolding after_piece context_after effect turn border declares subset_named stage_after is_start is_omitted_start ended_type specified map_set
state-alike string (entity.Internal number) n s = λ i. record (after_piece (sized n (Data number)) s) {
  context = record { doctype = s.context.doctype; levels = levels-alike string (entity.Internal number) s.context.levels i; begun = s.context.begun; inferred = false };
  record_ends = items-noted string (entity.Internal number) s.record_ends i;
}
state-alike string (entity.External number) n s = λ i. record (after_piece (sized n (DataRef number)) s) {
  context = record { doctype = s.context.doctype; levels = levels-alike string (entity.External number) s.context.levels i; begun = s.context.begun; inferred = false };
  record_ends = items-noted string (entity.External number) s.record_ends i;
}

pub held-alike : (outside : Outside) (string : Text) (e : Entity) (n : ℕ) (os : List Piece) (x : Held)
    → held_after outside (behind os n (string_of string e)) x ≡ held_after outside (behind os n (kind_of e)) x
held-alike outside string e n os x =
    let same = state-alike string e n (state_after_run os (state_of x)) in
    λ i. record {
      kept = after-alike outside string e n x.kept i;
      levels = (same i).context.levels;
      begun = (same i).context.begun;
      record_ends = (same i).record_ends;
      ended = (same i).ended;
      map_settings = (same i).map_settings;
      currents = (same i).currents;
    }

no-turn : (n : ℕ) → StaysInText ≡ OpensText n → ⊥
no-turn n e = cc

none-some : {A : Type 0} (a : A) → None ≡ Some a → ⊥
none-some a e = cc

string-turn : (string : Text) (e : Entity) → turn (string_of string e) ≡ StaysInText
unfolding turn
string-turn string (entity.Internal number) = refl
string-turn string (entity.External number) = refl

string-names : (string : Text) (e : Entity) → subset_named (string_of string e) ≡ None
unfolding subset_named
string-names string (entity.Internal number) = refl
string-names string (entity.External number) = refl

pub string-there : (outside : Outside) (k : Kept) (texts : List (ℕ × Text)) (string : Text) (e : Entity) (n : ℕ) → IsThere outside k texts (sized n (kind_of e))
    → IsThere outside k texts (sized n (string_of string e))
string-there outside k texts string e n h = record {
  within = h.within;
  opened = λ m f. absurd (no-turn m (sym (string-turn string e) ∙ f));
  subset = λ named text f g. absurd (none-some named (sym (string-names string e) ∙ f));
}

-- WHAT IT TELLS
told-behind : (t : Bool) (f : Facts) (es : List Said) → told_by f (silent (start_if t) ++ (record { item = Some DataItem; events = es } ∷ [])) ≡ put_out_at f.waiting ++ es
unfolding noted
told-behind true f es = append-nil (put_out_at f.waiting ++ es)
told-behind false f es = append-nil (put_out_at f.waiting ++ es)

told-started : (string : Text) (f : Facts) (es : List Said) → told_by f (silent (start_item string) ++ (record { item = Some DataItem; events = es } ∷ [])) ≡ put_out_at f.waiting ++ es
told-started [] f es = told-behind false f es
told-started (b ∷ bs) f es = told-behind (b == 10) f es

pub string-told : (s : State) (n : ℕ) (string : Text) (e : Entity) → events_at forms s (sized n (string_of string e)) ≡ put_out_at (facts_in s.record_ends).waiting ++ said_for s.context.doctype e
unfolding shown
string-told s n string (entity.Internal number) = told-started string (facts_in s.record_ends) (body_events number (body_of s.context.doctype number))
string-told s n string (entity.External number) = told-started string (facts_in s.record_ends) (External number ∷ [])
