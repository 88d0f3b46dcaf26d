-- Pieces that are no content: no tag is left out before them, and they tell nothing.
use Rattle.std.specs.Prelude.{◌≡◌, ℕ, ◌<◌, ◌≤◌, ◌||◌, Bool, true, false, List, [], ◌∷◌, Option, Some, None, length, map, Ok, All}
use Rattle.std.proofs.Common.{refl, sym, ap, ◌∙◌, subst, arith, append-nil}
use Rattle.sgml_inside.specs.records.Items.{Item, RecordEnd, RecordStart, Markup}
use Rattle.sgml_inside.specs.records.Facts.{takes_end}
use Rattle.sgml_scan.specs.declared.state.ScanState.{ScanState}
use Rattle.sgml_text.specs.declared.place.Place.{Place}
use Rattle.sgml_events.specs.declared.event.Event.{Event}
use Rattle.sgml_infer.specs.theory_reading.Names.{Text}
use Rattle.sgml_infer.specs.theory_reading.Pieces.{Kind, Re, Rs, Sep, Skipped}
use Rattle.sgml_infer.specs.theory_reading.Facets.{effect, token, is_finish}
use Rattle.sgml_infer.specs.theory_reading.Context.{Level, context_after, levels_after, levels_with, token_taken}
use Rattle.sgml_infer.specs.theory_reading.Unread.{Outside}
use Rattle.sgml_infer.specs.theory_reading.State.{State}
use Rattle.sgml_infer.specs.theory_reading.Characters.{kind_noted}
use Rattle.sgml_infer.specs.theory_reading.Events.{events_at}
use Rattle.sgml_prolog_steps.specs.theory_spelling.Sized.{sized}
use Rattle.sgml_prolog_steps.specs.theory_spelling.Spelled.{forms}
use Rattle.sgml_prolog_steps.specs.theory_spelling.Content.{character_kind}
use Rattle.sgml_prolog_steps.specs.theory_standing.Kept.{Kept, given}
use Rattle.sgml_prolog_steps.specs.theory_standing.Prologs.{alone}
use Rattle.sgml_prolog_steps.specs.theory_standing.Next.{left_to_read}
use Rattle.sgml_prolog_steps.specs.theory_standing.Held.{Held, state_of, IsSpelledIn}
use Rattle.sgml_prolog_steps.specs.theory_standing.Moves.{stands_alone, held_after}
use Rattle.sgml_prolog_steps.proofs.theory_standing.Alone.{alone-moves}
use Rattle.sgml_prolog_steps.specs.declaring.Files.{Choices}
use Rattle.sgml_prolog_steps.specs.Found.{rest_in, moved_on}
use Rattle.sgml_prolog_steps.proofs.Shared.{falls-places}
use Rattle.sgml_content_steps.specs.Standing.{IsInInstance, IsHeld}
use Rattle.sgml_content_steps.specs.Content.{Content, Holds, IsContent, context_of}
use Rattle.sgml_content_steps.specs.Steps.{Goes, IsStep, IsAt, entity_of_kind}
use Rattle.sgml_content_data.specs.declared.around.Around.{Around}
use Rattle.sgml_content_data.specs.Roles.{around_in, around_of}
use Rattle.sgml_content_data.specs.Taking.{with_item}
use Rattle.sgml_content_data.specs.Steps.{AreThere, TellsPiece}
use Rattle.sgml_content_data.proofs.Quiet.{IsQuiet, skipped-quiet, separator-quiet, end-quiet, start-quiet}
use Rattle.sgml_inside.specs.Inside.{facts_of}
use Rattle.sgml_content_data.proofs.Roles.{live-held}
use Rattle.sgml_content_data.proofs.Holding.{beside, quiet-holds, quiet-content}
use Rattle.sgml_content_data.proofs.Flowing.{next-one, moves_of, IsEach, AreEach, flows, IsOnce, with-bytes}
use Rattle.sgml_content_data.proofs.Told.{IsSilent, separator-silent, start-silent, silent-told, no-entities, first-starts, dead-told}

-- IT STANDS ALONE
pub record IsAlone (y : Kind) (it : Option Item) : Type 0 where
  pub quiet : IsQuiet y it
  pub alone : stands_alone y ≡ true
  pub no_token : token y ≡ None
  pub entities : entity_of_kind y ≡ []

pub skipped-alone : (b : ℕ) → IsAlone (Skipped b) (Some Markup)
unfolding token effect is_finish
skipped-alone b = record { quiet = skipped-quiet b; alone = refl; no_token = refl; entities = refl }

pub separator-alone : (b : ℕ) → IsAlone (Sep b) None
unfolding token effect is_finish
separator-alone b = record { quiet = separator-quiet b; alone = refl; no_token = refl; entities = refl }

pub dead-alone : IsAlone (Re false) (Some RecordEnd)
unfolding token effect is_finish
dead-alone = record { quiet = end-quiet false; alone = refl; no_token = refl; entities = refl }

pub start-alone : IsAlone Rs (Some RecordStart)
unfolding token effect is_finish
start-alone = record { quiet = start-quiet; alone = refl; no_token = refl; entities = refl }

pub levels-alone : (y : Kind) (ls : List Level) → token y ≡ None → levels_with y ls ≡ ls
levels-alone y [] e = refl
levels-alone y (l ∷ ls) e = λ i. record { element = l.element; left = token_taken (e i) l.left; slash = l.slash } ∷ ls

-- and leaves what is known of the open elements
pub alone-same : (y : Kind) (it : Option Item) (n : ℕ) (c : Content) → IsAlone y it → context_after (sized n y) (context_of c) ≡ context_of c
unfolding context_after
alone-same y it n c a = λ i. record {
  doctype = a.quiet.declares_none c.kept.doctype i;
  levels = (ap (λ f. levels_after c.kept.doctype f y (context_of c).levels) a.quiet.stays ∙ levels-alone y (context_of c).levels a.no_token) i;
  begun = a.quiet.no_start i || (context_of c).begun;
  inferred = a.quiet.no_omitted_start i;
}

-- A STEP over so many bytes of the text at the top
quiet-falls : (k : Kept) (texts : List (ℕ × Text)) (n : ℕ) → IsInInstance k → 0 < n → n ≤ length (rest_in k texts) → left_to_read (moved_on n k) texts < left_to_read k texts
unfolding left_to_read given
quiet-falls k texts n h some m = falls-places k.doctype.entities texts n k.stack.expand k.stack.spent k.stack.places h.document some m

pub ok-step : (c : Choices) (st : ScanState) (texts : List (ℕ × Text)) (ended : Bool) (old new : Content) (told : List Event) (n : ℕ) → IsContent old → IsContent new
    → new.kept ≡ moved_on n old.kept → 0 < n → n ≤ length (rest_in old.kept texts)
    → ((outside : Outside) (x : Held) → Holds old x → IsHeld old.kept st x → Goes outside texts ended x new told) → IsStep c st texts ended old new told (Ok tt)
ok-step c st texts ended old new told n was is e some l goes = record {
  steps = λ outside x o h held. goes outside x h held;
  falls = subst (λ (k : Kept). left_to_read k texts < left_to_read old.kept texts) (sym e) (quiet-falls old.kept texts n was.instance some l);
  left = tt;
  content = is;
  doctype = ap (λ (k : Kept). k.doctype) e;
  expand = ap (λ (k : Kept). k.stack.expand) e;
}

-- ONE PIECE
pub alone-goes : (outside : Outside) (texts : List (ℕ × Text)) (ended : Bool) (c : Content) (x : Held) (y : Kind) (n : ℕ) (it : Option Item)
    → IsContent c → Holds c x → IsAlone y it → n ≤ length (rest_in c.kept texts) → IsSpelledIn outside x texts ended (Ok (sized n y))
    → kind_noted (state_of x) y ≡ y → events_at forms (state_of x) (sized n y) ≡ [] → Goes outside texts ended x (with_item n it c) []
alone-goes outside texts ended c x y n it is h a l s noted told = record {
  moves = alone (sized n y) ∷ [];
  now = held_after outside (alone (sized n y)) x;
  next = (next-one outside texts ended c x [] y n it is h a.quiet l s noted (alone-moves (state_of x) (sized n y) a.alone), refl);
  holds = quiet-holds outside x [] y n it c a.quiet is.instance h.kept (ap (context_after (sized n y)) h.context ∙ alone-same y it n c a) (beside c x h);
  said = sym (append-nil (events_at forms (state_of x) (sized n y)) ∙ told);
  entities = sym (append-nil (entity_of_kind y) ∙ a.entities);
  starts = refl;
}

pub at-none : (place : Place) → All (IsAt place) []
at-none place k d l = absurd (omega (arith, l))

pub piece-passed : (texts : List (ℕ × Text)) (n : ℕ) (y : Kind) (it : Option Item) (old new : Content) (before : List Event) → IsContent old → 0 < n
    → n ≤ length (rest_in old.kept texts) → IsAlone y it → ((x : Held) → Holds old x → kind_noted (state_of x) y ≡ y)
    → ((x : Held) → Holds old x → events_at forms (state_of x) (sized n y) ≡ []) → new ≡ with_item n it old → TellsPiece texts n y old new before before (Ok tt)
piece-passed texts n y it old new before is some l a noted told e = (
  [],
  sym (append-nil before),
  at-none _,
  λ c st ended there. subst (λ (z : Content). IsStep c st texts ended old z [] (Ok tt)) (sym e)
      (ok-step c st texts ended old (with_item n it old) [] n is (quiet-content n it old is) refl some l
      (λ outside x h held. alone-goes outside texts ended old x y n it is h a l (there outside x h held) (noted x h) (told x h))),
)

-- SEVERAL, of a byte each
pub alone-each : (a : Around) (c : Content) (st : ScanState) (f : ℕ → Kind) (it : Option Item) (b : ℕ) → IsAlone (f b) it
    → ((z : State) → around_in z ≡ a → character_kind z st.mode b ≡ f b) → ((z : State) → kind_noted z (f b) ≡ f b) → IsEach a (context_of c) st f it b
alone-each a c st f it b alone kind noted = record {
  quiet = alone.quiet;
  kind = kind;
  noted = noted;
  moves = λ z e. alone-moves z (sized 1 (f b)) alone.alone;
  same = alone-same (f b) it 1 c alone;
}

split : (xs : List ℕ) → 0 < length xs → (b : ℕ) × (bs : List ℕ) × (xs ≡ b ∷ bs)
split [] l = absurd (omega (arith, l))
split (b ∷ bs) l = (b, bs, refl)

row-passed : (c : Choices) (st : ScanState) (texts : List (ℕ × Text)) (ended : Bool) (old : Content) (f : ℕ → Kind) (it : Option Item) (b : ℕ) (bs : Text)
    → IsContent old → IsOnce it → ((b : ℕ) → IsSilent (f b)) → length (b ∷ bs) ≤ length (rest_in old.kept texts) → AreThere old.kept st texts ended (b ∷ bs)
    → AreEach (around_of old) (context_of old) st f it (b ∷ bs) → IsStep c st texts ended old (with_item (length (b ∷ bs)) it old) [] (Ok tt)
row-passed c st texts ended old f it b bs is once silent l there each =
    ok-step c st texts ended old (with_item (length (b ∷ bs)) it old) [] (length (b ∷ bs)) is (quiet-content (length (b ∷ bs)) it old is) refl (omega arith) l
    (λ outside x h held.
    let flow = flows outside texts ended st f it (b ∷ bs) old x is h held l there each in record {
      moves = moves_of (map f (b ∷ bs));
      now = flow.now;
      next = flow.next;
      holds = subst (λ (z : Content). Holds z flow.now) (with-bytes b bs it old once) flow.holds;
      said = sym (silent-told f (b ∷ bs) (state_of x) silent);
      entities = sym (no-entities f (b ∷ bs) (λ b. (silent b).entities));
      starts = first-starts f b bs (λ b. (silent b).unplaced);
    })

pub stretch-passed : (c : Choices) (st : ScanState) (texts : List (ℕ × Text)) (ended : Bool) (old new : Content) (f : ℕ → Kind) (it : Option Item) (bytes : Text) (n : ℕ)
    → IsContent old → IsOnce it → ((b : ℕ) → IsSilent (f b)) → length bytes ≡ n → 0 < n → n ≤ length (rest_in old.kept texts) → AreThere old.kept st texts ended bytes
    → AreEach (around_of old) (context_of old) st f it bytes → new ≡ with_item n it old → IsStep c st texts ended old new [] (Ok tt)
stretch-passed c st texts ended old new f it bytes n is once silent m some l there each e =
    let parts = split bytes (omega (arith, m, some)) in
    let same : with_item (length (parts.0 ∷ parts.1)) it old ≡ new = ap (λ k. with_item k it old) (ap length (sym parts.2) ∙ m) ∙ sym e in
    subst (λ (z : Content). IsStep c st texts ended old z [] (Ok tt)) same
    (row-passed c st texts ended old f it parts.0 parts.1 is once silent (subst (λ k. k ≤ length (rest_in old.kept texts)) (sym m ∙ ap length parts.2) l)
    (subst (λ (xs : Text). AreThere old.kept st texts ended xs) parts.2 there) (subst (λ (xs : Text). AreEach (around_of old) (context_of old) st f it xs) parts.2 each))

-- BYTES OF AN IGNORED SECTION, and separators that are ignored

pub skipped-noted : (z : State) (b : ℕ) → kind_noted z (Skipped b) ≡ Skipped b
unfolding kind_noted
skipped-noted z b = refl

pub separator-noted : (z : State) (b : ℕ) → kind_noted z (Sep b) ≡ Sep b
unfolding kind_noted
separator-noted z b = refl

pub start-noted : (z : State) → kind_noted z Rs ≡ Rs
unfolding kind_noted
start-noted z = refl

dead-noted : (c : Content) (x : Held) → Holds c x → takes_end (facts_of c.inside.elements) ≡ false → kind_noted (state_of x) (Re false) ≡ Re false
unfolding kind_noted
dead-noted c x h e = ap Re (live-held c x h ∙ e)

-- ONE THAT IS NO CONTENT
pub dead-passed : (texts : List (ℕ × Text)) (n : ℕ) (old new : Content) (before : List Event) → IsContent old → 0 < n → n ≤ length (rest_in old.kept texts)
    → takes_end (facts_of old.inside.elements) ≡ false → new ≡ with_item n (Some RecordEnd) old → TellsPiece texts n (Re false) old new before before (Ok tt)
dead-passed texts n old new before is some l dead e =
    piece-passed texts n (Re false) (Some RecordEnd) old new before is some l dead-alone (λ x h. dead-noted old x h dead)
    (λ x h. dead-told (state_of x) n (live-held old x h ∙ dead)) e

pub start-passed : (texts : List (ℕ × Text)) (n : ℕ) (old new : Content) (before : List Event) → IsContent old → 0 < n → n ≤ length (rest_in old.kept texts)
    → new ≡ with_item n (Some RecordStart) old → TellsPiece texts n Rs old new before before (Ok tt)
start-passed texts n old new before is some l e =
    piece-passed texts n Rs (Some RecordStart) old new before is some l start-alone (λ x h. start-noted (state_of x)) (λ x h. start-silent.tells (state_of x) n) e

pub separator-passed : (texts : List (ℕ × Text)) (n b : ℕ) (old new : Content) (before : List Event) → IsContent old → 0 < n → n ≤ length (rest_in old.kept texts)
    → new ≡ with_item n None old → TellsPiece texts n (Sep b) old new before before (Ok tt)
separator-passed texts n b old new before is some l e =
    piece-passed texts n (Sep b) None old new before is some l (separator-alone b) (λ x h. separator-noted (state_of x) b) (λ x h. (separator-silent b).tells (state_of x) n) e
