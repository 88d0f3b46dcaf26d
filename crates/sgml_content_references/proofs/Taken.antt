-- A short reference string for a data entity that is taken as one piece behind a run.
use Rattle.std.specs.Prelude.{◌≡◌, ℕ, ◌<◌, ◌≤◌, Bool, true, false, List, [], ◌∷◌, ◌++◌, Some, length, All, Result, Ok}
use Rattle.std.proofs.Common.{inl, inr, refl, sym, ap, ◌∙◌, subst, append_assoc, append-nil}
use Rattle.sgml_text.specs.declared.place.Place.{Place}
use Rattle.sgml_theory_reading.specs.records.Items.{Data as DataItem}
use Rattle.sgml_theory_reading.specs.records.Facts.{Facts}
use Rattle.sgml_scan.specs.declared.state.Token.{Token}
use Rattle.sgml_dtd.specs.Doctypes.{Doctype}
use Rattle.sgml_events.specs.declared.event.Event.{Event}
use Rattle.sgml_content_steps.specs.said.Told.{all_said}
use Rattle.sgml_theory_reading.specs.Names.{Text}
use Rattle.sgml_theory_reading.specs.Pieces.{Piece, Kind}
use Rattle.sgml_theory_reading.specs.Facets.{is_omitted}
use Rattle.sgml_theory_reading.specs.State.{State}
use Rattle.sgml_theory_reading.specs.Characters.{kind_noted}
use Rattle.sgml_theory_reading.specs.Reads.{pieces}
use Rattle.sgml_theory_reading.specs.Events.{events_at}
use Rattle.sgml_theory_reading.specs.Unread.{Outside}
use Rattle.sgml_declared.specs.theory_spelling.Sized.{sized}
use Rattle.sgml_declared.specs.theory_spelling.Spelled.{forms}
use Rattle.sgml_declared.specs.theory_standing.Kept.{Kept}
use Rattle.sgml_declared.specs.theory_standing.Held.{Held, state_of, is_of_content, IsSpelledIn}
use Rattle.sgml_declared.specs.theory_standing.Moves.{IsMove, IsNextMove, held_after}
use Rattle.sgml_infer.specs.Seen.{started, ended}
use Rattle.sgml_infer.specs.declared.visible.Visible.TheVariants as visible
use Rattle.sgml_prolog_steps.specs.Found.{rest_in, moved_on}
use Rattle.sgml_prolog_steps.specs.declared.stepping.Stop.{Stop}
use Rattle.sgml_content_steps.specs.Standing.{IsInInstance}
use Rattle.sgml_content_steps.specs.Content.{Content, Holds, IsContent}
use Rattle.sgml_content_steps.specs.Steps.{IsAt, Tells, Goes, IsStep, entity_of_kind, entities_of, entities_told}
use Rattle.sgml_content_steps.specs.declared.run.Run.{Run}
use Rattle.sgml_content_steps.specs.Runs.{IsRun, run_of, state_left}
use Rattle.sgml_content_steps.proofs.Standing.{left-by}
use Rattle.sgml_content_references.specs.Strings.{string_in, StandsFor}
use Rattle.sgml_content_data.specs.Taking.{with_item, put_out}
use Rattle.sgml_content_data.specs.Steps.{TellsPiece}
use Rattle.sgml_content_data.proofs.Quiet.{quiet-there}
use Rattle.sgml_content_data.proofs.Holding.{behind, quiet-content}
use Rattle.sgml_content_data.proofs.Told.{put_out_at, entities-append, pieces-append}
use Rattle.sgml_content_data.proofs.Alone.{ok-step}
use Rattle.sgml_content_data.proofs.Judged.{IsText, IsJudgedFrom}
use Rattle.sgml_content_data.proofs.Behind.{IsTakenFrom, mid-content, behind-moves, behind-holds, behind-said}
use Rattle.sgml_content_data.proofs.Data.{taken-from, facts-left, told-at}
use Rattle.sgml_content_references.specs.declared.event.Entity.{Entity}
use Rattle.sgml_content_references.specs.declared.event.Entity.TheVariants as entity
use Rattle.sgml_content_references.specs.Entities.{told_for, kind_of, meaning_of, string_of, IsOf, IsEntityTaken}
use Rattle.sgml_content_references.proofs.Referenced.{said_for, entity-text, entity-quiet, entity-noted, entity-taken, said-behind, none-behind, at-behind}
use Rattle.sgml_content_references.proofs.Strings.{string-text, string-noted, held-alike, string-there, string-told}

-- IT IS A MOVE
string-content : (string : Text) (e : Entity) → is_of_content (string_of string e) ≡ true
string-content string (entity.Internal number) = refl
string-content string (entity.External number) = refl

string-written : (string : Text) (e : Entity) → is_omitted (string_of string e) ≡ false
unfolding is_omitted
string-written string (entity.Internal number) = refl
string-written string (entity.External number) = refl

string-next : (outside : Outside) (texts : List (ℕ × Text)) (ended : Bool) (c : Content) (x : Held) (os : List Piece) (string : Text) (e : Entity) (n : ℕ)
    → IsContent c → Holds c x → n ≤ length (rest_in c.kept texts) → IsSpelledIn outside x texts ended (Ok (sized n (string_of string e)))
    → IsMove (state_of x) (sized n (string_of string e)) (behind os n (string_of string e)) → IsNextMove outside x texts ended (behind os n (string_of string e))
string-next outside texts ended c x os string e n is h l s m =
    let y = string_of string e in
    record {
      piece = sized n y;
      spelled = s;
      moves = subst (λ (z : Kind). IsMove (state_of x) (sized n z) (behind os n y)) (sym (string-noted (state_of x) string e)) m;
      of_content = string-content string e;
      written = string-written string e;
      there = string-there outside x.kept texts string e n
          (quiet-there outside x.kept texts (kind_of e) (Some DataItem) n (entity-quiet e) (subst IsInInstance (sym h.kept) is.instance)
          (subst (λ (k : Kept). n ≤ length (rest_in k texts)) (sym h.kept) l));
    }

-- omitted tags are by no entity
ended-none : (d : Doctype) (ns : List ℕ) → entities_of (ended d ns) ≡ []
ended-none d [] = refl
ended-none d (n ∷ ns) = ended-none d ns

started-none : (d : Doctype) (ns : List ℕ) → entities_of (started d ns) ≡ []
started-none d [] = refl
started-none d (n ∷ ns) = started-none d ns

pub run-none : (c : Content) → entities_of (run_of c) ≡ []
run-none c =
    pieces-append (ended c.kept.doctype c.tree.ended.items) (started c.kept.doctype c.tree.starts.items)
    ∙ (λ i. ended-none c.kept.doctype c.tree.ended.items i ++ started-none c.kept.doctype c.tree.starts.items i)

string-none : (c : Content) (string : Text) (e : Entity) (n : ℕ) → entities_of (pieces (behind (run_of c) n (string_of string e) ∷ [])) ≡ []
string-none c string e n =
    let y = string_of string e in
    pieces-append (run_of c) (sized n y ∷ []) ∙ (λ i. run-none c i ++ (append-nil (entity_of_kind y) ∙ (string-text string e).entities) i)

string-goes : (outside : Outside) (texts : List (ℕ × Text)) (ended : Bool) (j mid : Content) (told ev : List Event) (run : Run) (x : Held) (string : Text) (e : Entity) (n : ℕ)
    → IsContent j → IsRun j visible.Chars run → IsTakenFrom j mid told → Holds j x → n ≤ length (rest_in j.kept texts)
    → IsSpelledIn outside x texts ended (Ok (sized n (string_of string e))) → all_said mid.kept.doctype ev ≡ events_at forms (state_left j x) (sized n (string_of string e))
    → entities_told ev ≡ [] → Goes outside texts ended x (with_item n (Some DataItem) mid) (told ++ ev)
string-goes outside texts ended j mid told ev run x string e n is r t h l s said none =
    let y = string_of string e in
    record {
      moves = behind (run_of j) n y ∷ [];
      now = held_after outside (behind (run_of j) n y) x;
      next = (string-next outside texts ended j x (run_of j) string e n is h l s (behind-moves j run x y n is r h (string-text string e)), refl);
      holds = subst (λ (z : Held). Holds (with_item n (Some DataItem) mid) z) (sym (held-alike outside string e n (run_of j) x))
          (behind-holds outside j mid told run x (kind_of e) (Some DataItem) n is r t h (entity-text e) (entity-quiet e));
      said = behind-said j mid told ev x y n mid.kept.doctype t h (ap (λ (k : Kept). k.doctype) t.texts) said;
      entities = entities-append told ev ∙ ((λ i. t.taken.entities i ++ none i) ∙ sym (string-none j string e n));
      starts = refl;
    }

-- IT IS TAKEN behind the run
step-taken : (texts : List (ℕ × Text)) (old j mid new : Content) (told ev before middle after : List Event) (run : Run) (string : Text) (e : Entity) (n : ℕ)
    → IsContent old → IsJudgedFrom old j → IsRun j visible.Chars run → IsTakenFrom j mid told → 0 < n → n ≤ length (rest_in old.kept texts)
    → ((x : Held) → Holds j x → all_said mid.kept.doctype ev ≡ events_at forms (state_left j x) (sized n (string_of string e)))
    → entities_told ev ≡ [] → ((place : Place) → All (IsAt place) ev)
    → new ≡ with_item n (Some DataItem) mid → middle ≡ before ++ told → after ≡ middle ++ ev → TellsPiece texts n (string_of string e) old new before after (Ok tt)
step-taken texts old j mid new told ev before middle after run string e n was from r t some l said none at same f g = (
  told ++ ev,
  g ∙ (ap (λ es. es ++ ev) f ∙ append_assoc before told ev),
  told-at old j mid told ev from t at,
  λ c st ended there. subst (λ (z : Content). IsStep c st texts ended old z (told ++ ev) (Ok tt)) (sym same)
      (ok-step c st texts ended old (with_item n (Some DataItem) mid) (told ++ ev) n was
      (quiet-content n (Some DataItem) mid (mid-content j mid told (kind_of e) (Some DataItem) n from.content t (entity-text e) (entity-quiet e)))
      (ap (moved_on n) (t.texts ∙ from.kept)) some l
      (λ outside x h held. string-goes outside texts ended j mid told ev run x string e n from.content r t (from.holds x h)
      (subst (λ (k : Kept). n ≤ length (rest_in k texts)) (sym from.kept) l) (there outside x h held) (said x (from.holds x h)) none)),
)

pub string-taken : (texts : List (ℕ × Text)) (old j new : Content) (before after : List Event) (run : Run) (string : Text) (e : Entity) (n : ℕ) (events : List Event)
    → IsContent old → IsJudgedFrom old j → IsRun j visible.Chars run → 0 < n → n ≤ length (rest_in old.kept texts)
    → events ≡ told_for j.kept.doctype e → IsEntityTaken j new n events before after → TellsPiece texts n (string_of string e) old new before after (Ok tt)
string-taken texts old j new before after run string e n events was from r some l u d =
    let t = d.taken in
    let mid = t.after_run in
    let told = d.run_told in
    let taken = taken-from j new n DataItem before told d.released t in
    let same : mid.kept.doctype ≡ j.kept.doctype = ap (λ (k : Kept). k.doctype) t.texts in
    step-taken texts old j mid new t.run.0 (put_out d.released ++ told_for j.kept.doctype e) before told after run string e n was from r taken some l
    (λ x h. ap (λ (z : Doctype). all_said z (put_out d.released ++ told_for j.kept.doctype e)) same
    ∙ (said-behind j.kept.doctype d.released e
    ∙ ((λ i. put_out_at ((t.puts_out ∙ ap (λ (f : Facts). f.waiting) (sym (facts-left j mid t.run.0 x taken h))) i) ++ said_for (sym (left-by j x h).doctype i) e)
    ∙ sym (string-told (state_left j x) n string e))))
    (none-behind j.kept.doctype d.released e) (λ place. at-behind place j.kept.doctype d.released e) t.kept t.run.1
    (d.told ∙ ap (λ es. told ++ (put_out d.released ++ es)) u)

-- EITHER, a reference or a string
pub of-text : (e : Entity) (y : Kind) → IsOf e y → IsText y
of-text e y (inl f) = subst (λ (z : Kind). IsText z) (sym f) (entity-text e)
of-text e y (inr (string, f)) = subst (λ (z : Kind). IsText z) (sym f) (string-text string e)

pub of-noted : (e : Entity) (y : Kind) → IsOf e y → (s : State) → kind_noted s y ≡ y
of-noted e y (inl f) s = subst (λ (z : Kind). kind_noted s z ≡ z) (sym f) (entity-noted s e)
of-noted e y (inr (string, f)) s = subst (λ (z : Kind). kind_noted s z ≡ z) (sym f) (string-noted s string e)

pub of-taken : (texts : List (ℕ × Text)) (old j new : Content) (before after : List Event) (run : Run) (y : Kind) (e : Entity) (n : ℕ) (events : List Event)
    → IsOf e y → IsContent old → IsJudgedFrom old j → IsRun j visible.Chars run → 0 < n → n ≤ length (rest_in old.kept texts)
    → events ≡ told_for j.kept.doctype e → IsEntityTaken j new n events before after → TellsPiece texts n y old new before after (Ok tt)
of-taken texts old j new before after run y e n events (inl f) was from r some l u d =
    subst (λ (z : Kind). TellsPiece texts n z old new before after (Ok tt)) (sym f) (entity-taken texts old j new before after run e n events was from r some l u d)
of-taken texts old j new before after run y e n events (inr (string, f)) was from r some l u d =
    subst (λ (z : Kind). TellsPiece texts n z old new before after (Ok tt)) (sym f) (string-taken texts old j new before after run string e n events was from r some l u d)

-- WHERE A STRING STANDS FOR ONE
pub string-tells : (e : Entity) (texts : List (ℕ × Text)) (t : Token) (old new : Content) (before after : List Event) (result : Result (Unit {0}) Stop)
    → StandsFor texts t old (λ s own. meaning_of e) → TellsPiece texts t.length (string_of (string_in old.kept texts t.length) e) old new before after result
    → Tells texts t old new before after result
string-tells e texts t old new before after result stands tells =
    (tells.0, tells.1, tells.2, λ c st ended there. tells.3 c st ended (λ outside x h held. stands st ended there outside x h held))
