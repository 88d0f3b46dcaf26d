-- Data that is taken as one piece behind a run.
use Rattle.std.specs.Prelude.{◌≡◌, ℕ, zero, suc, ◌<◌, ◌≤◌, Bool, true, false, List, [], ◌∷◌, ◌++◌, Option, Some, length, All, Ok}
use Rattle.std.proofs.Common.{refl, sym, ap, ◌∙◌, subst, append_assoc, arith}
use Rattle.std.proofs.lemmas.List.Elements.{All-append}
use Rattle.sgml_text.specs.declared.place.Place.{Place}
use Rattle.sgml_text.specs.declared.unit.Unit.{Unit as AnyUnit}
use Rattle.sgml_text.specs.Units.{characters}
use Rattle.sgml_inside.specs.records.Items.{Item, RecordEnd, Data}
use Rattle.sgml_inside.specs.records.Facts.{Facts, takes_end}
use Rattle.sgml_events.specs.declared.event.Event.{Event}
use Rattle.sgml_events.specs.declared.event.Event.TheVariants as event
use Rattle.sgml_content_steps.specs.said.Told.{all_said}
use Rattle.sgml_infer.specs.theory_reading.Names.{Text}
use Rattle.sgml_infer.specs.theory_reading.Pieces.{Kind, Char, Re}
use Rattle.sgml_infer.specs.theory_reading.State.{State}
use Rattle.sgml_infer.specs.theory_reading.Characters.{facts_in, kind_noted}
use Rattle.sgml_infer.specs.theory_reading.Events.{releases_by, events_at}
use Rattle.sgml_prolog_steps.specs.theory_spelling.Sized.{sized}
use Rattle.sgml_prolog_steps.specs.theory_spelling.Spelled.{forms}
use Rattle.sgml_prolog_steps.specs.theory_standing.Kept.{Kept}
use Rattle.sgml_prolog_steps.specs.theory_standing.Held.{Held, state_of}
use Rattle.sgml_infer.specs.declared.visible.Visible.TheVariants as visible
use Rattle.sgml_inside.specs.Inside.{facts_of}
use Rattle.sgml_prolog_steps.specs.Found.{rest_in, moved_on}
use Rattle.sgml_content_steps.specs.Content.{Content, Holds, IsContent}
use Rattle.sgml_content_steps.specs.Steps.{IsAt, ToldAt, IsStep, entities_told}
use Rattle.sgml_content_steps.specs.declared.run.Run.{Run}
use Rattle.sgml_content_steps.specs.Runs.{IsRun, state_left}
use Rattle.sgml_content_data.specs.Taking.{with_item, put_out, data_told, IsTaken, IsDataTaken}
use Rattle.sgml_content_data.specs.Steps.{TellsPiece}
use Rattle.sgml_content_data.proofs.Quiet.{IsQuiet, character-quiet, end-quiet}
use Rattle.sgml_content_data.proofs.Roles.{facts-held, live-held}
use Rattle.sgml_content_data.proofs.Holding.{quiet-content}
use Rattle.sgml_content_data.proofs.Told.{put_out_at, end-told, character-told, bytes_said, said-put_out, said-data, put_out-entities, data-entities}
use Rattle.sgml_content_data.proofs.Alone.{ok-step}
use Rattle.sgml_content_data.proofs.Judged.{IsText, character-text, end-text, IsJudgedFrom}
use Rattle.sgml_content_data.proofs.Behind.{IsTakenFrom, mid-content, behind-goes}

-- WHAT WAS TAKEN, with what the run told
pub taken-from : (j new : Content) (n : ℕ) (item : Item) (before after : List Event) (released : Bool) (t : IsTaken j new n item before after released)
    → IsTakenFrom j t.after_run t.run.0
taken-from j new n item before after released t = record { taken = t.run.2; texts = t.texts; currents = t.currents }

-- the record end that waits is put out as the state after the run says
pub facts-left : (j mid : Content) (told : List Event) (x : Held) → IsTakenFrom j mid told → Holds j x → facts_in (state_left j x).record_ends ≡ facts_of mid.inside.elements
facts-left j mid told x t h = ap facts_in (t.taken.holds x h).record_ends ∙ facts-held mid.inside.elements

at-one : (place : Place) (units : List AnyUnit) → All (IsAt place) (event.Chars units ∷ [])
at-one place units zero d l = tt
at-one place units (suc k) d l = absurd (omega (arith, l))

pub at-put_out : (place : Place) (released : Bool) → All (IsAt place) (put_out released)
at-put_out place true = at-one place (characters (13 ∷ []))
at-put_out place false = λ k d l. absurd (omega (arith, l))

pub at-data : (place : Place) (released : Bool) (units : List AnyUnit) → All (IsAt place) (data_told released units)
at-data place released units = All-append (IsAt place) (put_out released) (event.Chars units ∷ []) (at-put_out place released) (at-one place units)

pub told-at : (old j mid : Content) (told ev : List Event) → IsJudgedFrom old j → IsTakenFrom j mid told → ((place : Place) → All (IsAt place) ev) → ToldAt old.kept (told ++ ev)
told-at old j mid told ev from t at =
    All-append (IsAt _) told ev (subst (λ (k : Kept). ToldAt k told) from.kept t.taken.at) (at _)

-- ONE PIECE behind the run
pub piece-taken : (texts : List (ℕ × Text)) (old j mid new : Content) (told ev before middle after : List Event) (run : Run) (y : Kind) (it : Option Item) (n : ℕ)
    → IsContent old → IsJudgedFrom old j → IsRun j visible.Chars run → IsTakenFrom j mid told → IsText y → IsQuiet y it → 0 < n → n ≤ length (rest_in old.kept texts)
    → ((x : Held) → Holds old x → kind_noted (state_of x) y ≡ y)
    → ((x : Held) → Holds j x → all_said mid.kept.doctype ev ≡ events_at forms (state_left j x) (sized n y)) → entities_told ev ≡ [] → ((place : Place) → All (IsAt place) ev)
    → new ≡ with_item n it mid → middle ≡ before ++ told → after ≡ middle ++ ev → TellsPiece texts n y old new before after (Ok tt)
piece-taken texts old j mid new told ev before middle after run y it n was from r t text q some l noted said none at e f g = (
  told ++ ev,
  g ∙ (ap (λ es. es ++ ev) f ∙ append_assoc before told ev),
  told-at old j mid told ev from t at,
  λ c st ended there. subst (λ (z : Content). IsStep c st texts ended old z (told ++ ev) (Ok tt)) (sym e)
      (ok-step c st texts ended old (with_item n it mid) (told ++ ev) n was
      (quiet-content n it mid (mid-content j mid told y it n from.content t text q)) (ap (moved_on n) (t.texts ∙ from.kept)) some l
      (λ outside x h held. behind-goes outside texts ended j mid told ev run x y it n from.content r t (from.holds x h) text q
      (subst (λ (k : Kept). n ≤ length (rest_in k texts)) (sym from.kept) l) (there outside x h held) (noted x h) (said x (from.holds x h)) none)),
)

pub character-noted : (z : State) (b : ℕ) → kind_noted z (Char b) ≡ Char b
unfolding kind_noted
character-noted z b = refl

pub character-taken : (texts : List (ℕ × Text)) (old j new : Content) (before after : List Event) (run : Run) (b n : ℕ) (units : List AnyUnit)
    → IsContent old → IsJudgedFrom old j → IsRun j visible.Chars run → 0 < n → n ≤ length (rest_in old.kept texts)
    → units ≡ characters (b ∷ []) → IsDataTaken j new n units before after → TellsPiece texts n (Char b) old new before after (Ok tt)
character-taken texts old j new before after run b n units was from r some l u d =
    let t = d.taken in
    let mid = t.after_run in
    let taken = taken-from j new n Data before d.run_told d.released t in
    piece-taken texts old j mid new t.run.0 (data_told d.released units) before d.run_told after run (Char b) (Some Data) n was from r taken
    (character-text b) (character-quiet b) some l (λ x h. character-noted (state_of x) b)
    (λ x h. ap (λ us. all_said mid.kept.doctype (data_told d.released us)) u
    ∙ (said-data mid.kept.doctype d.released (b ∷ [])
    ∙ (ap (λ w. put_out_at w ++ bytes_said (b ∷ [])) (t.puts_out ∙ ap (λ (f : Facts). f.waiting) (sym (facts-left j mid t.run.0 x taken h)))
    ∙ sym (character-told (state_left j x) n b))))
    (data-entities d.released units) (λ place. at-data place d.released units) t.kept t.run.1 d.told

-- a record end that is live
pub end-noted : (z : State) (live : Bool) → takes_end (facts_in z.record_ends) ≡ live → kind_noted z (Re live) ≡ Re live
unfolding kind_noted
end-noted z live e = ap Re e

pub end-taken : (texts : List (ℕ × Text)) (old j new : Content) (before middle after : List Event) (run : Run) (n : ℕ) (released : Bool)
    → IsContent old → IsJudgedFrom old j → IsRun j visible.Chars run → 0 < n → n ≤ length (rest_in old.kept texts) → takes_end (facts_of old.inside.elements) ≡ true
    → IsTaken j new n RecordEnd before middle released → after ≡ middle ++ put_out released → TellsPiece texts n (Re true) old new before after (Ok tt)
end-taken texts old j new before middle after run n released was from r some l live t e =
    let mid = t.after_run in
    let taken = taken-from j new n RecordEnd before middle released t in
    piece-taken texts old j mid new t.run.0 (put_out released) before middle after run (Re true) (Some RecordEnd) n was from r taken
    end-text (end-quiet true) some l (λ x h. end-noted (state_of x) true (live-held old x h ∙ live))
    (λ x h. said-put_out mid.kept.doctype released
    ∙ (ap put_out_at (t.puts_out ∙ ap (λ (f : Facts). releases_by f RecordEnd) (sym (facts-left j mid t.run.0 x taken h)))
    ∙ sym (end-told (state_left j x) n true)))
    (put_out-entities released) (λ place. at-put_out place released) t.kept t.run.1 e
