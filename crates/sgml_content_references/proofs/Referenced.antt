-- A reference to a data entity that is taken as one piece behind a run.
use Rattle.std.specs.Prelude.{◌≡◌, ℕ, ◌<◌, ◌≤◌, Bool, List, [], ◌∷◌, ◌++◌, Option, Some, None, length, All, zero, suc, Result, Ok}
use Rattle.std.proofs.Common.{refl, sym, ap, ◌∙◌, append-nil, arith}
use Rattle.std.proofs.lemmas.List.Elements.{All-append}
use Rattle.sgml_text.specs.declared.place.Place.{Place}
use Rattle.sgml_text.specs.declared.unit.Unit.{Unit as AnyUnit}
use Rattle.sgml_text.specs.Units.{characters}
use Rattle.sgml_theory_reading.specs.records.Items.{Data as DataItem}
use Rattle.sgml_theory_reading.specs.records.Facts.{Facts}
use Rattle.sgml_entity.specs.declared.kinds.Body.{Body}
use Rattle.sgml_entity.specs.declared.kinds.Body.TheVariants as body
use Rattle.sgml_scan.specs.declared.state.Token.{Token}
use Rattle.sgml_dtd.specs.Doctypes.{Doctype}
use Rattle.sgml_events.specs.declared.event.Event.{Event}
use Rattle.sgml_events.specs.declared.event.Event.TheVariants as event
use Rattle.sgml_content_steps.specs.said.Told.{said_data, all_said}
use Rattle.sgml_theory_reading.specs.Names.{Text}
use Rattle.sgml_theory_reading.specs.Types.{body_of}
use Rattle.sgml_theory_reading.specs.Facets.{effect, items_of, is_omitted, is_omitted_start, is_start, ended_type, specified, turn, border, declares, map_set, stage_after, subset_named, token}
use Rattle.sgml_theory_reading.specs.State.{State}
use Rattle.sgml_theory_reading.specs.Characters.{facts_in, kind_noted}
use Rattle.sgml_theory_reading.specs.Events.{Event as Said, Byte, SpecificData, External, shown, body_events, events_at}
use Rattle.sgml_theory_reading.specs.Lines.{sdata_of}
use Rattle.sgml_declared.specs.theory_spelling.Attributes.{unvalued}
use Rattle.sgml_declared.specs.theory_spelling.Sized.{sized}
use Rattle.sgml_declared.specs.theory_spelling.Spelled.{forms}
use Rattle.sgml_declared.specs.theory_standing.Kept.{Kept}
use Rattle.sgml_declared.specs.theory_standing.Held.{state_of}
use Rattle.sgml_infer.specs.declared.visible.Visible.TheVariants as visible
use Rattle.sgml_prolog_steps.specs.Found.{rest_in}
use Rattle.sgml_prolog_steps.specs.declared.stepping.Stop.{Stop}
use Rattle.sgml_content_steps.specs.Content.{Content, IsContent}
use Rattle.sgml_content_steps.specs.Steps.{IsAt, entities_told}
use Rattle.sgml_content_steps.specs.declared.run.Run.{Run}
use Rattle.sgml_content_steps.specs.Runs.{IsRun, state_left}
use Rattle.sgml_content_steps.proofs.Standing.{left-by}
use Rattle.sgml_content_references.specs.declared.entity.Said.{Said as Referred}
use Rattle.sgml_content_data.specs.Taking.{put_out}
use Rattle.sgml_content_data.specs.Steps.{TellsPiece}
use Rattle.sgml_content_data.proofs.Quiet.{IsQuiet}
use Rattle.sgml_content_data.proofs.Told.{put_out_at, bytes_said, said-append, entities-append, said-put_out, put_out-entities}
use Rattle.sgml_content_data.proofs.Judged.{IsText, IsJudgedFrom}
use Rattle.sgml_content_data.proofs.Data.{taken-from, facts-left, at-put_out, piece-taken}
use Rattle.sgml_content_references.specs.declared.event.Entity.{Entity}
use Rattle.sgml_content_references.specs.declared.event.Entity.TheVariants as entity
use Rattle.sgml_content_references.specs.Entities.{chars_told, units_of_sdata, events_by, told_for, kind_of, IsEntityTaken, TellsEntity}

-- IT IS #PCDATA, and opens and closes nothing
pub entity-text : (e : Entity) → IsText (kind_of e)
unfolding token unvalued
entity-text (entity.Internal number) = record { token_is = refl; none_undefined = λ s. refl; none_unvalued = λ s. refl; judged_is = λ s. refl; accepted_is = λ s. refl; entities = refl }
entity-text (entity.External number) = record { token_is = refl; none_undefined = λ s. refl; none_unvalued = λ s. refl; judged_is = λ s. refl; accepted_is = λ s. refl; entities = refl }

pub entity-quiet : (e : Entity) → IsQuiet (kind_of e) (Some DataItem)
unfolding turn border declares subset_named is_omitted effect is_start is_omitted_start ended_type specified map_set items_of stage_after
entity-quiet (entity.Internal number) = record {
  turn_is = refl;
  border_is = refl;
  declares_none = λ d. refl;
  names_none = refl;
  of_content = refl;
  written = refl;
  stays = refl;
  no_start = refl;
  no_omitted_start = refl;
  ends_none = refl;
  specifies_none = refl;
  sets_none = refl;
  items = refl;
  stage = refl;
}
entity-quiet (entity.External number) = record {
  turn_is = refl;
  border_is = refl;
  declares_none = λ d. refl;
  names_none = refl;
  of_content = refl;
  written = refl;
  stays = refl;
  no_start = refl;
  no_omitted_start = refl;
  ends_none = refl;
  specifies_none = refl;
  sets_none = refl;
  items = refl;
  stage = refl;
}

pub entity-noted : (z : State) (e : Entity) → kind_noted z (kind_of e) ≡ kind_of e
unfolding kind_noted
entity-noted z (entity.Internal number) = refl
entity-noted z (entity.External number) = refl

-- WHAT IT TELLS in a state of this document type
abbrev pub said_for : Doctype → Entity → List Said
said_for d (entity.Internal number) = body_events number (body_of d number)
said_for d (entity.External number) = External number ∷ []

entity-told : (s : State) (n : ℕ) (e : Entity) → events_at forms s (sized n (kind_of e)) ≡ put_out_at (facts_in s.record_ends).waiting ++ said_for s.context.doctype e
unfolding shown
entity-told s n (entity.Internal number) = append-nil (put_out_at (facts_in s.record_ends).waiting ++ body_events number (body_of s.context.doctype number))
entity-told s n (entity.External number) = append-nil (put_out_at (facts_in s.record_ends).waiting ++ (External number ∷ []))

-- and what the events say
pub said-characters : (d : Doctype) (bs : Text) → said_data d (characters bs) ≡ bytes_said bs
said-characters d [] = refl
said-characters d (b ∷ bs) = ap (λ es. Byte b ∷ es) (said-characters d bs)

pub said-chars : (d : Doctype) (us : List AnyUnit) → all_said d (chars_told us) ≡ said_data d us
said-chars d [] = refl
said-chars d (u ∷ us) = append-nil (said_data d (u ∷ us))

said-body : (d : Doctype) (number : ℕ) (b : Option Body) → body_of d number ≡ b → all_said d (events_by number b) ≡ body_events number b
said-body d number None e = refl
said-body d number (Some (body.Cdata text)) e = said-chars d (characters text) ∙ said-characters d text
said-body d number (Some (body.Sdata text)) e = ap (λ o. SpecificData number (sdata_of o) ∷ []) e
said-body d number (Some (body.Sgml text)) e = refl
said-body d number (Some (body.Pi text)) e = refl
said-body d number (Some (body.External external)) e = refl
said-body d number (Some (body.ExternalData kind external notation)) e = refl

said-entity : (d : Doctype) (e : Entity) → all_said d (told_for d e) ≡ said_for d e
said-entity d (entity.Internal number) = said-body d number (body_of d number) refl
said-entity d (entity.External number) = refl

pub said-behind : (d : Doctype) (released : Bool) (e : Entity) → all_said d (put_out released ++ told_for d e) ≡ put_out_at released ++ said_for d e
said-behind d released e = said-append d (put_out released) (told_for d e) ∙ (λ i. said-put_out d released i ++ said-entity d e i)

-- no instruction is among them, and no start
pub none-chars : (us : List AnyUnit) → entities_told (chars_told us) ≡ []
none-chars [] = refl
none-chars (u ∷ us) = refl

none-body : (number : ℕ) (b : Option Body) → entities_told (events_by number b) ≡ []
none-body number None = refl
none-body number (Some (body.Cdata text)) = none-chars (characters text)
none-body number (Some (body.Sdata text)) = refl
none-body number (Some _) = refl

none-entity : (d : Doctype) (e : Entity) → entities_told (told_for d e) ≡ []
none-entity d (entity.Internal number) = none-body number (body_of d number)
none-entity d (entity.External number) = refl

pub none-behind : (d : Doctype) (released : Bool) (e : Entity) → entities_told (put_out released ++ told_for d e) ≡ []
none-behind d released e = entities-append (put_out released) (told_for d e) ∙ (λ i. put_out-entities released i ++ none-entity d e i)

at-none : (place : Place) → All (IsAt place) []
at-none place k d l = absurd (omega (arith, l))

at-one : (place : Place) (e : Event) → IsAt place e → All (IsAt place) (e ∷ [])
at-one place e at zero d l = at
at-one place e at (suc k) d l = absurd (omega (arith, l))

pub at-chars : (place : Place) (us : List AnyUnit) → All (IsAt place) (chars_told us)
at-chars place [] = at-none place
at-chars place (u ∷ us) = at-one place (event.Chars (u ∷ us)) tt

at-body : (place : Place) (number : ℕ) (b : Option Body) → All (IsAt place) (events_by number b)
at-body place number None = at-none place
at-body place number (Some (body.Cdata text)) = at-chars place (characters text)
at-body place number (Some (body.Sdata text)) = at-chars place (units_of_sdata number)
at-body place number (Some _) = at-none place

at-entity : (place : Place) (d : Doctype) (e : Entity) → All (IsAt place) (told_for d e)
at-entity place d (entity.Internal number) = at-body place number (body_of d number)
at-entity place d (entity.External number) = at-one place (event.DataRef number) tt

pub at-behind : (place : Place) (d : Doctype) (released : Bool) (e : Entity) → All (IsAt place) (put_out released ++ told_for d e)
at-behind place d released e = All-append (IsAt place) (put_out released) (told_for d e) (at-put_out place released) (at-entity place d e)

-- IT IS TAKEN behind the run
pub entity-taken : (texts : List (ℕ × Text)) (old j new : Content) (before after : List Event) (run : Run) (e : Entity) (n : ℕ) (events : List Event)
    → IsContent old → IsJudgedFrom old j → IsRun j visible.Chars run → 0 < n → n ≤ length (rest_in old.kept texts)
    → events ≡ told_for j.kept.doctype e → IsEntityTaken j new n events before after → TellsPiece texts n (kind_of e) old new before after (Ok tt)
entity-taken texts old j new before after run e n events was from r some l u d =
    let t = d.taken in
    let mid = t.after_run in
    let told = d.run_told in
    let taken = taken-from j new n DataItem before told d.released t in
    let same : mid.kept.doctype ≡ j.kept.doctype = ap (λ (k : Kept). k.doctype) t.texts in
    piece-taken texts old j mid new t.run.0 (put_out d.released ++ told_for j.kept.doctype e) before told after run (kind_of e) (Some DataItem) n was from r taken
    (entity-text e) (entity-quiet e) some l (λ x h. entity-noted (state_of x) e)
    (λ x h. ap (λ (z : Doctype). all_said z (put_out d.released ++ told_for j.kept.doctype e)) same
    ∙ (said-behind j.kept.doctype d.released e
    ∙ ((λ i. put_out_at ((t.puts_out ∙ ap (λ (f : Facts). f.waiting) (sym (facts-left j mid t.run.0 x taken h))) i) ++ said_for (sym (left-by j x h).doctype i) e)
    ∙ sym (entity-told (state_left j x) n e))))
    (none-behind j.kept.doctype d.released e) (λ place. at-behind place j.kept.doctype d.released e) t.kept t.run.1
    (d.told ∙ ap (λ es. told ++ (put_out d.released ++ es)) u)

-- WHERE IT STANDS NEXT
pub entity-tells : (is : Referred) (e : Entity) (number : ℕ) (texts : List (ℕ × Text)) (t : Token) (old new : Content) (before after : List Event) (result : Result (Unit {0}) Stop)
    → TellsPiece texts t.length (kind_of e) old new before after result → TellsEntity is (kind_of e) texts t number old new before after result
entity-tells is e number texts t old new before after result tells =
    (tells.0, tells.1, tells.2, λ c st next ended there. tells.3 c st ended (λ outside x h held. next.next ended there outside x held))
