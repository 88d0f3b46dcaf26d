-- What a string stands for that stands for its bytes; and where it is no content.
use Rattle.std.specs.Prelude.{◌≡◌, ℕ, ◌<◌, ◌≤◌, ◌&&◌, Bool, true, false, List, [], ◌∷◌, Some, None, length, Result, Ok, if◌then◌else◌}
use Rattle.std.specs.List.{list_all}
use Rattle.std.proofs.Common.{refl, sym, ap, ◌∙◌, subst, append-nil}
use Rattle.std.proofs.lemmas.Bool.{and_parts}
use Rattle.sgml_text.specs.Characters.{is_separator}
use Rattle.sgml_theory_reading.specs.records.Items.{RecordStart}
use Rattle.sgml_theory_reading.specs.records.Facts.{Facts, takes_end}
use Rattle.sgml_scan.specs.declared.state.Token.{Token}
use Rattle.sgml_events.specs.declared.event.Event.{Event}
use Rattle.sgml_theory_reading.specs.Names.{Text}
use Rattle.sgml_theory_reading.specs.Pieces.{Meaning, Ordinary, ShortRef, Rs}
use Rattle.sgml_theory_reading.specs.Facets.{effect, items_of, is_omitted, is_omitted_start, is_start, ended_type, specified, turn, border, declares, map_set, stage_after, subset_named, token, is_finish}
use Rattle.sgml_theory_reading.specs.Context.{context_after}
use Rattle.sgml_theory_reading.specs.State.{State}
use Rattle.sgml_theory_reading.specs.Characters.{has_items, some_content, ordinary, facts_in, kind_noted}
use Rattle.sgml_theory_reading.specs.Events.{shown, events_at}
use Rattle.sgml_theory_reading.specs.Unread.{Outside}
use Rattle.sgml_declared.specs.theory_spelling.Sized.{sized}
use Rattle.sgml_declared.specs.theory_spelling.Spelled.{forms}
use Rattle.sgml_declared.specs.theory_standing.Held.{Held, state_of, IsSpelledIn}
use Rattle.sgml_declared.specs.theory_standing.Moves.{stands_alone, held_after}
use Rattle.sgml_declared.proofs.theory_standing.Alone.{alone-moves}
use Rattle.sgml_inside.specs.Inside.{facts_of}
use Rattle.sgml_prolog_steps.specs.Found.{rest_in}
use Rattle.sgml_prolog_steps.specs.declared.stepping.Stop.{Stop}
use Rattle.sgml_content_steps.specs.Content.{Content, Holds, IsContent}
use Rattle.sgml_content_steps.specs.Steps.{Goes, IsStep, Tells}
use Rattle.sgml_content_references.specs.Strings.{string_in, StandsFor}
use Rattle.sgml_content_data.specs.Taking.{with_item}
use Rattle.sgml_content_data.specs.Steps.{TellsPiece}
use Rattle.sgml_content_data.proofs.Roles.{around-held, facts-held, live-held}
use Rattle.sgml_content_data.proofs.Quiet.{start-quiet}
use Rattle.sgml_content_data.proofs.Holding.{behind, beside, quiet-holds}
use Rattle.sgml_content_data.proofs.Alone.{IsAlone, start-alone, alone-same, ok-step, at-none, piece-passed}
use Rattle.sgml_content_references.specs.Ordinary.{some_by, has_items_in, is_content_in, ordinary_in, with_string}
use Rattle.sgml_content_references.proofs.Shown.{content-is, none-told}
use Rattle.sgml_content_references.proofs.Alike.{plain, holds-like, string-content, plain-next}

-- WHAT IT STANDS FOR, by what is kept
items-held : (c : Content) (x : Held) (string : Text) → Holds c x → has_items (state_of x) string ≡ has_items_in c string
items-held c x string h = λ i. if list_all is_separator string then (around-held c x h i).text else true

content-held : (c : Content) (x : Held) (string : Text) → Holds c x
    → some_content (facts_in (state_of x).record_ends) string ≡ some_by (takes_end (facts_of c.inside.elements)) string
content-held c x string h =
    ap (λ (f : Facts). some_content f string) (ap facts_in h.record_ends ∙ facts-held c.inside.elements) ∙ sym (content-is string (facts_of c.inside.elements))

pub ordinary-held : (c : Content) (x : Held) (string : Text) → Holds c x → ordinary (state_of x) string ≡ ordinary_in c string
unfolding ordinary
ordinary-held c x string h = λ i. Ordinary (items-held c x string h i) (items-held c x string h i && content-held c x string h i)

pub noted-as : (c : Content) (x : Held) (string : Text) (m : Meaning) (items content : Bool) → Holds c x → m ≡ Ordinary items content → ordinary_in c string ≡ m
    → kind_noted (state_of x) (ShortRef string m) ≡ ShortRef string m
unfolding kind_noted
noted-as c x string m items content h f e =
    subst (λ (z : Meaning). kind_noted (state_of x) (ShortRef string z) ≡ ShortRef string z) (sym f)
    (ap (λ (z : Meaning). ShortRef string z) (ordinary-held c x string h ∙ (e ∙ f)))

pub ordinary-tells : (texts : List (ℕ × Text)) (t : Token) (old new : Content) (before after : List Event) (result : Result (Unit {0}) Stop)
    → StandsFor texts t old (λ s own. ordinary s own)
    → TellsPiece texts t.length (ShortRef (string_in old.kept texts t.length) (ordinary_in old (string_in old.kept texts t.length))) old new before after result
    → Tells texts t old new before after result
ordinary-tells texts t old new before after result stands tells =
    let string = string_in old.kept texts t.length in (
      tells.0,
      tells.1,
      tells.2,
      λ c st ended there. tells.3 c st ended (λ outside x h held.
          subst (λ (m : Meaning). IsSpelledIn outside x texts ended (Ok (sized t.length (ShortRef string m)))) (ordinary-held old x string h) (stands st ended there outside x h held)),
    )

-- by the tests
pub means-content : (c : Content) (string : Text) → is_content_in c string ≡ true → ordinary_in c string ≡ Ordinary true true
means-content c string e =
    let parts = and_parts (has_items_in c string) (some_by (takes_end (facts_of c.inside.elements)) string) e in
    λ i. Ordinary (parts.0 i) (e i)

pub means-items : (c : Content) (string : Text) → has_items_in c string ≡ true → is_content_in c string ≡ false → ordinary_in c string ≡ Ordinary true false
means-items c string e f = λ i. Ordinary (e i) (f i)

pub means-nothing : (c : Content) (string : Text) → has_items_in c string ≡ false → is_content_in c string ≡ false → ordinary_in c string ≡ Ordinary false false
means-nothing c string e f = λ i. Ordinary (e i) (f i)

none-by : (items content : Bool) → items ≡ true → (items && content) ≡ false → content ≡ false
none-by true content e f = f
none-by false content e f = absurd (never e)
  where
    never : false ≡ true → ⊥
    never e = cc

-- ONE WITHOUT ITEMS
nothing-alone : (string : Text) → IsAlone (ShortRef string (Ordinary false false)) None
unfolding turn border declares subset_named is_omitted effect is_start is_omitted_start ended_type specified map_set items_of stage_after token is_finish
nothing-alone string = record {
  quiet = record {
    turn_is = refl;
    border_is = refl;
    declares_none = λ d. refl;
    names_none = refl;
    of_content = refl;
    written = refl;
    stays = refl;
    no_start = refl;
    no_omitted_start = refl;
    ends_none = refl;
    specifies_none = refl;
    sets_none = refl;
    items = refl;
    stage = refl;
  };
  alone = refl;
  no_token = refl;
  entities = refl;
}

nothing-told : (s : State) (n : ℕ) (string : Text) → events_at forms s (sized n (ShortRef string (Ordinary false false))) ≡ []
unfolding shown
nothing-told s n string = refl

pub nothing-passed : (texts : List (ℕ × Text)) (n : ℕ) (string : Text) (old new : Content) (before : List Event) → IsContent old → 0 < n → n ≤ length (rest_in old.kept texts)
    → has_items_in old string ≡ false → is_content_in old string ≡ false → new ≡ with_item n None old
    → TellsPiece texts n (ShortRef string (ordinary_in old string)) old new before before (Ok tt)
nothing-passed texts n string old new before is some l e f same =
    let means = means-nothing old string e f in
    subst (λ (m : Meaning). TellsPiece texts n (ShortRef string m) old new before before (Ok tt)) (sym means)
    (piece-passed texts n (ShortRef string (Ordinary false false)) None old new before is some l (nothing-alone string)
    (λ x h. noted-as old x string (Ordinary false false) false false h refl means) (λ x h. nothing-told (state_of x) n string) same)

-- SEPARATORS of which none is content
separators-alone : (string : Text) → stands_alone (plain string false) ≡ true
unfolding token effect is_finish
separators-alone string = refl

separators-told : (s : State) (n : ℕ) (string : Text) → some_by (takes_end (facts_in s.record_ends)) string ≡ false → events_at forms s (sized n (plain string false)) ≡ []
unfolding shown
separators-told s n string e = none-told string (facts_in s.record_ends) e

separators-go : (outside : Outside) (texts : List (ℕ × Text)) (ended : Bool) (c : Content) (x : Held) (string : Text) (n : ℕ) → IsContent c → Holds c x
    → n ≤ length (rest_in c.kept texts) → IsSpelledIn outside x texts ended (Ok (sized n (plain string false))) → ordinary_in c string ≡ Ordinary true false
    → some_by (takes_end (facts_of c.inside.elements)) string ≡ false → Goes outside texts ended x (with_string n string c) []
separators-go outside texts ended c x string n is h l s means none =
    let y = plain string false in
    let told = separators-told (state_of x) n string (ap (λ t. some_by t string) (live-held c x h) ∙ none) in
    record {
      moves = behind [] n y ∷ [];
      now = held_after outside (behind [] n y) x;
      next = (
        plain-next outside texts ended c x [] string false n is h l s (noted-as c x string (Ordinary true false) true false h refl means)
            (alone-moves (state_of x) (sized n y) (separators-alone string)),
        refl,
      );
      holds = holds-like outside string false n [] x c
          (quiet-holds outside x [] Rs n (Some RecordStart) c start-quiet is.instance h.kept (ap (context_after (sized n Rs)) h.context ∙ alone-same Rs (Some RecordStart) n c start-alone)
          (beside c x h)) h.record_ends;
      said = sym (append-nil (events_at forms (state_of x) (sized n y)) ∙ told);
      entities = refl;
      starts = refl;
    }

pub separators-passed : (texts : List (ℕ × Text)) (n : ℕ) (string : Text) (old new : Content) (before : List Event) → IsContent old → 0 < n → n ≤ length (rest_in old.kept texts)
    → has_items_in old string ≡ true → is_content_in old string ≡ false → new ≡ with_string n string old
    → TellsPiece texts n (ShortRef string (ordinary_in old string)) old new before before (Ok tt)
separators-passed texts n string old new before is some l e f same =
    let means = means-items old string e f in
    let none = none-by (has_items_in old string) (some_by (takes_end (facts_of old.inside.elements)) string) e f in
    subst (λ (m : Meaning). TellsPiece texts n (ShortRef string m) old new before before (Ok tt)) (sym means) (
      [],
      sym (append-nil before),
      at-none _,
      λ c st ended there. subst (λ (z : Content). IsStep c st texts ended old z [] (Ok tt)) (sym same)
          (ok-step c st texts ended old (with_string n string old) [] n is (string-content n string old is) refl some l
          (λ outside x h held. separators-go outside texts ended old x string n is h l (there outside x h held) means none)),
    )
