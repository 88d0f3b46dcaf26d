-- What the starts of a run make of what stands inside the open elements is what they make of the state.
use Rattle.std.specs.Prelude.{◌≡◌, ℕ, ◌++◌, Bool, true, false, List, [], ◌∷◌, map, if◌then◌else◌}
use Rattle.std.proofs.Common.{refl, sym, ap, ◌∙◌, append-nil}
use Rattle.std.proofs.lemmas.List.Concat.{flat_map-append}
use Rattle.sgml_text.specs.declared.place.Place.{Place}
use Rattle.sgml_attr.specs.declared.value.AttrValue.{AttrValue}
use Rattle.sgml_infer.specs.sgml_dtd.Doctypes.{Doctype}
use Rattle.sgml_dtd_maps.specs.declared.uses.MapOf.{MapOf}
use Rattle.sgml_dtd_maps.specs.declared.uses.MapOf.TheVariants as map_of
use Rattle.sgml_said.specs.Told.{said, all_said}
use Rattle.sgml_inside.specs.records.Items.{Subelement}
use Rattle.sgml_inside.specs.records.Facts.{no_facts}
use Rattle.sgml_theory_starts.specs.theory_reading.Names.{Name}
use Rattle.sgml_theory_starts.specs.theory_reading.Types.{map_of_type}
use Rattle.sgml_theory_starts.specs.theory_reading.Facets.{effect, ended_type, items_of, map_set, declares}
use Rattle.sgml_theory_starts.specs.theory_reading.Context.{Level, Context, context_after, levels_with, begun_level}
use Rattle.sgml_theory_starts.specs.theory_reading.Characters.{facts_in}
use Rattle.sgml_theory_starts.specs.theory_reading.Omission.{omitted_start}
use Rattle.sgml_theory_starts.specs.theory_reading.Maps.{first_set}
use Rattle.sgml_theory_starts.specs.theory_reading.Runs.{context_after_run}
use Rattle.sgml_theory_starts.specs.theory_reading.State.{State, first_noted, after_piece}
use Rattle.sgml_theory_starts.specs.theory_reading.Events.{Started, Byte, events_at, events_of_run, shown, releases_by}
use Rattle.sgml_theory_starts.specs.theory_spelling.Attributes.{valued}
use Rattle.sgml_theory_starts.specs.theory_spelling.Spelled.{forms}
use Rattle.sgml_theory_starts.specs.theory_standing.Held.{state_after_run}
use Rattle.sgml_infer.specs.Tables.{name_at}
use Rattle.sgml_infer.specs.Seen.{started}
use Rattle.sgml_inside.specs.declared.inside.Inner.{Inner}
use Rattle.sgml_inside.specs.Inside.{Inside, ends_in, facts_of, noted_in}
use Rattle.sgml_inside.specs.Laws.{AreInForce}
use Rattle.sgml_inside.proofs.Forced.{noted-is-after, opened-is-after, stays}
use Rattle.sgml_content_steps.specs.Starts.{start_at, IsStartValued, AreStartsValued}
use Rattle.sgml_content_steps.specs.Begun.{begun_in, all_begun_in, record_end_told, start_told, starts_told}
use Rattle.sgml_content_steps.proofs.Said.{same-name}
use Rattle.sgml_content_steps.proofs.Ended.{IsOf}

no-map : (ss : List MapOf) → first_set map_of.Parent ss ≡ ss
no-map [] = refl
no-map (s ∷ ss) = refl

-- ONE START
pub start-inside : (d : Doctype) (v : Inside) (s : State) (n : ℕ) → IsOf d v s → IsOf d (begun_in d n v) (after_piece (start_at d n) s)
unfolding after_piece effect ended_type items_of map_set
start-inside d v s n is =
    let m = map_of_type d (name_at d n) in
    let noted = noted_in Subelement v.elements in
    record {
      record_ends = ap (λ fs. no_facts ∷ first_noted (Subelement ∷ []) fs) is.record_ends
          ∙ sym ((opened-is-after m noted).0 ∙ ap (λ fs. no_facts ∷ fs) (noted-is-after Subelement v.elements).0);
      map_settings = ap (λ ss. map_of.Parent ∷ ss) (no-map s.map_settings ∙ is.map_settings)
          ∙ sym ((opened-is-after m noted).1 ∙ ap (λ ss. map_of.Parent ∷ ss) (noted-is-after Subelement v.elements).1);
      ended = is.ended;
    }

pub starts-inside : (d : Doctype) (ns : List ℕ) (v : Inside) (s : State) → IsOf d v s → IsOf d (all_begun_in d ns v) (state_after_run (started d ns) s)
starts-inside d [] v s is = is
starts-inside d (n ∷ ns) v s is = starts-inside d ns (begun_in d n v) (after_piece (start_at d n) s) (start-inside d v s n is)

-- THE MAPS in force
same-types : (n : Name) (ls : List Level) → map (λ (l : Level). l.element) (levels_with (omitted_start n).kind ls) ≡ map (λ (l : Level). l.element) ls
same-types n [] = refl
same-types n (l ∷ ls) = refl

pub start-forced : (d : Doctype) (n : ℕ) (v : Inside) (c : Context) → c.doctype ≡ d → AreInForce d c.levels v.elements
    → AreInForce d (context_after (start_at d n) c).levels (begun_in d n v).elements
unfolding context_after effect
start-forced d n v c e is =
    let ls = levels_with (start_at d n).kind c.levels in
    let noted = (stays d c.levels v.elements is).noted Subelement in
    let same = (stays d c.levels (noted_in Subelement v.elements) noted).same ls (same-types (name_at d n) c.levels) in
    (stays d ls (noted_in Subelement v.elements) same).opened (begun_level c.doctype (name_at d n) false)

same-doctype : (c : Context) (n : Name) → (context_after (omitted_start n) c).doctype ≡ c.doctype
unfolding context_after declares
same-doctype c n = refl

pub starts-forced : (d : Doctype) (ns : List ℕ) (v : Inside) (c : Context) → c.doctype ≡ d → AreInForce d c.levels v.elements
    → AreInForce d (context_after_run c (started d ns)).levels (all_begun_in d ns v).elements
starts-forced d [] v c e is = is
starts-forced d (n ∷ ns) v c e is =
    starts-forced d ns (begun_in d n v) (context_after (start_at d n) c) (same-doctype c (name_at d n) ∙ e) (start-forced d n v c e is)

-- WHAT IS TOLD
facts-alike : (xs : List Inner) → facts_in (ends_in xs) ≡ facts_of xs
facts-alike [] = refl
facts-alike (x ∷ xs) = refl

record-end-said : (d : Doctype) (b : Bool) → all_said d (record_end_told b) ≡ (if b then Byte 13 ∷ [] else [])
record-end-said d true = refl
record-end-said d false = refl

start-shows : (s : State) (n : Name) → events_at forms s (omitted_start n)
    ≡ (if releases_by (facts_in s.record_ends) Subelement then Byte 13 ∷ [] else []) ++ (Started n (valued s (omitted_start n).kind) ∷ [])
unfolding shown
start-shows s n = append-nil _

start-said : (d : Doctype) (place : Place) (v : Inside) (s : State) (n : ℕ) (values : List AttrValue) → IsOf d v s → IsStartValued d s n values
    → all_said d (start_told place v n values) ≡ events_at forms s (start_at d n)
start-said d place v s n values is h =
    let b = releases_by (facts_of v.elements) Subelement in
    let facts : facts_of v.elements ≡ facts_in s.record_ends = sym (ap facts_in is.record_ends ∙ facts-alike v.elements) in
    flat_map-append (said d) (record_end_told b) _
    ∙ ((λ i. record-end-said d b i ++ (Started (same-name d n i) (h.said i) ∷ []))
    ∙ (ap (λ f. (if releases_by f Subelement then Byte 13 ∷ [] else []) ++ (Started (name_at d n) (valued s (start_at d n).kind) ∷ [])) facts
    ∙ sym (start-shows s (name_at d n))))

pub starts-said : (d : Doctype) (place : Place) (ns : List ℕ) (vs : List (List AttrValue)) (v : Inside) (s : State) → IsOf d v s → AreStartsValued d s ns vs
    → all_said d (starts_told d place v ns vs) ≡ events_of_run forms s (started d ns)
starts-said d place [] vs v s is h = refl
starts-said d place (n ∷ ns) [] v s is h = absurd h
starts-said d place (n ∷ ns) (x ∷ xs) v s is h =
    flat_map-append (said d) (start_told place v n x) (starts_told d place (begun_in d n v) ns xs)
    ∙ (λ i. start-said d place v s n x is h.0 i ++ starts-said d place ns xs (begun_in d n v) (after_piece (start_at d n) s) (start-inside d v s n is) h.1 i)
