-- How many elements are open while a run is taken, how much is told, and of which places and types.
use Rattle.std.specs.Prelude.{◌≡◌, ◌+◌, ◌-◌, ◌≤◌, ℕ, ◌++◌, Bool, true, false, List, [], ◌∷◌, IfSome, All, length, map}
use Rattle.std.proofs.Common.{refl, ◌∙◌, arith, length-append}
use Rattle.std.proofs.lemmas.List.{length-map, length-reverse}
use Rattle.std.proofs.lemmas.List.Elements.{All-append, All-nil, All-cons, All-head, All-tail}
use Rattle.std.proofs.lemmas.List.Concat.{flat_map-append}
use Rattle.sgml_text.specs.declared.place.Place.{Place}
use Rattle.sgml_attr.specs.declared.value.AttrValue.{AttrValue}
use Rattle.sgml_infer.specs.sgml_dtd.Doctypes.{Doctype}
use Rattle.sgml_events.specs.declared.event.Event.TheVariants as event
use Rattle.sgml_inside.specs.records.Items.{Subelement}
use Rattle.sgml_theory_starts.specs.theory_reading.Nest.{without_first}
use Rattle.sgml_theory_starts.specs.theory_reading.Context.{Level}
use Rattle.sgml_theory_starts.specs.theory_reading.Events.{releases_by}
use Rattle.sgml_infer.specs.Tables.{IsNumber}
use Rattle.sgml_infer.specs.declared.tree.Tree.{Tree}
use Rattle.sgml_infer.specs.Trees.{level_of, open_levels, context_in, IsTreeOf}
use Rattle.sgml_infer.proofs.Links.{taken-length}
use Rattle.sgml_inside.specs.declared.inside.Inner.{Inner}
use Rattle.sgml_inside.specs.Inside.{Inside, facts_of, noted_in}
use Rattle.sgml_inside.specs.Laws.{AreInForce}
use Rattle.sgml_content_steps.specs.Steps.{entity_told, entities_told, IsAt}
use Rattle.sgml_content_steps.specs.Begun.{ended_in, all_ended_in, ends_told, begun_in, all_begun_in, record_end_told, start_told, starts_told}

-- AS MANY as are open
as-many : (d : Doctype) (ls : List Level) (xs : List Inner) → AreInForce d ls xs → length xs ≡ length ls
as-many d [] [] is = refl
as-many d (l ∷ ls) (x ∷ xs) is = let e = as-many d ls xs is.1 in omega arith
as-many d [] (x ∷ xs) is = absurd is
as-many d (l ∷ ls) [] is = absurd is

pub as-deep : (d : Doctype) (tree : Tree) (xs : List Inner) → IsTreeOf d tree → AreInForce d (context_in d tree).levels xs → length xs ≡ tree.depth
as-deep d tree xs is maps =
    as-many d (context_in d tree).levels xs maps
    ∙ (length-reverse (map (level_of d) (open_levels tree))
    ∙ (length-map (open_levels tree) (level_of d) ∙ taken-length tree.depth tree.levels.items is.places.places))

one-less : (xs : List Inner) → length (without_first xs) ≡ length xs - 1
one-less [] = refl
one-less (x ∷ xs) = omega arith

pub ended-length : (ns : List ℕ) (v : Inside) → length (all_ended_in ns v).elements ≡ length v.elements - length ns
ended-length [] v = omega arith
ended-length (n ∷ ns) v =
    let e = ended-length ns (ended_in n v) in
    let f = one-less v.elements in
    omega arith

as-noted : (xs : List Inner) → length (noted_in Subelement xs) ≡ length xs
as-noted [] = refl
as-noted (x ∷ xs) = refl

pub begun-length : (d : Doctype) (n : ℕ) (v : Inside) → length (begun_in d n v).elements ≡ length v.elements + 1
begun-length d n v = let e = as-noted v.elements in omega arith

-- WHAT STAYS
pub ended-room : (ns : List ℕ) (v : Inside) → (all_ended_in ns v).room ≡ v.room
ended-room [] v = refl
ended-room (n ∷ ns) v = ended-room ns (ended_in n v)

pub begun-room : (d : Doctype) (ns : List ℕ) (v : Inside) → (all_begun_in d ns v).room ≡ v.room
begun-room d [] v = refl
begun-room d (n ∷ ns) v = begun-room d ns (begun_in d n v)

pub begun-ended : (d : Doctype) (ns : List ℕ) (v : Inside) → (all_begun_in d ns v).ended ≡ v.ended
begun-ended d [] v = refl
begun-ended d (n ∷ ns) v = begun-ended d ns (begun_in d n v)

-- the element that ended last has a type of the tables
pub ended-number : (d : Doctype) (ns : List ℕ) (v : Inside) → All (IsNumber d) ns → IfSome v.ended (IsNumber d) → IfSome (all_ended_in ns v).ended (IsNumber d)
ended-number d [] v all is = is
ended-number d (n ∷ ns) v all is = ended-number d ns (ended_in n v) (All-tail (IsNumber d) n ns all) (All-head (IsNumber d) n ns all)

-- WHAT IS TOLD

pub ends-count : (ns : List ℕ) → length (ends_told ns) ≡ length ns
ends-count ns = length-map ns (λ n. event.End n)

record-end-count : (b : Bool) → length (record_end_told b) ≤ 1
record-end-count true = omega arith
record-end-count false = omega arith

pub start-count : (place : Place) (v : Inside) (n : ℕ) (values : List AttrValue) → length (start_told place v n values) ≤ 2
start-count place v n values =
    let b = releases_by (facts_of v.elements) Subelement in
    let e = record-end-count b in
    let f = length-append (record_end_told b) (event.Start n place values ∷ []) in
    omega arith

-- no instruction
ends-entities : (ns : List ℕ) → entities_told (ends_told ns) ≡ []
ends-entities [] = refl
ends-entities (n ∷ ns) = ends-entities ns

start-entities : (place : Place) (b : Bool) (n : ℕ) (values : List AttrValue) → entities_told (record_end_told b ++ (event.Start n place values ∷ [])) ≡ []
start-entities place true n values = refl
start-entities place false n values = refl

starts-entities : (d : Doctype) (place : Place) (v : Inside) (ns : List ℕ) (vs : List (List AttrValue)) → entities_told (starts_told d place v ns vs) ≡ []
starts-entities d place v [] vs = refl
starts-entities d place v (n ∷ ns) [] = refl
starts-entities d place v (n ∷ ns) (x ∷ xs) =
    flat_map-append entity_told (start_told place v n x) (starts_told d place (begun_in d n v) ns xs)
    ∙ (λ i. start-entities place (releases_by (facts_of v.elements) Subelement) n x i ++ starts-entities d place (begun_in d n v) ns xs i)

pub run-entities : (d : Doctype) (place : Place) (v : Inside) (es ns : List ℕ) (vs : List (List AttrValue)) → entities_told (ends_told es ++ starts_told d place v ns vs) ≡ []
run-entities d place v es ns vs =
    flat_map-append entity_told (ends_told es) (starts_told d place v ns vs) ∙ (λ i. ends-entities es i ++ starts-entities d place v ns vs i)

-- each start has the place
ends-at : (place : Place) (ns : List ℕ) → All (IsAt place) (ends_told ns)
ends-at place [] = All-nil (IsAt place)
ends-at place (n ∷ ns) = All-cons (IsAt place) (event.End n) (ends_told ns) tt (ends-at place ns)

record-end-at : (place : Place) (b : Bool) → All (IsAt place) (record_end_told b)
record-end-at place true = All-cons (IsAt place) _ [] tt (All-nil (IsAt place))
record-end-at place false = All-nil (IsAt place)

starts-at : (d : Doctype) (place : Place) (v : Inside) (ns : List ℕ) (vs : List (List AttrValue)) → All (IsAt place) (starts_told d place v ns vs)
starts-at d place v [] vs = All-nil (IsAt place)
starts-at d place v (n ∷ ns) [] = All-nil (IsAt place)
starts-at d place v (n ∷ ns) (x ∷ xs) =
    All-append (IsAt place) (start_told place v n x) (starts_told d place (begun_in d n v) ns xs)
    (All-append (IsAt place) (record_end_told (releases_by (facts_of v.elements) Subelement)) (event.Start n place x ∷ [])
    (record-end-at place (releases_by (facts_of v.elements) Subelement))
    (All-cons (IsAt place) (event.Start n place x) [] refl (All-nil (IsAt place))))
    (starts-at d place (begun_in d n v) ns xs)

pub run-at : (d : Doctype) (place : Place) (v : Inside) (es ns : List ℕ) (vs : List (List AttrValue)) → All (IsAt place) (ends_told es ++ starts_told d place v ns vs)
run-at d place v es ns vs = All-append (IsAt place) (ends_told es) (starts_told d place v ns vs) (ends-at place es) (starts-at d place v ns vs)
