-- Each call makes of what stands inside the open elements what a tag of the run makes of it.
use Rattle.std.specs.Prelude.{◌≡◌, ◌+◌, ◌≤◌, ℕ, ◌++◌, List, [], ◌∷◌, Some, length, drop, reverse, slice_get}
use Rattle.std.proofs.Common.{sym, ap, ◌∙◌, append-nil}
use Rattle.std.proofs.lemmas.List.{append_assoc, reverse-append}
use Rattle.std.proofs.Math.ListN.{drop_of_length-le}
use Rattle.sgml_text.specs.declared.place.Place.{Place}
use Rattle.sgml_attr.specs.declared.value.AttrValue.{AttrValue}
use Rattle.sgml_infer.specs.sgml_dtd.Doctypes.{Doctype}
use Rattle.sgml_dtd_maps.specs.declared.uses.MapOf.{MapOf}
use Rattle.sgml_events.specs.declared.event.Event.{Event}
use Rattle.sgml_events.specs.declared.event.Event.TheVariants as event
use Rattle.sgml_inside.specs.records.Items.{Subelement}
use Rattle.sgml_theory_starts.specs.theory_reading.Types.{map_of_type}
use Rattle.sgml_theory_starts.specs.theory_reading.Nest.{without_first}
use Rattle.sgml_infer.specs.Tables.{name_at}
use Rattle.sgml_inside.specs.Inside.{Inside, noted_in, opened_in}
use Rattle.sgml_content_steps.proofs.Drops.{drop-at}
use Rattle.sgml_content_steps.specs.Begun.{ended_in, all_ended_in, ends_told, begun_in, all_begun_in, start_told, starts_told}

-- AN END
is-ended : (v new : Inside) (n : ℕ) → new.elements ≡ without_first v.elements → new.ended ≡ Some n → new.room ≡ v.room → new ≡ ended_in n v
is-ended v new n e f g = λ i. record { elements = e i; ended = f i; room = g i }

pub end-moves : (ns : List ℕ) (at n : ℕ) (v new : Inside) → slice_get ns at ≡ Some n → new.elements ≡ without_first v.elements → new.ended ≡ Some n → new.room ≡ v.room
    → all_ended_in (drop (at + 1) ns) new ≡ all_ended_in (drop at ns) v
end-moves ns at n v new e f g h =
    ap (all_ended_in (drop (at + 1) ns)) (is-ended v new n f g h) ∙ sym (ap (λ (ms : List ℕ). all_ended_in ms v) (drop-at ns at n e))

pub end-tells : (ns : List ℕ) (at n : ℕ) (before after : List Event) → slice_get ns at ≡ Some n → after ≡ before ++ event.End n ∷ []
    → after ++ ends_told (drop (at + 1) ns) ≡ before ++ ends_told (drop at ns)
end-tells ns at n before after e f =
    ap (λ (es : List Event). es ++ ends_told (drop (at + 1) ns)) f
    ∙ (append_assoc before (event.End n ∷ []) (ends_told (drop (at + 1) ns))
    ∙ sym (ap (λ (ms : List ℕ). before ++ ends_told ms) (drop-at ns at n e)))

pub ends-over : (ns : List ℕ) (at : ℕ) (v all : Inside) → length ns ≤ at → all_ended_in (drop at ns) v ≡ all → v ≡ all
ends-over ns at v all h e = sym (ap (λ (ms : List ℕ). all_ended_in ms v) (drop_of_length-le ns h)) ∙ e

pub ends-all-told : (ns : List ℕ) (at : ℕ) (told all : List Event) → length ns ≤ at → told ++ ends_told (drop at ns) ≡ all → told ≡ all
ends-all-told ns at told all h e = sym (ap (λ (ms : List ℕ). told ++ ends_told ms) (drop_of_length-le ns h) ∙ append-nil told) ∙ e

-- A START
pub is-begun : (d : Doctype) (n : ℕ) (old noted new : Inside) (m : MapOf)
    → noted.elements ≡ noted_in Subelement old.elements → noted.ended ≡ old.ended → noted.room ≡ old.room → m ≡ map_of_type d (name_at d n)
    → new.elements ≡ opened_in m noted.elements → new.ended ≡ noted.ended → new.room ≡ noted.room → new ≡ begun_in d n old
is-begun d n old noted new m e f g map p q r =
    λ i. record { elements = (p ∙ (λ j. opened_in (map j) (e j))) i; ended = (q ∙ f) i; room = (r ∙ g) i }

-- one of a run, with the values that are left of it, the last first
first-left : (left rest : List (List AttrValue)) (x : List AttrValue) → left ≡ rest ++ x ∷ [] → reverse left ≡ x ∷ reverse rest
first-left left rest x e = ap reverse e ∙ reverse-append rest (x ∷ [])

pub start-moves : (d : Doctype) (ns : List ℕ) (at n : ℕ) (v new : Inside) → slice_get ns at ≡ Some n → new ≡ begun_in d n v
    → all_begun_in d (drop (at + 1) ns) new ≡ all_begun_in d (drop at ns) v
start-moves d ns at n v new e f =
    ap (all_begun_in d (drop (at + 1) ns)) f ∙ sym (ap (λ (ms : List ℕ). all_begun_in d ms v) (drop-at ns at n e))

pub start-tells : (d : Doctype) (place : Place) (ns : List ℕ) (at n : ℕ) (v new : Inside) (x : List AttrValue) (left rest : List (List AttrValue)) (before after : List Event)
    → slice_get ns at ≡ Some n → left ≡ rest ++ x ∷ [] → new ≡ begun_in d n v → after ≡ before ++ start_told place v n x
    → after ++ starts_told d place new (drop (at + 1) ns) (reverse rest) ≡ before ++ starts_told d place v (drop at ns) (reverse left)
start-tells d place ns at n v new x left rest before after e f g h =
    (λ i. h i ++ starts_told d place (g i) (drop (at + 1) ns) (reverse rest))
    ∙ (append_assoc before (start_told place v n x) (starts_told d place (begun_in d n v) (drop (at + 1) ns) (reverse rest))
    ∙ sym (λ i. before ++ starts_told d place v (drop-at ns at n e i) (first-left left rest x f i)))

pub starts-over : (d : Doctype) (ns : List ℕ) (at : ℕ) (v all : Inside) → length ns ≤ at → all_begun_in d (drop at ns) v ≡ all → v ≡ all
starts-over d ns at v all h e = sym (ap (λ (ms : List ℕ). all_begun_in d ms v) (drop_of_length-le ns h)) ∙ e

pub starts-all-told : (d : Doctype) (place : Place) (ns : List ℕ) (at : ℕ) (v : Inside) (xs : List (List AttrValue)) (told all : List Event) → length ns ≤ at
    → told ++ starts_told d place v (drop at ns) xs ≡ all → told ≡ all
starts-all-told d place ns at v xs told all h e =
    sym (ap (λ (ms : List ℕ). told ++ starts_told d place v ms xs) (drop_of_length-le ns h) ∙ append-nil told) ∙ e
