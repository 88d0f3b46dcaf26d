-- What the tags of a run make of what stands inside the open elements, and what they tell (7.4, 7.5, 7.6.1, 11.6).
use Rattle.std.specs.Prelude.{ℕ, Bool, true, false, Some, List, [], ◌∷◌, ◌++◌, map}
use Rattle.sgml_text.specs.declared.place.Place.{Place}
use Rattle.sgml_text.specs.Units.{characters}
use Rattle.sgml_inside.specs.records.Items.{Subelement}
use Rattle.sgml_attr.specs.declared.value.AttrValue.{AttrValue}
use Rattle.sgml_infer.specs.sgml_dtd.Doctypes.{Doctype}
use Rattle.sgml_events.specs.declared.event.Event.{Event}
use Rattle.sgml_events.specs.declared.event.Event.TheVariants as event
use Rattle.sgml_theory_starts.specs.theory_reading.Types.{map_of_type}
use Rattle.sgml_theory_starts.specs.theory_reading.Nest.{without_first}
use Rattle.sgml_theory_starts.specs.theory_reading.Events.{releases_by}
use Rattle.sgml_infer.specs.Tables.{name_at}
use Rattle.sgml_inside.specs.Inside.{Inside, facts_of, noted_in, opened_in}

-- ELEMENTS END, from the inside out
abbrev pub ended_in : ℕ → Inside → Inside
ended_in n v = record v { elements = without_first v.elements; ended = Some n }

abbrev pub all_ended_in : List ℕ → Inside → Inside
all_ended_in [] v = v
all_ended_in (n ∷ ns) v = all_ended_in ns (ended_in n v)

abbrev pub ends_told : List ℕ → List Event
ends_told ns = map (λ n. event.End n) ns

-- ELEMENTS BEGIN, from the outside in, each a proper subelement of the one before it
abbrev pub begun_in : Doctype → ℕ → Inside → Inside
begun_in d n v = record v { elements = opened_in (map_of_type d (name_at d n)) (noted_in Subelement v.elements) }

abbrev pub all_begun_in : Doctype → List ℕ → Inside → Inside
all_begun_in d [] v = v
all_begun_in d (n ∷ ns) v = all_begun_in d ns (begun_in d n v)

-- the record end that waits is data directly before the start
abbrev pub record_end_told : Bool → List Event
record_end_told true = event.Chars (characters (13 ∷ [])) ∷ []
record_end_told false = []

abbrev pub start_told : Place → Inside → ℕ → List AttrValue → List Event
start_told place v n values = record_end_told (releases_by (facts_of v.elements) Subelement) ++ (event.Start n place values ∷ [])

abbrev pub starts_told : Doctype → Place → Inside → List ℕ → List (List AttrValue) → List Event
starts_told d place v [] vs = []
starts_told d place v (n ∷ ns) [] = []
starts_told d place v (n ∷ ns) (x ∷ xs) = start_told place v n x ++ starts_told d place (begun_in d n v) ns xs
