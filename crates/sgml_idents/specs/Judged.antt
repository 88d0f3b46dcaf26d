-- THE FAULT OF IDENTIFIERS, at its place.
use Rattle.std.specs.Prelude.{◌≡◌, ℕ, zero, suc, ◌||◌, ◌++◌, if◌then◌else◌, ⊤, Option, Some, None, List, [], ◌∷◌, Result, Ok, Err, map}
use Rattle.sgml_text.specs.declared.place.Place.{Place}
use Rattle.sgml_text.specs.declared.reason.Reason.{Reason}
use Rattle.sgml_text.specs.declared.reason.Reason.TheVariants.{Repeated, Dangling}
use Rattle.sgml_names.specs.Index.{names_of}
use Rattle.sgml_dtd.specs.Doctypes.{Doctype}
use Rattle.sgml_said.specs.theory_reading.Names.{Name}
use Rattle.sgml_said.specs.theory_reading.Types.{is_in}
use Rattle.sgml_said.specs.theory_reading.Identifiers.{id_fault, ids_of, references_of, some_in}
use Rattle.sgml_said.specs.theory_reading.Reads.{Attribute}
use Rattle.sgml_events.specs.declared.event.Event.{Event}
use Rattle.sgml_said.specs.Told.{all_said, attributes_with, start_attributes, attributes_of}
use Rattle.sgml_idents.specs.declared.idents.IdError.{IdError}
use Rattle.sgml_idents.specs.declared.idents.IdError.TheVariants as errors
use Rattle.sgml_idents.specs.declared.idents.Idents.{Idents}
use Rattle.sgml_idents.specs.declared.idents.Reference.{Reference}
use Rattle.sgml_idents.specs.Noted.{Start, Idref, starts_of, ids_in, noted, idrefs_at}
use Rattle.sgml_attr.specs.declared.value.AttrValue.{AttrValue}
use Rattle.sgml_attr.specs.declared.definition.Definition.{Definition}

-- the place of a start, by its number in their order
abbrev pub place_at : List Start → ℕ → Option Place
place_at [] k = None
place_at (s ∷ ss) zero = Some s.place
place_at (s ∷ ss) (suc k) = place_at ss k

-- the fault is that of the start with this number, which is at this place
abbrev pub IsFaultAt : Doctype → List Event → Place → Reason → Type 0
IsFaultAt d es place r = (k : ℕ) × (id_fault (all_said d es) ≡ Some (k, r)) × (place_at (starts_of d es) k ≡ Some place)

-- what is answered of the events of a document type
abbrev pub IsJudged : {T : Type 0} → Doctype → List Event → Result T IdError → Type 0
IsJudged d es (Ok x) = id_fault (all_said d es) ≡ None
IsJudged d es (Err (errors.Repeated place)) = IsFaultAt d es place Repeated
IsJudged d es (Err (errors.Dangling place)) = IsFaultAt d es place Dangling
IsJudged d es (Err errors.Memory) = ⊥

-- the same, unless there was no memory
abbrev pub IsJudgedUnless : {T : Type 0} → Doctype → List Event → Result T IdError → Type 0
IsJudgedUnless d es (Err errors.Memory) = ⊤
IsJudgedUnless d es result = IsJudged d es result

abbrev pub idrefs_kept : List Reference → List Idref
idrefs_kept rs = map (λ (r : Reference). record { place = r.place; name = r.name }) rs

-- what was noted of events
pub record HasNoted (i : Idents) (d : Doctype) (es : List Event) : Type 0 where
  pub ids : (name : Name) → is_in name (names_of i.ids) ≡ is_in name (ids_in (starts_of d es))
  pub repeated : i.repeated ≡ (noted [] (starts_of d es)).repeated
  pub idrefs : idrefs_kept i.references.items ≡ (noted [] (starts_of d es)).idrefs

-- the answer is this fault
abbrev pub IsAnswer : {T : Type 0} → Option (Place × Reason) → Result T IdError → Type 0
IsAnswer fault (Ok x) = fault ≡ None
IsAnswer fault (Err (errors.Repeated place)) = fault ≡ Some (place, Repeated)
IsAnswer fault (Err (errors.Dangling place)) = fault ≡ Some (place, Dangling)
IsAnswer fault (Err errors.Memory) = ⊥

-- what one more start adds
abbrev pub HasMore : Idents → Place → List Attribute → Idents → Option Place → Type 0
HasMore old place attributes new (Some first) = (new.repeated ≡ Some first) × (idrefs_kept new.references.items ≡ idrefs_kept old.references.items)
HasMore old place attributes new None =
    (new.repeated ≡ (if some_in (ids_of attributes) (names_of old.ids) then Some place else None))
    × (idrefs_kept new.references.items ≡ (if some_in (ids_of attributes) (names_of old.ids) then idrefs_kept old.references.items else (idrefs_kept old.references.items ++ idrefs_at place (references_of attributes))))

abbrev pub HasReferences : Idents → Place → List Attribute → Idents → Type 0
HasReferences old place attributes new = HasMore old place attributes new old.repeated

pub record HasStart (old : Idents) (place : Place) (attributes : List Attribute) (new : Idents) : Type 0 where
  pub references : HasReferences old place attributes new
  pub ids : (name : Name) → is_in name (names_of new.ids) ≡ (is_in name (names_of old.ids) || is_in name (ids_of attributes))

-- ONE EVENT MORE was noted, whose values these definitions have, whatever was noted before
abbrev pub NotesEvent : Idents → Idents → List Definition → Event → Type 0
NotesEvent old new definitions e =
    (d : Doctype) (es : List Event) → start_attributes definitions e ≡ attributes_of d e → HasNoted old d es → HasNoted new d (es ++ e ∷ [])

-- a table has those names too
abbrev pub HasToo : List Name → List Name → List Name → Type 0
HasToo old names new = (name : Name) → is_in name new ≡ (is_in name old || is_in name names)

-- the IDs of a start, and what its IDREFs refer to, at its place
abbrev pub ids_with : List Definition → List AttrValue → List Name
ids_with definitions values = ids_of (attributes_with definitions values)

abbrev pub idrefs_by : List Definition → List AttrValue → Place → List Idref
idrefs_by definitions values place = idrefs_at place (references_of (attributes_with definitions values))
