-- What is noted of starts, one after another, and what is judged of it (7.9.4).
use Rattle.std.specs.Prelude.{Bool, true, false, Option, Some, None, List, [], ◌∷◌, ◌++◌, map, if◌then◌else◌}
use Rattle.sgml_text.specs.declared.place.Place.{Place}
use Rattle.sgml_text.specs.declared.reason.Reason.{Reason}
use Rattle.sgml_text.specs.declared.reason.Reason.TheVariants.{Repeated, Dangling}
use Rattle.sgml_dtd.specs.Doctypes.{Doctype}
use Rattle.sgml_attr.specs.declared.definition.Declared.{Declared}
use Rattle.sgml_attr.specs.declared.definition.Declared.TheVariants as declared
use Rattle.sgml_attr.specs.declared.definition.Definition.{Definition}
use Rattle.sgml_said.specs.theory_reading.Names.{Name}
use Rattle.sgml_said.specs.theory_reading.Types.{is_in}
use Rattle.sgml_said.specs.theory_reading.Reads.{Attribute}
use Rattle.sgml_said.specs.theory_reading.Identifiers.{ids_of, references_of, some_in, all_ids}
use Rattle.sgml_events.specs.declared.event.Event.{Event}
use Rattle.sgml_events.specs.declared.event.Event.TheVariants as event
use Rattle.sgml_said.specs.Told.{definitions_at, attributes_with}

-- an ID, or IDREFs
abbrev pub identifies : Declared → Bool
identifies declared.Id = true
identifies declared.Idref = true
identifies declared.Idrefs = true
identifies _ = false

abbrev pub definition_identifies : Definition → Bool
definition_identifies a = identifies a.declared

-- a start, with its place
pub record Start : Type 0 where
  pub place : Place
  pub attributes : List Attribute

-- an IDREF, with the place of its start
pub record Idref : Type 0 where
  pub place : Place
  pub name : Name

abbrev pub start_of : Doctype → Event → List Start
start_of d (event.Start element place values) = record { place = place; attributes = attributes_with (definitions_at d element) values } ∷ []
start_of d _ = []

abbrev pub starts_of : Doctype → List Event → List Start
starts_of d [] = []
starts_of d (e ∷ es) = start_of d e ++ starts_of d es

abbrev pub ids_in : List Start → List Name
ids_in ss = all_ids (map (λ (s : Start). s.attributes) ss)

abbrev pub idrefs_at : Place → List Name → List Idref
idrefs_at place names = map (λ n. record { place = place; name = n }) names

-- the place of the first start that repeats an ID, and the IDREFs of the starts before it
pub record Noted : Type 0 where
  pub repeated : Option Place
  pub idrefs : List Idref

abbrev pub noted : List Name → List Start → Noted
noted earlier [] = record { repeated = None; idrefs = [] }
noted earlier (s ∷ ss) =
    if some_in (ids_of s.attributes) earlier then record { repeated = Some s.place; idrefs = [] }
    else (let rest = noted (earlier ++ ids_of s.attributes) ss in
    record { repeated = rest.repeated; idrefs = idrefs_at s.place (references_of s.attributes) ++ rest.idrefs })

-- the place of the first IDREF that is none of the IDs
abbrev pub dangling_at : List Name → List Idref → Option Place
dangling_at ids [] = None
dangling_at ids (r ∷ rs) = if is_in r.name ids then dangling_at ids rs else Some r.place

-- the fault: such an IDREF, and else the repeated ID
abbrev pub judged_by : Option Place → Option Place → Option (Place × Reason)
judged_by (Some place) repeated = Some (place, Dangling)
judged_by None (Some place) = Some (place, Repeated)
judged_by None None = None

abbrev pub judged : List Name → List Idref → Option Place → Option (Place × Reason)
judged ids rs repeated = judged_by (dangling_at ids rs) repeated
