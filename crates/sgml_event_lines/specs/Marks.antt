-- What was defined, by numbers.
use Rattle.std.specs.Prelude.{◌≡◌, ℕ, ◌-◌, Bool, true, false, Option, Some, None, is_some, List, length, get_or}
use Rattle.std.specs.List.{list_all}
use Rattle.sgml_entity.specs.declared.kinds.Space.TheVariants.{General}
use Rattle.sgml_entity.specs.declared.kinds.Body.{Body}
use Rattle.sgml_entity.specs.declared.kinds.Body.TheVariants as body
use Rattle.sgml_entity.specs.declared.kinds.Entity.{Entity}
use Rattle.sgml_entity.specs.Entities.{number_of, notation_of}
use Rattle.sgml_attr.specs.declared.value.AttrValue.{AttrValue}
use Rattle.sgml_attr.specs.declared.value.AttrValue.TheVariants as value
use Rattle.sgml_dtd.specs.Doctypes.{Doctype}
use Rattle.sgml_theory_reading.specs.Names.{Name}
use Rattle.sgml_theory_reading.specs.Types.{entity_named, name_of_entity, is_in}
use Rattle.sgml_theory_reading.specs.Lines.{Known}
use Rattle.sgml_events.specs.declared.event.Event.{Event}
use Rattle.sgml_events.specs.declared.event.Event.TheVariants as event

-- the mark at a number tells whether the entity or the notation of that number is known
pub record AreMarks (d : Doctype) (known : Known) (entities notations : List Bool) : Type 0 where
  pub entity_count : length entities ≡ length d.entities
  pub notation_count : length notations ≡ length d.notations
  pub entity_marks : (name : Name) (number : ℕ) → number_of d.entities General name ≡ Some number → get_or entities (number - 2) false ≡ is_in name known.entities
  pub notation_marks : (name : Name) (number : ℕ) → notation_of d.notations name ≡ Some number → get_or notations number false ≡ is_in name known.notations

-- THE EVENTS OF A DOCUMENT TYPE: the notations that they name are declared (11.4)
abbrev pub is_notation : Doctype → Name → Bool
is_notation d n = is_some (notation_of d.notations n)

abbrev pub body_has : Doctype → Body → Bool
body_has d (body.ExternalData kind external n) = is_notation d n
body_has d _ = true

abbrev pub has_notation : Doctype → Option Entity → Bool
has_notation d None = true
has_notation d (Some x) = body_has d x.body

abbrev pub is_entity_of : Doctype → Name → Bool
is_entity_of d n = has_notation d (entity_named d General n)

abbrev pub is_number_of : Doctype → ℕ → Bool
is_number_of d number = is_entity_of d (name_of_entity d number)

abbrev pub is_value_of : Doctype → AttrValue → Bool
is_value_of d (value.Notation n) = is_notation d n
is_value_of d (value.Entities es) = list_all (is_number_of d) es
is_value_of d _ = true

abbrev pub is_event_of : Doctype → Event → Bool
is_event_of d (event.Start element place values) = list_all (is_value_of d) values
is_event_of d (event.DataRef e) = is_number_of d e
is_event_of d _ = true
