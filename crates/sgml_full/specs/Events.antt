-- A parser's events, each as it is spelled where it stands.
use Rattle.std.specs.Prelude.{◌≡◌, ℕ, Bool, true, false, List, [], ◌∷◌, ◌++◌, Option, Some, None, slice_get, take, option_map, if◌then◌else◌}
use Rattle.std.specs.List.{list_all}
use Rattle.sgml_text.specs.declared.unit.Unit.{Unit as AnyUnit}
use Rattle.sgml_dtd.specs.Doctypes.{Doctype}
use Rattle.sgml_said.specs.theory_reading.Types.{name_of_entity}
use Rattle.sgml_events.specs.Stretches.{is_none}
use Rattle.sgml_events.specs.declared.event.Event.{Event}
use Rattle.sgml_events.specs.declared.event.Event.TheVariants as event
use Rattle.sgml_said.specs.Told.{name_at, definitions_at, attributes_with}
use Rattle.sgml_full.specs.declared.inside.Inside.{Inside}
use Rattle.sgml_full.specs.declared.inside.Inside.TheVariants as inside
use Rattle.sgml_full.specs.Spelled.{spelled_data, raw_data, start_tag, entity_reference, is_paired}
use Rattle.sgml_full.specs.Full.{content_of, refers, inside_of, ending, instruction_by}

abbrev pub inside_at : Doctype → ℕ → Bool → Inside
inside_at d element refers = inside_of refers (content_of d (name_at d element))

abbrev pub data_in : Doctype → Inside → List AnyUnit → List ℕ
data_in d inside.Characters us = if is_none us then [] else 10 ∷ raw_data d us
data_in d inside.Lines us = raw_data d us
data_in d _ us = spelled_data d us

abbrev pub after_data : Inside → List AnyUnit → Inside
after_data inside.Characters us = if is_none us then inside.Characters else inside.Lines
after_data i us = i

abbrev pub spelled_event : Doctype → Inside → Event → List ℕ
spelled_event d i (event.Start element place values) = start_tag d (name_at d element) (attributes_with (definitions_at d element) values)
spelled_event d i (event.End element) = ending i (name_at d element)
spelled_event d i (event.Chars us) = data_in d i us
spelled_event d i (event.Pi text entity place) = instruction_by d text entity
spelled_event d i (event.DataRef e) = entity_reference (name_of_entity d e)

abbrev pub after_event : Doctype → Inside → Event → Inside
after_event d i (event.Start element place values) = inside_at d element (refers (definitions_at d element) values)
after_event d i (event.End element) = inside.Mixed
after_event d i (event.Chars us) = after_data i us
after_event d i e = i

abbrev pub spelled_events : Doctype → Inside → List Event → List ℕ
spelled_events d i [] = []
spelled_events d i (e ∷ es) = spelled_event d i e ++ spelled_events d (after_event d i e) es

-- an instruction that came from no entity can be spelled
abbrev pub is_spelled : Event → Bool
is_spelled (event.Pi text None place) = is_paired false text
is_spelled _ = true

-- THE FIRST EVENT that can't be spelled
pub record IsFirstUnspelled (es : List Event) (index : ℕ) : Type 0 where
  pub all : list_all is_spelled (take index es) ≡ true
  pub isnt : option_map is_spelled (slice_get es index) ≡ Some false
