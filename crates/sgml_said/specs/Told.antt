-- What the events of a parser say: the events of what is read, with names for the numbers and each
-- data character by itself.
use Rattle.std.specs.Prelude.{ℕ, Option, Some, None, List, [], ◌∷◌, map, flat_map, slice_get}
use Rattle.sgml_entity.specs.text.declared.unit.Unit.{Unit as AnyUnit}
use Rattle.sgml_entity.specs.text.declared.unit.Unit.TheVariants as unit
use Rattle.sgml_attr.specs.declared.definition.Definition.{Definition}
use Rattle.sgml_attr.specs.declared.value.AttrValue.{AttrValue}
use Rattle.sgml_dtd.specs.dtd_elements.Types.{ElementType, types}
use Rattle.sgml_dtd.specs.Doctypes.{Doctype, definitions_for}
use Rattle.sgml_theory_reading.specs.Names.{Name}
use Rattle.sgml_theory_reading.specs.Types.{body_of, name_of_entity}
use Rattle.sgml_theory_reading.specs.Reads.{Attribute}
use Rattle.sgml_theory_reading.specs.Events.{Event as Said, Started, Ended, Byte, SpecificData, External, Instruction}
use Rattle.sgml_theory_reading.specs.Lines.{sdata_of}
use Rattle.sgml_events.specs.declared.event.Event.{Event}
use Rattle.sgml_events.specs.declared.event.Event.TheVariants as event

-- the element type of a number: its name and its attribute definitions
abbrev pub name_in : Option ElementType → Name
name_in None = []
name_in (Some t) = t.name

abbrev pub definitions_in : Doctype → Option ElementType → List Definition
definitions_in d None = []
definitions_in d (Some t) = definitions_for d.lists t.name

abbrev pub name_at : Doctype → ℕ → Name
name_at d number = name_in (slice_get (types d.elements) number)

abbrev pub definitions_at : Doctype → ℕ → List Definition
definitions_at d number = definitions_in d (slice_get (types d.elements) number)

-- a value for each definition, in their order
abbrev pub attributes_with : List Definition → List AttrValue → List Attribute
attributes_with [] vs = []
attributes_with (a ∷ as') [] = []
attributes_with (a ∷ as') (v ∷ vs) = record { attribute = a.name; declared = a.declared; value = v } ∷ attributes_with as' vs

-- the attributes of a start by these definitions, and by those of its element type
abbrev pub start_attributes : List Definition → Event → List Attribute
start_attributes ds (event.Start element place values) = attributes_with ds values
start_attributes ds _ = []

abbrev pub attributes_of : Doctype → Event → List Attribute
attributes_of d (event.Start element place values) = attributes_with (definitions_at d element) values
attributes_of d _ = []

-- the names of entities, each behind a space
abbrev pub entity_names : Doctype → List ℕ → List ℕ
entity_names d numbers = flat_map (λ number. 32 ∷ name_of_entity d number) numbers

abbrev pub said_unit : Doctype → AnyUnit → Said
said_unit d (unit.Byte b) = Byte b
said_unit d (unit.Coded b) = Byte b
said_unit d (unit.Sdata e) = SpecificData e (sdata_of (body_of d e))

abbrev pub said_data : Doctype → List AnyUnit → List Said
said_data d units = map (said_unit d) units

abbrev pub said : Doctype → Event → List Said
said d (event.Start element place values) = Started (name_at d element) (attributes_with (definitions_at d element) values) ∷ []
said d (event.End element) = Ended (name_at d element) ∷ []
said d (event.Chars units) = said_data d units
said d (event.Pi text entity place) = Instruction text entity ∷ []
said d (event.DataRef e) = External e ∷ []

abbrev pub all_said : Doctype → List Event → List Said
all_said d es = flat_map (said d) es
