-- A WORKED START, written again: character data with characters by their numbers, a list of names, and an attribute
-- that isn't specified (7.9, 11.3).
use Rattle.std.specs.Prelude.{◌≡◌, false, true, Some, None, Ok, List, [], ◌∷◌, ◌++◌, codes}
use Rattle.sgml_full.specs.text.declared.unit.Unit.{Unit as AnyUnit}
use Rattle.sgml_full.specs.text.declared.unit.Unit.TheVariants as unit
use Rattle.sgml_full.specs.text.Units.{characters}
use Rattle.sgml_theory_starts.specs.syntax.Implied.{implied_syntax}
use Rattle.sgml_full.specs.attr.declared.definition.Declared.TheVariants as declared_value
use Rattle.sgml_full.specs.attr.declared.value.AttrValue.TheVariants as of
use Rattle.sgml_full.specs.dtd.Doctypes.{Doctype}
use Rattle.sgml_full.specs.dtd.Laws.{doctype_of}
use Rattle.sgml_theory_starts.specs.theory_reading.Names.{Name}
use Rattle.sgml_theory_starts.specs.theory_reading.Pieces.{Specification, Kind, Start, Tag}
use Rattle.sgml_theory_starts.specs.theory_reading.Facets.{AfterSubset}
use Rattle.sgml_theory_starts.specs.theory_reading.Context.{at_start}
use Rattle.sgml_theory_starts.specs.theory_reading.State.{State}
use Rattle.sgml_theory_starts.specs.theory_reading.Reads.{Attribute}
use Rattle.sgml_theory_starts.specs.theory_spelling.Attributes.{unvalued, valued}
use Rattle.sgml_theory_worked.specs.Declared.{declared}
use Rattle.sgml_theory_worked.specs.Documents.{P, doctype}
use Rattle.sgml_theory_values.specs.Starts.{specifications, SpellsValues}
use Rattle.sgml_theory_values.specs.Full.{value_read}
use Rattle.sgml_theory_values.specs.Laws.{HasValues}

abbrev pub Y : Name
Y = codes "Y"

abbrev pub Z : Name
Z = codes "Z"

abbrev pub X : Name
X = codes "X"

abbrev pub type_with_attributes : Doctype
type_with_attributes =
    doctype_of implied_syntax
    (doctype P (declared (codes "ELEMENT P - - (#PCDATA)" ∷ (codes "ATTLIST P Y CDATA #IMPLIED Z NAMES #IMPLIED X CDATA #IMPLIED" ∷ []))))

-- the state where the instance begins, of this document type (7.1)
abbrev pub before_instance : Doctype → State
before_instance d = record {
  context = at_start d;
  record_ends = [];
  ended = None;
  sections = [];
  texts = 1;
  map_settings = [];
  currents = λ e a. None;
  stage = AfterSubset;
  subset = None;
}

abbrev pub at_instance : State
at_instance = before_instance type_with_attributes

abbrev pub specified : List AnyUnit → List AnyUnit → List Specification
specified y z = record { attribute = Some Y; written = Ok y } ∷ (record { attribute = Some Z; written = Ok z } ∷ [])

abbrev pub start : List Specification → Kind
start ss = Start P ss Tag true false

-- a TAB as it stands and another by its number, between letters; two names with three spaces
abbrev pub first_specified : List Specification
first_specified = specified (characters (codes "a\tb") ++ (unit.Coded 9 ∷ characters (codes "c"))) (characters (codes "u   v"))

-- the first TAB is a SPACE, the other stays (7.9.3); the names are folded (13.4.5)
abbrev pub values : List Attribute
values =
    record { attribute = Y; declared = declared_value.Cdata; value = of.Cdata (characters (codes "a b") ++ (unit.Byte 9 ∷ characters (codes "c"))) }
    ∷ (record { attribute = Z; declared = declared_value.Names; value = of.Tokens (codes "U" ∷ (codes "V" ∷ [])) }
    ∷ (record { attribute = X; declared = declared_value.Cdata; value = of.Implied } ∷ []))

-- written again, with the TAB by its number
abbrev pub specified_again : List Specification
specified_again = specified (characters (codes "a b") ++ (unit.Coded 9 ∷ characters (codes "c"))) (characters (codes "U V"))

pub record WorkedStart : Type 0 where
  pub has_values : HasValues at_instance (start first_specified)
  pub are_values : valued at_instance (start first_specified) ≡ values
  pub spells : SpellsValues type_with_attributes (value_read type_with_attributes)
  pub again : specifications (value_read type_with_attributes) values ≡ specified_again
  -- and so it has these values again
  pub unopposed : unvalued at_instance (start specified_again) ≡ None
  pub are_values_again : valued at_instance (start specified_again) ≡ values
