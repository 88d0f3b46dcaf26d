-- Current values: what was specified last for an attribute whose default is #CURRENT, by any
-- element type with the same attribute list (11.3.4).
use Rattle.std.specs.Prelude.{◌≡◌, ℕ, ◌&&◌, Bool, false, Option, Some, None, Result, Ok, Err, List, [], ◌∷◌, bytes_eq, position, slice_get, if◌then◌else◌}
use Rattle.std.specs.Option.{option_or}
use Rattle.sgml_dtd.specs.text.declared.reason.Reason.{Reason}
use Rattle.sgml_dtd.specs.text.declared.unit.Unit.{Unit as AnyUnit}
use Rattle.sgml_dtd.specs.attr.declared.error.AttrError.{AttrError}
use Rattle.sgml_dtd.specs.attr.declared.definition.Definition.{Definition}
use Rattle.sgml_dtd.specs.attr.declared.value.AttrValue.{AttrValue}
use Rattle.sgml_dtd.specs.attr.Literal.{interpreted}
use Rattle.sgml_dtd.specs.attr.Currents.{current_at}
use Rattle.sgml_dtd.specs.attr.Values.{value}
use Rattle.sgml_dtd.specs.dtd_attlists.Tables.{list_of}
use Rattle.sgml_dtd.specs.Doctypes.{Doctype}
use Rattle.sgml_theory_reading.specs.Names.{Name}
use Rattle.sgml_theory_reading.specs.Types.{attributes, definition_of, entity_tables, has_same_list, has_current, is_current_default}
use Rattle.sgml_theory_reading.specs.Pieces.{Specification, Kind, History}
use Rattle.sgml_theory_reading.specs.Facets.{specified}
use Rattle.sgml_theory_reading.specs.Nest.{types}

-- THE VALUE THAT A SPECIFICATION IS, by the attribute's definition (7.9.3, 7.9.4)

abbrev pub is_of : Name → Specification → Bool
is_of a s = names_it s.attribute
  where
    names_it : Option Name → Bool
    names_it None = false
    names_it (Some n) = bytes_eq a n

abbrev pub if_value : Result AttrValue AttrError → Option AttrValue
if_value (Ok v) = Some v
if_value (Err e) = None

-- what is written is interpreted by the declared value; none where it is wrong
abbrev pub value_written : Doctype → Option Definition → Result (List AnyUnit) Reason → Option AttrValue
value_written d (Some x) (Ok units) = if_value (value d.syntax x (entity_tables d) None (Some (interpreted x.declared units)))
value_written d _ _ = None

-- the value of the first of these specifications that is one of this attribute
abbrev pub value_in : Doctype → Option Definition → Name → List Specification → Option AttrValue
value_in d x a [] = None
value_in d x a (s ∷ ss) = if is_of a s then value_written d x s.written else value_in d x a ss

-- of an element type and an attribute, the value, where there is one
abbrev pub Currents : Type 0
Currents = Name → Name → Option AttrValue

-- what the start of an element gives the attribute `a` of the type `e`
abbrev pub given : Doctype → Option (Name × List Specification) → Name → Name → Option AttrValue
given d None e a = None
given d (Some start) e a =
    if has_same_list d start.0 e && has_current d start.0 a then value_in d (definition_of d start.0 a) a start.1 else None

abbrev pub currents_after : Doctype → Kind → Currents → Currents
currents_after d kind current = λ e a. option_or (given d (specified kind) e a) (current e a)

-- the newest start that gives one
unfoldable pub currents : History → Currents
currents [] = λ e a. None
currents (p ∷ h) = currents_after (types h) p.kind (currents h)

-- THE SAME BY NUMBERS, as a table keeps them: of each attribute list the values of its definitions

abbrev pub definition_number : Doctype → Name → Name → Option ℕ
definition_number d n a = position (λ (x : Definition). bytes_eq a x.name) (attributes d n)

abbrev pub value_by : List (List (Option AttrValue)) → Option ℕ → Option ℕ → Option AttrValue
value_by table (Some list) (Some attribute) = current_at table list attribute
value_by table _ _ = None

-- the table has these current values
abbrev pub AreCurrents : Doctype → List (List (Option AttrValue)) → Currents → Type 0
AreCurrents d table c = (n a : Name) → c n a ≡ value_by table (list_of d.lists n) (definition_number d n a)

-- what these specifications give a definition
abbrev pub given_to : Doctype → List Specification → Definition → Option AttrValue
given_to d ss x = if is_current_default x.default then value_in d (Some x) x.name ss else None

-- the table after a start of this type with these specifications
pub record IsGiven (d : Doctype) (n : Name) (ss : List Specification) (old new : List (List (Option AttrValue))) : Type 0 where
  pub here : (list attribute : ℕ) (x : Definition) → list_of d.lists n ≡ Some list → slice_get (attributes d n) attribute ≡ Some x →
      current_at new list attribute ≡ option_or (given_to d ss x) (current_at old list attribute)
  pub elsewhere : (list attribute : ℕ) → (list_of d.lists n ≡ Some list → ⊥) → current_at new list attribute ≡ current_at old list attribute
