-- The values of a start's attributes (7.9, 11.3).
use Rattle.std.specs.Prelude.{Bool, false, List, [], ◌∷◌, map, Option, Some, None, unwrap_or, Result, Ok, Err, if◌then◌else◌}
use Rattle.std.specs.List.{list_any}
use Rattle.std.specs.Option.{option_or}
use Rattle.sgml_scan.specs.text.Refusals.{first_row}
use Rattle.sgml_scan.specs.text.declared.reason.Reason.{Reason}
use Rattle.sgml_scan.specs.text.declared.reason.Reason.TheVariants as reason
use Rattle.sgml_scan.specs.text.declared.unit.Unit.{Unit as AnyUnit}
use Rattle.sgml_theory_reading.specs.attr.declared.definition.Definition.{Definition}
use Rattle.sgml_theory_reading.specs.attr.declared.error.AttrError.{AttrError}
use Rattle.sgml_theory_reading.specs.attr.declared.error.AttrError.TheVariants as against
use Rattle.sgml_theory_reading.specs.attr.declared.value.AttrValue.{AttrValue}
use Rattle.sgml_theory_reading.specs.attr.declared.value.AttrValue.TheVariants as values
pub use Rattle.sgml_theory_reading.specs.attr.Against.{reason_of, passes_litlen, character_rows, token_rows, rows}
use Rattle.sgml_theory_reading.specs.attr.Literal.{interpreted}
use Rattle.sgml_theory_reading.specs.attr.Values.{value}
use Rattle.sgml_theory_reading.specs.dtd.Doctypes.{Doctype}
use Rattle.sgml_theory_reading.specs.Names.{Name}
use Rattle.sgml_theory_reading.specs.Types.{attributes, definition_of, entity_tables}
use Rattle.sgml_theory_reading.specs.Pieces.{Specification, Kind, Start}
use Rattle.sgml_theory_reading.specs.State.{State}
use Rattle.sgml_theory_reading.specs.Currents.{Currents, is_of, value_in}
use Rattle.sgml_theory_reading.specs.Reads.{Attribute}

-- what depends on a definition isn't judged where there is none
abbrev pub reason_of_units : Doctype → Bool → Option Definition → List AnyUnit → Option Reason
reason_of_units d twice None units = Some reason.UnknownAttribute
reason_of_units d twice (Some x) units = first_row (rows d.syntax x (entity_tables d) twice (interpreted x.declared units))

-- a reference in it may be wrong
abbrev pub reason_of_written : Doctype → Bool → Option Definition → Result (List AnyUnit) Reason → Option Reason
reason_of_written d twice x (Err r) = Some r
reason_of_written d twice x (Ok units) = reason_of_units d twice x units

abbrev pub definition_named : Doctype → Name → Option Name → Option Definition
definition_named d n None = None
definition_named d n (Some a) = definition_of d n a

abbrev pub stands_in : Option Name → List Specification → Bool
stands_in None before = false
stands_in (Some a) before = list_any (is_of a) before

-- after those before it
abbrev pub reason_of_specification : Doctype → Name → List Specification → Specification → Option Reason
reason_of_specification d n before s =
    reason_of_written d (stands_in s.attribute before) (definition_named d n s.attribute) s.written

abbrev pub reason_of_specifications : Doctype → Name → List Specification → List Specification → Option Reason
reason_of_specifications d n before [] = None
reason_of_specifications d n before (s ∷ ss) =
    option_or (reason_of_specification d n before s) (reason_of_specifications d n (s ∷ before) ss)

-- WITHOUT A SPECIFICATION (11.3.4): the default, or the current value

abbrev pub default_value : Doctype → Currents → Name → Definition → Result AttrValue AttrError
default_value d current n x = value d.syntax x (entity_tables d) (current n x.name) None

abbrev pub reason_in : Result AttrValue AttrError → Option Reason
reason_in (Ok v) = None
reason_in (Err e) = Some (reason_of e)

abbrev pub reason_of_defaults : Doctype → Currents → Name → List Specification → List Definition → Option Reason
reason_of_defaults d current n ss [] = None
reason_of_defaults d current n ss (x ∷ xs) =
    option_or (if list_any (is_of x.name) ss then None else reason_in (default_value d current n x))
    (reason_of_defaults d current n ss xs)

-- THE FIRST REASON why an attribute has no value: of the specifications in their order, and then of
-- the definitions without a specification
unfoldable pub unvalued : State → Kind → Option Reason
unvalued s (Start n specifications how proper at_once) =
    option_or (reason_of_specifications s.context.doctype n [] specifications)
    (reason_of_defaults s.context.doctype s.currents n specifications (attributes s.context.doctype n))
unvalued s kind = None

-- THE VALUE OF EACH ATTRIBUTE, where none of these reasons holds

abbrev pub given_value : Result AttrValue AttrError → AttrValue
given_value (Ok v) = v
given_value (Err e) = values.Implied

abbrev pub value_of : Doctype → Currents → Name → List Specification → Definition → AttrValue
value_of d current n ss x = unwrap_or (value_in d (Some x) x.name ss) (given_value (default_value d current n x))

abbrev pub attribute_of : Doctype → Currents → Name → List Specification → Definition → Attribute
attribute_of d current n ss x = record { attribute = x.name; declared = x.declared; value = value_of d current n ss x }

unfoldable pub valued : State → Kind → List Attribute
valued s (Start n specifications how proper at_once) =
    map (attribute_of s.context.doctype s.currents n specifications) (attributes s.context.doctype n)
valued s kind = []
