-- The reasons against a specification, by what `sgml_attr` answers of its value.
use Rattle.std.specs.Prelude.{◌≡◌, ℕ, Bool, true, false, Option, Some, None, option_map, List, find, slice_get, Result, Ok, Err}
use Rattle.sgml_scan.specs.text.Refusals.{first_row}
use Rattle.sgml_scan.specs.text.declared.reason.Reason.{Reason}
use Rattle.sgml_scan.specs.text.declared.reason.Reason.TheVariants as reason
use Rattle.sgml_scan.specs.syntax.declared.syntax.Syntax.{Syntax}
use Rattle.sgml_scan.specs.text.declared.unit.Unit.{Unit as AnyUnit}
use Rattle.sgml_theory_reading.specs.entity.Entities.{Tables}
use Rattle.sgml_theory_reading.specs.attr.declared.definition.Definition.{Definition}
use Rattle.sgml_theory_reading.specs.attr.declared.error.AttrError.{AttrError}
use Rattle.sgml_theory_reading.specs.attr.declared.error.AttrError.TheVariants as against
use Rattle.sgml_theory_reading.specs.attr.declared.value.AttrValue.{AttrValue}
use Rattle.sgml_theory_reading.specs.attr.Literal.{interpreted}
use Rattle.sgml_theory_reading.specs.attr.Values.{value}
use Rattle.sgml_theory_reading.specs.dtd.Doctypes.{Doctype}
use Rattle.sgml_theory_reading.specs.Names.{Name}
use Rattle.sgml_theory_reading.specs.Types.{attributes, entity_tables}
use Rattle.sgml_theory_reading.specs.Pieces.{Specification, How, Start}
use Rattle.sgml_theory_reading.specs.State.{State}
use Rattle.sgml_theory_reading.specs.Currents.{Currents, is_of}
use Rattle.sgml_theory_spelling.specs.Attributes.{reason_of, passes_litlen, rows, default_value, unvalued, valued}
use Rattle.sgml_theory_spelling.specs.Named.{AreApart}

abbrev pub error_in : Result AttrValue AttrError → Option AttrError
error_in (Ok v) = None
error_in (Err e) = Some e

-- NAMELEN ranks before LITLEN, an unknown notation before a second specification, and that before all
-- others
abbrev pub ranked : Bool → Bool → Option AttrError → Option Reason
ranked long twice (Some against.NameLength) = Some reason.NameLength
ranked true twice e = Some reason.LiteralLimit
ranked false twice (Some against.NotationUnknown) = Some reason.NotationUnknown
ranked false true e = Some reason.Twice
ranked false false e = option_map reason_of e

-- of units that were read as the declared value reads them
abbrev pub RowsAreRanked : Type 0
RowsAreRanked =
    (syntax : Syntax) (x : Definition) (tables : Tables) (twice : Bool) (units : List AnyUnit) (current : Option AttrValue)
    → first_row (rows syntax x tables twice units) ≡ ranked (passes_litlen syntax units) twice (error_in (value syntax x tables current (Some units)))

-- A VALUE OF AN ATTRIBUTE, where it is one

-- of what is written
abbrev pub IsWritten : Doctype → Definition → Result (List AnyUnit) Reason → AttrValue → Type 0
IsWritten d x (Err r) v = ⊥
IsWritten d x (Ok units) v = value d.syntax x (entity_tables d) None (Some (interpreted x.declared units)) ≡ Ok v

-- in the specification of the attribute, where it has one, or else of its default
pub record IsValueOf (d : Doctype) (current : Currents) (n : Name) (ss : List Specification) (x : Definition) (v : AttrValue) : Type 0 where
  pub specified : (s : Specification) → find (is_of x.name) ss ≡ Some s → IsWritten d x s.written v
  pub defaulted : find (is_of x.name) ss ≡ None → default_value d current n x ≡ Ok v

-- each attribute of a start that has values has one
abbrev pub StartsHaveValues : Type 0
StartsHaveValues =
    (s : State) (n : Name) (ss : List Specification) (how : How) (proper at_once : Bool) (i : ℕ) (x : Definition)
    → AreApart (attributes s.context.doctype n) → unvalued s (Start n ss how proper at_once) ≡ None → slice_get (attributes s.context.doctype n) i ≡ Some x
    → (v : AttrValue)
    × (slice_get (valued s (Start n ss how proper at_once)) i ≡ Some (record { attribute = x.name; declared = x.declared; value = v }))
    × IsValueOf s.context.doctype s.currents n ss x v
