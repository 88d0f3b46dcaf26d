-- What a start is, and what is told of it.
use Rattle.std.specs.Prelude.{◌≡◌, ℕ, ◌+◌, ◌≤◌, ◌<◌, List, [], length, drop, Option, Some, None, slice_get}
use Rattle.sgml_syntax.specs.declared.syntax.Syntax.{Syntax}
use Rattle.sgml_entity.specs.Entities.{Tables}
use Rattle.sgml_entity.specs.Stack.{Stack, moved}
use Rattle.sgml_attr.specs.declared.definition.Definition.{Definition}
use Rattle.sgml_attr.specs.declared.value.AttrValue.{AttrValue}
use Rattle.sgml_dtd.specs.dtd_elements.Types.{ElementType, types}
use Rattle.sgml_dtd.specs.dtd_attlists.declared.list.AttributeList.{AttributeList}
use Rattle.sgml_dtd.specs.dtd_attlists.Tables.{list_of}
use Rattle.sgml_dtd.specs.Doctypes.{Doctype, definitions_for}
use Rattle.sgml_starts.specs.declared.error.StartError.{StartError}
use Rattle.sgml_starts.specs.declared.error.StartError.TheVariants as error
use Rattle.sgml_starts.specs.declared.starts.StartValues.{StartValues}
use Rattle.sgml_starts.specs.Specified.{Input, Specified, specified, rest}
use Rattle.sgml_starts.specs.Values.{Start, unvalued, AreValues, any_conref}
use Rattle.sgml_starts.specs.Currents.{AreCurrents}

abbrev pub tables_of : Doctype → Tables
tables_of d = record { entities = d.entities; notations = d.notations }

-- a start of an element type, by its number
abbrev pub definitions_in : Doctype → Option ElementType → List Definition
definitions_in d None = []
definitions_in d (Some t) = definitions_for d.lists t.name

abbrev pub list_in : Doctype → Option ElementType → Option ℕ
list_in d None = None
list_in d (Some t) = list_of d.lists t.name

abbrev pub definitions_of : Doctype → ℕ → List Definition
definitions_of d element = definitions_in d (slice_get (types d.elements) element)

abbrev pub list_for : Doctype → ℕ → Option ℕ
list_for d element = list_in d (slice_get (types d.elements) element)

abbrev pub start_of : Syntax → Doctype → ℕ → List (List (Option AttrValue)) → Start
start_of syntax d element currents = record {
  syntax = syntax;
  tables = tables_of d;
  definitions = definitions_of d element;
  list = list_for d element;
  currents = currents;
}

abbrev pub input_of : Syntax → Doctype → List (ℕ × List ℕ) → Stack → Input
input_of syntax d texts stack = record { syntax = syntax; tables = tables_of d; texts = texts; stack = stack }

-- a tag of so many bytes stands at the top of the stack
abbrev pub StandsThere : Input → Option ℕ → Type 0
StandsThere I None = Unit {0}
StandsThere I (Some n) = (0 < length I.stack.places) × (n ≤ length (rest I))

-- where the stack stands after it
abbrev pub after : Stack → ℕ → Option ℕ → Stack
after s spent None = s
after s spent (Some n) = record s { spent = spent; places = moved n s.places }

-- THE VALUES of a start that specifies this
pub record HasValues (S : Start) (all : Specified) (told : StartValues) (new : List (List (Option AttrValue))) : Type 0 where
  pub none : unvalued S all ≡ None
  pub values : AreValues S all.specs told.values
  pub conref : told.conref ≡ any_conref S all.specs
  pub currents : AreCurrents S all.specs told.values new

-- it has none, and this is the first reason, unless there was no memory
abbrev pub IsUnvalued : Option StartError → StartError → Type 0
IsUnvalued reason error.Memory = Unit {0}
IsUnvalued reason e = reason ≡ Some e
