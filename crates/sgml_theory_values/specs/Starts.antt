-- A START WRITTEN AGAIN (7.9): its specifications, and what of its document type and its current values they depend on.
use Rattle.std.specs.Prelude.{◌≡◌, ℕ, true, false, List, [], ◌∷◌, Some, Ok, slice_get}
use Rattle.std.specs.List.{flat_map}
use Rattle.sgml_full.specs.text.declared.unit.Unit.{Unit as AnyUnit}
use Rattle.sgml_theory_starts.specs.syntax.declared.syntax.Syntax.{Syntax}
use Rattle.sgml_full.specs.attr.declared.definition.Declared.{Declared}
use Rattle.sgml_full.specs.attr.declared.definition.Definition.{Definition}
use Rattle.sgml_full.specs.attr.declared.value.AttrValue.{AttrValue}
use Rattle.sgml_full.specs.attr.declared.value.AttrValue.TheVariants as of
use Rattle.sgml_full.specs.attr.Literal.{interpreted}
use Rattle.sgml_full.specs.attr.Against.{passes_litlen}
use Rattle.sgml_full.specs.dtd_attlists.Interpreted.{default_units}
use Rattle.sgml_full.specs.dtd.Doctypes.{Doctype}
use Rattle.sgml_theory_starts.specs.theory_reading.Names.{Name}
use Rattle.sgml_theory_starts.specs.theory_reading.Types.{attributes, entity_tables, has_same_list}
use Rattle.sgml_theory_starts.specs.theory_reading.Pieces.{Specification}
use Rattle.sgml_theory_starts.specs.theory_reading.Currents.{Currents}
use Rattle.sgml_theory_starts.specs.theory_reading.Reads.{Attribute}
use Rattle.sgml_theory_starts.specs.theory_spelling.Named.{AreApart}
use Rattle.sgml_theory_values.specs.Given.{IsGiven, Spells}

-- how a value is written in a literal: the units that stand there
abbrev pub Writer : Type 0
Writer = AttrValue → List AnyUnit

-- of each attribute that has a value its name and a literal
abbrev pub specification : Writer → Name → AttrValue → List Specification
specification write name of.Implied = []
specification write name v = record { attribute = Some name; written = Ok (write v) } ∷ []

abbrev pub specification_of : Writer → Attribute → List Specification
specification_of write a = specification write a.attribute a.value

abbrev pub specifications : Writer → List Attribute → List Specification
specifications write attributes = flat_map (specification_of write) attributes

-- each value of an attribute is written in a literal that is read as its units
abbrev pub SpellsValues : Doctype → Writer → Type 0
SpellsValues d write =
    (x : Definition) (v : AttrValue) → IsGiven d.syntax (entity_tables d) x v → Spells x.declared d.entities (write v) v

-- A DEFAULT VALUE was read of a literal, and has at most LITLEN characters (11.3.4, 13.4.8)
pub record IsDefault (syntax : Syntax) (declared : Declared) (units : List AnyUnit) : Type 0 where
  pub literal : List AnyUnit
  pub is : units ≡ interpreted declared literal
  pub short : passes_litlen syntax units ≡ false

abbrev pub HasDefault : Syntax → Definition → Type 0
HasDefault syntax x = (units : List AnyUnit) → default_units x.default ≡ Some units → IsDefault syntax x.declared units

-- what holds of the definitions of each element type: no two have one name (11.3), and their defaults are such
pub record DefinitionsHold (d : Doctype) : Type 0 where
  pub apart : (n : Name) → AreApart (attributes d n)
  pub defaults : (n : Name) (i : ℕ) (x : Definition) → slice_get (attributes d n) i ≡ Some x → HasDefault d.syntax x

-- what holds of current values (11.3.4): a literal gave each, and element types with one list share them
pub record CurrentsHold (d : Doctype) (c : Currents) : Type 0 where
  pub given : (n : Name) (i : ℕ) (x : Definition) (v : AttrValue) → slice_get (attributes d n) i ≡ Some x →
      c n x.name ≡ Some v → IsGiven d.syntax (entity_tables d) x v
  pub shared : (n e a : Name) → has_same_list d n e ≡ true → c n a ≡ c e a
