-- A START by numbers over tables, and by names.
use Rattle.std.specs.Prelude.{◌≡◌, ℕ, Bool, List, [], ◌∷◌, ◌++◌, map, slice_get, Option, Some, None, Ok, Err}
use Rattle.sgml_starts.specs.text.declared.reason.Reason.{Reason}
use Rattle.sgml_starts.specs.attr.declared.definition.Definition.{Definition}
use Rattle.sgml_starts.specs.attr.declared.definition.Spec.{Spec}
use Rattle.sgml_starts.specs.attr.declared.value.AttrValue.{AttrValue}
use Rattle.sgml_starts.specs.dtd_elements.Types.{ElementType, types}
use Rattle.sgml_starts.specs.dtd_attlists.Tables.{list_of}
use Rattle.sgml_starts.specs.dtd.Doctypes.{Doctype}
use Rattle.sgml_starts.specs.declared.error.StartError.{StartError}
use Rattle.sgml_starts.specs.declared.error.StartError.TheVariants as error
use Rattle.sgml_starts.specs.Rows.{reason_of_specs}
use Rattle.sgml_starts.specs.Specified.{Specified}
use Rattle.sgml_starts.specs.Values.{AreValues, refused}
use Rattle.sgml_starts.specs.Values as numbered
use Rattle.sgml_starts.specs.Currents as numbered_currents
use Rattle.sgml_starts.specs.Starts.{start_of}
use Rattle.sgml_declared.specs.theory_reading.Names.{Name, Text}
use Rattle.sgml_declared.specs.theory_reading.Types.{attributes, entity_tables}
use Rattle.sgml_declared.specs.theory_reading.Pieces.{Specification, How}
use Rattle.sgml_declared.specs.theory_reading.Pieces as pieces
use Rattle.sgml_declared.specs.theory_reading.Currents.{AreCurrents, currents_after}
use Rattle.sgml_declared.specs.theory_reading.Reads.{Attribute}
use Rattle.sgml_declared.specs.theory_reading.State.{State}
use Rattle.sgml_declared.specs.theory_spelling.Attributes.{unvalued, valued}
use Rattle.sgml_declared.specs.theory_spelling.Named.{AreApart}
use Rattle.sgml_declared.specs.theory_spelling.Tags.{specification_of}

-- the current values of all lists, by numbers
abbrev pub Table : Type 0
Table = List (List (Option AttrValue))

-- a start of the element type of this name
abbrev pub start_named : Doctype → Name → Table → numbered.Start
start_named d n table = record {
  syntax = d.syntax;
  tables = entity_tables d;
  definitions = attributes d n;
  list = list_of d.lists n;
  currents = table;
}

-- that of the type of a number is one
abbrev pub StartsAreNamed : Type 0
StartsAreNamed =
    (d : Doctype) (element : ℕ) (t : ElementType) (table : Table) → slice_get (types d.elements) element ≡ Some t
    → start_of d.syntax d element table ≡ start_named d t.name table

-- WHAT IT SPECIFIES: with the name of the attribute, and what is written
abbrev pub by_name : Doctype → Name → Spec → Specification
by_name d n s = specification_of d (attributes d n) s.name (Ok s.value)

-- all that is read; or else what stands before a literal that can't be read, that one, and whatever follows it
abbrev pub AreThoseRead : Doctype → Name → List Spec → Option StartError → List Specification → Type 0
AreThoseRead d n specs None ss = ss ≡ map (by_name d n) specs
AreThoseRead d n specs (Some (error.Refused r)) ss =
    (name : Option Text) × (more : List Specification)
    × (ss ≡ map (by_name d n) specs ++ specification_of d (attributes d n) name (Err r) ∷ more)
AreThoseRead d n specs (Some (error.Wanted entity)) ss = ⊥
AreThoseRead d n specs (Some error.Memory) ss = ⊥

-- what is read stands first, whatever follows
abbrev pub AreBegun : Doctype → Name → List Spec → List Specification → Type 0
AreBegun d n specs ss = (more : List Specification) × (ss ≡ map (by_name d n) specs ++ more)

-- the value of each attribute is that of the same number
abbrev pub attribute_with : Definition → AttrValue → Attribute
attribute_with x v = record { attribute = x.name; declared = x.declared; value = v }

abbrev pub AreValued : State → pieces.Kind → List Definition → List AttrValue → Type 0
AreValued s kind xs values =
    (i : ℕ) (x : Definition) → slice_get xs i ≡ Some x →
    (v : AttrValue) × (slice_get values i ≡ Some v) × (slice_get (valued s kind) i ≡ Some (attribute_with x v))

-- THE SAME IS TOLD of a start by numbers, which specifies this, and of a piece that is one by names
pub record IsOne (s : State) (S : numbered.Start) (all : Specified) (kind : pieces.Kind) : Type 0 where
  pub reason : numbered.unvalued S all ≡ refused (unvalued s kind)
  pub values : (values : List AttrValue) → numbered.unvalued S all ≡ None
      → AreValues S all.specs values → AreValued s kind S.definitions values
  pub currents : (values : List AttrValue) (new : Table) → numbered.unvalued S all ≡ None
      → AreValues S all.specs values → numbered_currents.AreCurrents S all.specs values new
      → AreCurrents s.context.doctype new (currents_after s.context.doctype kind s.currents)

-- WHERE WHAT IS READ IS REFUSED, so is the start whatever follows
abbrev pub BegunIsRefused : Type 0
BegunIsRefused =
    (s : State) (n : Name) (specs : List Spec) (ss : List Specification) (how : How) (proper at_once : Bool) (r : Reason)
    → AreApart (attributes s.context.doctype n) → AreBegun s.context.doctype n specs ss
    → reason_of_specs s.context.doctype.syntax (entity_tables s.context.doctype) (attributes s.context.doctype n) [] specs ≡ Some r
    → unvalued s (pieces.Start n ss how proper at_once) ≡ Some r

abbrev pub StartsAreOne : Type 0
StartsAreOne =
    (s : State) (n : Name) (table : Table) (all : Specified) (ss : List Specification)
    → (how : How) (proper at_once : Bool)
    → AreApart (attributes s.context.doctype n) → AreCurrents s.context.doctype table s.currents
    → AreThoseRead s.context.doctype n all.specs all.stop ss
    → IsOne s (start_named s.context.doctype n table) all (pieces.Start n ss how proper at_once)
