-- The laws of values that are written again.
use Rattle.std.specs.Prelude.{◌≡◌, ℕ, Bool, true, false, Some, None, List, [], ◌∷◌, map, slice_get}
use Rattle.std.specs.List.{list_any}
use Rattle.sgml_full.specs.text.declared.unit.Unit.{Unit as AnyUnit}
use Rattle.sgml_theory_starts.specs.syntax.declared.syntax.Syntax.{Syntax}
use Rattle.sgml_theory_starts.specs.entity.Entities.{Tables}
use Rattle.sgml_full.specs.attr.declared.definition.Default.{Default}
use Rattle.sgml_full.specs.attr.declared.definition.Default.TheVariants as default
use Rattle.sgml_full.specs.attr.declared.definition.Definition.{Definition}
use Rattle.sgml_full.specs.attr.declared.value.AttrValue.{AttrValue}
use Rattle.sgml_full.specs.attr.declared.value.AttrValue.TheVariants as of
use Rattle.sgml_full.specs.dtd.Doctypes.{Doctype}
use Rattle.sgml_theory_starts.specs.theory_reading.Names.{Name}
use Rattle.sgml_theory_starts.specs.theory_reading.Types.{attributes, entity_tables, is_declared}
use Rattle.sgml_theory_starts.specs.theory_reading.Pieces.{Specification, How, Kind, Start}
use Rattle.sgml_theory_starts.specs.theory_reading.State.{State}
use Rattle.sgml_theory_starts.specs.theory_reading.Currents.{currents_after}
use Rattle.sgml_theory_starts.specs.theory_reading.Characters.{is_conref_of, ends_at_once}
use Rattle.sgml_theory_starts.specs.theory_reading.Reads.{Attribute}
use Rattle.sgml_theory_starts.specs.theory_spelling.Attributes.{unvalued, valued}
use Rattle.sgml_theory_values.specs.Given.{IsGivenBy, IsGiven, Spells}
use Rattle.sgml_full.specs.Full.{refers, inside_after, ending}
use Rattle.sgml_theory_values.specs.Full.{value_read}
use Rattle.sgml_theory_values.specs.Starts.{Writer, specifications, SpellsValues, DefinitionsHold, CurrentsHold}

-- A VALUE: a literal that is read as its units gives it
abbrev pub SpelledIsGiven : Type 0
SpelledIsGiven =
    (syntax : Syntax) (tables : Tables) (x : Definition) (literal other : List AnyUnit) (v : AttrValue)
    → IsGivenBy syntax tables x literal v → Spells x.declared tables.entities other v → IsGivenBy syntax tables x other v

-- A START THAT HAS VALUES, by definitions and current values as they are where documents are read
pub record HasValues (s : State) (kind : Kind) : Type 0 where
  pub definitions : DefinitionsHold s.context.doctype
  pub currents : CurrentsHold s.context.doctype s.currents
  pub unopposed : unvalued s kind ≡ None

-- EACH ATTRIBUTE of it has a value that a literal gives, or none where its default is none (11.3.4)
abbrev pub gives_none : Default → Bool
gives_none default.Conref = true
gives_none default.Implied = true
gives_none _ = false

abbrev pub HasItsValue : Doctype → Definition → AttrValue → Type 0
HasItsValue d x of.Implied = gives_none x.default ≡ true
HasItsValue d x v = IsGiven d.syntax (entity_tables d) x v

abbrev pub ValuesAreGiven : Type 0
ValuesAreGiven =
    (s : State) (n : Name) (ss : List Specification) (how : How) (proper at_once : Bool) (i : ℕ) (x : Definition)
    → HasValues s (Start n ss how proper at_once) → slice_get (attributes s.context.doctype n) i ≡ Some x
    → (v : AttrValue)
    × (slice_get (valued s (Start n ss how proper at_once)) i ≡ Some (record { attribute = x.name; declared = x.declared; value = v }))
    × HasItsValue s.context.doctype x v

-- WRITTEN AGAIN with the values that it has, it has these values, in each state with the same document type
abbrev pub WrittenStartsHaveTheirValues : Type 0
WrittenStartsHaveTheirValues =
    (write : Writer) (s t : State) (n : Name) (ss : List Specification) (how how' : How) (proper proper' at_once at_once' : Bool)
    → SpellsValues s.context.doctype write → HasValues s (Start n ss how proper at_once) → t.context.doctype ≡ s.context.doctype →
    let attributes = valued s (Start n ss how proper at_once) in
    let again = Start n (specifications write attributes) how' proper' at_once' in
    (unvalued t again ≡ None) × (valued t again ≡ attributes)

-- the same current values stand after it, where the same stood before it
abbrev pub CurrentValuesStay : Type 0
CurrentValuesStay =
    (write : Writer) (s t : State) (n : Name) (ss : List Specification) (how how' : How) (proper proper' at_once at_once' : Bool)
    → SpellsValues s.context.doctype write → HasValues s (Start n ss how proper at_once) → t.context.doctype ≡ s.context.doctype
    → ((e a : Name) → t.currents e a ≡ s.currents e a) → (e a : Name) →
    let first = Start n ss how proper at_once in
    let again = Start n (specifications write (valued s first)) how' proper' at_once' in
    currents_after t.context.doctype again t.currents e a ≡ currents_after s.context.doctype first s.currents e a

-- it ends at once where the first one does
abbrev pub EndsAtOnceStay : Type 0
EndsAtOnceStay =
    (write : Writer) (s : State) (n : Name) (ss : List Specification) (how : How) (proper at_once : Bool)
    → SpellsValues s.context.doctype write → HasValues s (Start n ss how proper at_once)
    → ends_at_once s.context.doctype n (specifications write (valued s (Start n ss how proper at_once))) ≡ ends_at_once s.context.doctype n ss

-- after a piece that has values, what holds of the current values still does
abbrev pub CurrentsStillHold : Type 0
CurrentsStillHold =
    (s : State) (kind : Kind) → HasValues s kind → CurrentsHold s.context.doctype (currents_after s.context.doctype kind s.currents)

-- THE FULL DOCUMENT writes values so
abbrev pub FullDocumentsSpellValues : Type 0
FullDocumentsSpellValues = (d : Doctype) → SpellsValues d (value_read d)

-- and an element refers in the full document where one of its first specifications refers
abbrev pub ReferencesStay : Type 0
ReferencesStay =
    (s : State) (n : Name) (ss : List Specification) (how : How) (proper at_once : Bool) → HasValues s (Start n ss how proper at_once)
    → refers (attributes s.context.doctype n) (map (λ (a : Attribute). a.value) (valued s (Start n ss how proper at_once)))
    ≡ list_any (λ (u : Specification). is_conref_of s.context.doctype n u.attribute) ss

-- and no end-tag is written, where nothing has been written since the start of an element of a declared type, exactly
-- where that start ends at once (7.3, 7.5)
abbrev pub no_bytes : List ℕ → Bool
no_bytes [] = true
no_bytes (b ∷ bs) = false

abbrev pub EndsAreWritten : Type 0
EndsAreWritten =
    (s : State) (b : ℕ) (bs : Name) (ss : List Specification) (how : How) (proper at_once : Bool)
    → HasValues s (Start (b ∷ bs) ss how proper at_once) → is_declared s.context.doctype (b ∷ bs) ≡ true →
    let values = map (λ (a : Attribute). a.value) (valued s (Start (b ∷ bs) ss how proper at_once)) in
    no_bytes (ending (inside_after s.context.doctype (b ∷ bs) values) (b ∷ bs)) ≡ ends_at_once s.context.doctype (b ∷ bs) ss
