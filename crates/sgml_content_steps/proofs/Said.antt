-- The values that are told of a start by numbers are those of the piece.
use Rattle.std.specs.Prelude.{◌≡◌, ℕ, suc, Bool, List, [], ◌∷◌, Option, Some, None, length, slice_get}
use Rattle.std.proofs.Common.{refl, sym, ap, ◌∙◌, arith}
use Rattle.std.proofs.lemmas.List.{length-map}
use Rattle.sgml_attr.specs.declared.definition.Definition.{Definition}
use Rattle.sgml_attr.specs.declared.value.AttrValue.{AttrValue}
use Rattle.sgml_infer.specs.sgml_dtd.dtd_elements.Types.{ElementType, types}
use Rattle.sgml_infer.specs.sgml_dtd.Doctypes.{Doctype, definitions_for}
use Rattle.sgml_starts.specs.declared.starts.StartValues.{StartValues}
use Rattle.sgml_theory_starts.specs.theory_reading.Names.{Name}
use Rattle.sgml_theory_starts.specs.theory_reading.Types.{attributes}
use Rattle.sgml_theory_starts.specs.theory_reading.Pieces.{Specification, How, Start}
use Rattle.sgml_theory_starts.specs.theory_reading.Reads.{Attribute}
use Rattle.sgml_theory_starts.specs.theory_reading.State.{State}
use Rattle.sgml_theory_starts.specs.theory_spelling.Attributes.{attribute_of, valued}
use Rattle.sgml_theory_starts.specs.Starts.{Table, attribute_with}
use Rattle.sgml_said.specs.Told.{attributes_with, definitions_in, definitions_at}
use Rattle.sgml_said.specs.Told as told
use Rattle.sgml_infer.specs.Tables.{name_in, name_at, IsNumber}
use Rattle.sgml_infer.proofs.Numbers.{found-at}
use Rattle.sgml_theory_starts.specs.Valued.{IsValued}

-- the name and the attribute definitions of the element type of a number
named-alike : (o : Option ElementType) → told.name_in o ≡ name_in o
named-alike None = refl
named-alike (Some t) = refl

pub same-name : (d : Doctype) (n : ℕ) → told.name_at d n ≡ name_at d n
same-name d n = named-alike (slice_get (types d.elements) n)

abbrev named-in : Doctype → Option ElementType → List Definition
named-in d o = definitions_for d.lists (name_in o)

pub same-definitions : (d : Doctype) (n : ℕ) → IsNumber d n → definitions_at d n ≡ attributes d (name_at d n)
unfolding attributes
same-definitions d n is =
    let e = found-at (types d.elements) n is in
    ap (definitions_in d) e.1 ∙ ap (named-in d) (sym e.1)

-- by index, and in their order
each-said : (xs : List Definition) (vs : List AttrValue) (all : List Attribute) → length vs ≡ length xs → length all ≡ length xs
    → ((i : ℕ) (x : Definition) → slice_get xs i ≡ Some x → (v : AttrValue) × (slice_get vs i ≡ Some v) × (slice_get all i ≡ Some (attribute_with x v)))
    → attributes_with xs vs ≡ all
each-said [] vs [] m n e = refl
each-said [] vs (a ∷ all) m n e = absurd (omega arith)
each-said (x ∷ xs) [] all m n e = absurd (omega arith)
each-said (x ∷ xs) (v ∷ vs) [] m n e = absurd (omega arith)
each-said (x ∷ xs) (v ∷ vs) (a ∷ all) m n e =
    let h = e 0 x refl in
    let p : v ≡ h.0 = cc (h.1) in
    let q : a ≡ attribute_with x h.0 = cc (h.2) in
    let r : attribute_with x v ≡ a = ap (attribute_with x) p ∙ sym q in
    let rest = each-said xs vs all (omega arith) (omega arith) (λ i y g. e (suc i) y g) in
    λ i. r i ∷ rest i

pub values-are-said : (d : Doctype) (element : ℕ) (s : State) (n : Name) (ss : List Specification) (how : How) (proper at_once : Bool) (told : StartValues) (new : Table)
    → IsNumber d element → s.context.doctype ≡ d → name_at d element ≡ n → IsValued s n ss how proper at_once told new
    → attributes_with (definitions_at d element) told.values ≡ valued s (Start n ss how proper at_once)
unfolding valued
values-are-said d element s n ss how proper at_once told new is at named has =
    let same : definitions_at d element ≡ attributes s.context.doctype n = same-definitions d element is ∙ (λ i. attributes (sym at i) (named i)) in
    ap (λ xs. attributes_with xs told.values) same
    ∙ each-said (attributes s.context.doctype n) told.values (valued s (Start n ss how proper at_once)) has.as_many
    (length-map (attributes s.context.doctype n) (attribute_of s.context.doctype s.currents n ss)) has.values
