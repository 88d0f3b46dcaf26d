-- What a document type says of the element type of a number.
use Rattle.std.proofs.Common.{◌≡◌, ℕ, true, Option, Some, is_some, unwrap_or, refl, sym, ap, ◌∙◌}
use Rattle.std.specs.List.{list_any}
use Rattle.sgml_dtd_elements.specs.Types.{ElementType, types}
use Rattle.sgml_dtd_elements.specs.Laws.{AreDistinct}
use Rattle.sgml_dtd.specs.Doctypes.{Doctype, definitions_for}
use Rattle.sgml_theory_reading.specs.Names.{Name}
use Rattle.sgml_theory_reading.specs.Types.{element_type, type_of, undeclared, is_declared, attributes, has_required, is_required}
use Rattle.sgml_theory_reading.proofs.FirstDeclared.{named, element-type-is}
use Rattle.sgml_infer.specs.Tables.{name_in, name_at, said_in, type_at, IsNumber}
use Rattle.sgml_infer.proofs.Numbers.{named-at, found-at}

pub required-are : (t : Doctype) (n : Name) → has_required t n ≡ list_any is_required (definitions_for t.lists n)
unfolding has_required attributes
required-are t n = refl

pub declared-at : (t : Doctype) (i : ℕ) → AreDistinct t.elements → IsNumber t i → element_type t (name_at t i) ≡ Some (type_at t i)
declared-at t i h k =
    let e = found-at (types t.elements) i k in
    element-type-is t (name_at t i)
    ∙ (ap (λ (o : Option ElementType). named (name_in o) (types t.elements)) e.1
    ∙ (named-at t.elements i e.0 h e.1 ∙ sym (ap (λ (o : Option ElementType). Some (said_in o)) e.1)))

pub said-of : (t : Doctype) (i : ℕ) → AreDistinct t.elements → IsNumber t i → type_of t (name_at t i) ≡ type_at t i
unfolding type_of
said-of t i h k = ap (λ o. unwrap_or o undeclared) (declared-at t i h k)

pub is-declared : (t : Doctype) (i : ℕ) → AreDistinct t.elements → IsNumber t i → is_declared t (name_at t i) ≡ true
is-declared t i h k = ap is_some (declared-at t i h k)
