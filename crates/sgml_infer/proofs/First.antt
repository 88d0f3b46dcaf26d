-- The element type that must come first in an element.
use Rattle.std.specs.Prelude.{IfSome}
use Rattle.std.proofs.Common.{◌≡◌, ◌==◌, ℕ, Bool, true, false, Option, Some, None, refl, sym, ap, ◌∙◌, subst}
use Rattle.std.proofs.lemmas.Bool.{eqb-true}
use Rattle.sgml_automaton.specs.model.Term.{Term, required}
use Rattle.sgml_automaton.specs.Position.{room}
use Rattle.sgml_automaton.specs.declared.state.ModelState.{ModelState}
use Rattle.sgml_dtd_elements.specs.Types.{types, number_of}
use Rattle.sgml_dtd_elements.specs.Laws.{AreDistinct}
use Rattle.sgml_dtd.specs.Doctypes.{Doctype}
use Rattle.sgml_theory_reading.specs.Names.{Name}
use Rattle.sgml_theory_reading.specs.Types.{Content, Model, Any, Cdata, Rcdata, Void, content_of}
use Rattle.sgml_theory_reading.specs.Context.{Context}
use Rattle.sgml_theory_reading.specs.Omission.{left_of}
use Rattle.sgml_infer.specs.Tables.{name_in, name_at, type_at, IsNumber}
use Rattle.sgml_infer.specs.Trees.{left_in, IsPositionIn}
use Rattle.sgml_infer.specs.Known.{first_by, first_in}
use Rattle.sgml_infer.specs.Seen.{IsInner}
use Rattle.sgml_infer.proofs.Numbers.{found-at, number-at}
use Rattle.sgml_infer.proofs.Contents.{number-within, name-found}
use Rattle.sgml_infer.proofs.Asked.{left-inner}

-- a name that must come next, and its number
abbrev pub MustCome : Doctype → Term → ℕ → Type 0
MustCome t r i = (n : Name) × (required r ≡ Some n) × (number_of t.elements n ≡ Some i)

first-found : (t : Doctype) (c : Content) (s : ModelState) (i : ℕ) → IsPositionIn c 0 s → first_in t c ≡ Some i → MustCome t (left_in c s) i
first-found t (Model x) s i p h = by-room (room x == 0) refl (required x) refl h
  where
    by-room : (b : Bool) → (room x == 0) ≡ b → (o : Option Name) → required x ≡ o → first_by t b o ≡ Some i → MustCome t (left_in (Model x) s) i
    by-room true z (Some n) r h = (n, ap required (p (eqb-true (room x) 0 z)) ∙ r, h)
    by-room true z None r h = cc
    by-room false z (Some n) r h = cc
    by-room false z None r h = cc
first-found t Any s i p h = cc
first-found t Cdata s i p h = cc
first-found t Rcdata s i p h = cc
first-found t Void s i p h = cc

module _ (t : Doctype) (i p : ℕ) (s : ModelState) (c : Context) (d : AreDistinct t.elements) (w : IsInner t i p s c) where
  abbrev IsFirst : ℕ → Type 0
  IsFirst n = (p ≡ 0) × (first_in t (content_of (type_at t i)) ≡ Some n)

  first-comes : (n : ℕ) → IsFirst n → MustCome t (left_in (content_of (type_at t i)) s) n
  first-comes n h = first-found t (content_of (type_at t i)) s n (subst (λ (k : ℕ). IsPositionIn (content_of (type_at t i)) k s) h.0 w.position) h.1

  pub first-numbered : (o : Option ℕ) → IfSome o IsFirst → IfSome o (IsNumber t)
  first-numbered None h = tt
  first-numbered (Some n) h = let m = first-comes n h in number-within t m.0 n m.2

  pub first-required : (o : Option ℕ) → IfSome o IsFirst → IfSome o (λ n. required (left_of c) ≡ Some (name_at t n))
  first-required None h = tt
  first-required (Some n) h =
      let m = first-comes n h in
      sym (ap required (left-inner t i p s c d w)) ∙ (m.1 ∙ ap Some (sym (name-found t m.0 n m.2)))

pub known-first : (p : ℕ) (o q : Option ℕ) → o ≡ q → p ≡ 0 → IfSome o (λ n. (p ≡ 0) × (q ≡ Some n))
known-first p None q h z = tt
known-first p (Some n) q h z = (z, sym h)

-- each number is that of its name
pub own-number : (t : Doctype) (i : ℕ) → AreDistinct t.elements → IsNumber t i → number_of t.elements (name_at t i) ≡ Some i
own-number t i d k =
    let e = found-at (types t.elements) i k in
    ap (λ o. number_of t.elements (name_in o)) e.1 ∙ number-at t.elements i e.0 d e.1
