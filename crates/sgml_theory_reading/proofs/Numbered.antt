-- An entity keeps its number.
use Rattle.std.proofs.Common.{◌≡◌, ℕ, zero, suc, ◌-◌, Bool, true, false, if◌then◌else◌, List, [], ◌∷◌, ◌++◌, Some, None, is_some, nat_lt}
use Rattle.std.specs.List.{slice_get}
use Rattle.sgml_dtd.specs.entity.declared.kinds.Entity.{Entity}
use Rattle.sgml_dtd.specs.entity.Entities.{number_of, entity_at}
use Rattle.sgml_dtd.specs.decl_forms.declared.declaration.Declaration.{Declaration}
use Rattle.sgml_dtd.specs.decl_forms.declared.declaration.Declaration.TheVariants as form
use Rattle.sgml_dtd.specs.Doctypes.{Doctype, with_declared}
use Rattle.sgml_theory_reading.specs.Names.{Text}
use Rattle.sgml_theory_reading.specs.Types.{entity}
use Rattle.sgml_theory_reading.specs.Pieces.{Kind, Sgml, Head, Declare}
use Rattle.sgml_theory_reading.specs.Facets.{declares}

stands-before : (xs ys : List Entity) (i : ℕ) (e : Entity) → slice_get xs i ≡ Some e → slice_get (xs ++ ys) i ≡ Some e
stands-before [] ys zero e h = absurd (cc)
stands-before [] ys (suc i) e h = absurd (cc)
stands-before (x ∷ xs) ys zero e h = h
stands-before (x ∷ xs) ys (suc i) e h = stands-before xs ys i e h

at-number : (b : Bool) (xs ys : List Entity) (i : ℕ) (e : Entity) → (if b then None else slice_get xs i) ≡ Some e → (if b then None else slice_get (xs ++ ys) i) ≡ Some e
at-number true xs ys i e h = absurd (cc)
at-number false xs ys i e h = stands-before xs ys i e h

one-more : (b : Bool) (es : List Entity) (x : Entity) (number : ℕ) (e : Entity) → entity_at es number ≡ Some e → entity_at (if b then es else es ++ x ∷ []) number ≡ Some e
one-more true es x number e h = h
one-more false es x number e h = at-number (nat_lt number 2) es (x ∷ []) (number - 2) e h

declared-more : (base : Text) (t : Doctype) (x : Declaration) (number : ℕ) (e : Entity) → entity_at t.entities number ≡ Some e → entity_at (with_declared base t x).entities number ≡ Some e
declared-more base t (form.Entity d) number e h = one-more (is_some (number_of t.entities _ _)) t.entities _ number e h
declared-more base t (form.Element d) number e h = h
declared-more base t (form.Attlist d) number e h = h
declared-more base t (form.Notation d) number e h = h
declared-more base t (form.Shortref d) number e h = h
declared-more base t (form.Usemap d) number e h = h
declared-more base t (form.Doctype d) number e h = h

pub number-stays : (d : Doctype) (k : Kind) (number : ℕ) (e : Entity) → entity d number ≡ Some e → entity (declares k d) number ≡ Some e
unfolding entity declares
number-stays d (Declare lexemes says base) number e h = declared-more base d says number e h
number-stays d (Head head base) number e h = h
number-stays d (Sgml syntax) number e h = h
number-stays d _ number e h = h
