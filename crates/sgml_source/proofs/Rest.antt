-- What wasn't supplied is given, one text after another.
use Rattle.std.proofs.Common.{◌≡◌, ◌<◌, ◌≤◌, ◌+◌, Bool, true, false, ℕ, Option, Some, None, refl, subst, inr, arith}
use Rattle.std.specs.Prelude.{nat_lt}
use Rattle.std.proofs.lemmas.Bool.{ltb-true, ltb-false}
use Rattle.sgml_parse.specs.declared.answer.Wanted.{Wanted}
use Rattle.sgml_parse.specs.Parsing.{Parser, IsUnsupplied}
use Rattle.sgml_parse.specs.Calls.{supplied_after}
use Rattle.sgml_parse.specs.Wanting.{IsFirstUnsupplied}
use Rattle.sgml_parse.proofs.Unsupplied.{before-supplied, supplied-once}
use Rattle.sgml_source.specs.Inputs.{Files}
use Rattle.sgml_source.specs.Feeding.{SuppliesIfTold, SuppliesRestIfTold, IsSupplied}

-- NOTHING was given at first
pub rest-at-first : (limit : ℕ) (known : Option Files) (p : Parser) → SuppliesRestIfTold limit known p p
rest-at-first limit None p = tt
rest-at-first limit (Some files) p = λ I more h told f x. x

pub none-before : (p : Parser) (v : Wanted) → v.entity < 0 → IsUnsupplied p v → ⊥
none-before p v l u = omega (arith, l)

-- ONE MORE
rest-more : (limit : ℕ) (known : Option Files) (old mid new : Parser) (w : Wanted) → SuppliesRestIfTold limit known old mid → IsUnsupplied mid w → SuppliesIfTold limit known w.entity w.name mid new → SuppliesRestIfTold limit known old new
rest-more limit None old mid new w r u s = tt
rest-more limit (Some files) old mid new w r u s = λ I more h told f x. s I more h told (inr u) (f w.name) (r I more h told f x)

pub rest-on : (limit : ℕ) (known known' : Option Files) (old mid new : Parser) (w : Wanted) → known' ≡ known → SuppliesRestIfTold limit known old mid → IsUnsupplied mid w → SuppliesIfTold limit known' w.entity w.name mid new
    → SuppliesRestIfTold limit known old new
rest-on limit known known' old mid new w e r u s = rest-more limit known old mid new w r u (subst (λ (z : Option Files). SuppliesIfTold limit z w.entity w.name mid new) e s)

pub left-on : (old new : Parser) (from next : ℕ) (w : Wanted) → ((v : Wanted) → v.entity < from → IsUnsupplied old v → ⊥) → IsFirstUnsupplied from old (Some w) → IsSupplied w.entity old new → next ≤ w.entity + 1
    → (v : Wanted) → v.entity < next → IsUnsupplied new v → ⊥
left-on old new from next w before first s b v l u =
    let now : IsUnsupplied (supplied_after w.entity s.0 old) v = subst (λ (z : Parser). IsUnsupplied z v) s.1 u in
    let was : IsUnsupplied old v = before-supplied old w.entity s.0 v now in
    by now was (nat_lt v.entity from) refl (nat_lt v.entity w.entity) refl
  where
    by : IsUnsupplied (supplied_after w.entity s.0 old) v → IsUnsupplied old v → (a : Bool) → nat_lt v.entity from ≡ a → (c : Bool) → nat_lt v.entity w.entity ≡ c → ⊥
    by now was true e c f = before v (ltb-true v.entity from e) was
    by now was false e true f = first.2 v (ltb-false v.entity from e) (ltb-true v.entity w.entity f) was
    by now was false e false f = supplied-once old w.entity s.0 v (omega (arith, ltb-false v.entity w.entity f, l, b)) now

-- NONE IS LEFT
pub none-at-all : (p : Parser) (from : ℕ) → ((v : Wanted) → v.entity < from → IsUnsupplied p v → ⊥) → IsFirstUnsupplied from p None → IsFirstUnsupplied 0 p None
none-at-all p from before none = λ v l u. by v u (nat_lt v.entity from) refl
  where
    by : (v : Wanted) → IsUnsupplied p v → (b : Bool) → nat_lt v.entity from ≡ b → ⊥
    by v u true e = before v (ltb-true v.entity from e) u
    by v u false e = none v (ltb-false v.entity from e) u
