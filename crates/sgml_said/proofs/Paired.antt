-- Values beside the definitions of their attributes.
use Rattle.std.proofs.Common.{◌≡◌, ℕ, ◌+◌, ◌<◌, ◌≤◌, List, [], ◌∷◌, length, drop, get_or, refl, sym, ap, ◌∙◌, arith, suc, zero}
use Rattle.std.proofs.lemmas.List.{drop_all}
use Rattle.sgml_attr.specs.declared.definition.Definition.{Definition}
use Rattle.sgml_attr.specs.declared.value.AttrValue.{AttrValue}
use Rattle.sgml_said.specs.Told.{attributes_with}

pub none_left : (ds : List Definition) → attributes_with ds [] ≡ []
none_left [] = refl
none_left (d ∷ ds) = refl

pub no_values : (ds : List Definition) (vs : List AttrValue) (n : ℕ) → length vs ≤ n → attributes_with (drop n ds) (drop n vs) ≡ []
no_values ds vs n h = ap (attributes_with (drop n ds)) (drop_all n vs h) ∙ none_left (drop n ds)

pub no_definitions : (ds : List Definition) (vs : List AttrValue) (n : ℕ) → length ds ≤ n → attributes_with (drop n ds) (drop n vs) ≡ []
no_definitions ds vs n h = ap (λ (v : List Definition). attributes_with v (drop n vs)) (drop_all n ds h)

one_on : (i : ℕ) → suc (i + 1) ≡ suc i + 1
one_on i = omega arith

-- a list from a place on, by the member there
pub drop_here : {A : Type 0} (xs : List A) (i : ℕ) (x : A) → i < length xs → x ≡ get_or xs i x → drop i xs ≡ x ∷ drop (i + 1) xs
drop_here [] i x m e = absurd (omega (arith, m))
drop_here (y ∷ xs) zero x m e = ap (λ v. v ∷ xs) (sym e)
drop_here (y ∷ xs) (suc i) x m e = drop_here xs i x (omega (arith, m)) e ∙ ap (λ (n : ℕ). x ∷ drop n (y ∷ xs)) (one_on i)

-- no values have no attributes
pub nothing_with : (ds : List Definition) (vs : List AttrValue) → length vs < 1 → [] ≡ attributes_with ds vs
nothing_with ds [] m = sym (none_left ds)
nothing_with ds (v ∷ vs) m = absurd (omega (arith, m))
