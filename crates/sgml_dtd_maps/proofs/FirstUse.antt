-- The first use that names an element type.
use Rattle.std.proofs.Common.{◌≡◌, ℕ, Bool, true, false, ◌||◌, List, [], ◌∷◌, ◌++◌, Option, Some, None, refl, ap, ◌∙◌, if◌then◌else◌}
use Rattle.std.specs.List.{list_any}
use Rattle.sgml_names.specs.Lists.{has}
use Rattle.sgml_dtd_maps.specs.declared.uses.MapUse.{MapUse}
use Rattle.sgml_dtd_maps.specs.Tables.{first_use}
use Rattle.sgml_dtd_maps.specs.InOrder.{IsFirstUse}

found_here : (b : Bool) (v u : MapUse) (us : List MapUse) (name : List ℕ) → has v.targets name ≡ b → (if b then Some v else first_use us name) ≡ Some u
    → (first_use us name ≡ Some u → IsFirstUse us u name) → IsFirstUse (v ∷ us) u name
found_here true v u us name is e again =
    let same : v ≡ u = cc in
    record { before = []; after = us; are = ap (λ (x : MapUse). x ∷ us) same; names_it = ap (λ (x : List (List ℕ)). has x name) (ap (λ (x : MapUse). x.targets) (turned v u same)) ∙ is; none_before = refl }
  where
    turned : (a b : MapUse) → a ≡ b → b ≡ a
    turned a b h = cc
found_here false v u us name is e again =
    let later = again e in
    record { before = v ∷ later.before; after = later.after; are = ap (λ (x : List MapUse). v ∷ x) later.are; names_it = later.names_it; none_before = ap (λ (b : Bool). b || list_any (λ w. has w.targets name) later.before) is ∙ later.none_before }

pub found-first : (us : List MapUse) (u : MapUse) (name : List ℕ) → first_use us name ≡ Some u → IsFirstUse us u name
found-first [] u name e = cc
found-first (v ∷ us) u name e = found_here (has v.targets name) v u us name refl e (λ later. found-first us u name later)

passed_here : (b c : Bool) (v : MapUse) (r : Option MapUse) (u : MapUse) → (b || c) ≡ false → (c ≡ false → r ≡ Some u) → (if b then Some v else r) ≡ Some u
passed_here true c v r u e again = cc
passed_here false c v r u e again = again e

passed : (before after : List MapUse) (u : MapUse) (name : List ℕ) → has u.targets name ≡ true → list_any (λ v. has v.targets name) before ≡ false → first_use (before ++ u ∷ after) name ≡ Some u
passed [] after u name is e = ap (λ (b : Bool). if b then Some u else first_use after name) is
passed (v ∷ before) after u name is e = passed_here (has v.targets name) (list_any (λ w. has w.targets name) before) v (first_use (before ++ u ∷ after) name) u e (passed before after u name is)

pub first-found : (us : List MapUse) (u : MapUse) (name : List ℕ) → IsFirstUse us u name → first_use us name ≡ Some u
first-found us u name f = ap (λ (x : List MapUse). first_use x name) f.are ∙ passed f.before f.after u name f.names_it f.none_before

none_here : (b c : Bool) (v : MapUse) (r : Option MapUse) → (if b then Some v else r) ≡ None → (r ≡ None → c ≡ false) → (b || c) ≡ false
none_here true c v r e again = cc
none_here false c v r e again = again e

pub none-names : (us : List MapUse) (name : List ℕ) → first_use us name ≡ None → list_any (λ v. has v.targets name) us ≡ false
none-names [] name e = refl
none-names (v ∷ us) name e = none_here (has v.targets name) (list_any (λ w. has w.targets name) us) v (first_use us name) e (none-names us name)
