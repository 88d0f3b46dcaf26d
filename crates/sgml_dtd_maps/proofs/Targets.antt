-- Tables of names in which an earlier number holds.
use Rattle.std.proofs.Common.{◌≡◌, ◌<◌, ◌+◌, ℕ, zero, suc, Bool, true, false, ◌||◌, List, [], ◌∷◌, ◌++◌, Option, Some, None, refl, ap, ◌∙◌, cond, if◌then◌else◌, is_some, arith, length, get_or}
use Rattle.std.specs.Str.{bytes_eq}
use Rattle.std.proofs.lemmas.Slice.Eq.{bytes_eq-Decides}
use Rattle.sgml_names.specs.Index.{found}
use Rattle.sgml_names.specs.Lists.{has}
use Rattle.sgml_dtd_maps.specs.declared.uses.MapUse.{MapUse}
use Rattle.sgml_dtd_maps.specs.Tables.{first_use}
use Rattle.sgml_dtd_maps.specs.Numbered.{or_number, use_from}

push_here : (b c : Bool) (k n : ℕ) (r s : Option ℕ) → s ≡ or_number r c n → cond b (Some k) s ≡ or_number (cond b (Some k) r) c n
push_here true c k n r s e = refl
push_here false c k n r s e = e

-- one name more, at the end
pub found-push : (table : List (List ℕ × ℕ)) (name : List ℕ) (n : ℕ) (q : List ℕ) → found (table ++ (name, n) ∷ []) q ≡ or_number (found table q) (bytes_eq q name) n
found-push [] name n q = refl
found-push (e ∷ es) name n q = push_here (bytes_eq q e.0) (bytes_eq q name) e.1 n (found es q) (found (es ++ (name, n) ∷ []) q) (found-push es name n q)

kept : (r : Option ℕ) (b : Bool) (n : ℕ) → (b ≡ true → is_some r ≡ true) → r ≡ or_number r b n
kept (Some k) b n h = refl
kept None true n h = let never : false ≡ true = h refl in cc
kept None false n h = refl

-- a name that is there stays as it is
pub found-kept : (table : List (List ℕ × ℕ)) (name : List ℕ) (n : ℕ) (q : List ℕ) → is_some (found table name) ≡ true → found table q ≡ or_number (found table q) (bytes_eq q name) n
found-kept table name n q there = kept (found table q) (bytes_eq q name) n (λ e. ap (λ (x : List ℕ). is_some (found table x)) ((bytes_eq-Decides q name).0 e) ∙ there)

pub or_both : (r : Option ℕ) (b c : Bool) (n : ℕ) → or_number (or_number r b n) c n ≡ or_number r (b || c) n
or_both (Some k) b c n = refl
or_both None true c n = refl
or_both None false c n = refl

-- one use more
from_here : (b c : Bool) (k n : ℕ) (r s : Option ℕ) → s ≡ or_number r c n → (if b then Some k else s) ≡ or_number (if b then Some k else r) c n
from_here true c k n r s e = refl
from_here false c k n r s e = e

pub use-append : (k : ℕ) (us : List MapUse) (u : MapUse) (q : List ℕ) → use_from k (us ++ u ∷ []) q ≡ or_number (use_from k us q) (has u.targets q) (k + length us)
use-append k [] u q = let count : k ≡ k + 0 = omega arith in ap (λ (n : ℕ). if has u.targets q then Some n else None) count
use-append k (x ∷ us) u q =
    let count : (k + 1) + length us ≡ k + length (x ∷ us) = omega arith in
    from_here (has x.targets q) (has u.targets q) k (k + length (x ∷ us)) (use_from (k + 1) us q) (use_from (k + 1) (us ++ u ∷ []) q)
    (use-append (k + 1) us u q ∙ ap (λ (n : ℕ). or_number (use_from (k + 1) us q) (has u.targets q) n) count)

-- where the use of a number stands
pub record UseAt (n k : ℕ) (us : List MapUse) (q : List ℕ) : Type 0 where
  pub place : ℕ
  pub number : k ≡ n + place
  pub within : place < length us
  pub stands : (d : MapUse) → first_use us q ≡ Some (get_or us place d)

use_here : (b : Bool) (n k : ℕ) (u : MapUse) (us : List MapUse) (q : List ℕ) → has u.targets q ≡ b → (if b then Some n else use_from (n + 1) us q) ≡ Some k
    → (use_from (n + 1) us q ≡ Some k → UseAt (n + 1) k us q) → UseAt n k (u ∷ us) q
use_here true n k u us q is e again =
    let same : n ≡ k = cc in
    record { place = zero; number = omega arith; within = omega arith; stands = λ d. ap (λ (b : Bool). if b then Some u else first_use us q) is }
use_here false n k u us q is e again =
    let later = again e in
    let at : k ≡ (n + 1) + later.place = later.number in
    let below : later.place < length us = later.within in
    record { place = suc later.place; number = omega arith; within = omega arith; stands = λ d. ap (λ (b : Bool). if b then Some u else first_use us q) is ∙ later.stands d }

pub use_found : (n k : ℕ) (us : List MapUse) (q : List ℕ) → use_from n us q ≡ Some k → UseAt n k us q
use_found n k [] q e = cc
use_found n k (u ∷ us) q e = use_here (has u.targets q) n k u us q refl e (λ later. use_found (n + 1) k us q later)

none_here : (b : Bool) (n : ℕ) (u : MapUse) (us : List MapUse) (q : List ℕ) → (if b then Some n else use_from (n + 1) us q) ≡ None
    → (use_from (n + 1) us q ≡ None → first_use us q ≡ None) → (if b then Some u else first_use us q) ≡ None
none_here true n u us q e again = cc
none_here false n u us q e again = again e

pub no_use : (n : ℕ) (us : List MapUse) (q : List ℕ) → use_from n us q ≡ None → first_use us q ≡ None
no_use n [] q e = refl
no_use n (u ∷ us) q e = none_here (has u.targets q) n u us q e (λ later. no_use (n + 1) us q later)
