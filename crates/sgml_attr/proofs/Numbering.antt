-- Definitions by their numbers.
use Rattle.std.proofs.Common.{◌≡◌, ◌<◌, ◌+◌, ◌==◌, ◌&&◌, ◌||◌, not, cond, ℕ, suc, Bool, true, false, List, [], ◌∷◌, ◌++◌, Option, Some, None, refl, sym, ap, ◌∙◌, arith, length, drop, if◌then◌else◌}
use Rattle.std.specs.Prelude.{position, option_map, nat_lt, IfSome}
use Rattle.std.specs.List.{list_any, position_or_len}
use Rattle.std.specs.Str.{bytes_eq}
use Rattle.std.proofs.lemmas.Grind.{common_steps}
use Rattle.sgml_text.specs.declared.unit.Unit.{Unit as AnyUnit}
use Rattle.sgml_names.specs.Index.{found}
use Rattle.sgml_attr.specs.declared.definition.Declared.{Declared}
use Rattle.sgml_attr.specs.declared.definition.Declared.TheVariants as declared
use Rattle.sgml_attr.specs.declared.definition.Definition.{Definition}
use Rattle.sgml_attr.specs.Tokens.{token_of}
use Rattle.sgml_names.specs.Lists.{has}
use Rattle.sgml_attr.specs.Matching.{is_named, has_member, unless_later, only_position, attribute_by}
use Rattle.sgml_names.specs.Lists.{with_number}
use Rattle.sgml_attr.specs.Finding.{group_of, names_from, members_from, with_another, unless_another, only_number}

abbrev pub shifted : ℕ → Option ℕ → Option ℕ
shifted n None = None
shifted n (Some i) = Some (n + i)

pub from-zero : (o : Option ℕ) → shifted 0 o ≡ o
from-zero None = refl
from-zero (Some i) = let e : 0 + i ≡ i = omega arith in ap (λ (x : ℕ). Some x) e

onward : (n : ℕ) (o : Option ℕ) → shifted (n + 1) o ≡ shifted n (option_map suc o)
onward n None = refl
onward n (Some i) = let e : (n + 1) + i ≡ n + suc i = omega arith in ap (λ (x : ℕ). Some x) e

step-lt : (a b : ℕ) → nat_lt (1 + a) (suc b) ≡ nat_lt a b
step-lt a b = grind (arith, common_steps)

first-lt : (b : ℕ) → nat_lt 0 (suc b) ≡ true
first-lt b = grind (arith, common_steps)

module _ {X : Type 0} (p : X → Bool) where
  place-by : (b : Bool) (a n : ℕ) → cond (nat_lt (cond (not b) (1 + a) 0) (suc n)) (Some (cond (not b) (1 + a) 0)) None ≡ cond b (Some 0) (option_map suc (cond (nat_lt a n) (Some a) None))
  place-by true a n = ap (λ (v : Bool). cond v (Some 0) None) (first-lt n)
  place-by false a n = ap (λ (v : Bool). cond v (Some (1 + a)) None) (step-lt a n) ∙ by (nat_lt a n)
    where
      by : (v : Bool) → cond v (Some (1 + a)) None ≡ option_map suc (cond v (Some a) None)
      by true = let e : 1 + a ≡ suc a = omega arith in ap (λ (x : ℕ). Some x) e
      by false = refl

  -- the first place, from the second item on
  pub position-cons : (x : X) (xs : List X) → position p (x ∷ xs) ≡ cond (p x) (Some 0) (option_map suc (position p xs))
  position-cons x xs = place-by (p x) (position_or_len p xs) (length xs)

  later-on : (x : X) (xs : List X) (o : Option ℕ) → unless_later p (x ∷ xs) (option_map suc o) ≡ option_map suc (unless_later p xs o)
  later-on x xs None = refl
  later-on x xs (Some i) =
      let e : suc i + 1 ≡ suc (i + 1) = omega arith in
      ap (λ (n : ℕ). if list_any p (drop n (x ∷ xs)) then None else Some (suc i)) e ∙ by (list_any p (drop (i + 1) xs))
    where
      by : (v : Bool) → (if v then None else Some (suc i)) ≡ option_map suc (if v then None else Some i)
      by true = refl
      by false = refl

  only-by : (b : Bool) (x : X) (xs : List X) → unless_later p (x ∷ xs) (cond b (Some 0) (option_map suc (position p xs))) ≡ cond b (if list_any p xs then None else Some 0) (option_map suc (only_position p xs))
  only-by true x xs = refl
  only-by false x xs = later-on x xs (position p xs)

  -- the only place, from the second item on
  pub only-cons : (x : X) (xs : List X) → only_position p (x ∷ xs) ≡ cond (p x) (if list_any p xs then None else Some 0) (option_map suc (only_position p xs))
  only-cons x xs = ap (unless_later p (x ∷ xs)) (position-cons x xs) ∙ only-by (p x) x xs

  pub position-within : (xs : List X) → IfSome (position p xs) (λ i. i < length xs)
  position-within xs = by (nat_lt (position_or_len p xs) (length xs)) refl
    where
      by : (v : Bool) → nat_lt (position_or_len p xs) (length xs) ≡ v → IfSome (cond v (Some (position_or_len p xs)) None) (λ i. i < length xs)
      by true e = grind (arith, common_steps)
      by false e = tt

  later-within : (xs : List X) (o : Option ℕ) → IfSome o (λ i. i < length xs) → IfSome (unless_later p xs o) (λ i. i < length xs)
  later-within xs None h = tt
  later-within xs (Some i) h = by (list_any p (drop (i + 1) xs))
    where
      by : (v : Bool) → IfSome (if v then None else Some i) (λ j. j < length xs)
      by true = tt
      by false = h

  pub only-within : (xs : List X) → IfSome (only_position p xs) (λ i. i < length xs)
  only-within xs = later-within xs (position p xs) (position-within xs)

pub attribute-within : (folding : Bool) (ds : List Definition) (name : Option (List ℕ)) (units : List AnyUnit) → IfSome (attribute_by folding ds name units) (λ i. i < length ds)
attribute-within folding ds (Some name) units = position-within (is_named folding name) ds
attribute-within folding ds None units = only-within (λ d. has_member (token_of folding units) d.declared) ds

-- the number of the first definition of a name
pub names-position : (n : ℕ) (ds : List Definition) (name : List ℕ) → found (names_from n ds) name ≡ shifted n (position (λ d. bytes_eq name d.name) ds)
names-position n [] name = refl
names-position n (d ∷ ds) name =
    ap (cond (bytes_eq name d.name) (Some n)) (names-position (n + 1) ds name)
    ∙ by (bytes_eq name d.name) (position (λ d. bytes_eq name d.name) ds)
    ∙ ap (shifted n) (sym (position-cons (λ (d : Definition). bytes_eq name d.name) d ds))
  where
    by : (b : Bool) (o : Option ℕ) → cond b (Some n) (shifted (n + 1) o) ≡ shifted n (cond b (Some 0) (option_map suc o))
    by true o = let e : n ≡ n + 0 = omega arith in ap (λ (x : ℕ). Some x) e
    by false o = onward n o

pub has-group : (name : List ℕ) (d : Declared) → has (group_of d) name ≡ has_member name d
has-group name (declared.Notation names) = refl
has-group name (declared.Group names) = refl
has-group name _ = refl

same-number : (n : ℕ) → (n == n) ≡ true
same-number n = grind (arith, common_steps)

other-number : (n m : ℕ) → n < m → (m == n) ≡ false
other-number n m l = grind (arith, common_steps)

-- names with the same number
own-group : (n : ℕ) (g : List (List ℕ)) (es : List (List ℕ × ℕ)) (name : List ℕ) → with_another n (with_number n g ++ es) name ≡ with_another n es name
own-group n [] es name = refl
own-group n (x ∷ g) es name =
    ap (λ (b : Bool). (bytes_eq name x && not b) || with_another n (with_number n g ++ es) name) (same-number n)
    ∙ by (bytes_eq name x) (with_another n (with_number n g ++ es) name) ∙ own-group n g es name
  where
    by : (b r : Bool) → ((b && false) || r) ≡ r
    by true r = refl
    by false r = refl

-- names with another
other-group : (n m : ℕ) (g : List (List ℕ)) (es : List (List ℕ × ℕ)) (name : List ℕ) → n < m → with_another n (with_number m g ++ es) name ≡ (has g name || with_another n es name)
other-group n m [] es name l = refl
other-group n m (x ∷ g) es name l =
    ap (λ (b : Bool). (bytes_eq name x && not b) || with_another n (with_number m g ++ es) name) (other-number n m l)
    ∙ ap (λ (r : Bool). (bytes_eq name x && true) || r) (other-group n m g es name l)
    ∙ by (bytes_eq name x) (has g name) (with_another n es name)
  where
    by : (b h r : Bool) → ((b && true) || (h || r)) ≡ ((b || h) || r)
    by true h r = refl
    by false h r = refl

-- a later definition has the name in its group
others-later : (n m : ℕ) (ds : List Definition) (name : List ℕ) → n < m → with_another n (members_from m ds) name ≡ list_any (λ d. has_member name d.declared) ds
others-later n m [] name l = refl
others-later n m (d ∷ ds) name l =
    other-group n m (group_of d.declared) (members_from (m + 1) ds) name l
    ∙ ap (λ (r : Bool). has (group_of d.declared) name || r) (others-later n (m + 1) ds name (omega arith))
    ∙ ap (λ (h : Bool). h || list_any (λ d. has_member name d.declared) ds) (has-group name d.declared)

group-first : (n : ℕ) (g : List (List ℕ)) (es : List (List ℕ × ℕ)) (name : List ℕ) → only_number (with_number n g ++ es) name ≡ cond (has g name) (unless_another (Some n) es name) (only_number es name)
group-first n [] es name = refl
group-first n (x ∷ g) es name = by (bytes_eq name x) (group-first n g es name)
  where
    by : (b : Bool) → only_number (with_number n g ++ es) name ≡ cond (has g name) (unless_another (Some n) es name) (only_number es name)
        → (if b then unless_another (Some n) (with_number n g ++ es) name else only_number (with_number n g ++ es) name)
        ≡ cond (b || has g name) (unless_another (Some n) es name) (only_number es name)
    by true again = ap (λ (a : Bool). if a then None else Some n) (own-group n g es name)
    by false again = again

-- the number of the only definition in whose group a name is
pub members-only : (n : ℕ) (ds : List Definition) (name : List ℕ) → only_number (members_from n ds) name ≡ shifted n (only_position (λ d. has_member name d.declared) ds)
members-only n [] name = refl
members-only n (d ∷ ds) name =
    group-first n (group_of d.declared) (members_from (n + 1) ds) name
    ∙ ap (λ (b : Bool). cond b (unless_another (Some n) (members_from (n + 1) ds) name) (only_number (members_from (n + 1) ds) name)) (has-group name d.declared)
    ∙ ap (λ (a : Bool). cond (has_member name d.declared) (if a then None else Some n) (only_number (members_from (n + 1) ds) name)) (others-later n (n + 1) ds name (omega arith))
    ∙ ap (cond (has_member name d.declared) (if list_any (λ d. has_member name d.declared) ds then None else Some n)) (members-only (n + 1) ds name)
    ∙ by (has_member name d.declared) (list_any (λ d. has_member name d.declared) ds) (only_position (λ d. has_member name d.declared) ds)
    ∙ ap (shifted n) (sym (only-cons (λ (d : Definition). has_member name d.declared) d ds))
  where
    by : (b a : Bool) (o : Option ℕ) → cond b (if a then None else Some n) (shifted (n + 1) o) ≡ shifted n (cond b (if a then None else Some 0) (option_map suc o))
    by true true o = refl
    by true false o = let e : n ≡ n + 0 = omega arith in ap (λ (x : ℕ). Some x) e
    by false a o = onward n o
