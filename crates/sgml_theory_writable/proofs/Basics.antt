-- Tests, options and lists.
use Rattle.std.proofs.Common.{◌≡◌, ℕ, zero, suc, Bool, true, false, ◌&&◌, List, [], ◌∷◌, ◌++◌, None, Some, Result, Ok, Err, refl, subst, if◌then◌else◌}
use Rattle.std.specs.List.{slice_get}
use Rattle.sgml_theory_again.specs.sgml_theory_full.Named.{AllAre}

pub true-false : {P : Type 0} → true ≡ false → P
true-false e = absurd (cc)

pub none-some : {A : Type 0} {P : Type 0} (x : A) → None ≡ Some x → P
none-some x e = absurd (cc)

pub one-some : {A : Type 0} (x y : A) → Some x ≡ Some y → x ≡ y
one-some x y e = cc

pub both : (a b : Bool) → (a && b) ≡ true → (a ≡ true) × (b ≡ true)
both true b e = (refl, e)
both false b e = true-false (sym-false e)
  where
    sym-false : false ≡ true → true ≡ false
    sym-false e = absurd (cc)

pub and : (a b : Bool) → a ≡ true → b ≡ true → (a && b) ≡ true
and a b e f = rw e f

pub chosen : {A : Type 0} (Q : A → Type 0) (b : Bool) (x y : A) → (b ≡ true → Q x) → (b ≡ false → Q y) → Q (if b then x else y)
chosen Q true x y f g = f refl
chosen Q false x y f g = g refl

pub either : {A : Type 0} (Q : A → Type 0) (b : Bool) (x y : A) → Q x → Q y → Q (if b then x else y)
either Q true x y f g = f
either Q false x y f g = g

-- what holds of what an answer gives; a refusal gives nothing
abbrev pub Gives : {A E : Type 0} → (A → Type 0) → Result A E → Type 0
Gives Q (Ok a) = Q a
Gives Q (Err r) = Unit {0}

pub all-append : {A : Type 0} (P : A → Type 0) (xs ys : List A) → AllAre P xs → AllAre P ys → AllAre P (xs ++ ys)
all-append P [] ys a b = b
all-append P (x ∷ xs) ys a b = (a.0, all-append P xs ys a.1 b)

pub all-at : {A : Type 0} (P : A → Type 0) (xs : List A) (i : ℕ) (x : A) → AllAre P xs → slice_get xs i ≡ Some x → P x
all-at P [] i x a e = none-some x e
all-at P (y ∷ ys) zero x a e = subst P (one-some y x e) a.0
all-at P (y ∷ ys) (suc i) x a e = all-at P ys i x a.1 e

pub all-so : {A : Type 0} (P Q : A → Type 0) (xs : List A) → ((x : A) → P x → Q x) → AllAre P xs → AllAre Q xs
all-so P Q [] f a = tt
all-so P Q (x ∷ xs) f a = (f x a.0, all-so P Q xs f a.1)
