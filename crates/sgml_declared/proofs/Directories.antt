-- The directory of a file, byte by byte.
use Rattle.std.proofs.Common.{◌≡◌, ℕ, Bool, true, false, ◌+◌, ◌<◌, ◌==◌, ◌||◌, List, [], ◌∷◌, ◌++◌, length, take, get_or, refl, ap, sym, ◌∙◌, if◌then◌else◌, add-one, eqb-true, eq-eqb}
use Rattle.std.proofs.Math.Seq.{take-suc}
use Rattle.std.specs.List.{list_any}
use Rattle.std.proofs.lemmas.List.Folds.{list_any-append}
use Rattle.sgml_declared.specs.Files.{is_slash, directory}

or-true : (b : Bool) → (b || true) ≡ true
or-true true = refl
or-true false = refl

or-false : (b : Bool) → (b || false) ≡ b
or-false true = refl
or-false false = refl

-- whether a slash stands before the last byte, or is it
any-last : (xs : List ℕ) (b : ℕ) → list_any is_slash (xs ++ b ∷ []) ≡ (list_any is_slash xs || (is_slash b || false))
any-last xs b = list_any-append is_slash xs (b ∷ [])

any-slash : (xs : List ℕ) (b : ℕ) → is_slash b ≡ true → list_any is_slash (xs ++ b ∷ []) ≡ true
any-slash xs b e = any-last xs b ∙ (ap (λ t. list_any is_slash xs || (t || false)) e ∙ or-true (list_any is_slash xs))

any-other : (xs : List ℕ) (b : ℕ) → is_slash b ≡ false → list_any is_slash (xs ++ b ∷ []) ≡ list_any is_slash xs
any-other xs b e = any-last xs b ∙ (ap (λ t. list_any is_slash xs || (t || false)) e ∙ or-false (list_any is_slash xs))

-- a name that ends in a slash is its directory
directory-slash : (xs : List ℕ) (b : ℕ) → is_slash b ≡ true → directory (xs ++ b ∷ []) ≡ xs ++ b ∷ []
directory-slash [] b e = ap (λ t. if t || false then b ∷ [] else []) e
directory-slash (x ∷ xs) b e =
    ap (λ t. if t then x ∷ directory (xs ++ b ∷ []) else []) (any-slash (x ∷ xs) b e) ∙ ap (λ l. x ∷ l) (directory-slash xs b e)

-- another byte at the end leaves it
directory-other : (xs : List ℕ) (b : ℕ) → is_slash b ≡ false → directory (xs ++ b ∷ []) ≡ directory xs
directory-other [] b e = ap (λ t. if t || false then b ∷ [] else []) e
directory-other (x ∷ xs) b e =
    (λ i. if any-other (x ∷ xs) b e i then x ∷ directory-other xs b e i else [])

-- by the byte's code
is-slash : (b : ℕ) → b ≡ 47 → is_slash b ≡ true
is-slash b e = eq-eqb b 47 e

other-slash : (b : ℕ) → (b ≡ 47 → ⊥) → is_slash b ≡ false
other-slash b n = by (b == 47) refl
  where
    by : (t : Bool) → (b == 47) ≡ t → (b == 47) ≡ false
    by true e = absurd (n (eqb-true b 47 e))
    by false e = e

-- after one byte more
one-more : (xs : List ℕ) (i : ℕ) → i < length xs → take (i + 1) xs ≡ take i xs ++ (get_or xs i 0 ∷ [])
one-more xs i l = ap (λ n. take n xs) (add-one i) ∙ take-suc xs i 0 l

pub directory-at-slash : (xs : List ℕ) (i : ℕ) → i < length xs → get_or xs i 0 ≡ 47 → directory (take (i + 1) xs) ≡ take (i + 1) xs
directory-at-slash xs i l e =
    ap directory (one-more xs i l) ∙ (directory-slash (take i xs) (get_or xs i 0) (is-slash (get_or xs i 0) e) ∙ sym (one-more xs i l))

pub directory-at-other : (xs : List ℕ) (i : ℕ) → i < length xs → (get_or xs i 0 ≡ 47 → ⊥) → directory (take (i + 1) xs) ≡ directory (take i xs)
directory-at-other xs i l n = ap directory (one-more xs i l) ∙ directory-other (take i xs) (get_or xs i 0) (other-slash (get_or xs i 0) n)
