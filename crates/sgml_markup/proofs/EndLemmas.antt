-- Ends, from their parts.
use Rattle.std.proofs.Common.{◌≡◌, ℕ, zero, suc, Bool, true, false, List, [], ◌∷◌, ◌==◌, ◌+◌, ◌<◌, if◌then◌else◌, Option, None, Some, length, drop, refl, sym, ◌∙◌, ap, arith, add-one, slice_index_or, drop-drop, take, ◌-◌}
use Rattle.std.proofs.Math.Seq.{drop-cons, take-length}
use Rattle.std.proofs.lemmas.List.{length-drop}
use Rattle.sgml_markup.specs.Ends.{quoting, tag_end, pi_end}
use Rattle.sgml_delim.specs.Ends.{later}
use Rattle.sgml_text.specs.Characters.{is_quote}

pub pick-false : {A : Type 0} (t : Bool) (x y : A) → (t ≡ true → ⊥) → (if t then x else y) ≡ y
pick-false true x y h = absurd (h refl)
pick-false false x y h = refl

pub pick-true : {A : Type 0} (t : Bool) (x y : A) → t ≡ true → (if t then x else y) ≡ x
pick-true t x y e = ap (λ b. if b then x else y) e

pub pick-no : {A : Type 0} (t : Bool) (x y : A) → t ≡ false → (if t then x else y) ≡ y
pick-no t x y e = ap (λ b. if b then x else y) e

pub later-later : (i j : ℕ) (o : Option ℕ) → later i (later j o) ≡ later (i + j) o
later-later i j None = refl
later-later i j (Some n) = ap (λ m. Some m) (omega arith)

pub later-zero : (o : Option ℕ) → later 0 o ≡ o
later-zero None = refl
later-zero (Some n) = ap (λ m. Some m) (omega arith)

pub drop-at : (i : ℕ) (xs : List ℕ) → i < length xs → drop i xs ≡ slice_index_or xs i 0 ∷ drop (i + 1) xs
drop-at i xs h = drop-cons xs i 0 h ∙ ap (λ n. slice_index_or xs i 0 ∷ drop n xs) (sym (add-one i))

-- processing instructions
pub pi-none : (bytes : List ℕ) → ((k : ℕ) → k < length bytes → (slice_index_or bytes k 0 == 62) ≡ true → ⊥) → pi_end bytes ≡ None
pi-none [] h = refl
pi-none (b ∷ bs) h =
    pick-false (b == 62) (Some 1) (later 1 (pi_end bs)) (λ e. h 0 (omega arith) e)
    ∙ ap (later 1) (pi-none bs (λ k l e. h (suc k) (omega arith) e))

pub pi-some : (n : ℕ) (bytes : List ℕ) → n < length bytes
    → ((k : ℕ) → k < n → (slice_index_or bytes k 0 == 62) ≡ true → ⊥) → (slice_index_or bytes n 0 == 62) ≡ true
    → pi_end bytes ≡ Some (n + 1)
pi-some n [] l h e = absurd (omega arith)
pi-some zero (b ∷ bs) l h e = pick-true (b == 62) (Some 1) (later 1 (pi_end bs)) e
pi-some (suc n) (b ∷ bs) l h e =
    pick-false (b == 62) (Some 1) (later 1 (pi_end bs)) (λ d. h 0 (omega arith) d)
    ∙ ap (later 1) (pi-some n bs (omega arith) (λ k m d. h (suc k) (omega arith) d) e)
    ∙ ap (λ m. Some m) (omega arith)

-- literals of tags
pub quoted-none : (shorttag : Bool) (q : ℕ) (bytes : List ℕ)
    → ((k : ℕ) → k < length bytes → (slice_index_or bytes k 0 == q) ≡ true → ⊥) → tag_end shorttag (Some q) bytes ≡ None
quoted-none shorttag q [] h = refl
quoted-none shorttag q (b ∷ bs) h =
    ap (λ o. later 1 (tag_end shorttag o bs)) (pick-false (b == q) None (Some q) (λ e. h 0 (omega arith) e))
    ∙ ap (later 1) (quoted-none shorttag q bs (λ k l e. h (suc k) (omega arith) e))

pub quoted-some : (shorttag : Bool) (q n : ℕ) (bytes : List ℕ) → n < length bytes
    → ((k : ℕ) → k < n → (slice_index_or bytes k 0 == q) ≡ true → ⊥) → (slice_index_or bytes n 0 == q) ≡ true
    → tag_end shorttag (Some q) bytes ≡ later (n + 1) (tag_end shorttag None (drop (n + 1) bytes))
quoted-some shorttag q n [] l h e = absurd (omega arith)
quoted-some shorttag q zero (b ∷ bs) l h e =
    ap (λ o. later 1 (tag_end shorttag o bs)) (pick-true (b == q) None (Some q) e)
quoted-some shorttag q (suc n) (b ∷ bs) l h e =
    ap (λ o. later 1 (tag_end shorttag o bs)) (pick-false (b == q) None (Some q) (λ d. h 0 (omega arith) d))
    ∙ ap (later 1) (quoted-some shorttag q n bs (omega arith) (λ k m d. h (suc k) (omega arith) d) e)
    ∙ later-later 1 (n + 1) (tag_end shorttag None (drop (n + 1) bs))
    ∙ ap (λ m. later m (tag_end shorttag None (drop (n + 1) bs))) (omega arith)
    ∙ ap (λ xs. later (suc n + 1) (tag_end shorttag None xs)) (drop-more n b bs)
  where
    drop-more : (m x : ℕ) (xs : List ℕ) → drop (m + 1) xs ≡ drop (suc m + 1) (x ∷ xs)
    drop-more m x xs = ap (λ j. drop j xs) (add-one m) ∙ ap (λ j. drop j (x ∷ xs)) (sym (add-one (suc m)))

pub quoted-open : (shorttag : Bool) (b i : ℕ) (rest : List ℕ) → is_quote b ≡ true
    → ((k : ℕ) → k < length rest → (slice_index_or rest k 0 == b) ≡ true → ⊥)
    → later i (tag_end shorttag (quoting None b) rest) ≡ None
quoted-open shorttag b i rest e h =
    ap (λ q. later i (tag_end shorttag q rest)) (pick-true (is_quote b) (Some b) None e)
    ∙ ap (later i) (quoted-none shorttag b rest h)

pub quoted-closed : (shorttag : Bool) (b i n : ℕ) (text rest : List ℕ) → is_quote b ≡ true → rest ≡ drop i text → n < length rest
    → ((k : ℕ) → k < n → (slice_index_or rest k 0 == b) ≡ true → ⊥) → (slice_index_or rest n 0 == b) ≡ true
    → later i (tag_end shorttag (quoting None b) rest) ≡ later (i + (n + 1)) (tag_end shorttag None (drop (i + (n + 1)) text))
quoted-closed shorttag b i n text rest e is l h f =
    ap (λ q. later i (tag_end shorttag q rest)) (pick-true (is_quote b) (Some b) None e)
    ∙ ap (later i) (quoted-some shorttag b n rest l h f)
    ∙ later-later i (n + 1) (tag_end shorttag None (drop (n + 1) rest))
    ∙ ap (λ xs. later (i + (n + 1)) (tag_end shorttag None xs)) (ap (drop (n + 1)) is ∙ drop-drop (n + 1) i text)

pub quoted-no : (shorttag : Bool) (b i : ℕ) (rest : List ℕ) → is_quote b ≡ false
    → later i (tag_end shorttag (quoting None b) rest) ≡ later i (tag_end shorttag None rest)
quoted-no shorttag b i rest e = ap (λ q. later i (tag_end shorttag q rest)) (pick-no (is_quote b) (Some b) None e)

pub rest-of : {A : Type 0} (k : ℕ) (xs : List A) → take (length xs - k) (drop k xs) ≡ drop k xs
rest-of k xs = ap (λ n. take n (drop k xs)) (sym (length-drop k xs)) ∙ take-length (drop k xs)
