-- The first `--` of a text is where it is told.
use Rattle.std.proofs.Common.{◌≡◌, ◌<◌, ◌+◌, ℕ, zero, suc, Bool, true, false, List, [], ◌∷◌, length, drop, arith, refl, sym, ap, ◌∙◌, subst, Option, Some, None}
use Rattle.std.specs.Option.{option_map}
use Rattle.sgml_catalog.specs.Tokens.{begins_comment, before_dashes, IsFirst}

at_once : (b : ℕ) (bs : List ℕ) → begins_comment (b ∷ bs) ≡ true → before_dashes (b ∷ bs) ≡ Some 0
at_once b bs is = rw is refl

later : (b : ℕ) (bs : List ℕ) → begins_comment (b ∷ bs) ≡ false → before_dashes (b ∷ bs) ≡ option_map (λ n. n + 1) (before_dashes bs)
later b bs is = rw is refl

same : (a b : ℕ) → Some a ≡ Some b → a ≡ b
same a b e = cc

impossible : (P : Type 0) (x : Bool) → x ≡ false → x ≡ true → P
impossible P x is_no is_yes = let never : false ≡ true = sym is_no ∙ is_yes in absurd (cc never)

nothing : (n : ℕ) → begins_comment (drop n []) ≡ false
nothing zero = refl
nothing (suc n) = refl

-- ALL

pub first_all : (text : List ℕ) (n : ℕ) → IsFirst n text → before_dashes text ≡ Some n
first_all [] n is = impossible (None ≡ Some n) (begins_comment (drop n [])) (nothing n) is.there
first_all (b ∷ bs) zero is = at_once b bs is.there
first_all (b ∷ bs) (suc n) is =
    let next : n + 1 ≡ suc n = omega arith in
    later b bs (is.before 0 (omega arith))
    ∙ (ap (option_map (λ m. m + 1)) (first_all bs n (record { there = is.there; before = (λ k lt. is.before (suc k) (omega (arith, lt))) })) ∙ ap (λ (m : ℕ). Some m) next)

-- ONLY

pushed : (b : ℕ) (bs : List ℕ) (n : ℕ) → begins_comment (b ∷ bs) ≡ false → IsFirst n bs → IsFirst (suc n) (b ∷ bs)
pushed b bs n is first = record { there = first.there; before = (λ k lt. earlier k lt) } where
  earlier : (k : ℕ) → k < suc n → begins_comment (drop k (b ∷ bs)) ≡ false
  earlier zero lt = is
  earlier (suc k) lt = first.before k (omega (arith, lt))

at_zero : (b : ℕ) (bs : List ℕ) (n : ℕ) → begins_comment (b ∷ bs) ≡ true → Some 0 ≡ Some n → IsFirst n (b ∷ bs)
at_zero b bs n begins is =
    subst (λ (m : ℕ). IsFirst m (b ∷ bs)) (same 0 n is) (record { there = begins; before = (λ k lt. absurd (omega (arith, lt))) })

by_rest : (r : Option ℕ) (b : ℕ) (bs : List ℕ) (n : ℕ) → begins_comment (b ∷ bs) ≡ false → before_dashes bs ≡ r → option_map (λ m. m + 1) (before_dashes bs) ≡ Some n → ((m : ℕ) → before_dashes bs ≡ Some m → IsFirst m bs) → IsFirst n (b ∷ bs)
by_rest None b bs n begins rest is first =
    let never : None ≡ Some n = sym (ap (option_map (λ m. m + 1)) rest) ∙ is in absurd (cc never)
by_rest (Some m) b bs n begins rest is first =
    let e : suc m ≡ n = omega (arith, same (m + 1) n (sym (ap (option_map (λ k. k + 1)) rest) ∙ is)) in
    subst (λ (j : ℕ). IsFirst j (b ∷ bs)) e (pushed b bs m begins (first m rest))

by_begin : (x : Bool) (b : ℕ) (bs : List ℕ) (n : ℕ) → begins_comment (b ∷ bs) ≡ x → before_dashes (b ∷ bs) ≡ Some n → ((m : ℕ) → before_dashes bs ≡ Some m → IsFirst m bs) → IsFirst n (b ∷ bs)
by_begin true b bs n begins is first = at_zero b bs n begins (sym (at_once b bs begins) ∙ is)
by_begin false b bs n begins is first = by_rest (before_dashes bs) b bs n begins refl (sym (later b bs begins) ∙ is) first

pub first_only : (text : List ℕ) (n : ℕ) → before_dashes text ≡ Some n → IsFirst n text
first_only [] n is = let never : None ≡ Some n = is in absurd (cc never)
first_only (b ∷ bs) n is = by_begin (begins_comment (b ∷ bs)) b bs n refl is (λ m. first_only bs m)
