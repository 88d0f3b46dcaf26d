-- The first delimiter of a table that stands is the longest, since the table has longer strings first.
use Rattle.std.proofs.Common.{◌≡◌, ℕ, Bool, true, false, List, [], ◌∷◌, Option, None, Some, length, refl, sym, ◌∙◌, ap, subst, if◌then◌else◌, ◌≤◌, arith, inl, inr, nat_le, ◌&&◌}
use Rattle.std.proofs.lemmas.Bool.{leb-true}
use Rattle.sgml_delim.proofs.Deciding.{true-false, and-left, and-right}
use Rattle.sgml_syntax.specs.declared.syntax.Syntax.{Syntax}
use Rattle.sgml_delim.specs.declared.delim.Delim.{Delim}
use Rattle.sgml_delim.specs.declared.delim.Mode.{Mode}
use Rattle.sgml_delim.specs.declared.delim.Mode.TheVariants as m
use Rattle.sgml_delim.specs.Tables.{string, stands, delims, first_that}
use Rattle.sgml_delim.specs.Answers.{answer, Among, Says, IsRecognised}

-- each string of the list has at most this length, and they never grow
abbrev pub Falling : ℕ → List Delim → Type 0
Falling n [] = Unit {0}
Falling n (x ∷ xs) = (length (string x) ≤ n) × Falling (length (string x)) xs

-- How a search goes on: by its first test.
first-step : (P : Option Delim → Type 0) (test : Delim → Bool) (y : Delim) (ys : List Delim)
    → (test y ≡ true → P (Some y)) → (test y ≡ false → P (first_that test ys)) → P (first_that test (y ∷ ys))
first-step P test y ys yields goes = by_test (test y) refl
  where
    by_test : (t : Bool) → test y ≡ t → P (if test y then Some y else first_that test ys)
    by_test true p = subst P (ap (λ b. if b then Some y else first_that test ys) (sym p)) (yields p)
    by_test false p = subst P (ap (λ b. if b then Some y else first_that test ys) (sym p)) (goes p)

falls-among : (n : ℕ) (xs : List Delim) (y : Delim) → Falling n xs → Among xs y → length (string y) ≤ n
falls-among n [] y f a = absurd a
falls-among n (x ∷ xs) y f (inl e) = subst (λ z. length (string z) ≤ n) e f.0
falls-among n (x ∷ xs) y f (inr a) =
    let h = falls-among (length (string x)) xs y f.1 a in
    omega (arith, h, f.0)

says-later : (test : Delim → Bool) (n : ℕ) (x : Delim) (xs : List Delim) (o : Option Delim) → test x ≡ false
    → Says test xs o → Says test (x ∷ xs) o
says-later test n x xs None e h = λ y a. elim a [ inl is ↦ ap test (sym is) ∙ e | inr b ↦ h y b ]
says-later test n x xs (Some z) e h = (
  inr h.0,
  h.1,
  λ y a t. elim a [ inl is ↦ absurd (true-false (sym e ∙ ap test is ∙ t)) | inr b ↦ h.2 y b t ],
)

pub search-says : (test : Delim → Bool) (n : ℕ) (xs : List Delim) → Falling n xs → Says test xs (first_that test xs)
search-says test n [] f = λ y a. absurd a
search-says test n (x ∷ xs) f =
    first-step (Says test (x ∷ xs)) test x xs
    (λ e. (
      inl refl,
      e,
      λ y a t. elim a [
        | inl is ↦ subst (λ z. length (string z) ≤ length (string x)) is (omega arith)
        | inr b ↦ falls-among (length (string x)) xs y f.1 b
      ],
    ))
    (λ e. says-later test n x xs (first_that test xs) e (search-says test (length (string x)) xs f.1))

-- The tables have longer strings first.
falls : ℕ → List Delim → Bool
falls n [] = true
falls n (x ∷ xs) = nat_le (length (string x)) n && falls (length (string x)) xs

falls-falling : (n : ℕ) (xs : List Delim) → falls n xs ≡ true → Falling n xs
unfolding falls
falls-falling n [] e = tt
falls-falling n (x ∷ xs) e =
    let a = nat_le (length (string x)) n in
    let b = falls (length (string x)) xs in
    (leb-true (length (string x)) n (and-left a b e), falls-falling (length (string x)) xs (and-right a b e))

table-falls : (k : Mode) → falls 2 (delims k) ≡ true
unfolding falls
table-falls m.Con = refl
table-falls m.Rcd = refl
table-falls m.Cdt = refl
table-falls m.Rcs = refl
table-falls m.Cds = refl
table-falls m.Ign = refl
table-falls m.Ds = refl
table-falls m.Grp = refl
table-falls m.Lit = refl
table-falls m.Lita = refl
table-falls m.Plt = refl
table-falls m.Plta = refl
table-falls m.Slt = refl
table-falls m.Slta = refl
table-falls m.Md = refl
table-falls m.Pi = refl
table-falls m.Ref = refl
table-falls m.Tag = refl

pub answer-longest : (s : Syntax) (k : Mode) (net : Bool) (bytes : List ℕ) → IsRecognised s k net bytes (answer s k net bytes)
answer-longest s k net bytes =
    search-says (λ x. stands s k net x bytes) 2 (delims k) (falls-falling 2 (delims k) (table-falls k))
