-- The end of a declaration lies in the text, and is the same whatever follows.
use Rattle.std.proofs.Common.{length, ◌≡◌, ℕ, suc, Bool, true, false, List, [], ◌∷◌, ◌++◌, ◌+◌, ◌≤◌, Option, None, Some, take, refl, sym, ◌∙◌, ap, if◌then◌else◌, ◌==◌, ◌&&◌, arith, codes, eqb-true}
use Rattle.std.specs.List.{prefix_len}
use Rattle.sgml_text.specs.declared.name_set.NameSet.{NameSet}
use Rattle.sgml_text.specs.NameCharacters.{is_name_character, is_marked}
use Rattle.sgml_text.specs.Characters.{is_word}
use Rattle.sgml_delim.specs.declared.ends.Inside.{Inside}
use Rattle.sgml_delim.specs.declared.ends.Inside.TheVariants.{Between}
use Rattle.sgml_delim.specs.declared.ends.Ender.{Ender}
use Rattle.sgml_delim.specs.declared.ends.Ender.TheVariants.{Mdc, Dso, Either}
use Rattle.sgml_delim.specs.Ends.{later, ends_declaration, is_outside, inside_after, end_after, first_name, ender_of, declaration_end}

-- an answer that is there is the other one too
abbrev pub Kept : Option ℕ → Option ℕ → Type 0
Kept o p = (n : ℕ) → o ≡ Some n → p ≡ Some n

pub none-is : {A : Type 0} (n : ℕ) → None ≡ Some n → A
none-is n e = absurd (none-is-not-some n e)
  where
    none-is-not-some : (m : ℕ) → None ≡ Some m → ⊥
    none-is-not-some m e = cc

pub kept-later : (i : ℕ) (o p : Option ℕ) → Kept o p → Kept (later i o) (later i p)
kept-later i None p h = λ n e. none-is n e
kept-later i (Some m) p h = λ n e. ap (later i) (h m refl) ∙ e

pub kept-else : (t : Bool) (x o p : Option ℕ) → Kept o p → Kept (if t then x else o) (if t then x else p)
kept-else true x o p h = λ n e. e
kept-else false x o p h = h

pub end-kept : (names : NameSet) (ender : Ender) (inside : Inside) (xs ys : List ℕ)
    → Kept (end_after names ender inside xs) (end_after names ender inside (xs ++ ys))
end-kept names ender inside [] ys = λ n e. none-is n e
end-kept names ender inside (b ∷ xs) ys =
    kept-else (is_outside inside && ends_declaration ender b) (Some 1) _ _
    (kept-later 1 _ _ (end-kept names ender (inside_after names inside b) xs ys))

-- A name ends before the declaration does.
not-mdc : (marks : List Bool) → is_marked marks 62 ≡ false
not-mdc [] = refl
not-mdc (x ∷ []) = refl
not-mdc (x ∷ y ∷ []) = refl
not-mdc (x ∷ y ∷ z ∷ []) = refl
not-mdc (x ∷ y ∷ z ∷ w ∷ []) = refl
not-mdc (x ∷ y ∷ z ∷ w ∷ v ∷ vs) = refl

not-dso : (marks : List Bool) → is_marked marks 91 ≡ false
not-dso [] = refl
not-dso (x ∷ []) = refl
not-dso (x ∷ y ∷ []) = refl
not-dso (x ∷ y ∷ z ∷ []) = refl
not-dso (x ∷ y ∷ z ∷ w ∷ []) = refl
not-dso (x ∷ y ∷ z ∷ w ∷ v ∷ vs) = refl

mdc-no-name : (names : NameSet) → is_name_character names 62 ≡ false
mdc-no-name names = rw (not-mdc names.start, not-mdc names.more) refl

dso-no-name : (names : NameSet) → is_name_character names 91 ≡ false
dso-no-name names = rw (not-dso names.start, not-dso names.more) refl

true-is-not-false : {A : Type 0} → true ≡ false → A
true-is-not-false e = absurd (never e)
  where
    never : true ≡ false → ⊥
    never e = cc

no-mdc : (names : NameSet) (b : ℕ) (u : Bool) → (b == 62) ≡ u → is_name_character names b ≡ true → u ≡ false
no-mdc names b true e is = let at : b ≡ 62 = eqb-true b 62 e in true-is-not-false (sym is ∙ ap (is_name_character names) at ∙ mdc-no-name names)
no-mdc names b false e is = refl

no-dso : (names : NameSet) (b : ℕ) (u : Bool) → (b == 91) ≡ u → is_name_character names b ≡ true → u ≡ false
no-dso names b true e is = let at : b ≡ 91 = eqb-true b 91 e in true-is-not-false (sym is ∙ ap (is_name_character names) at ∙ dso-no-name names)
no-dso names b false e is = refl

pub no-end : (names : NameSet) (ender : Ender) (b : ℕ) → is_name_character names b ≡ true → ends_declaration ender b ≡ false
no-end names Mdc b is = no-mdc names b (b == 62) refl is
no-end names Dso b is = no-dso names b (b == 91) refl is
no-end names Either b is = rw (no-mdc names b (b == 62) refl is, no-dso names b (b == 91) refl is) refl

abbrev HasEnd : NameSet → Ender → Inside → List ℕ → Type 0
HasEnd names ender inside xs = (n : ℕ) × (end_after names ender inside xs ≡ Some n)

less : (o : Option ℕ) (n : ℕ) → later 1 o ≡ Some n → (m : ℕ) × (o ≡ Some m)
less None n e = none-is n e
less (Some m) n e = (m, refl)

pick : (outside u : Bool) (o : Option ℕ) (n : ℕ) → u ≡ false → (if outside && u then Some 1 else later 1 o) ≡ Some n → (m : ℕ) × (o ≡ Some m)
pick outside true o n is e = true-is-not-false is
pick true false o n is e = less o n e
pick false false o n is e = less o n e

end-later : (names : NameSet) (ender : Ender) (inside : Inside) (b : ℕ) (xs : List ℕ) → is_name_character names b ≡ true
    → HasEnd names ender inside (b ∷ xs) → HasEnd names ender (inside_after names inside b) xs
end-later names ender inside b xs is (n, e) =
    pick (is_outside inside) (ends_declaration ender b) (end_after names ender (inside_after names inside b) xs) n (no-end names ender b is) e

take-more : (n b : ℕ) (xs : List ℕ) → take (1 + n) (b ∷ xs) ≡ b ∷ take n xs
take-more n b xs = let e : 1 + n ≡ suc n = omega arith in rw e refl

front : (p : ℕ → Bool) (b : ℕ) (xs ys : List ℕ) (t : Bool) → p b ≡ t
    → (t ≡ true → take (prefix_len p (xs ++ ys)) (xs ++ ys) ≡ take (prefix_len p xs) xs)
    → take (prefix_len p (b ∷ (xs ++ ys))) (b ∷ (xs ++ ys)) ≡ take (prefix_len p (b ∷ xs)) (b ∷ xs)
front p b xs ys true is more = rw is (take-more (prefix_len p (xs ++ ys)) b (xs ++ ys) ∙ ap (λ (v : List ℕ). b ∷ v) (more refl) ∙ sym (take-more (prefix_len p xs) b xs))
front p b xs ys false is more = rw is refl

pub name-kept : (names : NameSet) (ender : Ender) (inside : Inside) (xs ys : List ℕ) → HasEnd names ender inside xs
    → first_name names (xs ++ ys) ≡ first_name names xs
name-kept names ender inside [] ys (n, e) = none-is n e
name-kept names ender inside (b ∷ xs) ys h =
    front (is_name_character names) b xs ys (is_name_character names b) refl
    (λ is. name-kept names ender (inside_after names inside b) xs ys (end-later names ender inside b xs is h))

-- so the keyword is the same, and what ends the declaration
pub declaration-kept : (names : NameSet) (xs ys : List ℕ) → Kept (declaration_end names xs) (declaration_end names (xs ++ ys))
declaration-kept names xs ys = λ n e.
    let same : ender_of names (xs ++ ys) ≡ ender_of names xs =
    ap (λ (word : List ℕ). if is_word (codes "DOCTYPE") word then Either else Mdc) (name-kept names (ender_of names xs) Between xs ys (n, e)) in
    ap (λ (x : Ender). end_after names x Between (xs ++ ys)) same ∙ end-kept names (ender_of names xs) Between xs ys n e

-- The end is within the text.
pub record IsWithin (n k : ℕ) : Type 0 where
  pub some : 1 ≤ n
  pub few : n ≤ k

pub within-later : (k : ℕ) (o : Option ℕ) → ((n : ℕ) → o ≡ Some n → IsWithin n k) → (n : ℕ) → later 1 o ≡ Some n → IsWithin n (suc k)
within-later k None h n e = none-is n e
within-later k (Some m) h n e =
    let low = h m refl in
    let is : 1 + m ≡ n = cc e in
    let some : 1 ≤ m = low.some in
    let few : m ≤ k = low.few in
    record { some = omega (arith, some, is); few = omega (arith, few, is) }

pub within-if : (t : Bool) (k : ℕ) (o : Option ℕ) → 1 ≤ k → ((n : ℕ) → o ≡ Some n → IsWithin n k) → (n : ℕ) → (if t then Some 1 else o) ≡ Some n → IsWithin n k
within-if true k o some h n e = let is : 1 ≡ n = cc e in record { some = omega (arith, is); few = omega (arith, is, some) }
within-if false k o some h n e = h n e

pub end-within : (names : NameSet) (ender : Ender) (inside : Inside) (xs : List ℕ) (n : ℕ) → end_after names ender inside xs ≡ Some n → IsWithin n (length xs)
end-within names ender inside [] n e = none-is n e
end-within names ender inside (b ∷ xs) n e =
    within-if (is_outside inside && ends_declaration ender b) (suc (length xs)) (later 1 (end_after names ender (inside_after names inside b) xs)) (omega arith)
    (within-later (length xs) (end_after names ender (inside_after names inside b) xs) (end-within names ender (inside_after names inside b) xs)) n e

pub within-by : (i k : ℕ) (o : Option ℕ) → ((m : ℕ) → o ≡ Some m → IsWithin m k) → (n : ℕ) → later i o ≡ Some n → IsWithin n (i + k)
within-by i k None h n e = none-is n e
within-by i k (Some m) h n e =
    let low = h m refl in
    let is : i + m ≡ n = cc e in
    let some : 1 ≤ m = low.some in
    let few : m ≤ k = low.few in
    record { some = omega (arith, some, is); few = omega (arith, few, is) }
