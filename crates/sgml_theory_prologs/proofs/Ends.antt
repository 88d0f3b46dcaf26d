-- An end that lies in the front of a text is the end of that front.
use Rattle.std.proofs.Common.{◌≡◌, ℕ, suc, Bool, true, false, List, [], ◌∷◌, ◌++◌, ◌+◌, ◌≤◌, ◌<◌, ◌==◌, Option, None, Some, length, refl, sym, ◌∙◌, ap, if◌then◌else◌, ◌&&◌, nat_lt, codes, arith}
use Rattle.std.specs.List.{prefix_len}
use Rattle.std.proofs.lemmas.Bool.{lt-ltb, ltb-true}
use Rattle.sgml_io.specs.text.declared.name_set.NameSet.{NameSet}
use Rattle.sgml_io.specs.text.NameCharacters.{is_name_character}
use Rattle.sgml_io.specs.text.Characters.{is_word}
use Rattle.sgml_theory_standing.specs.delim.declared.ends.Inside.{Inside}
use Rattle.sgml_theory_standing.specs.delim.declared.ends.Inside.TheVariants.{Between}
use Rattle.sgml_theory_standing.specs.delim.declared.ends.Ender.{Ender}
use Rattle.sgml_theory_standing.specs.delim.declared.ends.Ender.TheVariants.{Mdc, Dso, Either}
use Rattle.sgml_theory_standing.specs.delim.Ends.{later, ends_declaration, is_outside, inside_after, end_after, ender_of, declaration_end}
use Rattle.sgml_theory_standing.proofs.delim.Ending.{none-is, no-end, name-kept, IsWithin, end-within, within-later, within-if}
use Rattle.sgml_theory_standing.specs.syntax.declared.syntax.Syntax.{Syntax}
use Rattle.sgml_theory_standing.specs.markup.declared.kinds.Form.{Form}
use Rattle.sgml_theory_standing.specs.markup.declared.kinds.Form.TheVariants as form
use Rattle.sgml_theory_standing.specs.markup.Ends.{reference_end, ends_reference, pi_end, end_of}
use Rattle.sgml_theory_prologs.proofs.Recognised.{never}

-- an answer in the longer text that lies within so many bytes is that in the shorter one
abbrev pub Back : ℕ → Option ℕ → Option ℕ → Type 0
Back k o p = (n : ℕ) → p ≡ Some n → n ≤ k → o ≡ Some n

pub back-later : (k : ℕ) (o p : Option ℕ) → Back k o p → Back (suc k) (later 1 o) (later 1 p)
back-later k o None h n e l = none-is n e
back-later k o (Some m) h n e l =
    let is : 1 + m ≡ n = cc e in
    ap (later 1) (h m refl (omega (arith, is, l))) ∙ e

pub back-else : (k : ℕ) (t : Bool) (x o p : Option ℕ) → Back k o p → Back k (if t then x else o) (if t then x else p)
back-else k true x o p h n e l = e
back-else k false x o p h n e l = h n e l

pub end-back : (names : NameSet) (ender : Ender) (inside : Inside) (xs ys : List ℕ)
    → Back (length xs) (end_after names ender inside xs) (end_after names ender inside (xs ++ ys))
end-back names ender inside [] ys n e l =
    let some = (end-within names ender inside ys n e).some in
    absurd (omega (arith, some, l))
end-back names ender inside (b ∷ xs) ys n e l =
    back-else (suc (length xs)) (is_outside inside && ends_declaration ender b) (Some 1) _ _
    (back-later (length xs) _ _ (λ m f k. end-back names ender (inside_after names inside b) xs ys m f k)) n e l

-- the keyword is the same, and what ends the declaration
pub declaration-back : (names : NameSet) (xs ys : List ℕ) → Back (length xs) (declaration_end names xs) (declaration_end names (xs ++ ys))
declaration-back names xs ys n e l =
    let there : end_after names (ender_of names (xs ++ ys)) Between xs ≡ Some n = end-back names (ender_of names (xs ++ ys)) Between xs ys n e l in
    let same : ender_of names (xs ++ ys) ≡ ender_of names xs =
    ap (λ (word : List ℕ). if is_word (codes "DOCTYPE") word then Either else Mdc) (name-kept names (ender_of names (xs ++ ys)) Between xs ys (n, there)) in
    ap (λ (x : Ender). end_after names x Between xs) (sym same) ∙ there

-- A NAME ENDS before the declaration does

true-is-not-false : {A : Type 0} → true ≡ false → A
true-is-not-false e = absurd (never e)
  where
    never : true ≡ false → ⊥
    never e = cc

less : (o : Option ℕ) (n : ℕ) → later 1 o ≡ Some n → (m : ℕ) × (o ≡ Some m)
less None n e = none-is n e
less (Some m) n e = (m, refl)

pick : (outside u : Bool) (o : Option ℕ) (n : ℕ) → u ≡ false → (if outside && u then Some 1 else later 1 o) ≡ Some n → (m : ℕ) × (o ≡ Some m)
pick outside true o n is e = true-is-not-false is
pick true false o n is e = less o n e
pick false false o n is e = less o n e

pub named-step : (p : ℕ → Bool) (b : ℕ) (xs : List ℕ) (t : Bool) → p b ≡ t → (t ≡ true → nat_lt (prefix_len p xs) (length xs) ≡ true)
    → nat_lt (prefix_len p (b ∷ xs)) (length (b ∷ xs)) ≡ true
named-step p b xs true e h =
    let less = ltb-true (prefix_len p xs) (length xs) (h refl) in
    rw e (lt-ltb (1 + prefix_len p xs) (suc (length xs)) (omega (arith, less)))
named-step p b xs false e h = rw e (lt-ltb 0 (suc (length xs)) (omega arith))

pub name-ends : (names : NameSet) (ender : Ender) (inside : Inside) (xs : List ℕ) (n : ℕ) → end_after names ender inside xs ≡ Some n
    → nat_lt (prefix_len (is_name_character names) xs) (length xs) ≡ true
name-ends names ender inside [] n e = none-is n e
name-ends names ender inside (b ∷ xs) n e =
    named-step (is_name_character names) b xs (is_name_character names b) refl
    (λ is. let rest = pick (is_outside inside) (ends_declaration ender b) (end_after names ender (inside_after names inside b) xs) n (no-end names ender b is) e in
    name-ends names ender (inside_after names inside b) xs rest.0 rest.1)

-- INSTRUCTIONS AND REFERENCES

pi-within : (xs : List ℕ) (n : ℕ) → pi_end xs ≡ Some n → IsWithin n (length xs)
pi-within [] n e = none-is n e
pi-within (b ∷ xs) n e =
    within-if (b == 62) (suc (length xs)) (later 1 (pi_end xs)) (omega arith) (within-later (length xs) (pi_end xs) (λ m f. pi-within xs m f)) n e

pi-back : (xs ys : List ℕ) → Back (length xs) (pi_end xs) (pi_end (xs ++ ys))
pi-back [] ys n e l =
    let some = (pi-within ys n e).some in
    absurd (omega (arith, some, l))
pi-back (b ∷ xs) ys n e l = back-else (suc (length xs)) (b == 62) (Some 1) _ _ (back-later (length xs) _ _ (λ m f k. pi-back xs ys m f k)) n e l

-- what ends before the shorter text does
abbrev pub Ahead : ℕ → Option ℕ → Option ℕ → Type 0
Ahead k o p = (n : ℕ) → p ≡ Some n → n < k → o ≡ Some n

ahead-later : (k : ℕ) (o p : Option ℕ) → Ahead k o p → Ahead (suc k) (later 1 o) (later 1 p)
ahead-later k o None h n e l = none-is n e
ahead-later k o (Some m) h n e l =
    let is : 1 + m ≡ n = cc e in
    ap (later 1) (h m refl (omega (arith, is, l))) ∙ e

ahead-then : (k : ℕ) (t : Bool) (x o p : Option ℕ) → Ahead k o p → Ahead k (if t then o else x) (if t then p else x)
ahead-then k true x o p h n e l = h n e l
ahead-then k false x o p h n e l = e

pub reference-back : (goes_on : ℕ → Bool) (xs ys : List ℕ) → Ahead (length xs) (reference_end goes_on false xs) (reference_end goes_on true (xs ++ ys))
reference-back goes_on [] ys n e l = absurd (omega (arith, l))
reference-back goes_on (b ∷ xs) ys n e l =
    ahead-then (suc (length xs)) (goes_on b) (if ends_reference b then Some 1 else Some 0) _ _ (ahead-later (length xs) _ _ (λ m f k. reference-back goes_on xs ys m f k)) n e l

-- of each form with an end of its own

abbrev pub is_ended : Form → Bool
is_ended form.Instruction = true
is_ended form.CommentDeclaration = true
is_ended form.SectionStart = true
is_ended form.Declaration = true
is_ended form.SubsetEnd = true
is_ended _ = false

pub form-back : (s : Syntax) (f : Form) (xs ys : List ℕ) → is_ended f ≡ true → Back (length xs) (end_of s f false xs) (end_of s f true (xs ++ ys))
form-back s form.Instruction xs ys h n e l = pi-back xs ys n e l
form-back s form.CommentDeclaration xs ys h n e l = end-back s.names Mdc Between xs ys n e l
form-back s form.SectionStart xs ys h n e l = end-back s.names Dso Between xs ys n e l
form-back s form.Declaration xs ys h n e l = declaration-back s.names xs ys n e l
form-back s form.SubsetEnd xs ys h n e l = end-back s.names Mdc Between xs ys n e l
form-back s _ xs ys h n e l = never false h refl

pub form-some : (s : Syntax) (f : Form) (xs : List ℕ) (n : ℕ) → is_ended f ≡ true → end_of s f true xs ≡ Some n → 1 ≤ n
form-some s form.Instruction xs n h e = (pi-within xs n e).some
form-some s form.CommentDeclaration xs n h e = (end-within s.names Mdc Between xs n e).some
form-some s form.SectionStart xs n h e = (end-within s.names Dso Between xs n e).some
form-some s form.Declaration xs n h e = (end-within s.names (ender_of s.names xs) Between xs n e).some
form-some s form.SubsetEnd xs n h e = (end-within s.names Mdc Between xs n e).some
form-some s _ xs n h e = never false h refl

pub later-some : (o : Option ℕ) (n : ℕ) → later 1 o ≡ Some n → (m : ℕ) × (o ≡ Some m) × (1 + m ≡ n)
later-some None n e = none-is n e
later-some (Some m) n e = (m, refl, cc e)

-- a name that begins there has a byte
pub reference-some : (goes_on : ℕ → Bool) (c : ℕ) (xs : List ℕ) (n : ℕ) → goes_on c ≡ true → reference_end goes_on true (c ∷ xs) ≡ Some n → 1 ≤ n
reference-some goes_on c xs n g e =
    let is : later 1 (reference_end goes_on true xs) ≡ Some n =
    ap (λ t. if t then later 1 (reference_end goes_on true xs) else if ends_reference c then Some 1 else Some 0) (sym g) ∙ e in
    let m = later-some (reference_end goes_on true xs) n is in
    omega (arith, m.2)
