-- References as they are written: where each ends, and what it is.
use Rattle.std.proofs.Common.{◌≡◌, ℕ, ◌+◌, ◌<◌, Bool, true, false, not, ◌==◌, nat_lt, List, [], ◌∷◌, ◌++◌, Some, Ok, length, refl, sym, ◌∙◌, ap, subst, if◌then◌else◌, arith}
use Rattle.std.specs.Prelude.{decimal}
use Rattle.std.specs.List.{list_all}
use Rattle.std.proofs.lemmas.Bool.Decides.{nat_tests}
use Rattle.sgml_theory_values.specs.text.declared.name_set.NameSet.{NameSet}
use Rattle.sgml_theory_values.specs.text.Characters.{is_digit, is_sgml_character}
use Rattle.sgml_theory_values.specs.text.NameCharacters.{is_name_character, is_name_of}
use Rattle.sgml_theory_values.specs.syntax.declared.syntax.Syntax.{Syntax}
use Rattle.sgml_theory_values.specs.delim.Ends.{later}
use Rattle.sgml_theory_values.specs.markup.declared.kinds.Form.TheVariants as form
use Rattle.sgml_theory_values.specs.markup.declared.kinds.TokenKind.TheVariants as kind
use Rattle.sgml_theory_values.specs.markup.Ends.{reference_end, goes_on_character, end_of}
use Rattle.sgml_theory_values.specs.markup.References.{run_of, number_of, character_of, name_length, by_number, too_long}
use Rattle.sgml_theory_values.specs.markup.Forms.{judged}
use Rattle.sgml_theory_full.proofs.Plain.{true-false, if-true, if-false, both, all-append, all-of, OfNames, of-character, name-characters, small-number, IsSpelledNumber}

-- a byte that no name has
pub no-name-character : (n : ℕ) → OfNames (λ b. not (b == n)) → (n == n) ≡ true → (names : NameSet) → is_name_character names n ≡ false
no-name-character n o same names = go (is_name_character names n) refl
  where
    go : (t : Bool) → is_name_character names n ≡ t → is_name_character names n ≡ false
    go true e = true-false (sym (of-character (λ b. not (b == n)) o names n e) ∙ ap not same)
    go false e = e

pub not-semicolon : OfNames (λ b. not (b == 59))
not-semicolon = record {
  letters = λ b h. grind (arith, nat_tests);
  digits = λ b h. grind (arith, nat_tests);
  minus = refl;
  stop = refl;
  low_line = refl;
  colon = refl;
}

-- WHERE A RUN ENDS, with `;` behind it (9.4.5)
run-end : (p : ℕ → Bool) (bs more : List ℕ) → list_all p bs ≡ true → p 59 ≡ false → reference_end p true (bs ++ 59 ∷ more) ≡ Some (length bs + 1)
run-end p [] more h k = ap (λ t. if t then later 1 (reference_end p true more) else Some 1) k
run-end p (b ∷ bs) more h k =
    let q = both (p b) (list_all p bs) h in
    let n : 1 + (length bs + 1) ≡ length (b ∷ bs) + 1 = omega arith in
    if-true (p b) _ _ q.0 ∙ ap (λ o. later 1 o) (run-end p bs more q.1 k) ∙ ap Some n

run-is : (p : ℕ → Bool) (bs more : List ℕ) → list_all p bs ≡ true → p 59 ≡ false → run_of p (bs ++ 59 ∷ more) ≡ bs
run-is p [] more h k = ap (λ t. if t then 59 ∷ run_of p more else []) k
run-is p (b ∷ bs) more h k =
    let q = both (p b) (list_all p bs) h in
    ap (λ t. if t then b ∷ run_of p (bs ++ 59 ∷ more) else []) q.0 ∙ ap (λ r. b ∷ r) (run-is p bs more q.1 k)

-- A REFERENCE TO A CHARACTER (9.5)

goes-on : (names : NameSet) (first : ℕ) (bytes : List ℕ) (b : ℕ) → is_digit first ≡ true → goes_on_character names (first ∷ bytes) b ≡ is_digit b
goes-on names first bytes b h = ap (λ t. if t then is_digit b else is_name_character names b) h

all-go-on : (names : NameSet) (first : ℕ) (bytes xs : List ℕ) → is_digit first ≡ true → list_all is_digit xs ≡ true → list_all (goes_on_character names (first ∷ bytes)) xs ≡ true
all-go-on names first bytes xs h = all-of is_digit (goes_on_character names (first ∷ bytes)) (λ b k. goes-on names first bytes b h ∙ k) xs

first-digit : (n : ℕ) (k : IsSpelledNumber n) → is_digit k.first ≡ true
first-digit n k = (both (is_digit k.first) (list_all is_digit k.more) (subst (λ bs. list_all is_digit bs ≡ true) k.is k.digits)).0

pub first-of-number : (n : ℕ) → n < 128 → (first : ℕ) × (more : List ℕ) × ((decimal n ≡ first ∷ more) × (is_digit first ≡ true))
first-of-number n lt = let k = small-number n lt in (k.first, k.more, (k.is, first-digit n k))

number-ends : (s : Syntax) (first : ℕ) (more rest : List ℕ) → is_digit first ≡ true → list_all is_digit (first ∷ more) ≡ true
    → end_of s form.CharacterReference true ((first ∷ more) ++ 59 ∷ rest) ≡ Some (length (first ∷ more) + 1)
number-ends s first more rest h k =
    run-end (goes_on_character s.names (first ∷ (more ++ 59 ∷ rest))) (first ∷ more) rest
    (all-go-on s.names first (more ++ 59 ∷ rest) (first ∷ more) h k) (goes-on s.names first (more ++ 59 ∷ rest) 59 h)

pub number-end : (s : Syntax) (n : ℕ) (rest : List ℕ) → n < 128 → end_of s form.CharacterReference true (decimal n ++ 59 ∷ rest) ≡ Some (length (decimal n) + 1)
number-end s n rest lt =
    let k = small-number n lt in
    subst (λ bs. end_of s form.CharacterReference true (bs ++ 59 ∷ rest) ≡ Some (length bs + 1)) (sym k.is)
    (number-ends s k.first k.more rest (first-digit n k) (subst (λ bs. list_all is_digit bs ≡ true) k.is k.digits))

pub digit-sgml : (b : ℕ) → is_digit b ≡ true → is_sgml_character b ≡ true
digit-sgml b h = grind (arith, nat_tests)

in-range : (n : ℕ) → n < 128 → nat_lt 255 n ≡ false
in-range n h = grind (arith, nat_tests)

number-of : (s : Syntax) (n : ℕ) (first : ℕ) (more rest : List ℕ) → n < 128 → is_digit first ≡ true → list_all is_digit (first ∷ more) ≡ true → number_of (first ∷ more) ≡ n
    → character_of s ((first ∷ more) ++ 59 ∷ rest) ≡ Ok (kind.CharRef n)
number-of s n first more rest lt h k is =
    if-true (is_digit first) _ _ h
    ∙ ap (λ bs. by_number (number_of bs)) (run-is is_digit (first ∷ more) rest k refl)
    ∙ ap by_number is
    ∙ if-false (nat_lt 255 n) _ _ (in-range n lt)

pub number-character : (s : Syntax) (n : ℕ) (rest : List ℕ) → n < 128 → character_of s (decimal n ++ 59 ∷ rest) ≡ Ok (kind.CharRef n)
number-character s n rest lt =
    let k = small-number n lt in
    ap (λ bs. character_of s (bs ++ 59 ∷ rest)) k.is
    ∙ number-of s n k.first k.more rest lt (first-digit n k) (subst (λ bs. list_all is_digit bs ≡ true) k.is k.digits) (ap number_of (sym k.is) ∙ k.number)

pub number-judged : (s : Syntax) (n : ℕ) → n < 128 → judged s form.CharacterReference (38 ∷ 35 ∷ (decimal n ++ 59 ∷ [])) ≡ Ok (kind.CharRef n)
number-judged s n lt =
    let k = small-number n lt in
    let sgml = all-append is_sgml_character (decimal n) (59 ∷ []) (all-of is_digit is_sgml_character digit-sgml (decimal n) k.digits) refl in
    if-true (list_all is_sgml_character (decimal n ++ 59 ∷ [])) _ _ sgml
    ∙ number-character s n [] lt

-- A REFERENCE TO AN ENTITY (9.4.4)

pub entity-end : (s : Syntax) (name rest : List ℕ) → is_name_of s.names name ≡ true
    → end_of s form.EntityReference true (name ++ 59 ∷ rest) ≡ Some (length name + 1)
entity-end s name rest h = run-end (is_name_character s.names) name rest (name-characters s.names name h) (no-name-character 59 not-semicolon refl s.names)

pub entity-named : (s : Syntax) (name rest : List ℕ) → is_name_of s.names name ≡ true → run_of (is_name_character s.names) (name ++ 59 ∷ rest) ≡ name
entity-named s name rest h = run-is (is_name_character s.names) name rest (name-characters s.names name h) (no-name-character 59 not-semicolon refl s.names)

name-sgml : OfNames is_sgml_character
name-sgml = record {
  letters = λ b h. grind (arith, nat_tests);
  digits = digit-sgml;
  minus = refl;
  stop = refl;
  low_line = refl;
  colon = refl;
}

pub names-sgml : (names : NameSet) (name : List ℕ) → list_all (is_name_character names) name ≡ true → list_all is_sgml_character name ≡ true
names-sgml names = all-of (is_name_character names) is_sgml_character (of-character is_sgml_character name-sgml names)

pub entity-judged : (s : Syntax) (name : List ℕ) → is_name_of s.names name ≡ true → too_long s (length name) ≡ false
    → judged s form.EntityReference (38 ∷ (name ++ 59 ∷ [])) ≡ Ok kind.EntityRef
entity-judged s name h short =
    let sgml = all-append is_sgml_character name (59 ∷ []) (names-sgml s.names name (name-characters s.names name h)) refl in
    if-true (list_all is_sgml_character (name ++ 59 ∷ [])) _ _ sgml
    ∙ if-false (too_long s (name_length s (name ++ 59 ∷ []))) _ _ (ap (λ bs. too_long s (length bs)) (entity-named s name [] h) ∙ short)
