-- The part that stands at each place of a literal.
use Rattle.std.proofs.Common.{◌≡◌, ℕ, ◌+◌, ◌<◌, Bool, true, false, cond, not, nat_le, List, [], ◌∷◌, ◌++◌, length, take, drop, refl, sym, ◌∙◌, ap, take_at, drop_at, arith}
use Rattle.std.specs.Prelude.{decimal}
use Rattle.std.specs.List.{list_all, prefix_len}
use Rattle.std.proofs.lemmas.Bool.Decides.{nat_tests}
use Rattle.sgml_theory_values.specs.text.declared.unit.Unit.TheVariants as unit
use Rattle.sgml_theory_values.specs.text.Characters.{is_digit}
use Rattle.sgml_theory_values.specs.text.NameCharacters.{is_name_start, is_name_character, is_name_of}
use Rattle.sgml_theory_values.specs.syntax.declared.syntax.Syntax.{Syntax}
use Rattle.sgml_theory_values.specs.decl_parts.declared.form.LiteralKind.TheVariants as literals
use Rattle.sgml_theory_values.specs.decl_parts.declared.part.Part.TheVariants as p
use Rattle.sgml_theory_values.specs.decl_parts.declared.part.Opened.{Opened}
use Rattle.sgml_theory_values.specs.decl_parts.Bytes.{name_length, begins_digit, reference_end, number_after}
use Rattle.sgml_theory_values.specs.decl_parts.Parts.{literal_at, is_ordinary, entity_reference, number_reference, numbered}
use Rattle.sgml_theory_full.proofs.Plain.{true-false, both, if-true, all-of, small-number, name-characters}
use Rattle.sgml_theory_full.proofs.Tokens.{name-not, not-hash}
use Rattle.sgml_theory_full.proofs.References.{no-name-character, not-semicolon, first-of-number}
use Rattle.sgml_theory_full.proofs.Literals.{is_own, own-tests}

pub run-length : (test : ℕ → Bool) (bs : List ℕ) (c : ℕ) (more : List ℕ) → list_all test bs ≡ true → test c ≡ false → prefix_len test (bs ++ c ∷ more) ≡ length bs
run-length test [] c more h k = ap (λ t. cond t (1 + prefix_len test more) 0) k
run-length test (b ∷ bs) c more h k =
    let q = both (test b) (list_all test bs) h in
    let n : 1 + length bs ≡ length (b ∷ bs) = omega arith in
    ap (λ t. cond t (1 + prefix_len test (bs ++ c ∷ more)) 0) q.0 ∙ ap (λ k. 1 + k) (run-length test bs c more q.1 k) ∙ n

abbrev pub at_quote : ℕ → Opened
at_quote height = record { quote = 34; kind = literals.Value; height = height }

-- a byte that begins nothing
abbrev begins_nothing : ℕ → Bool
begins_nothing b = not (is_ordinary 34 b)

own-ordinary : (b : ℕ) → is_own b ≡ true → is_ordinary 34 b ≡ true
own-ordinary b h = let t = own-tests b h in rw (t.0, t.1, t.2) refl

pub own-part : (s : Syntax) (height : ℕ) (its : Bool) (b : ℕ) (ws : List ℕ) (c : ℕ) (more : List ℕ) → list_all is_own (b ∷ ws) ≡ true → is_ordinary 34 c ≡ false
    → literal_at s.names s.general_fold (at_quote height) its b (ws ++ c ∷ more) ≡ p.Data (length (b ∷ ws))
own-part s height its b ws c more h k =
    let q = both (is_own b) (list_all is_own ws) h in
    let t = own-tests b q.0 in
    let n : 1 + length ws ≡ length (b ∷ ws) = omega arith in
    rw (t.0, t.2, t.2) (ap p.Data (ap (λ k. 1 + k) (run-length (is_ordinary 34) ws c more (all-of is_own (is_ordinary 34) own-ordinary ws q.1) k) ∙ n))

no-hash-start : (s : Syntax) → is_name_start s.names 35 ≡ false
no-hash-start s = go (is_name_start s.names 35) refl
  where
    go : (t : Bool) → is_name_start s.names 35 ≡ t → is_name_start s.names 35 ≡ false
    go true e = true-false (name-not 35 not-hash s 35 e)
    go false e = e

number-size : (s : Syntax) (n : ℕ) (rest : List ℕ) → n < 128 → number_reference (decimal n ++ 59 ∷ rest) ≡ p.Char (2 + length (decimal n) + 1) (unit.Coded n)
number-size s n rest lt =
    let k = small-number n lt in
    let len : prefix_len is_digit (decimal n ++ 59 ∷ rest) ≡ length (decimal n) = run-length is_digit (decimal n) 59 rest k.digits refl in
    let low : nat_le n 255 ≡ true = in-byte n lt in
    ap (λ i. numbered (2 + i + reference_end (drop i (decimal n ++ 59 ∷ rest))) (number_after 0 (take i (decimal n ++ 59 ∷ rest)))) len
    ∙ ap (λ bs. numbered (2 + length (decimal n) + reference_end bs) (number_after 0 (take (length (decimal n)) (decimal n ++ 59 ∷ rest)))) (drop_at (decimal n) (59 ∷ rest) (length (decimal n)) refl)
    ∙ ap (λ bs. numbered (2 + length (decimal n) + 1) (number_after 0 bs)) (take_at (decimal n) (59 ∷ rest) (length (decimal n)) refl)
    ∙ ap (numbered (2 + length (decimal n) + 1)) k.after
    ∙ if-true (nat_le n 255) _ _ low
  where
    in-byte : (n : ℕ) → n < 128 → nat_le n 255 ≡ true
    in-byte n h = grind (arith, nat_tests)

pub number-part : (s : Syntax) (height : ℕ) (its : Bool) (n : ℕ) (rest : List ℕ) → n < 128
    → literal_at s.names s.general_fold (at_quote height) its 38 (35 ∷ (decimal n ++ 59 ∷ rest)) ≡ p.Char (2 + length (decimal n) + 1) (unit.Coded n)
number-part s height its n rest lt =
    let k = first-of-number n lt in
    let digit : begins_digit (decimal n ++ 59 ∷ rest) ≡ true = ap (λ bs. begins_digit (bs ++ 59 ∷ rest)) k.2.0 ∙ k.2.1 in
    rw (no-hash-start s, digit) (number-size s n rest lt)

entity-size : (s : Syntax) (name rest : List ℕ) → is_name_of s.names name ≡ true
    → entity_reference s.names (name ++ 59 ∷ rest) ≡ p.Refer (length name) (1 + length name + 1)
entity-size s name rest h =
    let len : name_length s.names (name ++ 59 ∷ rest) ≡ length name = run-length (is_name_character s.names) name 59 rest (name-characters s.names name h) (no-name-character 59 not-semicolon refl s.names) in
    ap (λ i. p.Refer i (1 + i + reference_end (drop i (name ++ 59 ∷ rest)))) len
    ∙ ap (λ bs. p.Refer (length name) (1 + length name + reference_end bs)) (drop_at name (59 ∷ rest) (length name) refl)

pub entity-part : (s : Syntax) (height : ℕ) (its : Bool) (name rest : List ℕ) → is_name_of s.names name ≡ true
    → literal_at s.names s.general_fold (at_quote height) its 38 (name ++ 59 ∷ rest) ≡ p.Refer (length name) (1 + length name + 1)
entity-part s height its [] rest h = true-false (sym h)
entity-part s height its (b ∷ bs) rest h =
    rw ((both (is_name_start s.names b) (list_all (is_name_character s.names) bs) h).0) (entity-size s (b ∷ bs) rest h)
