-- What is written in a literal (7.9.3): characters that stand for themselves, and references.
use Rattle.std.proofs.Common.{◌≡◌, ℕ, ◌<◌, Bool, true, false, not, ◌&&◌, ◌||◌, ◌==◌, List, [], ◌∷◌, ◌++◌, None, Some, length, refl, sym, ◌∙◌, ap, append_assoc, arith}
use Rattle.std.specs.Prelude.{decimal, codes, flat_map}
use Rattle.std.specs.List.{list_all}
use Rattle.std.proofs.lemmas.Bool.Decides.{nat_tests}
use Rattle.sgml_theory_values.specs.text.declared.name_set.NameSet.{NameSet}
use Rattle.sgml_theory_values.specs.text.declared.unit.Unit.{Unit as AnyUnit}
use Rattle.sgml_theory_values.specs.text.declared.unit.Unit.TheVariants as unit
use Rattle.sgml_theory_values.specs.text.Characters.{is_digit, is_sgml_character}
use Rattle.sgml_theory_values.specs.text.NameCharacters.{is_name_start, is_name_character, is_name_of}
use Rattle.sgml_theory_values.specs.syntax.declared.syntax.Syntax.{Syntax}
use Rattle.sgml_theory_values.specs.delim.declared.delim.Delim.TheVariants as d
use Rattle.sgml_theory_values.specs.delim.Tables.{stands}
use Rattle.sgml_theory_values.specs.markup.References.{is_err, too_long, wrong_number, wrong_length, somewhere, in_literal, has_wrong_number, has_wrong_length}
use Rattle.sgml_theory_full.proofs.Plain.{true-false, both, and-true, if-true, all-append, all-of, small-number, OfNames, of-character, name-characters}
use Rattle.sgml_theory_full.proofs.Tokens.{digit-starts, name-starts, name-not, not-hash}
use Rattle.sgml_theory_full.proofs.References.{number-character, entity-named, first-of-number}

-- a character by itself, or by its number, or a reference to the entity of this number
pub data Bit : Type 0 where
  Own : (byte : ℕ) → Bit
  Number : (byte : ℕ) → Bit
  Entity : (name : List ℕ) (number : ℕ) → Bit

abbrev pub bit_text : Bit → List ℕ
bit_text (Own b) = b ∷ []
bit_text (Number b) = codes "&#" ++ (decimal b ++ 59 ∷ [])
bit_text (Entity name n) = 38 ∷ name ++ 59 ∷ []

abbrev pub bits_text : List Bit → List ℕ
bits_text bits = flat_map bit_text bits

abbrev pub bit_unit : Bit → AnyUnit
bit_unit (Own b) = unit.Byte b
bit_unit (Number b) = unit.Coded b
bit_unit (Entity name n) = unit.Sdata n

-- neither a quote nor the begin of a reference
abbrev pub is_own : ℕ → Bool
is_own b = not (b == 34) && (not (b == 37) && (not (b == 38) && is_sgml_character b))

pub record IsReferred (s : Syntax) (name : List ℕ) : Type 0 where
  pub named : is_name_of s.names name ≡ true
  pub short : too_long s (length name) ≡ false

abbrev pub IsBit : Syntax → Bit → Type 0
IsBit s (Own b) = is_own b ≡ true
IsBit s (Number b) = b < 128
IsBit s (Entity name n) = IsReferred s name

abbrev pub AreBits : Syntax → List Bit → Type 0
AreBits s [] = Unit {0}
AreBits s (x ∷ xs) = IsBit s x × AreBits s xs

own-parts : (q p a t : Bool) → (not q && (not p && (not a && t))) ≡ true → (q ≡ false) × (p ≡ false) × (a ≡ false) × (t ≡ true)
own-parts true p a t h = true-false (sym h)
own-parts false true a t h = true-false (sym h)
own-parts false false true t h = true-false (sym h)
own-parts false false false t h = (refl, refl, refl, h)

pub own-tests : (b : ℕ) → is_own b ≡ true → ((b == 34) ≡ false) × ((b == 37) ≡ false) × ((b == 38) ≡ false) × (is_sgml_character b ≡ true)
own-tests b h = own-parts (b == 34) (b == 37) (b == 38) (is_sgml_character b) h

-- a byte of a name is one
pub name-own : OfNames is_own
name-own = record {
  letters = λ b h. grind (arith, nat_tests);
  digits = λ b h. grind (arith, nat_tests);
  minus = refl;
  stop = refl;
  low_line = refl;
  colon = refl;
}

pub names-own : (names : NameSet) (name : List ℕ) → list_all (is_name_character names) name ≡ true → list_all is_own name ≡ true
names-own names = all-of (is_name_character names) is_own (of-character is_own name-own names)

pub digit-own : (b : ℕ) → is_digit b ≡ true → is_own b ≡ true
digit-own b h = grind (arith, nat_tests)

-- NO QUOTE stands in them, and SGML characters alone

own-unquoted : (b : ℕ) → is_own b ≡ true → not (b == 34) ≡ true
own-unquoted b h = ap not (own-tests b h).0

own-sgml : (b : ℕ) → is_own b ≡ true → is_sgml_character b ≡ true
own-sgml b h = (own-tests b h).3

abbrev Without : (ℕ → Bool) → Bit → Type 0
Without p x = list_all p (bit_text x) ≡ true

bit-all : (p : ℕ → Bool) → ((b : ℕ) → is_own b ≡ true → p b ≡ true) → p 38 ≡ true → p 35 ≡ true → p 59 ≡ true → (s : Syntax) (x : Bit) → IsBit s x → Without p x
bit-all p f amp hash semi s (Own b) h = and-true (p b) true (f b h) refl
bit-all p f amp hash semi s (Number n) h =
    and-true (p 38) (list_all p (35 ∷ (decimal n ++ 59 ∷ []))) amp
    (and-true (p 35) (list_all p (decimal n ++ 59 ∷ [])) hash
    (all-append p (decimal n) (59 ∷ []) (all-of is_digit p (λ b k. f b (digit-own b k)) (decimal n) (small-number n h).digits) (and-true (p 59) true semi refl)))
bit-all p f amp hash semi s (Entity name n) h =
    and-true (p 38) (list_all p (name ++ 59 ∷ [])) amp
    (all-append p name (59 ∷ []) (all-of is_own p f name (names-own s.names name (name-characters s.names name h.named))) (and-true (p 59) true semi refl))

pub bits-all : (p : ℕ → Bool) → ((b : ℕ) → is_own b ≡ true → p b ≡ true) → p 38 ≡ true → p 35 ≡ true → p 59 ≡ true → (s : Syntax) (xs : List Bit) → AreBits s xs → list_all p (bits_text xs) ≡ true
bits-all p f amp hash semi s [] h = refl
bits-all p f amp hash semi s (x ∷ xs) h = all-append p (bit_text x) (bits_text xs) (bit-all p f amp hash semi s x h.0) (bits-all p f amp hash semi s xs h.1)

pub bits-unquoted : (s : Syntax) (xs : List Bit) → AreBits s xs → list_all (λ b. not (b == 34)) (bits_text xs) ≡ true
bits-unquoted = bits-all (λ b. not (b == 34)) own-unquoted refl refl refl

pub bits-sgml : (s : Syntax) (xs : List Bit) → AreBits s xs → list_all is_sgml_character (bits_text xs) ≡ true
bits-sgml = bits-all is_sgml_character own-sgml refl refl refl

-- NO REFERENCE in them is wrong

-- the delimiters of a literal begin with `&` or the quote
lit-none : (s : Syntax) (b : ℕ) (rest : List ℕ) → (38 == b) ≡ false → (34 == b) ≡ false → in_literal s (b ∷ rest) ≡ None
unfolding stands in_literal
lit-none s b rest h k = rw (h, k) refl

lit-number : (s : Syntax) (b : ℕ) (rest : List ℕ) → is_digit b ≡ true → in_literal s (38 ∷ 35 ∷ b ∷ rest) ≡ Some d.Cro
unfolding stands in_literal
lit-number s b rest h = if-true _ _ _ (digit-starts s b rest h)

lit-entity : (s : Syntax) (b : ℕ) (rest : List ℕ) → is_name_start s.names b ≡ true → in_literal s (38 ∷ b ∷ rest) ≡ Some d.Ero
unfolding stands in_literal
lit-entity s b rest h = rw (name-not 35 not-hash s b h) (if-true _ _ _ (name-starts s b rest h))

-- a test that holds of no byte by which no delimiter begins
pub record Quiet (s : Syntax) (test : List ℕ → Bool) : Type 0 where
  pub plain : (b : ℕ) (rest : List ℕ) → (38 == b) ≡ false → (34 == b) ≡ false → test (b ∷ rest) ≡ false
  pub number : (n : ℕ) (rest : List ℕ) → n < 128 → test (38 ∷ 35 ∷ (decimal n ++ 59 ∷ rest)) ≡ false
  pub entity : (name rest : List ℕ) → IsReferred s name → test (38 ∷ (name ++ 59 ∷ rest)) ≡ false

quiet-run : (s : Syntax) (test : List ℕ → Bool) → Quiet s test → (bs rest : List ℕ) → list_all (λ b. not (38 == b) && not (34 == b)) bs ≡ true
    → somewhere test (bs ++ rest) ≡ somewhere test rest
quiet-run s test q [] rest h = refl
quiet-run s test q (b ∷ bs) rest h =
    let p = both (not (38 == b) && not (34 == b)) (list_all (λ b. not (38 == b) && not (34 == b)) bs) h in
    let r = both (not (38 == b)) (not (34 == b)) p.0 in
    rw (q.plain b (bs ++ rest) (not-is (38 == b) r.0) (not-is (34 == b) r.1)) (quiet-run s test q bs rest p.1)
  where
    not-is : (t : Bool) → not t ≡ true → t ≡ false
    not-is true h = true-false (sym h)
    not-is false h = refl

eqb-sym : (a b : ℕ) → (b == a) ≡ false → (a == b) ≡ false
eqb-sym a b h = grind (arith, nat_tests)

own-plain : (b : ℕ) → is_own b ≡ true → (not (38 == b) && not (34 == b)) ≡ true
own-plain b h =
    let p = own-tests b h in
    and-true (not (38 == b)) (not (34 == b)) (ap not (eqb-sym 38 b p.2)) (ap not (eqb-sym 34 b p.0))

abbrev is_plain_here : ℕ → Bool
is_plain_here b = not (38 == b) && not (34 == b)

bit-quiet : (s : Syntax) (test : List ℕ → Bool) → Quiet s test → (x : Bit) (rest : List ℕ) → IsBit s x → somewhere test (bit_text x ++ rest) ≡ somewhere test rest
bit-quiet s test q (Own b) rest h = quiet-run s test q (b ∷ []) rest (and-true (is_plain_here b) true (own-plain b h) refl)
bit-quiet s test q (Number n) rest h =
    let digits = all-of is_digit is_plain_here (λ b k. own-plain b (digit-own b k)) (decimal n) (small-number n h).digits in
    ap (λ t. t || somewhere test (35 ∷ ((decimal n ++ 59 ∷ []) ++ rest)))
    (ap (λ bs. test (38 ∷ 35 ∷ bs)) (append_assoc (decimal n) (59 ∷ []) rest) ∙ q.number n rest h)
    ∙ quiet-run s test q (35 ∷ (decimal n ++ 59 ∷ [])) rest (all-append is_plain_here (decimal n) (59 ∷ []) digits refl)
bit-quiet s test q (Entity name n) rest h =
    let plain = all-of is_own is_plain_here own-plain name (names-own s.names name (name-characters s.names name h.named)) in
    ap (λ t. t || somewhere test ((name ++ 59 ∷ []) ++ rest))
    (ap (λ bs. test (38 ∷ bs)) (append_assoc name (59 ∷ []) rest) ∙ q.entity name rest h)
    ∙ quiet-run s test q (name ++ 59 ∷ []) rest (all-append is_plain_here name (59 ∷ []) plain refl)

bits-quiet : (s : Syntax) (test : List ℕ → Bool) → Quiet s test → (xs : List Bit) → AreBits s xs → somewhere test (bits_text xs) ≡ false
bits-quiet s test q [] h = refl
bits-quiet s test q (x ∷ xs) h = bit-quiet s test q x (bits_text xs) h.0 ∙ bits-quiet s test q xs h.1

number-lit : (s : Syntax) (n : ℕ) (rest : List ℕ) → n < 128 → in_literal s (38 ∷ 35 ∷ (decimal n ++ 59 ∷ rest)) ≡ Some d.Cro
number-lit s n rest lt =
    let f = first-of-number n lt in
    ap (λ bs. in_literal s (38 ∷ 35 ∷ (bs ++ 59 ∷ rest))) f.2.0 ∙ lit-number s f.0 (f.1 ++ 59 ∷ rest) f.2.1

entity-lit : (s : Syntax) (name rest : List ℕ) → is_name_of s.names name ≡ true → in_literal s (38 ∷ (name ++ rest)) ≡ Some d.Ero
entity-lit s [] rest h = true-false (sym h)
entity-lit s (b ∷ bs) rest h = lit-entity s b (bs ++ rest) (both (is_name_start s.names b) (list_all (is_name_character s.names) bs) h).0

quiet-numbers : (s : Syntax) → Quiet s (λ rest. wrong_number s (in_literal s rest) rest)
quiet-numbers s = record {
  plain = λ b rest h k. ap (λ o. wrong_number s o (b ∷ rest)) (lit-none s b rest h k);
  number = λ n rest lt. ap (λ o. wrong_number s o (38 ∷ 35 ∷ (decimal n ++ 59 ∷ rest))) (number-lit s n rest lt) ∙ ap is_err (number-character s n rest lt);
  entity = λ name rest h. ap (λ o. wrong_number s o (38 ∷ (name ++ 59 ∷ rest))) (entity-lit s name (59 ∷ rest) h.named);
}

quiet-lengths : (s : Syntax) → Quiet s (λ rest. wrong_length s (in_literal s rest) rest)
quiet-lengths s = record {
  plain = λ b rest h k. ap (λ o. wrong_length s o (b ∷ rest)) (lit-none s b rest h k);
  number = λ n rest lt. ap (λ o. wrong_length s o (38 ∷ 35 ∷ (decimal n ++ 59 ∷ rest))) (number-lit s n rest lt);
  entity = λ name rest h. ap (λ o. wrong_length s o (38 ∷ (name ++ 59 ∷ rest))) (entity-lit s name (59 ∷ rest) h.named) ∙ ap (λ bs. too_long s (length bs)) (entity-named s name rest h.named) ∙ h.short;
}

pub bits-numbers : (s : Syntax) (xs : List Bit) → AreBits s xs → has_wrong_number s (bits_text xs) ≡ false
bits-numbers s = bits-quiet s (λ rest. wrong_number s (in_literal s rest) rest) (quiet-numbers s)

pub bits-lengths : (s : Syntax) (xs : List Bit) → AreBits s xs → has_wrong_length s (bits_text xs) ≡ false
bits-lengths s = bits-quiet s (λ rest. wrong_length s (in_literal s rest) rest) (quiet-lengths s)
