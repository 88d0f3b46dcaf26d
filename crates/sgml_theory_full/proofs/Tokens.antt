-- Tokens of what is written: a character, and references.
use Rattle.std.proofs.Common.{◌≡◌, ℕ, Bool, true, false, not, ◌&&◌, ◌||◌, ◌==◌, List, [], ◌∷◌, None, Some, length, drop, refl, sym, ◌∙◌, ap, if◌then◌else◌, eq-eqb, arith}
use Rattle.std.specs.List.{list_all}
use Rattle.std.proofs.lemmas.Bool.{eqb-true}
use Rattle.std.proofs.lemmas.Bool.Decides.{nat_tests}
use Rattle.sgml_theory_values.specs.text.Characters.{is_digit}
use Rattle.sgml_theory_values.specs.text.NameCharacters.{is_name_start}
use Rattle.sgml_theory_values.specs.syntax.declared.syntax.Syntax.{Syntax}
use Rattle.sgml_theory_values.specs.delim.declared.delim.Delim.{Delim}
use Rattle.sgml_theory_values.specs.delim.declared.delim.Delim.TheVariants as d
use Rattle.sgml_theory_values.specs.delim.declared.delim.Mode.{Mode}
use Rattle.sgml_theory_values.specs.delim.declared.delim.Mode.TheVariants as m
use Rattle.sgml_theory_values.specs.delim.declared.delim.Need.TheVariants.{NameStart, NameStartOrDigit}
use Rattle.sgml_theory_values.specs.delim.Tables.{string, delims, stands, first_that, follows, begins, in_force, need}
use Rattle.sgml_theory_values.specs.delim.Answers.{answer}
use Rattle.sgml_theory_full.proofs.Plain.{true-false, both, or-right, either, start-goes-on, OfNames, of-character}

-- WHICH DELIMITER begins there (9.6.1)

-- NO DELIMITER of content begins with this byte
abbrev pub begins_no_delimiter : ℕ → Bool
begins_no_delimiter b = not (b == 60) && (not (b == 38) && (not (b == 93) && not (b == 47)))

four : (a b c e : Bool) → (not a && (not b && (not c && not e))) ≡ true → (a ≡ false) × (b ≡ false) × (c ≡ false) × (e ≡ false)
four true b c e h = true-false (sym h)
four false true c e h = true-false (sym h)
four false false true e h = true-false (sym h)
four false false false true h = true-false (sym h)
four false false false false h = (refl, refl, refl, refl)

-- a byte is the same the other way round
eqb-sym : (a b : ℕ) (t : Bool) → (b == a) ≡ t → (a == b) ≡ t
eqb-sym a b true h = eq-eqb a b (sym (eqb-true b a h))
eqb-sym a b false h = go (a == b) refl
  where
    go : (t : Bool) → (a == b) ≡ t → (a == b) ≡ false
    go true e = true-false (sym (eq-eqb b a (sym (eqb-true a b e))) ∙ h)
    go false e = e

unlike : (c b : ℕ) (cs rest : List ℕ) → (c == b) ≡ false → begins (c ∷ cs) (b ∷ rest) ≡ false
unlike c b cs rest h = ap (λ t. t && begins cs rest) h

and-false : (a : Bool) → (a && false) ≡ false
and-false true = refl
and-false false = refl

unlike-stands : (s : Syntax) (k : Mode) (net : Bool) (x : Delim) (bytes : List ℕ) → begins (string x) bytes ≡ false → stands s k net x bytes ≡ false
unfolding stands
unlike-stands s k net x bytes h =
    ap (λ t. in_force s k net x && t && follows s (need k x) (drop (length (string x)) bytes)) h
    ∙ ap (λ t. t && follows s (need k x) (drop (length (string x)) bytes)) (and-false (in_force s k net x))

-- each delimiter of content begins with one of four bytes
begins_markup : List ℕ → Bool
begins_markup [] = false
begins_markup (c ∷ cs) = (c == 60) || ((c == 38) || ((c == 93) || (c == 47)))

unlike-head : (b : ℕ) (string rest : List ℕ) → begins_no_delimiter b ≡ true → begins_markup string ≡ true → begins string (b ∷ rest) ≡ false
unfolding begins_markup
unlike-head b [] rest h k = true-false (sym k)
unlike-head b (c ∷ cs) rest h k =
    let p = four (b == 60) (b == 38) (b == 93) (b == 47) h in
    let by : (n : ℕ) → (b == n) ≡ false → (c == n) ≡ true → begins (c ∷ cs) (b ∷ rest) ≡ false =
    λ n ne is. unlike c b cs rest (ap (λ x. x == b) (eqb-true c n is) ∙ eqb-sym n b false ne) in
    either (c == 60) ((c == 38) || ((c == 93) || (c == 47))) k (by 60 p.0)
    (λ k. either (c == 38) ((c == 93) || (c == 47)) k (by 38 p.1)
    (λ k. either (c == 93) (c == 47) k (by 93 p.2) (by 47 p.3)))

none-stands : (s : Syntax) (k : Mode) (net : Bool) (b : ℕ) (rest : List ℕ) → begins_no_delimiter b ≡ true
    → (xs : List Delim) → list_all (λ x. begins_markup (string x)) xs ≡ true → first_that (λ x. stands s k net x (b ∷ rest)) xs ≡ None
none-stands s k net b rest h [] e = refl
none-stands s k net b rest h (x ∷ xs) e =
    let p = both (begins_markup (string x)) (list_all (λ x. begins_markup (string x)) xs) e in
    ap (λ t. if t then Some x else first_that (λ x. stands s k net x (b ∷ rest)) xs) (unlike-stands s k net x (b ∷ rest) (unlike-head b (string x) rest h p.0))
    ∙ none-stands s k net b rest h xs p.1

-- the modes of content but for ignored sections (9.6.1)
abbrev pub is_content : Mode → Bool
is_content m.Con = true
is_content m.Rcd = true
is_content m.Cdt = true
is_content m.Rcs = true
is_content m.Cds = true
is_content _ = false

marked-up : (k : Mode) → is_content k ≡ true → list_all (λ x. begins_markup (string x)) (delims k) ≡ true
unfolding begins_markup
marked-up m.Con h = refl
marked-up m.Rcd h = refl
marked-up m.Cdt h = refl
marked-up m.Rcs h = refl
marked-up m.Cds h = refl
marked-up _ h = true-false (sym h)

pub no-delimiter : (s : Syntax) (k : Mode) (net : Bool) (b : ℕ) (rest : List ℕ) → is_content k ≡ true → begins_no_delimiter b ≡ true
    → answer s k net (b ∷ rest) ≡ None
no-delimiter s k net b rest c h = none-stands s k net b rest h (delims k) (marked-up k c)

-- A REFERENCE begins with `&#` and a digit, or with `&` and a name start character
begins-by : (p : ℕ → Bool) (b : ℕ) (more other : Bool) → p b ≡ true → (false || p b || other) ≡ true
begins-by p b more other h = rw h refl

pub digit-starts : (s : Syntax) (b : ℕ) (rest : List ℕ) → is_digit b ≡ true → follows s NameStartOrDigit (b ∷ rest) ≡ true
digit-starts s b rest h = ap (λ t. t || false) (or-right (is_name_start s.names b) (is_digit b) h)

pub number-con : (s : Syntax) (b : ℕ) (rest : List ℕ) → is_digit b ≡ true → answer s m.Con false (38 ∷ 35 ∷ b ∷ rest) ≡ Some d.Cro
unfolding stands
number-con s b rest h =
    ap (λ t. if t then Some d.Cro else first_that (λ x. stands s m.Con false x (38 ∷ 35 ∷ b ∷ rest)) (d.Mdo ∷ d.Msc ∷ d.Pio ∷ d.Stago ∷ d.Ero ∷ d.Net ∷ [])) (digit-starts s b rest h)

pub number-rcd : (s : Syntax) (b : ℕ) (rest : List ℕ) → is_digit b ≡ true → answer s m.Rcd false (38 ∷ 35 ∷ b ∷ rest) ≡ Some d.Cro
unfolding stands
number-rcd s b rest h =
    ap (λ t. if t then Some d.Cro else first_that (λ x. stands s m.Rcd false x (38 ∷ 35 ∷ b ∷ rest)) (d.Ero ∷ d.Net ∷ [])) (digit-starts s b rest h)

-- no name start character is `#`, `<`, ..
pub not-hash : OfNames (λ b. not (b == 35))
not-hash = record {
  letters = λ b h. grind (arith, nat_tests);
  digits = λ b h. grind (arith, nat_tests);
  minus = refl;
  stop = refl;
  low_line = refl;
  colon = refl;
}

not-is : (t : Bool) → not t ≡ true → t ≡ false
not-is true h = true-false (sym h)
not-is false h = refl

pub name-not : (n : ℕ) → OfNames (λ b. not (b == n)) → (s : Syntax) (b : ℕ) → is_name_start s.names b ≡ true → (n == b) ≡ false
name-not n o s b h = eqb-sym n b false (not-is (b == n) (of-character (λ b. not (b == n)) o s.names b (start-goes-on s.names b h)))

pub name-starts : (s : Syntax) (b : ℕ) (rest : List ℕ) → is_name_start s.names b ≡ true → follows s NameStart (b ∷ rest) ≡ true
name-starts s b rest h = ap (λ t. t || false) h

pub entity-con : (s : Syntax) (b : ℕ) (rest : List ℕ) → is_name_start s.names b ≡ true → answer s m.Con false (38 ∷ b ∷ rest) ≡ Some d.Ero
unfolding stands
entity-con s b rest h = rw (name-not 35 not-hash s b h) (ap (λ t. if t then Some d.Ero else first_that (λ x. stands s m.Con false x (38 ∷ b ∷ rest)) (d.Net ∷ [])) (name-starts s b rest h))

pub entity-rcd : (s : Syntax) (b : ℕ) (rest : List ℕ) → is_name_start s.names b ≡ true → answer s m.Rcd false (38 ∷ b ∷ rest) ≡ Some d.Ero
unfolding stands
entity-rcd s b rest h = rw (name-not 35 not-hash s b h) (ap (λ t. if t then Some d.Ero else first_that (λ x. stands s m.Rcd false x (38 ∷ b ∷ rest)) (d.Net ∷ [])) (name-starts s b rest h))
