-- A full document writes each value in a literal that is read as its units.
use Rattle.std.proofs.Common.{◌≡◌, ℕ, Bool, true, false, not, ◌||◌, ◌&&◌, ◌==◌, nat_lt, nat_le, List, [], ◌∷◌, ◌++◌, map, refl, sym, ap, subst, ◌∙◌, if◌then◌else◌, arith}
use Rattle.std.specs.List.{list_all, flat_map}
use Rattle.std.proofs.lemmas.Bool.{eqb-true}
use Rattle.std.proofs.lemmas.Bool.Decides.{nat_tests}
use Rattle.std.proofs.lemmas.List.{append-nil, map-append}
use Rattle.std.proofs.lemmas.List.Folds.{list_all-append}
use Rattle.sgml_full.specs.text.Characters.{is_letter, is_digit}
use Rattle.sgml_full.specs.text.declared.unit.Unit.{Unit as AnyUnit}
use Rattle.sgml_full.specs.text.declared.unit.Unit.TheVariants as unit
use Rattle.sgml_full.specs.text.Units.{characters}
use Rattle.sgml_full.specs.esis.Spelling.{spell_names}
use Rattle.sgml_full.specs.attr.declared.definition.Declared.{Declared}
use Rattle.sgml_full.specs.attr.declared.definition.Declared.TheVariants as declared
use Rattle.sgml_full.specs.attr.declared.value.AttrValue.{AttrValue}
use Rattle.sgml_full.specs.attr.declared.value.AttrValue.TheVariants as of
use Rattle.sgml_full.specs.attr.Parts.{parts}
use Rattle.sgml_full.specs.attr.Literal.{character_read, is_behind, is_cdata, spaced, joined, interpreted}
use Rattle.sgml_full.specs.attr.Literal as literals
use Rattle.sgml_full.proofs.attr.Plain.{plain-same}
use Rattle.sgml_full.specs.dtd.Doctypes.{Doctype}
use Rattle.sgml_theory_starts.specs.theory_reading.Types.{entity_tables, entity, name_of_entity}
use Rattle.sgml_full.specs.Spelled.{has_map, is_itself}
use Rattle.sgml_full.specs.Spelled as full
use Rattle.sgml_theory_values.specs.Given.{spelled, units_of, Spells}
use Rattle.sgml_theory_values.specs.Full.{unit_read, value_read}
use Rattle.sgml_theory_values.specs.Laws.{FullDocumentsSpellValues}
use Rattle.sgml_theory_values.proofs.Rows.{are_characters, Reads, given-again}
use Rattle.sgml_theory_values.proofs.Lists.{true-false}
use Rattle.sgml_theory_values.proofs.Tokens.{and}

-- NAMES AND TOKENS

spaced-names : (ts : List (List ℕ)) → characters (spell_names ts) ≡ spaced (map characters ts)
spaced-names [] = refl
spaced-names (t ∷ ts) =
    ap (λ us. unit.Byte 32 ∷ us) (map-append (λ b. unit.Byte b) t (spell_names ts) ∙ ap (λ us. characters t ++ us) (spaced-names ts))

spelled-names : (ts : List (List ℕ)) → characters (full.spaced ts) ≡ spelled ts
spelled-names [] = refl
spelled-names (t ∷ ts) = map-append (λ b. unit.Byte b) t (spell_names ts) ∙ ap (λ us. characters t ++ us) (spaced-names ts)

tokens-written : (d : Doctype) (v : AttrValue) → are_characters v ≡ false → value_read d v ≡ units_of d.entities v
unfolding entity
tokens-written d of.Implied h = refl
tokens-written d (of.Cdata us) h = true-false h
tokens-written d (of.Notation n) h = sym (append-nil (characters n))
tokens-written d (of.Entities es) h = spelled-names (map (name_of_entity d) es)
tokens-written d (of.Tokens ts) h = spelled-names ts

-- CHARACTER DATA

letter-behind : (b : ℕ) → is_letter b ≡ true → nat_lt 31 b ≡ true
letter-behind b h = grind (arith, nat_tests)

digit-behind : (b : ℕ) → is_digit b ≡ true → nat_lt 31 b ≡ true
digit-behind b h = grind (arith, nat_tests)

high-behind : (b : ℕ) → nat_le 128 b ≡ true → nat_lt 31 b ≡ true
high-behind b h = grind (arith, nat_tests)

either : (x y : Bool) (b : ℕ) → (x ≡ true → nat_lt 31 b ≡ true) → (y ≡ true → nat_lt 31 b ≡ true) → (x || y) ≡ true → nat_lt 31 b ≡ true
either true y b f g h = f refl
either false y b f g h = g h

first : (a b : Bool) → (a && b) ≡ true → a ≡ true
first true b h = refl
first false b h = true-false (sym h)

one : (n b : ℕ) → nat_lt 31 n ≡ true → (b == n) ≡ true → nat_lt 31 b ≡ true
one n b w h = ap (nat_lt 31) (eqb-true b n h) ∙ w

itself-behind : (mapped : Bool) (b : ℕ) → is_itself mapped b ≡ true → nat_lt 31 b ≡ true
itself-behind mapped b =
    either (is_letter b || is_digit b || (b == 46) || nat_le 128 b) ((b == 32) && not mapped) b
    (either (is_letter b || is_digit b || (b == 46)) (nat_le 128 b) b
    (either (is_letter b || is_digit b) (b == 46) b (either (is_letter b) (is_digit b) b (letter-behind b) (digit-behind b)) (one 46 b refl)) (high-behind b))
    (λ h. one 32 b refl (first (b == 32) (not mapped) h))

byte-read : (b : ℕ) → nat_lt 31 b ≡ true → character_read b ≡ unit.Byte b ∷ []
byte-read b h = sym (append-nil (character_read b)) ∙ plain-same declared.Cdata (unit.Byte b ∷ []) (and (nat_lt 31 b) true h refl)

-- what a literal is read as has no coded characters
abbrev is_plain : AnyUnit → Bool
is_plain (unit.Byte b) = true
is_plain (unit.Coded b) = false
is_plain (unit.Sdata e) = true

character-plain : (a b : Bool) (n : ℕ) → list_all is_plain (if a then [] else if b then unit.Byte 32 ∷ [] else unit.Byte n ∷ []) ≡ true
character-plain true b n = refl
character-plain false true n = refl
character-plain false false n = refl

one-plain : (u : AnyUnit) → list_all is_plain (literals.unit_read u) ≡ true
one-plain (unit.Byte b) = character-plain (b == 10) ((b == 13) || (b == 9)) b
one-plain (unit.Coded b) = refl
one-plain (unit.Sdata e) = refl

all-plain : (us : List AnyUnit) → list_all is_plain (flat_map literals.unit_read us) ≡ true
all-plain [] = refl
all-plain (u ∷ us) =
    list_all-append is_plain (literals.unit_read u) (flat_map literals.unit_read us)
    ∙ and (list_all is_plain (literals.unit_read u)) (list_all is_plain (flat_map literals.unit_read us)) (one-plain u) (all-plain us)

byte-back : (b : ℕ) (t : Bool) → (t ≡ true → nat_lt 31 b ≡ true) → literals.unit_read (if t then unit.Byte b else unit.Coded b) ≡ unit.Byte b ∷ []
byte-back b true f = byte-read b (f refl)
byte-back b false f = refl

unit-back : (d : Doctype) (u : AnyUnit) → is_plain u ≡ true → literals.unit_read (unit_read d u) ≡ u ∷ []
unit-back d (unit.Byte b) h = byte-back b (is_itself (has_map d) b) (itself-behind (has_map d) b)
unit-back d (unit.Coded b) h = true-false (sym h)
unit-back d (unit.Sdata e) h = refl

second : (a b : Bool) → (a && b) ≡ true → b ≡ true
second true b h = h
second false b h = true-false (sym h)

all-back : (d : Doctype) (us : List AnyUnit) → list_all is_plain us ≡ true → flat_map literals.unit_read (map (unit_read d) us) ≡ us
all-back d [] h = refl
all-back d (u ∷ us) h =
    ap (λ vs. vs ++ flat_map literals.unit_read (map (unit_read d) us)) (unit-back d u (first (is_plain u) (list_all is_plain us) h))
    ∙ ap (λ vs. u ∷ vs) (all-back d us (second (is_plain u) (list_all is_plain us) h))

-- A VALUE
spells-by : (d : Doctype) (x : Declared) (literal : List AnyUnit) (v : AttrValue) (b : Bool) → is_cdata x ≡ b → Reads x d.entities literal v b
    → Spells x d.entities (value_read d v) v
spells-by d x literal v true e r =
    let us = flat_map literals.unit_read literal in
    subst (λ u. Spells x d.entities (value_read d u) u) (sym r)
    (ap (λ t. if t then flat_map literals.unit_read (map (unit_read d) us) else joined (parts (flat_map literals.unit_read (map (unit_read d) us)))) e
    ∙ all-back d us (all-plain literal))
spells-by d x literal v false e r = ap (interpreted x) (tokens-written d v r.0) ∙ r.1

pub full-documents-spell : FullDocumentsSpellValues
full-documents-spell d x v g =
    let a = given-again d.syntax (entity_tables d) x g.0 v g.1 in
    spells-by d x.declared g.0 v (is_cdata x.declared) refl a.reads
