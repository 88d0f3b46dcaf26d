-- A value within its literal, as bits (7.9.3): its characters and its references.
use Rattle.std.proofs.Common.{◌≡◌, ℕ, Bool, true, false, not, ◌&&◌, ◌||◌, ◌==◌, nat_le, List, [], ◌∷◌, ◌++◌, map, Option, Some, None, refl, sym, ◌∙◌, ap, if◌then◌else◌, arith}
use Rattle.std.specs.Prelude.{option_map}
use Rattle.std.specs.List.{list_all}
use Rattle.std.proofs.lemmas.Bool.{eqb-true}
use Rattle.std.proofs.lemmas.Bool.Decides.{nat_tests}
use Rattle.sgml_theory_values.specs.text.declared.unit.Unit.{Unit as AnyUnit}
use Rattle.sgml_theory_values.specs.text.declared.unit.Unit.TheVariants as unit
use Rattle.sgml_theory_values.specs.text.Units.{characters}
use Rattle.sgml_theory_values.specs.text.Characters.{is_letter, is_digit}
use Rattle.sgml_theory_values.specs.syntax.declared.syntax.Syntax.{Syntax}
use Rattle.sgml_theory_values.specs.entity.declared.kinds.Space.TheVariants.{General}
use Rattle.sgml_theory_values.specs.entity.declared.kinds.Body.{Body}
use Rattle.sgml_theory_values.specs.entity.declared.kinds.Body.TheVariants.{Sdata}
use Rattle.sgml_theory_values.specs.entity.declared.kinds.Entity.{Entity as AnyEntity}
use Rattle.sgml_theory_values.specs.entity.Entities.{number_of, entity_at}
use Rattle.sgml_theory_values.specs.attr.declared.value.AttrValue.{AttrValue}
use Rattle.sgml_theory_values.specs.attr.declared.value.AttrValue.TheVariants as value
use Rattle.sgml_theory_values.specs.esis.Spelling.{spell_names}
use Rattle.sgml_theory_values.specs.dtd.Doctypes.{Doctype}
use Rattle.sgml_theory_values.specs.theory_reading.Types.{entity_number, entity, name_of_entity}
use Rattle.sgml_theory_values.specs.full.Spelled.{has_map, is_itself, spelled_unit, spelled_data, spaced, spelled_value, number_reference}
use Rattle.sgml_theory_full.specs.Named.{AllAre, IsSdata, UnitIsWritten, IsToken, ValueIsWritten}
use Rattle.sgml_theory_values.specs.Full.{unit_read, value_read}
use Rattle.sgml_theory_full.proofs.Plain.{true-false, both, all-append, other-is-low}
use Rattle.sgml_theory_full.proofs.Literals.{Bit, Bit.Own, Bit.Number, Bit.Entity, bit_text, bits_text, bit_unit, is_own, names-own, IsBit, AreBits}
use Rattle.sgml_theory_full.proofs.Reading.{IsSpecific, IsKnown, AreKnown}

abbrev pub byte_bit : Bool → ℕ → Bit
byte_bit mapped b = if is_itself mapped b then Own b else Number b

abbrev pub unit_bit : Doctype → AnyUnit → Bit
unit_bit d (unit.Byte b) = byte_bit (has_map d) b
unit_bit d (unit.Coded b) = byte_bit (has_map d) b
unit_bit d (unit.Sdata e) = Entity (name_of_entity d e) e

abbrev pub own_bits : List ℕ → List Bit
own_bits bytes = map (λ b. Own b) bytes

abbrev pub value_bits : Doctype → AttrValue → List Bit
value_bits d value.Implied = []
value_bits d (value.Cdata us) = map (unit_bit d) us
value_bits d (value.Notation n) = own_bits n
value_bits d (value.Entities es) = own_bits (spaced (map (name_of_entity d) es))
value_bits d (value.Tokens ts) = own_bits (spaced ts)

-- THEIR TEXT is the value as it is spelled
byte-text : (mapped : Bool) (b : ℕ) (t : Bool) → bit_text (if t then Own b else Number b) ≡ (if t then b ∷ [] else number_reference b)
byte-text mapped b true = refl
byte-text mapped b false = refl

unit-text : (d : Doctype) (u : AnyUnit) → bit_text (unit_bit d u) ≡ spelled_unit d u
unit-text d (unit.Byte b) = byte-text (has_map d) b (is_itself (has_map d) b)
unit-text d (unit.Coded b) = byte-text (has_map d) b (is_itself (has_map d) b)
unit-text d (unit.Sdata e) = refl

units-text : (d : Doctype) (us : List AnyUnit) → bits_text (map (unit_bit d) us) ≡ spelled_data d us
units-text d [] = refl
units-text d (u ∷ us) = ap (λ t. t ++ bits_text (map (unit_bit d) us)) (unit-text d u) ∙ ap (λ t. spelled_unit d u ++ t) (units-text d us)

own-text : (bytes : List ℕ) → bits_text (own_bits bytes) ≡ bytes
own-text [] = refl
own-text (b ∷ bs) = ap (λ t. b ∷ t) (own-text bs)

pub value-text : (d : Doctype) (v : AttrValue) → bits_text (value_bits d v) ≡ spelled_value d v
value-text d value.Implied = refl
value-text d (value.Cdata us) = units-text d us
value-text d (value.Notation n) = own-text n
value-text d (value.Entities es) = own-text (spaced (map (name_of_entity d) es))
value-text d (value.Tokens ts) = own-text (spaced ts)

-- and their units are the value as it is read
byte-unit : (b : ℕ) (t : Bool) → bit_unit (if t then Own b else Number b) ≡ (if t then unit.Byte b else unit.Coded b)
byte-unit b true = refl
byte-unit b false = refl

unit-unit : (d : Doctype) (u : AnyUnit) → bit_unit (unit_bit d u) ≡ unit_read d u
unit-unit d (unit.Byte b) = byte-unit b (is_itself (has_map d) b)
unit-unit d (unit.Coded b) = byte-unit b (is_itself (has_map d) b)
unit-unit d (unit.Sdata e) = refl

units-units : (d : Doctype) (us : List AnyUnit) → map bit_unit (map (unit_bit d) us) ≡ map (unit_read d) us
units-units d [] = refl
units-units d (u ∷ us) = ap (λ x. x ∷ map bit_unit (map (unit_bit d) us)) (unit-unit d u) ∙ ap (λ xs. unit_read d u ∷ xs) (units-units d us)

own-units : (bytes : List ℕ) → map bit_unit (own_bits bytes) ≡ characters bytes
own-units [] = refl
own-units (b ∷ bs) = ap (λ xs. unit.Byte b ∷ xs) (own-units bs)

pub value-units : (d : Doctype) (v : AttrValue) → map bit_unit (value_bits d v) ≡ value_read d v
value-units d value.Implied = refl
value-units d (value.Cdata us) = units-units d us
value-units d (value.Notation n) = own-units n
value-units d (value.Entities es) = own-units (spaced (map (name_of_entity d) es))
value-units d (value.Tokens ts) = own-units (spaced ts)

-- THEY CAN BE READ

own-letter : (b : ℕ) → is_letter b ≡ true → is_own b ≡ true
own-letter b h = grind (arith, nat_tests)

own-digit : (b : ℕ) → is_digit b ≡ true → is_own b ≡ true
own-digit b h = grind (arith, nat_tests)

own-high : (b : ℕ) → nat_le 128 b ≡ true → is_own b ≡ true
own-high b h = grind (arith, nat_tests)

itself-own : (mapped : Bool) (b : ℕ) (l g s h t : Bool) → is_letter b ≡ l → is_digit b ≡ g → (b == 46) ≡ s → nat_le 128 b ≡ h → ((b == 32) && not mapped) ≡ t
    → (l || g || s || h || t) ≡ true → is_own b ≡ true
itself-own mapped b true g s h t p q r u v e = own-letter b p
itself-own mapped b false true s h t p q r u v e = own-digit b q
itself-own mapped b false false true h t p q r u v e = ap is_own (eqb-true b 46 r)
itself-own mapped b false false false true t p q r u v e = own-high b u
itself-own mapped b false false false false true p q r u v e = ap is_own (eqb-true b 32 (both (b == 32) (not mapped) v).0)
itself-own mapped b false false false false false p q r u v e = true-false (sym e)

pub itself-is-own : (mapped : Bool) (b : ℕ) → is_itself mapped b ≡ true → is_own b ≡ true
itself-is-own mapped b = itself-own mapped b (is_letter b) (is_digit b) (b == 46) (nat_le 128 b) ((b == 32) && not mapped) refl refl refl refl refl

byte-is : (s : Syntax) (mapped : Bool) (b : ℕ) (t : Bool) → is_itself mapped b ≡ t → IsBit s (if t then Own b else Number b)
byte-is s mapped b true e = itself-is-own mapped b e
byte-is s mapped b false e = other-is-low mapped b e

unit-is : (d : Doctype) (u : AnyUnit) → UnitIsWritten d u → IsBit d.syntax (unit_bit d u)
unit-is d (unit.Byte b) w = byte-is d.syntax (has_map d) b (is_itself (has_map d) b) refl
unit-is d (unit.Coded b) w = byte-is d.syntax (has_map d) b (is_itself (has_map d) b) refl
unit-is d (unit.Sdata e) w = record { named = w.1.name.is_name; short = w.1.name.short }

units-are : (d : Doctype) (us : List AnyUnit) → AllAre (UnitIsWritten d) us → AreBits d.syntax (map (unit_bit d) us)
units-are d [] w = tt
units-are d (u ∷ us) w = (unit-is d u w.0, units-are d us w.1)

own-are : (s : Syntax) (bytes : List ℕ) → list_all is_own bytes ≡ true → AreBits s (own_bits bytes)
own-are s [] h = tt
own-are s (b ∷ bs) h = let q = both (is_own b) (list_all is_own bs) h in (q.0, own-are s bs q.1)

spaces-own : (s : Syntax) (ts : List (List ℕ)) → AllAre (IsToken s) ts → list_all is_own (spell_names ts) ≡ true
spaces-own s [] h = refl
spaces-own s (t ∷ ts) h = all-append is_own (32 ∷ t) (spell_names ts) (names-own s.names t h.0) (spaces-own s ts h.1)

spaced-own : (s : Syntax) (ts : List (List ℕ)) → AllAre (IsToken s) ts → list_all is_own (spaced ts) ≡ true
spaced-own s [] h = refl
spaced-own s (t ∷ ts) h = all-append is_own t (spell_names ts) (names-own s.names t h.0) (spaces-own s ts h.1)

pub named-tokens : (d : Doctype) (es : List ℕ) → AllAre (λ e. IsToken d.syntax (name_of_entity d e)) es → AllAre (IsToken d.syntax) (map (name_of_entity d) es)
named-tokens d [] h = tt
named-tokens d (e ∷ es) h = (h.0, named-tokens d es h.1)

pub value-are : (d : Doctype) (v : AttrValue) → ValueIsWritten d v → AreBits d.syntax (value_bits d v)
value-are d value.Implied w = tt
value-are d (value.Cdata us) w = units-are d us w
value-are d (value.Notation n) w = own-are d.syntax n (names-own d.syntax.names n w)
value-are d (value.Entities es) w = own-are d.syntax (spaced (map (name_of_entity d) es)) (spaced-own d.syntax (map (name_of_entity d) es) (named-tokens d es w))
value-are d (value.Tokens ts) w = own-are d.syntax (spaced ts) (spaced-own d.syntax ts w)

-- AND EACH REFERENCE has its entity
byte-known : (s : Syntax) (es : List AnyEntity) (b : ℕ) (t : Bool) → IsKnown s es (if t then Own b else Number b)
byte-known s es b true = tt
byte-known s es b false = tt

some-entity : (o : Option AnyEntity) (b : Body) → option_map (λ (e : AnyEntity). e.body) o ≡ Some b → (e : AnyEntity) × ((o ≡ Some e) × (e.body ≡ b))
some-entity None b h = absurd (never h)
  where
    never : None ≡ Some b → ⊥
    never h = cc
some-entity (Some e) b h = (e, (refl, same h))
  where
    same : Some e.body ≡ Some b → e.body ≡ b
    same h = cc

specific : (d : Doctype) (number : ℕ) (text : List ℕ) → IsSdata d number text → IsSpecific d.syntax d.entities (name_of_entity d number) number
unfolding entity_number entity
specific d number text h =
    let e = some-entity (entity_at d.entities number) (Sdata text) h.body in record {
      short = h.name.short;
      numbered = ap (number_of d.entities General) h.name.folded ∙ h.numbered;
      e = e.0;
      is = e.1.0;
      text = text;
      body = e.1.1;
    }

unit-known : (d : Doctype) (u : AnyUnit) → UnitIsWritten d u → IsKnown d.syntax d.entities (unit_bit d u)
unit-known d (unit.Byte b) w = byte-known d.syntax d.entities b (is_itself (has_map d) b)
unit-known d (unit.Coded b) w = byte-known d.syntax d.entities b (is_itself (has_map d) b)
unit-known d (unit.Sdata e) w = specific d e w.0 w.1

units-known : (d : Doctype) (us : List AnyUnit) → AllAre (UnitIsWritten d) us → AreKnown d.syntax d.entities (map (unit_bit d) us)
units-known d [] w = tt
units-known d (u ∷ us) w = (unit-known d u w.0, units-known d us w.1)

own-known : (s : Syntax) (es : List AnyEntity) (bytes : List ℕ) → AreKnown s es (own_bits bytes)
own-known s es [] = tt
own-known s es (b ∷ bs) = (tt, own-known s es bs)

pub value-known : (d : Doctype) (v : AttrValue) → ValueIsWritten d v → AreKnown d.syntax d.entities (value_bits d v)
value-known d value.Implied w = tt
value-known d (value.Cdata us) w = units-known d us w
value-known d (value.Notation n) w = own-known d.syntax d.entities n
value-known d (value.Entities es) w = own-known d.syntax d.entities (spaced (map (name_of_entity d) es))
value-known d (value.Tokens ts) w = own-known d.syntax d.entities (spaced ts)
