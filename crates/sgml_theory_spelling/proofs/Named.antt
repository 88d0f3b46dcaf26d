-- The attribute that a specification names.
use Rattle.std.proofs.Common.{◌≡◌, ℕ, zero, suc, Bool, true, false, List, [], ◌∷◌, map, length, Option, Some, None, option_map, option_and_then, bytes_eq, find, refl, sym, ap, ◌∙◌, if◌then◌else◌, arith, nat_lt, ◌≤◌, rules, tests}
use Rattle.std.specs.List.{position, position_or_len, slice_get}
use Rattle.std.proofs.lemmas.List.Folds.{find_at}
use Rattle.std.proofs.lemmas.Option.{slice_get_past}
use Rattle.std.proofs.lemmas.Slice.Eq.{bytes_eq-Decides}
use Rattle.sgml_scan.specs.text.declared.unit.Unit.{Unit as AnyUnit}
use Rattle.sgml_theory_reading.specs.attr.declared.definition.Definition.{Definition}
use Rattle.sgml_theory_reading.specs.names.Naming.{cased_character}
use Rattle.sgml_theory_reading.specs.attr.Matching.{is_named, attribute_by}
use Rattle.sgml_theory_reading.specs.names.Naming.{general_name}
use Rattle.sgml_theory_reading.specs.names.Naming as naming
use Rattle.sgml_theory_reading.specs.dtd.Doctypes.{Doctype}
use Rattle.sgml_theory_reading.specs.Names.{Name, Text}
use Rattle.sgml_theory_reading.specs.Types.{attributes}
use Rattle.sgml_theory_spelling.specs.Attributes.{definition_named}
use Rattle.sgml_theory_spelling.specs.Named.{AreApart, NamedIsNumbered}

-- the first that passes is at the first place that does
first-at : (p : Definition → Bool) (xs : List Definition) → find p xs ≡ option_and_then (slice_get xs) (position p xs)
first-at p xs = by (nat_lt (position_or_len p xs) (length xs)) refl
  where
    past : (i n : ℕ) → nat_lt i n ≡ false → n ≤ i
    past i n e = search (rules, tests)

    by : (t : Bool) → nat_lt (position_or_len p xs) (length xs) ≡ t → find p xs ≡ option_and_then (slice_get xs) (if t then Some (position_or_len p xs) else None)
    by true e = find_at p xs
    by false e = find_at p xs ∙ slice_get_past xs (position_or_len p xs) (past (position_or_len p xs) (length xs) e)

-- folded in one way
same-cased : (t : Bool) (name : List ℕ) → naming.cased t name ≡ map (cased_character t) name
same-cased true name = refl
same-cased false name = sym (map-same name)
  where
    map-same : (bs : List ℕ) → map (cased_character false) bs ≡ bs
    map-same [] = refl
    map-same (b ∷ bs) = ap (λ cs. b ∷ cs) (map-same bs)

named-by-name : (d : Doctype) (n : Name) (name : Text) (units : List AnyUnit)
    → find (λ (x : Definition). bytes_eq (general_name d.syntax name) x.name) (attributes d n)
    ≡ option_and_then (slice_get (attributes d n)) (attribute_by d.syntax.general_fold (attributes d n) (Some name) units)
named-by-name d n name units =
    ap (λ (a : Name). find (λ (x : Definition). bytes_eq a x.name) (attributes d n)) (same-cased d.syntax.general_fold name)
    ∙ first-at (is_named d.syntax.general_fold name) (attributes d n)

-- a value alone: the name of the definition at the place finds that one
pub no-definition : {A : Type 0} (x : Definition) → None ≡ Some x → A
no-definition x h = absurd (never h)
  where
    never : None ≡ Some x → ⊥
    never h = cc

pub one-definition : (x y : Definition) → Some x ≡ Some y → x ≡ y
one-definition x y h = cc

apart-tail : (y : Definition) (xs : List Definition) → AreApart (y ∷ xs) → AreApart xs
apart-tail y xs a i j u v e f g = let s : suc i ≡ suc j = a (suc i) (suc j) u v e f g in omega (arith, s)

pub found-apart : (xs : List Definition) (i : ℕ) (x : Definition) → AreApart xs → slice_get xs i ≡ Some x → find (λ (y : Definition). bytes_eq x.name y.name) xs ≡ Some x
found-apart [] i x a h = no-definition x h
found-apart (y ∷ xs) zero x a h =
    let same : y ≡ x = one-definition y x h in
    ap (λ t. if t then Some y else find (λ (z : Definition). bytes_eq x.name z.name) xs) ((bytes_eq-Decides x.name y.name).1 (sym (ap (λ (z : Definition). z.name) same))) ∙ h
found-apart (y ∷ xs) (suc i) x a h = by (bytes_eq x.name y.name) refl (found-apart xs i x (apart-tail y xs a) h)
  where
    by : (t : Bool) → bytes_eq x.name y.name ≡ t → find (λ (z : Definition). bytes_eq x.name z.name) xs ≡ Some x
        → (if t then Some y else find (λ (z : Definition). bytes_eq x.name z.name) xs) ≡ Some x
    by true e later =
        let s : zero ≡ suc i = a zero (suc i) y x refl h (sym ((bytes_eq-Decides x.name y.name).0 e)) in
        absurd (omega (arith, s))
    by false e later = later

by-number : (d : Doctype) (n : Name) (o : Option Definition) → AreApart (attributes d n) → ((x : Definition) → o ≡ Some x → (i : ℕ) × (slice_get (attributes d n) i ≡ Some x))
    → definition_named d n (option_map (λ (x : Definition). x.name) o) ≡ o
by-number d n None a there = refl
by-number d n (Some x) a there = let at = there x refl in found-apart (attributes d n) at.0 x a at.1

at-place : (xs : List Definition) (o : Option ℕ) (x : Definition) → option_and_then (slice_get xs) o ≡ Some x → (i : ℕ) × (slice_get xs i ≡ Some x)
at-place xs None x h = no-definition x h
at-place xs (Some i) x h = (i, h)

pub named-is-numbered : NamedIsNumbered
named-is-numbered d n (Some name) units a = named-by-name d n name units
named-is-numbered d n None units a =
    let o = attribute_by d.syntax.general_fold (attributes d n) None units in
    by-number d n (option_and_then (slice_get (attributes d n)) o) a (λ x h. at-place (attributes d n) o x h)
