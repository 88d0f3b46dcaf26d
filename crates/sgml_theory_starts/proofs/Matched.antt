-- The attribute that a specification names, by its number and by its name.
use Rattle.std.proofs.Common.{◌≡◌, ℕ, ◌==◌, Bool, true, false, ◌||◌, List, [], ◌∷◌, ◌++◌, map, Option, Some, None, option_and_then, find, bytes_eq, refl, sym, ap, ◌∙◌, if◌then◌else◌, Ok, Result, arith}
use Rattle.std.specs.List.{list_any, slice_get}
use Rattle.std.proofs.lemmas.Bool.{eqb-true}
use Rattle.std.proofs.lemmas.Bool.Decides.{nat_tests}
use Rattle.std.proofs.lemmas.List.Folds.{list_any-append}
use Rattle.std.proofs.lemmas.Slice.Eq.{bytes_eq-Decides}
use Rattle.sgml_starts.specs.text.declared.reason.Reason.{Reason}
use Rattle.sgml_starts.specs.text.declared.unit.Unit.{Unit as AnyUnit}
use Rattle.sgml_starts.specs.attr.declared.definition.Definition.{Definition}
use Rattle.sgml_starts.specs.attr.declared.definition.Spec.{Spec}
use Rattle.sgml_starts.specs.attr.Matching.{attribute_of}
use Rattle.sgml_starts.specs.dtd.Doctypes.{Doctype}
use Rattle.sgml_starts.specs.Rows.{names, any_names, same_number}
use Rattle.sgml_declared.specs.theory_reading.Names.{Name}
use Rattle.sgml_declared.specs.theory_reading.Types.{attributes}
use Rattle.sgml_declared.specs.theory_reading.Pieces.{Specification}
use Rattle.sgml_declared.specs.theory_reading.Currents.{is_of}
use Rattle.sgml_declared.specs.theory_spelling.Attributes.{definition_named}
use Rattle.sgml_declared.specs.theory_spelling.Named.{AreApart}
use Rattle.sgml_declared.proofs.theory_spelling.Named.{named-is-numbered, found-apart, no-definition, one-definition}
use Rattle.sgml_theory_starts.specs.Starts.{by_name}

-- what is found passes
pub found-passes : (p : Definition → Bool) (xs : List Definition) (x : Definition) → find p xs ≡ Some x → p x ≡ true
found-passes p [] x h = no-definition x h
found-passes p (y ∷ ys) x h = by (p y) refl (λ e. found-passes p ys x e) h
  where
    by : (t : Bool) → p y ≡ t → (find p ys ≡ Some x → p x ≡ true) → (if t then Some y else find p ys) ≡ Some x → p x ≡ true
    by true e later h = ap p (sym (one-definition y x h)) ∙ e
    by false e later h = later h

pub same-name : (a b : Name) → bytes_eq a b ≡ true → a ≡ b
same-name a b h = (bytes_eq-Decides a b).0 h

name-is : (a b : Name) → a ≡ b → bytes_eq a b ≡ true
name-is a b h = (bytes_eq-Decides a b).1 h

same-place : (i : ℕ) → (i == i) ≡ true
same-place i = grind (arith, nat_tests)

-- a name and a number find one definition: the name is that of a definition exactly where the number is
module _ (xs : List Definition) (apart : AreApart xs) (i : ℕ) (x : Definition) (here : slice_get xs i ≡ Some x) where
  by-name-and-number : (g : Name) (j : ℕ) (t u : Bool) → find (λ (y : Definition). bytes_eq g y.name) xs ≡ slice_get xs j → bytes_eq x.name g ≡ t → (i == j) ≡ u → t ≡ u
  by-name-and-number g j true true h a b = refl
  by-name-and-number g j false false h a b = refl
  by-name-and-number g j true false h a b =
      let g-is : x.name ≡ g = same-name x.name g a in
      let found : find (λ (y : Definition). bytes_eq g y.name) xs ≡ Some x = ap (λ (v : Name). find (λ (y : Definition). bytes_eq v y.name) xs) (sym g-is) ∙ found-apart xs i x apart here in
      let j-is : i ≡ j = apart i j x x here (sym h ∙ found) refl in
      let yes : (i == j) ≡ true = ap (λ v. i == v) (sym j-is) ∙ same-place i in
      sym yes ∙ b
  by-name-and-number g j false true h a b =
      let j-is : i ≡ j = eqb-true i j b in
      let found : find (λ (y : Definition). bytes_eq g y.name) xs ≡ Some x = h ∙ ap (slice_get xs) (sym j-is) ∙ here in
      let passes : bytes_eq g x.name ≡ true = found-passes (λ (y : Definition). bytes_eq g y.name) xs x found in
      let yes : bytes_eq x.name g ≡ true = name-is x.name g (sym (same-name g x.name passes)) in
      sym a ∙ yes

  by-name-alone : (g : Name) (t : Bool) → find (λ (y : Definition). bytes_eq g y.name) xs ≡ None → bytes_eq x.name g ≡ t → t ≡ false
  by-name-alone g false h a = refl
  by-name-alone g true h a =
      let g-is : x.name ≡ g = same-name x.name g a in
      let found : find (λ (y : Definition). bytes_eq g y.name) xs ≡ Some x = ap (λ (v : Name). find (λ (y : Definition). bytes_eq v y.name) xs) (sym g-is) ∙ found-apart xs i x apart here in
      no-definition x (sym h ∙ found)

  by-number-alone : (j : ℕ) (u : Bool) → None ≡ slice_get xs j → (i == j) ≡ u → false ≡ u
  by-number-alone j false h b = refl
  by-number-alone j true h b =
      let j-is : i ≡ j = eqb-true i j b in
      no-definition x (h ∙ ap (slice_get xs) (sym j-is) ∙ here)

-- the specification is of the attribute exactly where it names the number
abbrev pub there : Doctype → Name → Option ℕ → Option Definition
there d n o = option_and_then (slice_get (attributes d n)) o

of-number : (d : Doctype) (n : Name) (a : Option Name) (o : Option ℕ) (w : Result (List AnyUnit) Reason) (i : ℕ) (x : Definition)
    → AreApart (attributes d n) → slice_get (attributes d n) i ≡ Some x → definition_named d n a ≡ there d n o
    → is_of x.name (record { attribute = a; written = w }) ≡ same_number (Some i) o
of-number d n None None w i x apart here h = refl
of-number d n None (Some j) w i x apart here h = by-number-alone (attributes d n) apart i x here j (i == j) h refl
of-number d n (Some g) None w i x apart here h = by-name-alone (attributes d n) apart i x here g (bytes_eq x.name g) h refl
of-number d n (Some g) (Some j) w i x apart here h = by-name-and-number (attributes d n) apart i x here g j (bytes_eq x.name g) (i == j) h refl refl

pub names-one : (d : Doctype) (n : Name) (s : Spec) (i : ℕ) (x : Definition) → AreApart (attributes d n) → slice_get (attributes d n) i ≡ Some x
    → is_of x.name (by_name d n s) ≡ names d.syntax (attributes d n) (Some i) s
names-one d n s i x apart here =
    of-number d n (by_name d n s).attribute (attribute_of d.syntax (attributes d n) s) (Ok s.value) i x apart here (named-is-numbered d n s.name s.value apart)

-- and so of several
pub any-names-one : (d : Doctype) (n : Name) (ss : List Spec) (i : ℕ) (x : Definition) → AreApart (attributes d n) → slice_get (attributes d n) i ≡ Some x
    → list_any (is_of x.name) (map (by_name d n) ss) ≡ any_names d.syntax (attributes d n) (Some i) ss
any-names-one d n [] i x apart here = refl
any-names-one d n (s ∷ ss) i x apart here =
    ap (λ t. t || list_any (is_of x.name) (map (by_name d n) ss)) (names-one d n s i x apart here)
    ∙ ap (λ t. names d.syntax (attributes d n) (Some i) s || t) (any-names-one d n ss i x apart here)

-- those before, in either order
abbrev pub AreAlike : Doctype → Name → List Spec → List Specification → Type 0
AreAlike d n before named =
    (i : ℕ) (x : Definition) → slice_get (attributes d n) i ≡ Some x → list_any (is_of x.name) named ≡ any_names d.syntax (attributes d n) (Some i) before

turned : (a b : Bool) → (a || b) ≡ (b || (a || false))
turned true true = refl
turned true false = refl
turned false true = refl
turned false false = refl

pub alike-more : (d : Doctype) (n : Name) (before : List Spec) (named : List Specification) (s : Spec) → AreApart (attributes d n)
    → AreAlike d n before named → AreAlike d n (before ++ s ∷ []) (by_name d n s ∷ named)
alike-more d n before named s apart alike i x here =
    ap (λ t. t || list_any (is_of x.name) named) (names-one d n s i x apart here)
    ∙ ap (λ t. names d.syntax (attributes d n) (Some i) s || t) (alike i x here)
    ∙ turned (names d.syntax (attributes d n) (Some i) s) (any_names d.syntax (attributes d n) (Some i) before)
    ∙ sym (list_any-append (names d.syntax (attributes d n) (Some i)) before (s ∷ []))
