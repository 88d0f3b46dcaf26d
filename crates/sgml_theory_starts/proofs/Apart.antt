-- The attributes of a list have different names.
use Rattle.std.proofs.Common.{◌≡◌, ◌<◌, ◌≤◌, ◌||◌, ◌∷◌, ℕ, zero, suc, Bool, true, false, List, [], Option, Some, None, option_map, refl, sym, ap, ◌∙◌, arith, rules, tests, nat_lt, map, drop, if◌then◌else◌}
use Rattle.std.specs.List.{list_any, slice_get}
use Rattle.std.proofs.lemmas.List.Folds.{list_any-append}
use Rattle.std.proofs.lemmas.Option.{slice_get-map}
use Rattle.sgml_starts.specs.text.declared.reason.Reason.{Reason}
use Rattle.sgml_starts.specs.text.declared.reason.Reason.TheVariants.{NameLength, LiteralLimit, ListTwice, AttributeTwice}
use Rattle.sgml_starts.specs.text.Refusals.{first_row}
use Rattle.sgml_starts.specs.syntax.declared.syntax.Syntax.{Syntax}
use Rattle.sgml_starts.specs.names.Lists.{repeats}
use Rattle.sgml_starts.proofs.names.Standing.{twice-repeats}
use Rattle.sgml_starts.specs.attr.declared.definition.Definition.{Definition}
use Rattle.sgml_declared.specs.decl_forms.declared.declaration.Declaration.TheVariants as form
use Rattle.sgml_starts.specs.dtd_attlists.declared.list.AttributeList.{AttributeList}
use Rattle.sgml_starts.specs.dtd_attlists.Interpreted.{list_in}
use Rattle.sgml_starts.specs.dtd_attlists.Rows.{passes_namelen, passes_litlen, lists_twice, names_twice, rows, reason}
use Rattle.sgml_starts.specs.dtd_attlists.Tables.{list_of, definitions_in}
use Rattle.sgml_starts.specs.dtd.Doctypes.{definitions_at}
use Rattle.sgml_declared.specs.theory_reading.Types.{attributes}
use Rattle.sgml_declared.specs.theory_spelling.Named.{AreApart}
use Rattle.sgml_theory_starts.specs.Apart.{NothingIsApart, DeclaredIsApart, AttributesAreApart}

-- ONE LIST
less : (i j : ℕ) → nat_lt i j ≡ true → i < j
less i j e = search (rules, tests)

past : (i j : ℕ) → nat_lt i j ≡ false → j ≤ i
past i j e = search (rules, tests)

abbrev names : List Definition → List (List ℕ)
names xs = map (λ (x : Definition). x.name) xs

name-at : (xs : List Definition) (i : ℕ) (x : Definition) → slice_get xs i ≡ Some x → slice_get (names xs) i ≡ Some x.name
name-at xs i x h = slice_get-map (λ (y : Definition). y.name) xs i ∙ ap (option_map (λ (y : Definition). y.name)) h

not-before : (xs : List Definition) (i j : ℕ) (x y : Definition) → repeats [] (names xs) ≡ false → i < j
    → slice_get xs i ≡ Some x → slice_get xs j ≡ Some y → x.name ≡ y.name → ⊥
not-before xs i j x y once before at-i at-j same = never (sym once ∙ twice-repeats (names xs) (record {
  name = x.name;
  first = i;
  second = j;
  before = before;
  here = name-at xs i x at-i;
  again = name-at xs j y at-j ∙ ap Some (sym same);
}))
  where
    never : false ≡ true → ⊥
    never e = cc e

list-apart : (xs : List Definition) → repeats [] (names xs) ≡ false → AreApart xs
list-apart xs once i j x y at-i at-j same = by (nat_lt i j) (nat_lt j i) refl refl
  where
    by : (a b : Bool) → nat_lt i j ≡ a → nat_lt j i ≡ b → i ≡ j
    by true b e f = absurd (not-before xs i j x y once (less i j e) at-i at-j same)
    by false true e f = absurd (not-before xs j i y x once (less j i f) at-j at-i (sym same))
    by false false e f =
        let low : j ≤ i = past i j e in
        let high : i ≤ j = past j i f in
        omega (arith, low, high)

-- ALL LISTS
neither : (a b : Bool) → (a || b) ≡ false → b ≡ false
neither true b e = absurd (cc e)
neither false b e = e

first : (a b : Bool) → (a || b) ≡ false → a ≡ false
first true b e = e
first false b e = refl

one-list : (l m : AttributeList) → Some l ≡ Some m → l ≡ m
one-list l m e = cc e

in-lists : (lists : List AttributeList) (i : ℕ) (l : AttributeList) → list_any names_twice lists ≡ false → slice_get lists i ≡ Some l → names_twice l ≡ false
in-lists [] i l h at = absurd (never at)
  where
    never : None ≡ Some l → ⊥
    never e = cc e
in-lists (m ∷ lists) zero l h at = ap names_twice (sym (one-list m l at)) ∙ first (names_twice m) (list_any names_twice lists) h
in-lists (m ∷ lists) (suc i) l h at = in-lists lists i l (neither (names_twice m) (list_any names_twice lists) h) at

no-two : AreApart []
no-two i j x y at-i at-j same = absurd (never at-i)
  where
    never : None ≡ Some x → ⊥
    never e = cc e

of-list : (lists : List AttributeList) (n : ℕ) (o : Option AttributeList) → list_any names_twice lists ≡ false → slice_get lists n ≡ o → AreApart (definitions_in o)
of-list lists n None h at = no-two
of-list lists n (Some l) h at = list-apart l.definitions (in-lists lists n l h at)

of-type : (lists : List AttributeList) (o : Option ℕ) → list_any names_twice lists ≡ false → AreApart (definitions_at lists o)
of-type lists None h = no-two
of-type lists (Some n) h = of-list lists n (slice_get lists n) h refl

pub attributes-are-apart : AttributesAreApart
unfolding attributes
attributes-are-apart d n h = of-type d.lists (list_of d.lists n) h

-- A DECLARATION
fourth : (a b c e : Bool) (x y z u : Reason) (rest : Option Reason) → (if a then Some x else if b then Some y else if c then Some z else if e then Some u else rest) ≡ None → e ≡ false
fourth true b c e x y z u rest h = absurd (cc h)
fourth false true c e x y z u rest h = absurd (cc h)
fourth false false true e x y z u rest h = absurd (cc h)
fourth false false false true x y z u rest h = absurd (cc h)
fourth false false false false x y z u rest h = refl

new-apart : (syntax : Syntax) (lists : List AttributeList) (l : AttributeList) → reason syntax lists l ≡ None → names_twice l ≡ false
new-apart syntax lists l h =
    fourth (passes_namelen syntax l) (passes_litlen syntax l) (lists_twice lists l) (names_twice l) NameLength LiteralLimit ListTwice AttributeTwice
    (first_row (drop 4 (rows syntax lists l))) h

both : (a b : Bool) → a ≡ false → b ≡ false → (a || (b || false)) ≡ false
both a b e f = ap (λ t. t || (b || false)) e ∙ ap (λ t. t || false) f

pub nothing-is-apart : NothingIsApart
nothing-is-apart syntax = refl

pub declared-is-apart : DeclaredIsApart
declared-is-apart base lexemes d (form.Attlist x) h none =
    list_any-append names_twice d.lists (list_in d.syntax x ∷ [])
    ∙ both (list_any names_twice d.lists) (names_twice (list_in d.syntax x)) h (new-apart d.syntax d.lists (list_in d.syntax x) none)
declared-is-apart base lexemes d (form.Element x) h none = h
declared-is-apart base lexemes d (form.Entity x) h none = h
declared-is-apart base lexemes d (form.Notation x) h none = h
declared-is-apart base lexemes d (form.Shortref x) h none = h
declared-is-apart base lexemes d (form.Usemap x) h none = h
declared-is-apart base lexemes d (form.Doctype x) h none = h
