-- One more specification is filled in.
use Rattle.std.proofs.Common.{◌≡◌, ◌≢◌, ◌<◌, ◌==◌, ◌&&◌, ◌||◌, ◌⊎◌, inl, inr, ◌∷◌, ◌++◌, ℕ, Bool, true, false, List, [], Option, Some, None, Result, Ok, Err, refl, sym, ap, ◌∙◌, subst, arith, length, set, get_or, option_map, is_some, if◌then◌else◌}
use Rattle.std.specs.Prelude.{slice_get, find, option_and_then}
use Rattle.std.specs.List.{list_any}
use Rattle.std.specs.Option.{option_or}
use Rattle.std.proofs.lemmas.Bool.Decides.{eqb_tells}
use Rattle.std.proofs.lemmas.List.Folds.{list_any-append, find-append}
use Rattle.std.proofs.lemmas.Option.{slice_get_within, slice_get-get_or, slice_get-map}
use Rattle.sgml_text.specs.declared.unit.Unit.{Unit as AnyUnit}
use Rattle.sgml_attr.specs.declared.definition.Definition.{Definition}
use Rattle.sgml_attr.specs.declared.definition.Spec.{Spec}
use Rattle.sgml_attr.specs.declared.error.AttrError.{AttrError}
use Rattle.sgml_attr.specs.declared.value.AttrValue.{AttrValue}
use Rattle.sgml_attr.specs.Literal.{interpreted}
use Rattle.sgml_attr.specs.Matching.{attribute_of, attributes_of}
use Rattle.sgml_attr.specs.Values.{value}
use Rattle.sgml_attr.proofs.Getting.{get-set-here, get-set-other}
use Rattle.sgml_starts.specs.declared.filling.Filled.{Filled}
use Rattle.sgml_text.specs.Refusals.{first_row}
use Rattle.sgml_text.specs.declared.reason.Reason.TheVariants as reason
use Rattle.sgml_starts.specs.Rows.{same_number, names, any_names, rows, reason_of_value, reason_of_spec}
use Rattle.sgml_starts.specs.Currents.{is_current, is_current_at}
use Rattle.sgml_starts.specs.Values.{Start, current_in, spec_of, is_specified, result_of, is_conref, is_conref_at, any_conref}
use Rattle.sgml_starts.specs.Filled.{is_among, gives_current, AreFilled}

some-by : {X : Type 0} (x : X) (o : Option X) (rest t : Bool) → is_some o ≡ rest → is_some (if t then Some x else o) ≡ (t || rest)
some-by x o rest true e = refl
some-by x o rest false e = e

some-found : {X : Type 0} (p : X → Bool) (xs : List X) → is_some (find p xs) ≡ list_any p xs
some-found p [] = refl
some-found p (x ∷ xs) = some-by x (find p xs) (list_any p xs) (p x) (some-found p xs)

or-left : {X : Type 0} (a b : Option X) → is_some a ≡ true → option_or a b ≡ a
or-left (Some x) b e = refl
or-left None b e = absurd (cc e)

or-right : {X : Type 0} (a b : Option X) → is_some a ≡ false → option_or a b ≡ b
or-right None b e = refl
or-right (Some x) b e = absurd (cc e)

-- the first that is found stays the first
pub found-before : {X : Type 0} (p : X → Bool) (xs ys : List X) → list_any p xs ≡ true → find p (xs ++ ys) ≡ find p xs
found-before p xs ys e = find-append p xs ys ∙ or-left (find p xs) (find p ys) (some-found p xs ∙ e)

pub found-last : {X : Type 0} (p : X → Bool) (xs : List X) (y : X) → list_any p xs ≡ false → p y ≡ true → find p (xs ++ y ∷ []) ≡ Some y
found-last p xs y e h =
    find-append p xs (y ∷ []) ∙ or-right (find p xs) (find p (y ∷ [])) (some-found p xs ∙ e) ∙ ap (λ (t : Bool). if t then Some y else None) h

or-off : (a b : Bool) → b ≡ false → (a || (b || false)) ≡ a
or-off true b e = refl
or-off false b e = rw e refl

or-on : (a b : Bool) → b ≡ true → (a || (b || false)) ≡ true
or-on true b e = refl
or-on false b e = rw e refl

or-once : (a b : Bool) → (a || b) ≡ (a || (b || false))
or-once true b = refl
or-once false true = refl
or-once false false = refl

and-on : (a b : Bool) → a ≡ true → b ≡ true → (a && b) ≡ true
and-on a b e h = rw (e, h) refl

and-off : (a b : Bool) → a ≡ false → (a && b) ≡ false
and-off a b e = rw e refl

module _ (S : Start) (before : List Spec) (f g : Filled) (s : Spec) (i : ℕ) (x : Definition) (h : AreFilled S before f) (here : slice_get S.definitions i ≡ Some x)
    (named : attribute_of S.syntax S.definitions s ≡ Some i) where
  test-is : (k : ℕ) → names S.syntax S.definitions (Some k) s ≡ (k == i)
  test-is k = ap (same_number (Some k)) named

  more : (k : ℕ) → is_specified S (before ++ s ∷ []) k ≡ (is_specified S before k || (names S.syntax S.definitions (Some k) s || false))
  more k = list_any-append (names S.syntax S.definitions (Some k)) before (s ∷ [])

  same-else : (k : ℕ) → (k == i) ≡ false → is_specified S (before ++ s ∷ []) k ≡ is_specified S before k
  same-else k e = more k ∙ or-off (is_specified S before k) (names S.syntax S.definitions (Some k) s) (test-is k ∙ e)

  here-now : (k : ℕ) → (k == i) ≡ true → is_specified S (before ++ s ∷ []) k ≡ true
  here-now k e = more k ∙ or-on (is_specified S before k) (names S.syntax S.definitions (Some k) s) (test-is k ∙ e)

  definition-is : (k : ℕ) (y : Definition) → k ≡ i → slice_get S.definitions k ≡ Some y → y ≡ x
  definition-is k y e there = cc (sym there ∙ ap (slice_get S.definitions) e ∙ here)

  flag-by : (k : ℕ) (y : Definition) → slice_get S.definitions k ≡ Some y → (((k == i) ≡ true) × (k ≡ i)) ⊎ (((k == i) ≡ false) × (k ≢ i))
      → g.specified.items ≡ set f.specified.items i true → slice_get g.specified.items k ≡ Some (is_specified S (before ++ s ∷ []) k)
  flag-by k y there (inl e) set-is =
      let within : i < length f.specified.items = omega (arith, h.flags, slice_get_within S.definitions i x here) in
      ap (λ (l : List Bool). slice_get l k) set-is ∙ ap (slice_get (set f.specified.items i true)) e.1 ∙ get-set-here f.specified.items i true within
      ∙ ap (λ (t : Bool). Some t) (sym (here-now k e.0))
  flag-by k y there (inr e) set-is =
      ap (λ (l : List Bool). slice_get l k) set-is ∙ get-set-other f.specified.items i k true e.1 ∙ h.flagged k y there
      ∙ ap (λ (t : Bool). Some t) (sym (same-else k e.0))

  result-here : (v : AttrValue) → is_specified S before i ≡ false → (i == i) ≡ true → value S.syntax x S.tables None (Some (interpreted x.declared s.value)) ≡ Ok v
      → result_of S (before ++ s ∷ []) i x ≡ Ok v
  result-here v unspecified same is =
      ap (λ (o : Option Spec). value S.syntax x S.tables (current_in S.currents S.list i) (option_map (λ (z : Spec). interpreted x.declared z.value) o))
      (found-last (names S.syntax S.definitions (Some i)) before s unspecified (test-is i ∙ same))
      ∙ is

  result-else : (k : ℕ) (y : Definition) → is_specified S before k ≡ true → result_of S (before ++ s ∷ []) k y ≡ result_of S before k y
  result-else k y e =
      ap (λ (o : Option Spec). value S.syntax y S.tables (current_in S.currents S.list k) (option_map (λ (z : Spec). interpreted y.declared z.value) o))
      (found-before (names S.syntax S.definitions (Some k)) before (s ∷ []) e)

  value-by : (k : ℕ) (y : Definition) (v : AttrValue) → slice_get S.definitions k ≡ Some y → (((k == i) ≡ true) × (k ≡ i)) ⊎ (((k == i) ≡ false) × (k ≢ i))
      → g.values.items ≡ set f.values.items i v → is_specified S before i ≡ false → value S.syntax x S.tables None (Some (interpreted x.declared s.value)) ≡ Ok v
      → is_specified S (before ++ s ∷ []) k ≡ true → option_map (λ (w : AttrValue). Ok w) (slice_get g.values.items k) ≡ Some (result_of S (before ++ s ∷ []) k y)
  value-by k y v there (inl e) set-is unspecified is specified =
      let within : i < length f.values.items = omega (arith, h.as_many, slice_get_within S.definitions i x here) in
      let same : (i == i) ≡ true = subst (λ (n : ℕ). (n == i) ≡ true) e.1 e.0 in
      let got : slice_get g.values.items k ≡ Some v = ap (λ (l : List AttrValue). slice_get l k) set-is ∙ ap (slice_get (set f.values.items i v)) e.1 ∙ get-set-here f.values.items i v within in
      ap (option_map (λ (w : AttrValue). Ok w)) got
      ∙ ap (λ (r : Result AttrValue AttrError). Some r)
      (sym (result-here v unspecified same is) ∙ ap (result_of S (before ++ s ∷ []) i) (sym (definition-is k y e.1 there)) ∙ ap (λ (n : ℕ). result_of S (before ++ s ∷ []) n y) (sym e.1))
  value-by k y v there (inr e) set-is unspecified is specified =
      let was : is_specified S before k ≡ true = sym (same-else k e.0) ∙ specified in
      ap (λ (l : List AttrValue). option_map (λ (w : AttrValue). Ok w) (slice_get l k)) set-is
      ∙ ap (option_map (λ (w : AttrValue). Ok w)) (get-set-other f.values.items i k v e.1)
      ∙ h.valued k y there was
      ∙ ap (λ (r : Result AttrValue AttrError). Some r) (sym (result-else k y was))

  -- whether its default is #CURRENT
  among-more : (k : ℕ) → is_among k (f.current.items ++ i ∷ []) ≡ (is_among k f.current.items || ((i == k) || false))
  among-more k = list_any-append (λ n. n == k) f.current.items (i ∷ [])

  at-here : (k : ℕ) → k ≡ i → is_current_at (slice_get S.definitions k) ≡ is_current x.default
  at-here k e = ap (λ (n : ℕ). is_current_at (slice_get S.definitions n)) e ∙ ap is_current_at here

  current-by : (k : ℕ) (c : Bool) → is_current x.default ≡ c → (((k == i) ≡ true) × (k ≡ i)) ⊎ (((k == i) ≡ false) × (k ≢ i)) → (((i == k) ≡ true) × (i ≡ k)) ⊎ (((i == k) ≡ false) × (i ≢ k))
      → is_among k (if c then f.current.items ++ i ∷ [] else f.current.items) ≡ gives_current S (before ++ s ∷ []) k
  current-by k true d (inl e) (inl b) =
      among-more k ∙ or-on (is_among k f.current.items) (i == k) b.0
      ∙ sym (and-on (is_current_at (slice_get S.definitions k)) (is_specified S (before ++ s ∷ []) k) (at-here k e.1 ∙ d) (here-now k e.0))
  current-by k true d (inr e) (inr b) =
      among-more k ∙ or-off (is_among k f.current.items) (i == k) b.0 ∙ h.current k
      ∙ ap (λ (t : Bool). is_current_at (slice_get S.definitions k) && t) (sym (same-else k e.0))
  current-by k false d (inl e) b =
      h.current k ∙ and-off (is_current_at (slice_get S.definitions k)) (is_specified S before k) (at-here k e.1 ∙ d)
      ∙ sym (and-off (is_current_at (slice_get S.definitions k)) (is_specified S (before ++ s ∷ []) k) (at-here k e.1 ∙ d))
  current-by k false d (inr e) b = h.current k ∙ ap (λ (t : Bool). is_current_at (slice_get S.definitions k) && t) (sym (same-else k e.0))
  current-by k true d (inl e) (inr b) = absurd (b.1 (sym e.1))
  current-by k true d (inr e) (inl b) = absurd (e.1 (sym b.1))

  conref-is : g.conref ≡ (f.conref || is_conref x.default) → g.conref ≡ any_conref S (before ++ s ∷ [])
  conref-is e =
      e ∙ or-once f.conref (is_conref x.default)
      ∙ ap (λ (t : Bool). t || (is_conref x.default || false)) h.conref
      ∙ ap (λ (o : Option Definition). any_conref S before || (is_conref_at o || false)) (sym (ap (option_and_then (slice_get S.definitions)) named ∙ here))
      ∙ sym (list_any-append (λ (z : Spec). is_conref_at (option_and_then (slice_get S.definitions) (attribute_of S.syntax S.definitions z))) before (s ∷ []))

  pub add-filled : (v : AttrValue) → g.values.items ≡ set f.values.items i v → g.specified.items ≡ set f.specified.items i true
      → g.current.items ≡ (if is_current x.default then f.current.items ++ i ∷ [] else f.current.items) → g.conref ≡ (f.conref || is_conref x.default)
      → length g.values.items ≡ length f.values.items → length g.specified.items ≡ length f.specified.items
      → is_specified S before i ≡ false → value S.syntax x S.tables None (Some (interpreted x.declared s.value)) ≡ Ok v → AreFilled S (before ++ s ∷ []) g
  add-filled v values specified current conref many flags unspecified is = record {
    as_many = many ∙ h.as_many;
    flags = flags ∙ h.flags;
    flagged = λ k y there. flag-by k y there (eqb_tells k i) specified;
    valued = λ k y there sp. value-by k y v there (eqb_tells k i) values unspecified is sp;
    current = λ k. ap (is_among k) current ∙ current-by k (is_current x.default) refl (eqb_tells k i) (eqb_tells i k);
    conref = conref-is conref;
  }

-- WITHOUT A SPECIFICATION

not-found : {X : Type 0} (p : X → Bool) (xs : List X) → list_any p xs ≡ false → find p xs ≡ None
not-found p xs e = by (find p xs) (some-found p xs ∙ e)
  where
    by : {X : Type 0} (o : Option X) → is_some o ≡ false → o ≡ None
    by None e = refl
    by (Some x) e = absurd (cc e)

pub unspecified-is : (S : Start) (ss : List Spec) (i : ℕ) (x : Definition) → is_specified S ss i ≡ false
    → result_of S ss i x ≡ value S.syntax x S.tables (current_in S.currents S.list i) None
unspecified-is S ss i x e =
    ap (λ (o : Option Spec). value S.syntax x S.tables (current_in S.currents S.list i) (option_map (λ (z : Spec). interpreted x.declared z.value) o))
    (not-found (names S.syntax S.definitions (Some i)) ss e)

-- what stands at a place
pub definition-at : (xs : List Definition) (i : ℕ) (x d : Definition) → i < length xs → d ≡ get_or xs i d → slice_get xs i ≡ Some x → d ≡ x
definition-at xs i x d l is here = cc (sym here ∙ slice_get-get_or xs i d l ∙ ap (λ (y : Definition). Some y) (sym is))

-- WHAT IS JUDGED of a specification

pub at-number : (xs : List Definition) (i : ℕ) (d : Definition) → i < length xs → d ≡ get_or xs i d → slice_get xs i ≡ Some d
at-number xs i d l is = slice_get-get_or xs i d l ∙ ap (λ (y : Definition). Some y) (sym is)

flag-by-some : (S : Start) (before : List Spec) (f : Filled) (i : ℕ) (x : Definition) (t : Bool) → AreFilled S before f → slice_get S.definitions i ≡ Some x
    → slice_get f.specified.items i ≡ Some t → is_specified S before i ≡ t
flag-by-some S before f i x t h here e = cc (sym (h.flagged i x here) ∙ e)

pub flag-of : (S : Start) (before : List Spec) (f : Filled) (i : ℕ) (x : Definition) (t : Bool) → AreFilled S before f → slice_get S.definitions i ≡ Some x
    → t ≡ get_or f.specified.items i t → is_specified S before i ≡ t
flag-of S before f i x t h here is =
    let l : i < length f.specified.items = omega (arith, h.flags, slice_get_within S.definitions i x here) in
    flag-by-some S before f i x t h here (slice_get-get_or f.specified.items i t l ∙ ap (λ (b : Bool). Some b) (sym is))

pub reason-is : (S : Start) (before : List Spec) (s : Spec) (i : ℕ) (x : Definition) (twice : Bool) (units : List AnyUnit) → attribute_of S.syntax S.definitions s ≡ Some i
    → slice_get S.definitions i ≡ Some x → is_specified S before i ≡ twice → s.value ≡ units
    → reason_of_spec S.syntax S.tables S.definitions before s ≡ first_row (rows S.syntax x S.tables twice (interpreted x.declared units))
reason-is S before s i x twice units named here flag units-are =
    ap (λ (o : Option ℕ). reason_of_value S.syntax S.tables (any_names S.syntax S.definitions o before) (option_and_then (slice_get S.definitions) o) s.value) named
    ∙ ap (λ (o : Option Definition). reason_of_value S.syntax S.tables (is_specified S before i) o s.value) here
    ∙ ap (λ (t : Bool). first_row (rows S.syntax x S.tables t (interpreted x.declared s.value))) flag
    ∙ ap (λ (u : List AnyUnit). first_row (rows S.syntax x S.tables twice (interpreted x.declared u))) units-are

-- one that names nothing
pub unknown-is : (S : Start) (before : List Spec) (s : Spec) → attribute_of S.syntax S.definitions s ≡ None
    → reason_of_spec S.syntax S.tables S.definitions before s ≡ Some reason.UnknownAttribute
unknown-is S before s named =
    ap (λ (o : Option ℕ). reason_of_value S.syntax S.tables (any_names S.syntax S.definitions o before) (option_and_then (slice_get S.definitions) o) s.value) named

-- the attribute that a specification names, among those of all
pub attribute-at : (S : Start) (all : List Spec) (j : ℕ) (s : Spec) (o : Option ℕ) → slice_get all j ≡ Some s → slice_get (attributes_of S.syntax S.definitions all) j ≡ Some o
    → attribute_of S.syntax S.definitions s ≡ o
attribute-at S all j s o here there =
    cc (sym (ap (option_map (attribute_of S.syntax S.definitions)) here) ∙ sym (slice_get-map (attribute_of S.syntax S.definitions) all j) ∙ there)
