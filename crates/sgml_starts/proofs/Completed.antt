-- All specifications, and then the attributes without one.
use Rattle.std.proofs.Common.{◌≡◌, ◌≢◌, ◌<◌, ◌≤◌, ◌+◌, ◌==◌, ◌⊎◌, inl, inr, ◌∷◌, ◌++◌, ℕ, zero, suc, Bool, true, false, List, [], Option, Some, None, Result, Ok, Err, refl, sym, ap, ◌∙◌, subst, arith, length, set, get_or, take, drop, option_map, if◌then◌else◌}
use Rattle.std.specs.Prelude.{slice_get}
use Rattle.std.specs.Option.{option_or}
use Rattle.std.proofs.lemmas.Bool.Decides.{eqb_tells}
use Rattle.std.proofs.lemmas.List.{drop_more, take_more, drop_all}
use Rattle.std.proofs.lemmas.Option.{slice_get_within, slice_get-get_or}
use Rattle.sgml_text.specs.declared.reason.Reason.{Reason}
use Rattle.sgml_syntax.specs.declared.syntax.Syntax.{Syntax}
use Rattle.sgml_entity.specs.Entities.{Tables}
use Rattle.sgml_attr.specs.declared.definition.Definition.{Definition}
use Rattle.sgml_attr.specs.declared.definition.Spec.{Spec}
use Rattle.sgml_text.specs.declared.reason.Reason.TheVariants as reason
use Rattle.sgml_attr.specs.declared.error.AttrError.{AttrError}
use Rattle.sgml_attr.specs.declared.value.AttrValue.{AttrValue}
use Rattle.sgml_attr.specs.Matching.{attribute_by, attribute_of}
use Rattle.sgml_attr.proofs.Getting.{get-set-here, get-set-other}
use Rattle.sgml_starts.specs.declared.error.StartError.{StartError}
use Rattle.sgml_starts.specs.declared.error.StartError.TheVariants as error
use Rattle.sgml_starts.specs.declared.filling.Filled.{Filled}
use Rattle.sgml_starts.specs.Rows.{reason_of_spec, reason_of_specs}
use Rattle.sgml_starts.specs.Specified.{Specified}
use Rattle.sgml_starts.specs.Values.{Start, is_specified, result_of, reason_in, reason_of_default, reason_of_defaults, refused, unvalued, AreValues}
use Rattle.sgml_starts.specs.Filled.{AreFilled, AreFilledTo}
use Rattle.sgml_starts.specs.Numbers.{unnamed}
use Rattle.sgml_starts.specs.Starts.{IsUnvalued}
use Rattle.sgml_starts.proofs.Added.{unknown-is}

-- the first of several reasons is told
pub or-first : (a b : Option StartError) (e : StartError) → IsUnvalued a e → IsUnvalued (option_or a b) e
or-first (Some r) b e h = h
or-first None b error.Memory h = tt
or-first None b (error.Refused r) h = absurd (cc h)
or-first None b (error.Wanted n) h = absurd (cc h)

pub or-refused : (a b : Option Reason) (e : StartError) → IsUnvalued (refused a) e → IsUnvalued (refused (option_or a b)) e
or-refused (Some r) b e h = h
or-refused None b error.Memory h = tt
or-refused None b (error.Refused r) h = absurd (cc h)
or-refused None b (error.Wanted n) h = absurd (cc h)

pub tells-itself : (e : StartError) → IsUnvalued (Some e) e
tells-itself error.Memory = tt
tells-itself (error.Refused r) = refl
tells-itself (error.Wanted n) = refl

-- SPECIFICATIONS one after another

split : (specs : List Spec) (j : ℕ) (s : Spec) → j < length specs → s ≡ get_or specs j s → drop j specs ≡ s ∷ drop (j + 1) specs
split specs j s l is = drop_more specs j s l ∙ ap (λ (x : Spec). x ∷ drop (j + 1) specs) (sym is)

pub taken : (specs : List Spec) (j : ℕ) (s : Spec) → j < length specs → s ≡ get_or specs j s → take j specs ++ s ∷ [] ≡ take (j + 1) specs
taken specs j s l is = ap (λ (x : Spec). take j specs ++ x ∷ []) is ∙ sym (take_more specs j s l)

pub specs-step : (syntax : Syntax) (tables : Tables) (xs : List Definition) (specs : List Spec) (j : ℕ) (s : Spec) → j < length specs → s ≡ get_or specs j s
    → reason_of_spec syntax tables xs (take j specs) s ≡ None
    → reason_of_specs syntax tables xs (take j specs) (drop j specs) ≡ reason_of_specs syntax tables xs (take (j + 1) specs) (drop (j + 1) specs)
specs-step syntax tables xs specs j s l is none =
    ap (reason_of_specs syntax tables xs (take j specs)) (split specs j s l is)
    ∙ ap (λ (o : Option Reason). option_or o (reason_of_specs syntax tables xs (take j specs ++ s ∷ []) (drop (j + 1) specs))) none
    ∙ ap (λ (b : List Spec). reason_of_specs syntax tables xs b (drop (j + 1) specs)) (taken specs j s l is)

pub specs-stop : (syntax : Syntax) (tables : Tables) (xs : List Definition) (specs : List Spec) (j : ℕ) (s : Spec) (e : StartError) → j < length specs → s ≡ get_or specs j s
    → IsUnvalued (refused (reason_of_spec syntax tables xs (take j specs) s)) e
    → IsUnvalued (refused (reason_of_specs syntax tables xs (take j specs) (drop j specs))) e
specs-stop syntax tables xs specs j s e l is h =
    subst (λ (ss : List Spec). IsUnvalued (refused (reason_of_specs syntax tables xs (take j specs) ss)) e) (sym (split specs j s l is))
    (or-refused (reason_of_spec syntax tables xs (take j specs) s) (reason_of_specs syntax tables xs (take j specs ++ s ∷ []) (drop (j + 1) specs)) e h)

pub specs-end : (syntax : Syntax) (tables : Tables) (xs : List Definition) (specs : List Spec) (j : ℕ) → length specs ≤ j
    → reason_of_specs syntax tables xs (take j specs) (drop j specs) ≡ None
specs-end syntax tables xs specs j l = ap (reason_of_specs syntax tables xs (take j specs)) (drop_all j specs l)

-- ATTRIBUTES WITHOUT A SPECIFICATION

pub filled-to-first : (S : Start) (ss : List Spec) (f : Filled) → AreFilled S ss f → AreFilledTo S ss 0 f
filled-to-first S ss f h = record { as_many = h.as_many; flags = h.flags; flagged = h.flagged; valued = λ i x here d. by i x here d }
  where
    by : (i : ℕ) (x : Definition) → slice_get S.definitions i ≡ Some x → (i < 0) ⊎ (is_specified S ss i ≡ true)
        → option_map (λ (v : AttrValue). Ok v) (slice_get f.values.items i) ≡ Some (result_of S ss i x)
    by i x here (inl l) = absurd (omega (arith, l))
    by i x here (inr e) = h.valued i x here e

pub all-filled : (S : Start) (ss : List Spec) (n : ℕ) (f : Filled) → length S.definitions ≤ n → AreFilledTo S ss n f → AreValues S ss f.values.items
all-filled S ss n f l h = record {
  as_many = h.as_many;
  each = λ i x here. h.valued i x here (inl (omega (arith, l, slice_get_within S.definitions i x here)));
}

defaults-split : (xs : List Definition) (i : ℕ) (x : Definition) → slice_get xs i ≡ Some x → drop i xs ≡ x ∷ drop (i + 1) xs
defaults-split xs i x here =
    let l : i < length xs = slice_get_within xs i x here in
    let is : get_or xs i x ≡ x = cc (sym (slice_get-get_or xs i x l) ∙ here) in
    drop_more xs i x l ∙ ap (λ (y : Definition). y ∷ drop (i + 1) xs) is

pub defaults-step : (S : Start) (ss : List Spec) (i : ℕ) (x : Definition) → slice_get S.definitions i ≡ Some x → reason_of_default S ss i x ≡ None
    → reason_of_defaults S ss i (drop i S.definitions) ≡ reason_of_defaults S ss (i + 1) (drop (i + 1) S.definitions)
defaults-step S ss i x here none =
    ap (reason_of_defaults S ss i) (defaults-split S.definitions i x here)
    ∙ ap (λ (o : Option Reason). option_or o (reason_of_defaults S ss (i + 1) (drop (i + 1) S.definitions))) none

pub defaults-stop : (S : Start) (ss : List Spec) (i : ℕ) (x : Definition) (e : StartError) → slice_get S.definitions i ≡ Some x
    → IsUnvalued (refused (reason_of_default S ss i x)) e → IsUnvalued (refused (reason_of_defaults S ss i (drop i S.definitions))) e
defaults-stop S ss i x e here h =
    subst (λ (xs : List Definition). IsUnvalued (refused (reason_of_defaults S ss i xs)) e) (sym (defaults-split S.definitions i x here))
    (or-refused (reason_of_default S ss i x) (reason_of_defaults S ss (i + 1) (drop (i + 1) S.definitions)) e h)

pub defaults-end : (S : Start) (ss : List Spec) (i : ℕ) → length S.definitions ≤ i → reason_of_defaults S ss i (drop i S.definitions) ≡ None
defaults-end S ss i l = ap (reason_of_defaults S ss i) (drop_all i S.definitions l)

module _ (S : Start) (ss : List Spec) (n : ℕ) (f g : Filled) (x : Definition) (here : slice_get S.definitions n ≡ Some x) (h : AreFilledTo S ss n f) where
  pub specified-none : is_specified S ss n ≡ true → reason_of_default S ss n x ≡ None
  specified-none e = ap (λ (t : Bool). if t then None else reason_in (result_of S ss n x)) e

  pub unspecified-reason : is_specified S ss n ≡ false → reason_of_default S ss n x ≡ reason_in (result_of S ss n x)
  unspecified-reason e = ap (λ (t : Bool). if t then None else reason_in (result_of S ss n x)) e

  flag-is : (t : Bool) → slice_get f.specified.items n ≡ Some t → is_specified S ss n ≡ t
  flag-is t e = cc (sym (h.flagged n x here) ∙ e)

  pub flag-at : (t : Bool) → t ≡ get_or f.specified.items n t → is_specified S ss n ≡ t
  flag-at t is =
      let l : n < length f.specified.items = omega (arith, h.flags, slice_get_within S.definitions n x here) in
      flag-is t (slice_get-get_or f.specified.items n t l ∙ ap (λ (b : Bool). Some b) (sym is))

  skip-by : is_specified S ss n ≡ true → (i : ℕ) (y : Definition) → slice_get S.definitions i ≡ Some y → (i < n + 1) ⊎ (is_specified S ss i ≡ true)
      → (((i == n) ≡ true) × (i ≡ n)) ⊎ (((i == n) ≡ false) × (i ≢ n))
      → option_map (λ (v : AttrValue). Ok v) (slice_get f.values.items i) ≡ Some (result_of S ss i y)
  skip-by e i y there d (inl same) = h.valued i y there (inr (ap (is_specified S ss) same.1 ∙ e))
  skip-by e i y there (inl l) (inr other) = h.valued i y there (inl (below i l other.1))
    where
      below : (i : ℕ) → i < n + 1 → i ≢ n → i < n
      below i l d = omega (arith, l, d)
  skip-by e i y there (inr sp) (inr other) = h.valued i y there (inr sp)

  -- one that is specified is passed over
  pub skip : is_specified S ss n ≡ true → AreFilledTo S ss (n + 1) f
  skip e = record { as_many = h.as_many; flags = h.flags; flagged = h.flagged; valued = λ i y there d. skip-by e i y there d (eqb_tells i n) }

  set-by : (v : AttrValue) → g.values.items ≡ set f.values.items n v → result_of S ss n x ≡ Ok v → (i : ℕ) (y : Definition) → slice_get S.definitions i ≡ Some y
      → (i < n + 1) ⊎ (is_specified S ss i ≡ true) → (((i == n) ≡ true) × (i ≡ n)) ⊎ (((i == n) ≡ false) × (i ≢ n))
      → option_map (λ (v : AttrValue). Ok v) (slice_get g.values.items i) ≡ Some (result_of S ss i y)
  set-by v set-is result i y there d (inl same) =
      let l : n < length f.values.items = omega (arith, h.as_many, slice_get_within S.definitions n x here) in
      let got : slice_get g.values.items i ≡ Some v = ap (λ (vs : List AttrValue). slice_get vs i) set-is ∙ ap (slice_get (set f.values.items n v)) same.1 ∙ get-set-here f.values.items n v l in
      let is : y ≡ x = cc (sym there ∙ ap (slice_get S.definitions) same.1 ∙ here) in
      ap (option_map (λ (w : AttrValue). Ok w)) got
      ∙ ap (λ (r : Result AttrValue AttrError). Some r) (sym result ∙ ap (result_of S ss n) (sym is) ∙ ap (λ (k : ℕ). result_of S ss k y) (sym same.1))
  set-by v set-is result i y there (inl l) (inr other) =
      let below : i < n = omega (arith, l, other.1) in
      ap (λ (vs : List AttrValue). option_map (λ (w : AttrValue). Ok w) (slice_get vs i)) set-is
      ∙ ap (option_map (λ (w : AttrValue). Ok w)) (get-set-other f.values.items n i v other.1)
      ∙ h.valued i y there (inl below)
  set-by v set-is result i y there (inr sp) (inr other) =
      ap (λ (vs : List AttrValue). option_map (λ (w : AttrValue). Ok w) (slice_get vs i)) set-is
      ∙ ap (option_map (λ (w : AttrValue). Ok w)) (get-set-other f.values.items n i v other.1)
      ∙ h.valued i y there (inr sp)

  -- one that isn't specified has its default
  pub fill-in : (v : AttrValue) → g.values.items ≡ set f.values.items n v → g.specified.items ≡ f.specified.items → length g.values.items ≡ length f.values.items
      → result_of S ss n x ≡ Ok v → AreFilledTo S ss (n + 1) g
  fill-in v set-is flags many result = record {
    as_many = many ∙ h.as_many;
    flags = ap (λ (l : List Bool). length l) flags ∙ h.flags;
    flagged = λ i y there. ap (λ (l : List Bool). slice_get l i) flags ∙ h.flagged i y there;
    valued = λ i y there d. set-by v set-is result i y there d (eqb_tells i n);
  }

-- THE FIRST REASON of all
pub unvalued-specs : (S : Start) (all : Specified) (e : StartError) → IsUnvalued (refused (reason_of_specs S.syntax S.tables S.definitions [] all.specs)) e → IsUnvalued (unvalued S all) e
unvalued-specs S all e h =
    or-first (refused (reason_of_specs S.syntax S.tables S.definitions [] all.specs)) (option_or all.stop (refused (reason_of_defaults S all.specs 0 S.definitions))) e h

pub unvalued-rest : (S : Start) (all : Specified) → reason_of_specs S.syntax S.tables S.definitions [] all.specs ≡ None
    → unvalued S all ≡ option_or all.stop (refused (reason_of_defaults S all.specs 0 S.definitions))
unvalued-rest S all none = ap (λ (o : Option Reason). option_or (refused o) (option_or all.stop (refused (reason_of_defaults S all.specs 0 S.definitions)))) none

pub unvalued-stop : (S : Start) (all : Specified) (e : StartError) → reason_of_specs S.syntax S.tables S.definitions [] all.specs ≡ None → all.stop ≡ Some e → IsUnvalued (unvalued S all) e
unvalued-stop S all e none stop =
    subst (λ (o : Option StartError). IsUnvalued o e)
    (sym (unvalued-rest S all none ∙ ap (λ (o : Option StartError). option_or o (refused (reason_of_defaults S all.specs 0 S.definitions))) stop)) (tells-itself e)

pub unvalued-defaults : (S : Start) (all : Specified) → reason_of_specs S.syntax S.tables S.definitions [] all.specs ≡ None → all.stop ≡ None
    → unvalued S all ≡ refused (reason_of_defaults S all.specs 0 S.definitions)
unvalued-defaults S all none stop = unvalued-rest S all none ∙ ap (λ (o : Option StartError). option_or o (refused (reason_of_defaults S all.specs 0 S.definitions))) stop

-- AN ELEMENT TYPE WITHOUT ATTRIBUTES
none-named : (syntax : Syntax) (s : Spec) → attribute_of syntax [] s ≡ None
none-named syntax s = by s.name
  where
    by : (name : Option (List ℕ)) → attribute_by syntax.general_fold [] name s.value ≡ None
    by None = refl
    by (Some n) = refl

no-attribute : (S : Start) (s : Spec) (ss : List Spec) (stop : Option StartError) (spent : ℕ) → S.definitions ≡ []
    → IsUnvalued (unvalued S (record { specs = s ∷ ss; stop = stop; spent = spent })) (error.Refused reason.UnknownAttribute)
no-attribute S s ss stop spent none =
    unvalued-specs S (record { specs = s ∷ ss; stop = stop; spent = spent }) (error.Refused reason.UnknownAttribute)
    (subst (λ (o : Option Reason). IsUnvalued (refused (option_or o (reason_of_specs S.syntax S.tables S.definitions ([] ++ s ∷ []) ss))) (error.Refused reason.UnknownAttribute))
    (sym (unknown-is S [] s (ap (λ (xs : List Definition). attribute_of S.syntax xs s) none ∙ none-named S.syntax s))) refl)

pub no-attributes : (S : Start) (specs : List Spec) (stop : Option StartError) (spent : ℕ) → S.definitions ≡ [] → 0 < length specs
    → IsUnvalued (unvalued S (record { specs = specs; stop = stop; spent = spent })) (error.Refused reason.UnknownAttribute)
no-attributes S [] stop spent none some = absurd (omega (arith, some))
no-attributes S (s ∷ ss) stop spent none some = no-attribute S s ss stop spent none

-- what stands at a number
pub some-at : {X : Type 0} (xs : List X) (i : ℕ) → i < length xs → (x : X) × (slice_get xs i ≡ Some x)
some-at [] i l = absurd (omega (arith, l))
some-at (x ∷ xs) zero l = (x, refl)
some-at (x ∷ xs) (suc i) l = some-at xs i (omega (arith, l))

pub spec-at : (xs : List Spec) (j : ℕ) (s : Spec) → j < length xs → s ≡ get_or xs j s → slice_get xs j ≡ Some s
spec-at xs j s l is = slice_get-get_or xs j s l ∙ ap (λ (y : Spec). Some y) (sym is)

-- one that has no number
unnamed-by : (k j : ℕ) (r : Option Reason) → (Some k ≡ Some j → r ≡ Some reason.UnknownAttribute) → (((k == j) ≡ true) × (k ≡ j)) ⊎ (((k == j) ≡ false) × (k ≢ j))
    → IsUnvalued (refused r) (if k == j then error.Refused reason.UnknownAttribute else error.Memory)
unnamed-by k j r h (inl e) =
    subst (λ (t : Bool). IsUnvalued (refused r) (if t then error.Refused reason.UnknownAttribute else error.Memory)) (sym e.0) (ap refused (h (ap (λ (n : ℕ). Some n) e.1)))
unnamed-by k j r h (inr e) = subst (λ (t : Bool). IsUnvalued (refused r) (if t then error.Refused reason.UnknownAttribute else error.Memory)) (sym e.0) tt

pub unnamed-is : (u : Option ℕ) (j : ℕ) (r : Option Reason) → (u ≡ Some j → r ≡ Some reason.UnknownAttribute) → IsUnvalued (refused r) (unnamed u j)
unnamed-is None j r h = tt
unnamed-is (Some k) j r h = unnamed-by k j r h (eqb_tells k j)
