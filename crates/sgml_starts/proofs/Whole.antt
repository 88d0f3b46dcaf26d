-- A start as a whole.
use Rattle.std.proofs.Common.{◌≡◌, ◌≢◌, ◌<◌, ◌+◌, ◌&&◌, ◌||◌, ◌==◌, eq-eqb, slice_index_or, ◌⊎◌, inl, inr, ◌∷◌, ℕ, zero, suc, Bool, true, false, List, [], Option, Some, None, Result, Ok, Err, refl, sym, ap, ◌∙◌, subst, arith, length, option_map, if◌then◌else◌}
use Rattle.std.specs.Prelude.{slice_get, IsSomeAnd, IfSome, IfErr}
use Rattle.std.specs.Option.{option_or}
use Rattle.std.proofs.lemmas.Option.{slice_get_within}
use Rattle.sgml_syntax.specs.declared.syntax.Syntax.{Syntax}
use Rattle.sgml_entity.specs.Entities.{Tables}
use Rattle.sgml_attr.specs.declared.definition.Definition.{Definition}
use Rattle.sgml_attr.specs.declared.definition.Spec.{Spec}
use Rattle.sgml_attr.specs.declared.value.AttrValue.{AttrValue}
use Rattle.sgml_attr.specs.Currents.{current_at}
use Rattle.sgml_dtd.specs.dtd_elements.Types.{ElementType, types}
use Rattle.sgml_names.specs.Lists.{has}
use Rattle.sgml_dtd.specs.dtd_attlists.declared.list.AttributeList.{AttributeList}
use Rattle.sgml_dtd.specs.dtd_attlists.Tables.{list_of, list_from}
use Rattle.sgml_dtd.specs.Doctypes.{Doctype, definitions_for, definitions_at}
use Rattle.sgml_starts.specs.Values.{Start, is_specified, unvalued, AreValues, any_conref}
use Rattle.sgml_starts.specs.Currents.{is_current_at, given, AreCurrents}
use Rattle.sgml_starts.specs.Filled.{is_among, gives_current}
use Rattle.sgml_starts.specs.Setting.{SetsAll, SetsAllIn}
use Rattle.sgml_starts.specs.Starts.{tables_of, definitions_in, definitions_of, list_in, list_for, start_of}

abbrev pub start_with : Syntax → Tables → List Definition → Option ℕ → List (List (Option AttrValue)) → Start
start_with syntax t xs list currents = record { syntax = syntax; tables = t; definitions = xs; list = list; currents = currents }

pub tables-are : (d : Doctype) (t : Tables) → t.entities ≡ d.entities → t.notations ≡ d.notations → t ≡ tables_of d
tables-are d t e n = rw (sym e, sym n) refl

pub definitions-are : (d : Doctype) (o : Option ElementType) (xs : List Definition) → IsSomeAnd o (λ y. xs ≡ definitions_for d.lists y.name) → xs ≡ definitions_in d o
definitions-are d None xs h = absurd h
definitions-are d (Some t) xs h = h

pub list-is : (d : Doctype) (o : Option ElementType) (list : Option ℕ) → IsSomeAnd o (λ y. list ≡ list_of d.lists y.name) → list ≡ list_in d o
list-is d None list h = absurd h
list-is d (Some t) list h = h

-- an attribute whose current value is given has a definition
within-by : (S : Start) (i : ℕ) (o : Option Definition) → slice_get S.definitions i ≡ o → is_current_at o ≡ true → i < length S.definitions
within-by S i None e h = absurd (cc h)
within-by S i (Some x) e h = slice_get_within S.definitions i x e

and-left : (a b : Bool) → (a && b) ≡ true → a ≡ true
and-left true b e = refl
and-left false b e = absurd (cc e)

pub given-within : (S : Start) (ss : List Spec) (i : ℕ) → gives_current S ss i ≡ true → i < length S.definitions
given-within S ss i e = within-by S i (slice_get S.definitions i) refl (and-left (is_current_at (slice_get S.definitions i)) (is_specified S ss i) e)

given-on : (a b : Bool) (o : Option AttrValue) → (a && b) ≡ true → (if a then (if b then o else None) else None) ≡ o
given-on true true o e = refl
given-on true false o e = absurd (cc e)
given-on false b o e = absurd (cc e)

given-off : (a b : Bool) (o : Option AttrValue) → (a && b) ≡ false → (if a then (if b then o else None) else None) ≡ None
given-off true true o e = absurd (cc e)
given-off true false o e = refl
given-off false b o e = refl

or-there : (values : List AttrValue) (i : ℕ) (o : Option AttrValue) → i < length values → option_or (slice_get values i) o ≡ slice_get values i
or-there [] i o l = absurd (omega (arith, l))
or-there (v ∷ vs) zero o l = refl
or-there (v ∷ vs) (suc i) o l = or-there vs i o (omega (arith, l))

module _ (S : Start) (ss : List Spec) (values : List AttrValue) (new : List (List (Option AttrValue))) (list : ℕ) (current : List ℕ) (is : S.list ≡ Some list)
    (many : length values ≡ length S.definitions) (noted : (i : ℕ) → is_among i current ≡ gives_current S ss i) (set : SetsAll S.currents new list current values) where
  here-by : (i : ℕ) (t : Bool) → gives_current S ss i ≡ t → current_at new list i ≡ option_or (given S ss values i) (current_at S.currents list i)
  here-by i true e =
      let l : i < length values = omega (arith, many, given-within S ss i e) in
      set.set i (noted i ∙ e) ∙ sym (or-there values i (current_at S.currents list i) l)
      ∙ ap (λ (o : Option AttrValue). option_or o (current_at S.currents list i)) (sym (given-on (is_current_at (slice_get S.definitions i)) (is_specified S ss i) (slice_get values i) e))
  here-by i false e =
      set.others list i (inr (noted i ∙ e))
      ∙ ap (λ (o : Option AttrValue). option_or o (current_at S.currents list i)) (sym (given-off (is_current_at (slice_get S.definitions i)) (is_specified S ss i) (slice_get values i) e))

  list-same : (k : ℕ) → S.list ≡ Some k → k ≡ list
  list-same k e = cc (sym e ∙ is)

  pub currents-are : AreCurrents S ss values new
  currents-are = record {
    as_many = set.as_many;
    here = λ k i e.
        subst (λ (n : ℕ). current_at new n i ≡ option_or (given S ss values i) (current_at S.currents n i)) (sym (list-same k e)) (here-by i (gives_current S ss i) refl);
    elsewhere = λ k i d. set.others k i (inl (λ e. d (is ∙ ap (λ (n : ℕ). Some n) (sym e))));
  }

set-in : (S : Start) (ss : List Spec) (values : List AttrValue) (new : List (List (Option AttrValue))) (list : Option ℕ) (current : List ℕ) → S.list ≡ list
    → length values ≡ length S.definitions → ((i : ℕ) → is_among i current ≡ gives_current S ss i) → SetsAllIn list S.currents new current values → AreCurrents S ss values new
set-in S ss values new None current is many noted same =
    rw same (record { as_many = refl; here = λ k i e. absurd (differ k e); elsewhere = λ k i d. refl })
  where
    differ : (k : ℕ) → S.list ≡ Some k → ⊥
    differ k e = cc (sym is ∙ e)
set-in S ss values new (Some list) current is many noted set = currents-are S ss values new list current is many noted set

pub currents-in : (S : Start) (ss : List Spec) (values : List AttrValue) (new : List (List (Option AttrValue))) (current : List ℕ)
    → length values ≡ length S.definitions → ((i : ℕ) → is_among i current ≡ gives_current S ss i) → SetsAllIn S.list S.currents new current values → AreCurrents S ss values new
currents-in S ss values new current many noted set = set-in S ss values new S.list current refl many noted set

-- WITHOUT ATTRIBUTES there is nothing
none-given : (xs : List Definition) (i : ℕ) (a b : Option AttrValue) → xs ≡ [] → (if is_current_at (slice_get xs i) then a else None) ≡ None
none-given xs i a b e = rw e refl

pub no-currents : (S : Start) → S.definitions ≡ [] → AreCurrents S [] [] S.currents
no-currents S none = record {
  as_many = refl;
  here = λ k i e. ap (λ (o : Option AttrValue). option_or o (current_at S.currents k i))
      (sym (none-given S.definitions i (if is_specified S [] i then slice_get {X = AttrValue} [] i else None) None none));
  elsewhere = λ k i d. refl;
}

no-entry : (i : ℕ) (x : Definition) → slice_get {X = Definition} [] i ≡ Some x → ⊥
no-entry i x e = cc e

pub no-values : (S : Start) → S.definitions ≡ [] → AreValues S [] []
no-values S none = record {
  as_many = sym (ap (λ (xs : List Definition). length xs) none);
  each = λ i x e. absurd (no-entry i x (sym (ap (λ (xs : List Definition). slice_get xs i) none) ∙ e));
}

-- A NUMBER is among those where it stands
or-second : (a b : Bool) → b ≡ true → (a || b) ≡ true
or-second true b e = refl
or-second false b e = e

or-head : (a b : Bool) → a ≡ true → (a || b) ≡ true
or-head true b e = refl
or-head false b e = absurd (cc e)

pub among-at : (xs : List ℕ) (k : ℕ) → k < length xs → is_among (slice_index_or xs k 0) xs ≡ true
among-at [] k l = absurd (omega (arith, l))
among-at (x ∷ xs) zero l = or-head (x == x) (is_among x xs) (eq-eqb x x refl)
among-at (x ∷ xs) (suc k) l = or-second (x == slice_index_or xs k 0) (is_among (slice_index_or xs k 0) xs) (among-at xs k (omega (arith, l)))

-- the same where the definitions are known
pub defined-is : (syntax : Syntax) (d : Doctype) (element : ℕ) (currents : List (List (Option AttrValue))) (t : Tables) (xs : List Definition)
    → t.entities ≡ d.entities → t.notations ≡ d.notations → xs ≡ definitions_of d element
    → start_with syntax t xs (list_for d element) currents ≡ start_of syntax d element currents
defined-is syntax d element currents t xs e n h =
    ap (λ (z : Tables). start_with syntax z xs (list_for d element) currents) (tables-are d t e n)
    ∙ ap (λ (z : List Definition). start_with syntax (tables_of d) z (list_for d element) currents) h

list-step : (t : Bool) (k n : ℕ) (rest : Option ℕ) (m : ℕ) → (if t then Some k else rest) ≡ Some n → (rest ≡ Some n → n < (k + 1) + m) → n < k + suc m
list-step true k n rest m e h = omega (arith, same k n e)
  where
    same : (k n : ℕ) → Some k ≡ Some n → k ≡ n
    same k n e = cc e
list-step false k n rest m e h = omega (arith, h e)

list-from : (lists : List AttributeList) (name : List ℕ) (k n : ℕ) → list_from k lists name ≡ Some n → n < k + length lists
list-from [] name k n e = absurd (cc e)
list-from (l ∷ ls) name k n e = list-step (has l.names name) k n (list_from (k + 1) ls name) (length ls) e (λ h. list-from ls name (k + 1) n h)

pub list-within : (d : Doctype) (o : Option ElementType) (list : ℕ) → list_in d o ≡ Some list → list < length d.lists
list-within d None list e = absurd (cc e)
list-within d (Some t) list e = omega (arith, list-from d.lists t.name 0 list e)

lists-by : (d : Doctype) (o : Option ElementType) (list : Option ℕ) (many : ℕ) → list ≡ list_in d o → many ≡ length d.lists → IfSome list (λ n. n < many)
lists-by d o None many is same = tt
lists-by d o (Some n) many is same = omega (arith, list-within d o n (sym is), same)

pub lists-within : (d : Doctype) (o : Option ElementType) (list : Option ℕ) (many : ℕ) → IsSomeAnd o (λ y. list ≡ list_of d.lists y.name) → many ≡ length d.lists
    → IfSome list (λ n. n < many)
lists-within d o list many h same = lists-by d o list many (list-is d o list h) same

-- where there is none to set
pub nothing-set : (list : Option ℕ) (old : List (List (Option AttrValue))) (values : List AttrValue) → SetsAllIn list old old [] values
nothing-set None old values = refl
nothing-set (Some list) old values = record { as_many = refl; set = λ i e. absurd (cc e); others = λ l i d. refl }

pub none-there : (xs : List ℕ) → length xs ≡ 0 → xs ≡ []
none-there [] e = refl
none-there (x ∷ xs) e = absurd (omega (arith, e))

pub none-defined : (xs : List Definition) → length xs ≡ 0 → xs ≡ []
none-defined [] e = refl
none-defined (x ∷ xs) e = absurd (omega (arith, e))

pub if-err : {T E : Type 0} {A B : E → Type 0} (r : Result T E) → IfErr r A → ((e : E) → A e → B e) → IfErr r B
if-err (Ok x) h f = tt
if-err (Err e) h f = f e h
