-- The values of a start, and the current values after it.
use Rattle.std.proofs.Common.{◌≡◌, ℕ, Bool, true, false, ◌||◌, List, [], ◌∷◌, map, Option, Some, None, option_map, unwrap_or, find, refl, sym, ap, ◌∙◌, if◌then◌else◌, Ok, Result}
use Rattle.std.specs.List.{list_any, slice_get}
use Rattle.std.specs.Option.{option_or}
use Rattle.std.proofs.lemmas.Option.{slice_get-map}
use Rattle.sgml_starts.specs.text.declared.reason.Reason.{Reason}
use Rattle.sgml_starts.specs.attr.declared.definition.Default.{Default}
use Rattle.sgml_starts.specs.attr.declared.definition.Default.TheVariants as default
use Rattle.sgml_starts.specs.attr.declared.definition.Definition.{Definition}
use Rattle.sgml_starts.specs.attr.declared.definition.Spec.{Spec}
use Rattle.sgml_starts.specs.attr.declared.error.AttrError.{AttrError}
use Rattle.sgml_starts.specs.attr.declared.value.AttrValue.{AttrValue}
use Rattle.sgml_starts.specs.attr.Literal.{interpreted}
use Rattle.sgml_starts.specs.attr.Currents.{current_at}
use Rattle.sgml_starts.specs.attr.Values.{value}
use Rattle.sgml_starts.specs.dtd_attlists.Tables.{list_of}
use Rattle.sgml_starts.specs.dtd.Doctypes.{Doctype}
use Rattle.sgml_starts.specs.declared.error.StartError.{StartError}
use Rattle.sgml_starts.specs.declared.error.StartError.TheVariants as error
use Rattle.sgml_starts.specs.Rows.{names}
use Rattle.sgml_starts.specs.Values.{is_specified, current_in, result_of, AreValues}
use Rattle.sgml_starts.specs.Values as numbered
use Rattle.sgml_starts.specs.Currents.{is_current, is_current_at}
use Rattle.sgml_starts.specs.Currents as numbered_currents
use Rattle.sgml_starts.specs.Specified.{Specified}
use Rattle.sgml_declared.specs.theory_reading.Names.{Name}
use Rattle.sgml_declared.specs.theory_reading.Types.{attributes, entity_tables, is_current_default}
use Rattle.sgml_declared.specs.theory_reading.Pieces.{Specification, How}
use Rattle.sgml_declared.specs.theory_reading.Pieces as pieces
use Rattle.sgml_declared.specs.theory_reading.Currents.{Currents, AreCurrents, IsGiven, if_value, value_written, value_in, given_to, currents_after}
use Rattle.sgml_declared.specs.theory_reading.State.{State}
use Rattle.sgml_declared.proofs.theory_reading.ByNumber.{start-given}
use Rattle.sgml_declared.specs.theory_spelling.Attributes.{default_value, given_value, value_of, attribute_of, valued}
use Rattle.sgml_declared.specs.theory_spelling.Named.{AreApart}
use Rattle.sgml_theory_starts.specs.Starts.{Table, by_name, start_named, AreThoseRead, AreValued}
use Rattle.sgml_theory_starts.proofs.Matched.{names-one}
use Rattle.sgml_theory_starts.proofs.Refused.{none-found, current-is}

-- what the specification of an attribute gives it
abbrev given-by : Doctype → Definition → Option Spec → Option AttrValue
given-by d x None = None
given-by d x (Some s) = value_written d (Some x) (Ok s.value)

value-found : (d : Doctype) (n : Name) (ss : List Spec) (i : ℕ) (x : Definition) → AreApart (attributes d n) → slice_get (attributes d n) i ≡ Some x
    → value_in d (Some x) x.name (map (by_name d n) ss) ≡ given-by d x (find (names d.syntax (attributes d n) (Some i)) ss)
value-found d n [] i x apart here = refl
value-found d n (s ∷ ss) i x apart here =
    ap (λ t. if t then value_written d (Some x) (Ok s.value) else value_in d (Some x) x.name (map (by_name d n) ss)) (names-one d n s i x apart here)
    ∙ by (names d.syntax (attributes d n) (Some i) s) (value-found d n ss i x apart here)
  where
    by : (t : Bool) → value_in d (Some x) x.name (map (by_name d n) ss) ≡ given-by d x (find (names d.syntax (attributes d n) (Some i)) ss)
        → (if t then value_written d (Some x) (Ok s.value) else value_in d (Some x) x.name (map (by_name d n) ss))
        ≡ given-by d x (if t then Some s else find (names d.syntax (attributes d n) (Some i)) ss)
    by true again = refl
    by false again = again

-- THE VALUE of one attribute, by its specification or else by its default
value-by : (d : Doctype) (c : Currents) (n : Name) (x : Definition) (current : Option AttrValue) (o : Option Spec) (v : AttrValue)
    → current ≡ c n x.name → value d.syntax x (entity_tables d) current (option_map (λ (s : Spec). interpreted x.declared s.value) o) ≡ Ok v
    → unwrap_or (given-by d x o) (given_value (default_value d c n x)) ≡ v
value-by d c n x current None v same h =
    ap given_value (ap (λ w. value d.syntax x (entity_tables d) w None) (sym same) ∙ h)
value-by d c n x current (Some s) v same h =
    ap (λ r. unwrap_or (if_value r) (given_value (default_value d c n x))) h

record Valued (d : Doctype) (n : Name) (table : Table) (ss : List Spec) (i : ℕ) (x : Definition) (values : List AttrValue) : Type 0 where
  v : AttrValue
  at : slice_get values i ≡ Some v
  result : result_of (start_named d n table) ss i x ≡ Ok v

valued-by : (d : Doctype) (n : Name) (table : Table) (ss : List Spec) (i : ℕ) (x : Definition) (values : List AttrValue) (o : Option AttrValue)
    → slice_get values i ≡ o → option_map (λ (v : AttrValue). Ok v) o ≡ Some (result_of (start_named d n table) ss i x) → Valued d n table ss i x values
valued-by d n table ss i x values None at h = absurd (cc)
valued-by d n table ss i x values (Some v) at h = record { v = v; at = at; result = one h }
  where
    one : {r : Result AttrValue AttrError} → Some (Ok v) ≡ Some r → r ≡ Ok v
    one h = cc

is-valued : (d : Doctype) (n : Name) (table : Table) (ss : List Spec) (values : List AttrValue) (i : ℕ) (x : Definition)
    → AreValues (start_named d n table) ss values → slice_get (attributes d n) i ≡ Some x → Valued d n table ss i x values
is-valued d n table ss values i x are here = valued-by d n table ss i x values (slice_get values i) refl (are.each i x here)

value-is : (d : Doctype) (c : Currents) (n : Name) (table : Table) (ss : List Spec) (i : ℕ) (x : Definition) (v : AttrValue)
    → AreApart (attributes d n) → AreCurrents d table c → slice_get (attributes d n) i ≡ Some x → result_of (start_named d n table) ss i x ≡ Ok v
    → value_of d c n (map (by_name d n) ss) x ≡ v
value-is d c n table ss i x v apart are here h =
    ap (λ w. unwrap_or w (given_value (default_value d c n x))) (value-found d n ss i x apart here)
    ∙ value-by d c n x (current_in table (list_of d.lists n) i) (find (names d.syntax (attributes d n) (Some i)) ss) v (current-is d n table c i x apart are here) h

never-none : (a : Option StartError) (r : Reason) (b : Option StartError) → option_or a (option_or (Some (error.Refused r)) b) ≡ None → ⊥
never-none None r b h = cc
never-none (Some e) r b h = cc

-- all was read of what isn't refused
pub all-read : (s : State) (n : Name) (table : Table) (specs : List Spec) (stop : Option StartError) (spent : ℕ) (ss : List Specification)
    → AreThoseRead s.context.doctype n specs stop ss → numbered.unvalued (start_named s.context.doctype n table) (record { specs = specs; stop = stop; spent = spent }) ≡ None
    → ss ≡ map (by_name s.context.doctype n) specs
all-read s n table specs None spent ss h none = h
all-read s n table specs (Some (error.Refused r)) spent ss h none = absurd (never-none _ r (numbered.refused (numbered.reason_of_defaults (start_named s.context.doctype n table) specs 0 (start_named s.context.doctype n table).definitions)) none)
all-read s n table specs (Some (error.Wanted e)) spent ss h none = absurd h
all-read s n table specs (Some error.Memory) spent ss h none = absurd h

each-valued : (s : State) (n : Name) (table : Table) (specs : List Spec) (how : How) (proper at_once : Bool) (values : List AttrValue)
    → AreApart (attributes s.context.doctype n) → AreCurrents s.context.doctype table s.currents → AreValues (start_named s.context.doctype n table) specs values
    → AreValued s (pieces.Start n (map (by_name s.context.doctype n) specs) how proper at_once) (attributes s.context.doctype n) values
unfolding valued
each-valued s n table specs how proper at_once values apart are each i x here =
    let d : Doctype = s.context.doctype in
    let is = is-valued d n table specs values i x each here in
    let same : value_of d s.currents n (map (by_name d n) specs) x ≡ is.v = value-is d s.currents n table specs i x is.v apart are here is.result in (
      is.v,
      is.at,
      slice_get-map (attribute_of d s.currents n (map (by_name d n) specs)) (attributes d n) i
          ∙ ap (option_map (attribute_of d s.currents n (map (by_name d n) specs))) here
          ∙ ap (λ w. Some (record { attribute = x.name; declared = x.declared; value = w })) same,
    )

pub values-are : (s : State) (n : Name) (table : Table) (all : Specified) (ss : List Specification) (how : How) (proper at_once : Bool) (values : List AttrValue)
    → AreApart (attributes s.context.doctype n) → AreCurrents s.context.doctype table s.currents → AreThoseRead s.context.doctype n all.specs all.stop ss
    → numbered.unvalued (start_named s.context.doctype n table) all ≡ None → AreValues (start_named s.context.doctype n table) all.specs values
    → AreValued s (pieces.Start n ss how proper at_once) (attributes s.context.doctype n) values
values-are s n table all ss how proper at_once values apart are h none each =
    rw (all-read s n table all.specs all.stop all.spent ss h none) (each-valued s n table all.specs how proper at_once values apart are each)

-- CURRENT VALUES
same-default : (x : Default) → is_current x ≡ is_current_default x
same-default (default.Value u) = refl
same-default (default.Fixed u) = refl
same-default default.Required = refl
same-default default.Current = refl
same-default default.Conref = refl
same-default default.Implied = refl

none-here : (p : Spec → Bool) (u : Spec) (us : List Spec) (b : Bool) → (find p us ≡ None → list_any p us ≡ false)
    → (if b then Some u else find p us) ≡ None → (b || list_any p us) ≡ false
none-here p u us true later e = absurd (cc)
none-here p u us false later e = later e

found-none : (p : Spec → Bool) (us : List Spec) → find p us ≡ None → list_any p us ≡ false
found-none p [] e = refl
found-none p (u ∷ us) e = none-here p u us (p u) (λ e'. found-none p us e') e

given-one : (d : Doctype) (n : Name) (table : Table) (ss : List Spec) (values : List AttrValue) (i : ℕ) (x : Definition) (t : Bool) (o : Option Spec)
    → Valued d n table ss i x values → is_specified (start_named d n table) ss i ≡ t → find (names d.syntax (attributes d n) (Some i)) ss ≡ o
    → (if t then slice_get values i else None) ≡ given-by d x o
given-one d n table ss values i x true None is h f = absurd (never (sym h ∙ found-none (names d.syntax (attributes d n) (Some i)) ss f))
  where
    never : true ≡ false → ⊥
    never e = cc
given-one d n table ss values i x true (Some s) is h f =
    is.at ∙ ap if_value (sym (ap (λ o. value d.syntax x (entity_tables d) (current_in table (list_of d.lists n) i) (option_map (λ (u : Spec). interpreted x.declared u.value) o)) (sym f) ∙ is.result))
given-one d n table ss values i x false None is h f = refl
given-one d n table ss values i x false (Some s) is h f = absurd (never (sym f ∙ none-found (names d.syntax (attributes d n) (Some i)) ss h))
  where
    never : Some s ≡ None → ⊥
    never e = cc

given-same : (d : Doctype) (n : Name) (table : Table) (ss : List Spec) (values : List AttrValue) (i : ℕ) (x : Definition)
    → AreApart (attributes d n) → slice_get (attributes d n) i ≡ Some x → AreValues (start_named d n table) ss values
    → numbered_currents.given (start_named d n table) ss values i ≡ given_to d (map (by_name d n) ss) x
given-same d n table ss values i x apart here each =
    ap (λ o. if is_current_at o then (if is_specified (start_named d n table) ss i then slice_get values i else None) else None) here
    ∙ ap (λ t. if t then (if is_specified (start_named d n table) ss i then slice_get values i else None) else None) (same-default x.default)
    ∙ ap (λ v. if is_current_default x.default then v else None)
    (given-one d n table ss values i x (is_specified (start_named d n table) ss i) (find (names d.syntax (attributes d n) (Some i)) ss) (is-valued d n table ss values i x each here) refl refl
    ∙ sym (value-found d n ss i x apart here))

is-given : (d : Doctype) (n : Name) (table new : Table) (ss : List Spec) (values : List AttrValue) → AreApart (attributes d n)
    → AreValues (start_named d n table) ss values → numbered_currents.AreCurrents (start_named d n table) ss values new → IsGiven d n (map (by_name d n) ss) table new
is-given d n table new ss values apart each are = record {
  here = λ list i x at x-at. are.here list i at ∙ ap (λ v. option_or v (current_at table list i)) (given-same d n table ss values i x apart x-at each);
  elsewhere = λ list i other. are.elsewhere list i other;
}

pub currents-are : (s : State) (n : Name) (table : Table) (all : Specified) (ss : List Specification) (how : How) (proper at_once : Bool) (values : List AttrValue) (new : Table)
    → AreApart (attributes s.context.doctype n) → AreCurrents s.context.doctype table s.currents → AreThoseRead s.context.doctype n all.specs all.stop ss
    → numbered.unvalued (start_named s.context.doctype n table) all ≡ None → AreValues (start_named s.context.doctype n table) all.specs values
    → numbered_currents.AreCurrents (start_named s.context.doctype n table) all.specs values new
    → AreCurrents s.context.doctype new (currents_after s.context.doctype (pieces.Start n ss how proper at_once) s.currents)
currents-are s n table all ss how proper at_once values new apart are h none each after =
    let d : Doctype = s.context.doctype in
    let given : IsGiven d n (map (by_name d n) all.specs) table new = is-given d n table new all.specs values apart each after in
    let read : ss ≡ map (by_name d n) all.specs = all-read s n table all.specs all.stop all.spent ss h none in
    rw read (start-given d n (map (by_name d n) all.specs) how proper at_once table new s.currents are given)
