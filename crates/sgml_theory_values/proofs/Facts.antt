-- What a start that has values gives each attribute.
use Rattle.std.proofs.Common.{◌≡◌, ℕ, zero, suc, Bool, true, false, not, List, [], ◌∷◌, Option, Some, None, option_and_then, unwrap_or, Result, Ok, Err, find, refl, sym, ap, subst, ◌∙◌, ◌⊎◌, inl, inr, if◌then◌else◌}
use Rattle.std.specs.List.{list_all, list_any, slice_get}
use Rattle.std.specs.Option.{option_or}
use Rattle.std.proofs.lemmas.Slice.Eq.{bytes_eq-Decides}
use Rattle.sgml_full.specs.text.Refusals.{first_row}
use Rattle.sgml_full.specs.text.SameUnits.{same_units, units-decide}
use Rattle.sgml_full.specs.text.declared.reason.Reason.{Reason}
use Rattle.sgml_full.specs.text.declared.reason.Reason.TheVariants as reason
use Rattle.sgml_full.specs.text.declared.unit.Unit.{Unit as AnyUnit}
use Rattle.sgml_theory_starts.specs.syntax.declared.syntax.Syntax.{Syntax}
use Rattle.sgml_theory_starts.specs.entity.Entities.{Tables}
use Rattle.sgml_full.specs.attr.declared.definition.Declared.{Declared}
use Rattle.sgml_full.specs.attr.declared.definition.Default.{Default}
use Rattle.sgml_full.specs.attr.declared.definition.Default.TheVariants as defaults
use Rattle.sgml_full.specs.attr.declared.definition.Definition.{Definition}
use Rattle.sgml_full.specs.attr.declared.error.AttrError.{AttrError}
use Rattle.sgml_full.specs.attr.declared.error.AttrError.TheVariants as against
use Rattle.sgml_full.specs.attr.declared.value.AttrValue.{AttrValue}
use Rattle.sgml_full.specs.attr.declared.value.AttrValue.TheVariants as of
use Rattle.sgml_full.specs.attr.Literal.{is_cdata, interpreted}
use Rattle.sgml_full.specs.attr.Tokens.{folds, tokens}
use Rattle.sgml_full.specs.attr.Rows.{passes_namelen, names_no_notation, are_tokens, is_in_group, is_other, names_no_data, same_names}
use Rattle.sgml_full.specs.attr.Equality.{names-decide}
use Rattle.sgml_full.specs.attr.Values.{value, units_give, tokens_give, token_value, unless, fixed_in, default_gives, current_given}
use Rattle.sgml_full.specs.attr.Against.{passes_litlen}
use Rattle.sgml_full.specs.dtd_attlists.Interpreted.{default_units}
use Rattle.sgml_full.specs.dtd.Doctypes.{Doctype}
use Rattle.sgml_theory_starts.specs.theory_reading.Names.{Name}
use Rattle.sgml_theory_starts.specs.theory_reading.Types.{definition_of, entity_tables}
use Rattle.sgml_theory_starts.specs.theory_reading.Pieces.{Specification}
use Rattle.sgml_theory_starts.specs.theory_reading.Currents.{Currents, is_of, if_value, value_written, value_in}
use Rattle.sgml_theory_starts.specs.theory_spelling.Attributes.{reason_of_written, definition_named, stands_in, reason_of_specification, reason_of_specifications, default_value, reason_in, reason_of_defaults, given_value, value_of}
use Rattle.sgml_theory_starts.specs.theory_spelling.Valued.{error_in, ranked}
use Rattle.sgml_theory_starts.proofs.theory_spelling.Valued.{rows-are-ranked}
use Rattle.sgml_theory_values.specs.Given.{IsGiven}
use Rattle.sgml_theory_values.specs.Starts.{IsDefault, HasDefault}
use Rattle.sgml_theory_values.specs.Laws.{gives_none}
use Rattle.sgml_theory_values.proofs.Lists.{none-some, some-none, true-false, none-in, none-found, first-value}

pub or-first : (a b : Option Reason) → option_or a b ≡ None → a ≡ None
or-first (Some r) b h = some-none r h
or-first None b h = refl

pub or-second : (a b : Option Reason) → option_or a b ≡ None → b ≡ None
or-second (Some r) b h = some-none r h
or-second None b h = h

-- BY A SPECIFICATION

-- no reason holds against the first that passes a test
record Unopposed (d : Doctype) (n : Name) (p : Specification → Bool) (s : Specification) : Type 0 where
  twice : Bool
  reason : reason_of_written d twice (definition_named d n s.attribute) s.written ≡ None
  passes : p s ≡ true

unopposed : (d : Doctype) (n : Name) (p : Specification → Bool) (before ss : List Specification) (s : Specification)
    → reason_of_specifications d n before ss ≡ None → find p ss ≡ Some s → Unopposed d n p s
unopposed d n p before [] s h e = none-some s e
unopposed d n p before (u ∷ us) s h e =
    by (p u) refl (λ f. unopposed d n p (u ∷ before) us s (or-second (reason_of_specification d n before u) (reason_of_specifications d n (u ∷ before) us) h) f) e
  where
    same : Some u ≡ Some s → u ≡ s
    same e = cc

    by : (t : Bool) → p u ≡ t → (find p us ≡ Some s → Unopposed d n p s) → (if t then Some u else find p us) ≡ Some s → Unopposed d n p s
    by true f later e =
        subst (Unopposed d n p) (same e)
        (record {
          twice = stands_in u.attribute before;
          reason = or-first (reason_of_specification d n before u) (reason_of_specifications d n (u ∷ before) us) h;
          passes = f;
        })
    by false f later e = later e

-- it names the attribute
names-it : (a : Name) (o : Option Name) (w : Result (List AnyUnit) Reason) → is_of a (record { attribute = o; written = w }) ≡ true → o ≡ Some a
names-it a None w h = true-false (sym h)
names-it a (Some b) w h = ap Some (sym ((bytes_eq-Decides a b).0 h))

-- no row holds exactly where the value is one, within LITLEN
ranked-none : (long twice : Bool) (o : Option AttrError) → ranked long twice o ≡ None → (long ≡ false) × (o ≡ None)
ranked-none true twice None h = some-none _ h
ranked-none false true None h = some-none _ h
ranked-none false false None h = (refl, refl)
ranked-none long twice (Some against.NameLength) h = some-none reason.NameLength h
ranked-none true twice (Some _) h = some-none reason.LiteralLimit h
ranked-none false twice (Some against.NotationUnknown) h = some-none reason.NotationUnknown h
ranked-none false true (Some _) h = some-none reason.Twice h
ranked-none false false (Some _) h = some-none _ h

value-is : (r : Result AttrValue AttrError) → error_in r ≡ None → (v : AttrValue) × (r ≡ Ok v)
value-is (Ok v) h = (v, refl)
value-is (Err e) h = some-none e h

written-given : (d : Doctype) (x : Definition) (twice : Bool) (w : Result (List AnyUnit) Reason) → reason_of_written d twice (Some x) w ≡ None
    → (v : AttrValue) × (value_written d (Some x) w ≡ Some v) × IsGiven d.syntax (entity_tables d) x v
written-given d x twice (Err r) h = some-none r h
written-given d x twice (Ok units) h =
    let us = interpreted x.declared units in
    let r = value d.syntax x (entity_tables d) None (Some us) in
    let k = ranked-none (passes_litlen d.syntax us) twice (error_in r) (sym (rows-are-ranked d.syntax x (entity_tables d) twice us None) ∙ h) in
    let v = value-is r k.1 in
    (v.0, ap if_value v.1, (units, record { short = k.0; gives = v.1 }))

-- WITHOUT ONE

default-reason : (d : Doctype) (current : Currents) (n : Name) (ss : List Specification) (xs : List Definition) (i : ℕ) (x : Definition)
    → reason_of_defaults d current n ss xs ≡ None → slice_get xs i ≡ Some x
    → (if list_any (is_of x.name) ss then None else reason_in (default_value d current n x)) ≡ None
default-reason d current n ss [] i x h e = none-some x e
default-reason d current n ss (y ∷ ys) zero x h e =
    ap (λ (z : Definition). if list_any (is_of z.name) ss then None else reason_in (default_value d current n z)) (sym (one y x e))
    ∙ or-first (if list_any (is_of y.name) ss then None else reason_in (default_value d current n y)) (reason_of_defaults d current n ss ys) h
  where
    one : (y x : Definition) → Some y ≡ Some x → y ≡ x
    one y x e = cc
default-reason d current n ss (y ∷ ys) (suc i) x h e =
    default-reason d current n ss ys i x
    (or-second (if list_any (is_of y.name) ss then None else reason_in (default_value d current n y)) (reason_of_defaults d current n ss ys) h) e

given-is : (r : Result AttrValue AttrError) → reason_in r ≡ None → r ≡ Ok (given_value r)
given-is (Ok v) h = refl
given-is (Err e) h = some-none _ h

-- the fixed value isn't another one
own-units : (us : List AnyUnit) → not (same_units us us) ≡ false
own-units us = ap not ((units-decide us us).1 refl)

own-names : (ts : List (List ℕ)) → not (same_names ts ts) ≡ false
own-names ts = ap not ((names-decide ts ts).1 refl)

fixed-by : (syntax : Syntax) (x : Declared) (tables : Tables) (us : List AnyUnit) (b : Bool)
    → (if b then unless (first_row ((is_other (Some us) us, against.FixedDiffers) ∷ [])) (of.Cdata us) else tokens_give syntax x tables (Some us) (tokens (folds syntax x) us))
    ≡ (if b then unless (first_row ((is_other None us, against.FixedDiffers) ∷ [])) (of.Cdata us) else tokens_give syntax x tables None (tokens (folds syntax x) us))
fixed-by syntax x tables us true = ap (λ t. unless (first_row ((t, against.FixedDiffers) ∷ [])) (of.Cdata us)) (own-units us)
fixed-by syntax x tables us false =
    let ts = tokens (folds syntax x) us in
    ap (λ t. unless (first_row (
    (passes_namelen syntax ts, against.NameLength)
    ∷ (names_no_notation syntax x tables.notations ts, against.NotationUnknown)
    ∷ (not (are_tokens syntax x ts), against.NotAToken)
    ∷ (not (list_all (is_in_group x) ts), against.NotInGroup)
    ∷ (t, against.FixedDiffers)
    ∷ (names_no_data x tables.entities ts, against.EntityUnknown) ∷ [])) (token_value x tables.entities ts)) (own-names ts)

fixed-own : (syntax : Syntax) (x : Declared) (tables : Tables) (us : List AnyUnit) → units_give syntax x tables (Some us) us ≡ units_give syntax x tables None us
fixed-own syntax x tables us = fixed-by syntax x tables us (is_cdata x)

-- EACH ATTRIBUTE

-- a specification gives the value
pub record IsSpecified (d : Doctype) (ss : List Specification) (x : Definition) (v : AttrValue) : Type 0 where
  pub first : Specification
  pub found : find (is_of x.name) ss ≡ Some first
  pub names : first.attribute ≡ Some x.name
  pub value : value_in d (Some x) x.name ss ≡ Some v
  pub given : IsGiven d.syntax (entity_tables d) x v

-- there is none, and its default does
pub record IsDefaulted (d : Doctype) (c : Currents) (n : Name) (ss : List Specification) (x : Definition) (v : AttrValue) : Type 0 where
  pub none : list_any (is_of x.name) ss ≡ false
  pub value : value_in d (Some x) x.name ss ≡ None
  pub default : default_value d c n x ≡ Ok v

abbrev pub Shown : Doctype → Currents → Name → List Specification → Definition → AttrValue → Type 0
Shown d c n ss x v = IsSpecified d ss x v ⊎ IsDefaulted d c n ss x v

pub specified-as : (d : Doctype) (n : Name) (ss : List Specification) (x : Definition) (s : Specification)
    → reason_of_specifications d n [] ss ≡ None → definition_of d n x.name ≡ Some x → find (is_of x.name) ss ≡ Some s → (v : AttrValue) × IsSpecified d ss x v
specified-as d n ss x s h its f =
    let u = unopposed d n (is_of x.name) [] ss s h f in
    let named : s.attribute ≡ Some x.name = names-it x.name s.attribute s.written u.passes in
    let definition : definition_named d n s.attribute ≡ Some x = ap (definition_named d n) named ∙ its in
    let g = written-given d x u.twice s.written (sym (ap (λ o. reason_of_written d u.twice o s.written) definition) ∙ u.reason) in
    let value : value_in d (Some x) x.name ss ≡ Some g.0 =
    first-value d x ss ∙ ap (option_and_then (λ (t : Specification). value_written d (Some x) t.written)) f ∙ g.1 in
    (g.0, record { first = s; found = f; names = named; value = value; given = g.2 })

module _ (d : Doctype) (c : Currents) (n : Name) (ss : List Specification) (xs : List Definition) (specified : reason_of_specifications d n [] ss ≡ None)
    (left : reason_of_defaults d c n ss xs ≡ None) where
  shown-by : (i : ℕ) (x : Definition) → slice_get xs i ≡ Some x → definition_of d n x.name ≡ Some x → (o : Option Specification) → find (is_of x.name) ss ≡ o
      → Shown d c n ss x (value_of d c n ss x)
  shown-by i x h its (Some s) f =
      let g = specified-as d n ss x s specified its f in
      let k = g.1 in
      let same : value_of d c n ss x ≡ g.0 = ap (λ o. unwrap_or o (given_value (default_value d c n x))) k.value in
      inl (subst (IsSpecified d ss x) (sym same) k)
  shown-by i x h its None f =
      let none = none-found (is_of x.name) ss f in
      let reason : reason_in (default_value d c n x) ≡ None =
      sym (ap (λ t. if t then None else reason_in (default_value d c n x)) none) ∙ default-reason d c n ss xs i x left h in
      let value = none-in d (Some x) x.name ss none in
      let same : value_of d c n ss x ≡ given_value (default_value d c n x) = ap (λ o. unwrap_or o (given_value (default_value d c n x))) value in
      inr (record { none = none; value = value; default = given-is (default_value d c n x) reason ∙ ap Ok (sym same) })

  pub shown : (i : ℕ) (x : Definition) → slice_get xs i ≡ Some x → definition_of d n x.name ≡ Some x → Shown d c n ss x (value_of d c n ss x)
  shown i x h its = shown-by i x h its (find (is_of x.name) ss) refl

-- THE DEFAULT is given by a literal, or is none whatever is current
abbrev pub Left : Doctype → Name → Definition → AttrValue → Type 0
Left d n x v = (v ≡ of.Implied) × ((c : Currents) → default_value d c n x ≡ Ok of.Implied) × (gives_none x.default ≡ true)

abbrev pub implied : Result AttrValue AttrError
implied = Ok of.Implied

pub implied-is : (v : AttrValue) → implied ≡ Ok v → v ≡ of.Implied
implied-is v h = cc

pub current-is : (o : Option AttrValue) (v : AttrValue) → current_given o ≡ Ok v → o ≡ Some v
current-is None v h = absurd (cc)
current-is (Some u) v h = let same : u ≡ v = cc in ap Some same

-- of a value that is declared, fixed or not, the literal that was read
default-literal : (d : Doctype) (x : Definition) (fixed : Option (List AnyUnit)) (units : List AnyUnit) (v : AttrValue) → IsDefault d.syntax x.declared units
    → fixed_in x.default ≡ fixed → units_give d.syntax x.declared (entity_tables d) fixed units ≡ Ok v → IsGiven d.syntax (entity_tables d) x v
default-literal d x fixed units v r e h = (
  r.literal,
  record {
    short = ap (passes_litlen d.syntax) (sym r.is) ∙ r.short;
    gives = ap (units_give d.syntax x.declared (entity_tables d) (fixed_in x.default)) (sym r.is)
        ∙ ap (λ f. units_give d.syntax x.declared (entity_tables d) f units) e ∙ h;
  },
)

default-given : (d : Doctype) (c : Currents) (n : Name) (x : Definition) (v : AttrValue) (how : Default) → x.default ≡ how
    → HasDefault d.syntax x → (c n x.name ≡ Some v → IsGiven d.syntax (entity_tables d) x v)
    → default_gives d.syntax x.declared (entity_tables d) (c n x.name) how ≡ Ok v → IsGiven d.syntax (entity_tables d) x v ⊎ Left d n x v
default-given d c n x v (defaults.Value units) e has current h =
    inl (default-literal d x None units v (has units (ap default_units e)) (ap fixed_in e) h)
default-given d c n x v (defaults.Fixed units) e has current h =
    inl (default-literal d x (Some units) units v (has units (ap default_units e)) (ap fixed_in e) (fixed-own d.syntax x.declared (entity_tables d) units ∙ h))
default-given d c n x v defaults.Required e has current h = absurd (cc)
default-given d c n x v defaults.Current e has current h = inl (current (current-is (c n x.name) v h))
default-given d c n x v defaults.Conref e has current h =
    inr (implied-is v h, λ c'. ap (default_gives d.syntax x.declared (entity_tables d) (c' n x.name)) e, ap gives_none e)
default-given d c n x v defaults.Implied e has current h =
    inr (implied-is v h, λ c'. ap (default_gives d.syntax x.declared (entity_tables d) (c' n x.name)) e, ap gives_none e)

pub fact-of : (d : Doctype) (c : Currents) (n : Name) (ss : List Specification) (x : Definition) (v : AttrValue)
    → HasDefault d.syntax x → (c n x.name ≡ Some v → IsGiven d.syntax (entity_tables d) x v) → Shown d c n ss x v
    → IsGiven d.syntax (entity_tables d) x v ⊎ Left d n x v
fact-of d c n ss x v has current (inl s) = inl s.given
fact-of d c n ss x v has current (inr s) = default-given d c n x v x.default refl has current s.default
