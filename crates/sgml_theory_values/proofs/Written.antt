-- The specifications of a start that is written again.
use Rattle.std.proofs.Common.{◌≡◌, ℕ, zero, suc, Bool, true, false, ◌||◌, ◌&&◌, List, [], ◌∷◌, ◌++◌, map, bytes_eq, Option, Some, None, unwrap_or, Ok, find, refl, sym, ap, subst, ◌∙◌, ◌⊎◌, inl, inr, if◌then◌else◌}
use Rattle.std.specs.List.{list_any, slice_get, flat_map}
use Rattle.std.specs.Option.{option_or}
use Rattle.std.proofs.lemmas.List.Folds.{list_any-append}
use Rattle.sgml_full.specs.text.declared.unit.Unit.{Unit as AnyUnit}
use Rattle.sgml_full.specs.attr.declared.definition.Definition.{Definition}
use Rattle.sgml_full.specs.attr.declared.value.AttrValue.{AttrValue}
use Rattle.sgml_full.specs.attr.declared.value.AttrValue.TheVariants as of
use Rattle.sgml_full.specs.attr.Literal.{interpreted}
use Rattle.sgml_full.specs.attr.Values.{value}
use Rattle.sgml_full.specs.dtd.Doctypes.{Doctype}
use Rattle.sgml_theory_starts.specs.theory_reading.Names.{Name}
use Rattle.sgml_theory_starts.specs.theory_reading.Types.{attributes, definition_of, entity_tables}
use Rattle.sgml_theory_starts.specs.theory_reading.Pieces.{Specification}
use Rattle.sgml_theory_starts.specs.theory_reading.Currents.{Currents, is_of, if_value, value_written, value_in}
use Rattle.sgml_theory_starts.specs.theory_reading.Reads.{Attribute}
use Rattle.sgml_theory_starts.specs.theory_spelling.Attributes.{reason_of_written, reason_of_specifications, default_value, reason_in, reason_of_defaults, given_value, value_of, attribute_of}
use Rattle.sgml_theory_starts.specs.theory_spelling.Valued.{error_in, ranked}
use Rattle.sgml_theory_starts.proofs.theory_spelling.Valued.{rows-are-ranked}
use Rattle.sgml_full.specs.Full.{is_given}
use Rattle.sgml_theory_values.specs.Given.{IsGivenBy, IsGiven}
use Rattle.sgml_theory_values.specs.Starts.{Writer, specification, SpellsValues}
use Rattle.sgml_theory_values.specs.Laws.{gives_none}
use Rattle.sgml_theory_values.proofs.Rows.{given-again, spelled-gives}
use Rattle.sgml_theory_values.proofs.Lists.{none-some, some-none, true-false, same-bytes, other-names, AllOf, all-of, one-of, map-all, Differs, Apart, found-apart, none-in, none-before}

or-false : (t : Bool) → (t || false) ≡ t
or-false true = refl
or-false false = refl

and-false : (t : Bool) → (t && false) ≡ false
and-false true = refl
and-false false = refl

-- A LITERAL THAT GIVES A VALUE has no reason against it

given-reason : (d : Doctype) (x : Definition) (literal : List AnyUnit) (v : AttrValue) → IsGivenBy d.syntax (entity_tables d) x literal v
    → reason_of_written d false (Some x) (Ok literal) ≡ None
given-reason d x literal v g =
    let us = interpreted x.declared literal in
    rows-are-ranked d.syntax x (entity_tables d) false us None
    ∙ ap (λ b. ranked b false (error_in (value d.syntax x (entity_tables d) None (Some us)))) g.short
    ∙ ap (λ r. ranked false false (error_in r)) g.gives

given-value : (d : Doctype) (x : Definition) (literal : List AnyUnit) (v : AttrValue) → IsGivenBy d.syntax (entity_tables d) x literal v
    → value_written d (Some x) (Ok literal) ≡ Some v
given-value d x literal v g = ap if_value g.gives

-- the value, where there is one
abbrev pub some_value : AttrValue → Option AttrValue
some_value of.Implied = None
some_value v = Some v

pub value-some : (v : AttrValue) → is_given v ≡ true → some_value v ≡ Some v
value-some of.Implied h = true-false (sym h)
value-some (of.Cdata us) h = refl
value-some (of.Notation name) h = refl
value-some (of.Entities es) h = refl
value-some (of.Tokens ts) h = refl

-- an attribute with its value
abbrev pub valued_as : Definition → AttrValue → Attribute
valued_as x v = record { attribute = x.name; declared = x.declared; value = v }

module _ (write : Writer) where
  abbrev pub written : Name → AttrValue → Specification
  written a v = record { attribute = Some a; written = Ok (write v) }

  -- what a test says of a specification
  pub any-one : (p : Specification → Bool) (a : Name) (v : AttrValue) → list_any p (specification write a v) ≡ (is_given v && p (written a v))
  any-one p a of.Implied = refl
  any-one p a (of.Cdata us) = or-false (p (written a (of.Cdata us)))
  any-one p a (of.Notation name) = or-false (p (written a (of.Notation name)))
  any-one p a (of.Entities es) = or-false (p (written a (of.Entities es)))
  any-one p a (of.Tokens ts) = or-false (p (written a (of.Tokens ts)))

  module _ (d : Doctype) (n : Name) (w : Definition → AttrValue) where
    abbrev pub one_spec : Definition → List Specification
    one_spec x = specification write x.name (w x)

    abbrev pub specs : List Definition → List Specification
    specs xs = flat_map one_spec xs

    -- none of another name
    other-none : (a : Name) (y : Definition) → Differs a y → list_any (is_of a) (one_spec y) ≡ false
    other-none a y h = any-one (is_of a) y.name (w y) ∙ ap (λ t. is_given (w y) && t) h ∙ and-false (is_given (w y))

    others-none : (a : Name) (ys : List Definition) → AllOf (Differs a) ys → list_any (is_of a) (specs ys) ≡ false
    others-none a [] h = refl
    others-none a (y ∷ ys) h =
        list_any-append (is_of a) (one_spec y) (specs ys)
        ∙ ap (λ t. t || list_any (is_of a) (specs ys)) (other-none a y h.0)
        ∙ others-none a ys h.1

    -- THE VALUE of each attribute
    abbrev IsWritten : Definition → Type 0
    IsWritten x = is_given (w x) ≡ true → value_written d (Some x) (Ok (write (w x))) ≡ Some (w x)

    first-written : (x : Definition) (v : AttrValue) (rest : List Specification) → value_written d (Some x) (Ok (write v)) ≡ Some v
        → value_in d (Some x) x.name (written x.name v ∷ rest) ≡ Some v
    first-written x v rest h =
        ap (λ t. if t then value_written d (Some x) (Ok (write v)) else value_in d (Some x) x.name rest) (same-bytes x.name) ∙ h

    value-here : (x : Definition) (v : AttrValue) (rest : List Specification) → (is_given v ≡ true → value_written d (Some x) (Ok (write v)) ≡ Some v)
        → list_any (is_of x.name) rest ≡ false → value_in d (Some x) x.name (specification write x.name v ++ rest) ≡ some_value v
    value-here x of.Implied rest f h = none-in d (Some x) x.name rest h
    value-here x (of.Cdata us) rest f h = first-written x (of.Cdata us) rest (f refl)
    value-here x (of.Notation name) rest f h = first-written x (of.Notation name) rest (f refl)
    value-here x (of.Entities es) rest f h = first-written x (of.Entities es) rest (f refl)
    value-here x (of.Tokens ts) rest f h = first-written x (of.Tokens ts) rest (f refl)

    same-definition : (x y : Definition) → Some x ≡ Some y → x ≡ y
    same-definition x y h = cc

    turned : (a b : Name) → bytes_eq a b ≡ false → bytes_eq b a ≡ false
    turned a b e = other-names b a (λ same. true-false (sym (same-bytes a) ∙ ap (bytes_eq a) (sym same) ∙ e))

    value-found : (xs : List Definition) (i : ℕ) (x : Definition) → Apart xs → slice_get xs i ≡ Some x → IsWritten x
        → value_in d (Some x) x.name (specs xs) ≡ some_value (w x)
    value-found [] i x a h f = none-some x h
    value-found (y ∷ ys) zero x a h f =
        let s = same-definition y x h in
        subst (λ (z : Definition). value_in d (Some x) x.name (one_spec z ++ specs ys) ≡ some_value (w x)) (sym s)
        (value-here x (w x) (specs ys) f (others-none x.name ys (subst (λ (z : Definition). AllOf (Differs z.name) ys) s a.0)))
    value-found (y ∷ ys) (suc i) x a h f =
        none-before d (Some x) x.name (one_spec y) (specs ys) (other-none x.name y (turned y.name x.name (one-of (Differs y.name) ys i x a.0 h)))
        ∙ value-found ys i x a.1 h f

    -- NO REASON against them
    abbrev IsUnopposed : Definition → Type 0
    IsUnopposed x = is_given (w x) ≡ true → reason_of_written d false (definition_of d n x.name) (Ok (write (w x))) ≡ None

    abbrev IsNew : List Specification → Definition → Type 0
    IsNew before x = list_any (is_of x.name) before ≡ false

    still-new : (before : List Specification) (a : Name) (v : AttrValue) (ys : List Definition) → AllOf (Differs a) ys → AllOf (IsNew before) ys
        → AllOf (IsNew (written a v ∷ before)) ys
    still-new before a v [] h k = tt
    still-new before a v (y ∷ ys) h k = (
      ap (λ t. t || list_any (is_of y.name) before) (turned a y.name h.0) ∙ k.0,
      still-new before a v ys h.1 k.1,
    )

    one-reason : (before : List Specification) (x : Definition) (v : AttrValue) (rest : List Specification) → IsNew before x
        → reason_of_written d false (definition_of d n x.name) (Ok (write v)) ≡ None
        → reason_of_specifications d n (written x.name v ∷ before) rest ≡ None
        → reason_of_specifications d n before (written x.name v ∷ rest) ≡ None
    one-reason before x v rest new none later =
        ap (λ t. option_or (reason_of_written d t (definition_of d n x.name) (Ok (write v))) (reason_of_specifications d n (written x.name v ∷ before) rest)) new
        ∙ ap (λ o. option_or o (reason_of_specifications d n (written x.name v ∷ before) rest)) none
        ∙ later

    reasons-here : (before : List Specification) (x : Definition) (v : AttrValue) (rest : List Specification) → IsNew before x
        → (is_given v ≡ true → reason_of_written d false (definition_of d n x.name) (Ok (write v)) ≡ None)
        → reason_of_specifications d n before rest ≡ None → ((u : AttrValue) → reason_of_specifications d n (written x.name u ∷ before) rest ≡ None)
        → reason_of_specifications d n before (specification write x.name v ++ rest) ≡ None
    reasons-here before x of.Implied rest new f same more = same
    reasons-here before x (of.Cdata us) rest new f same more = one-reason before x (of.Cdata us) rest new (f refl) (more (of.Cdata us))
    reasons-here before x (of.Notation name) rest new f same more = one-reason before x (of.Notation name) rest new (f refl) (more (of.Notation name))
    reasons-here before x (of.Entities es) rest new f same more = one-reason before x (of.Entities es) rest new (f refl) (more (of.Entities es))
    reasons-here before x (of.Tokens ts) rest new f same more = one-reason before x (of.Tokens ts) rest new (f refl) (more (of.Tokens ts))

    reasons-none : (xs : List Definition) (before : List Specification) → Apart xs → AllOf (IsNew before) xs → AllOf IsUnopposed xs
        → reason_of_specifications d n before (specs xs) ≡ None
    reasons-none [] before a k u = refl
    reasons-none (x ∷ xs) before a k u =
        reasons-here before x (w x) (specs xs) k.0 u.0 (reasons-none xs before a.1 k.1 u.1)
        (λ v. reasons-none xs (written x.name v ∷ before) a.1 (still-new before x.name v xs a.0 k.1) u.1)

    -- EACH ATTRIBUTE has a value that a literal gives, or none and a default that is none
    abbrev pub IsLeft : Definition → Type 0
    IsLeft x = (w x ≡ of.Implied) × ((c : Currents) → default_value d c n x ≡ Ok of.Implied) × (gives_none x.default ≡ true)

    abbrev pub Fact : Definition → Type 0
    Fact x = IsGiven d.syntax (entity_tables d) x (w x) ⊎ IsLeft x

    pub left-lacks : {A : Type 0} (x : Definition) → IsLeft x → is_given (w x) ≡ true → A
    left-lacks x l h = true-false (sym h ∙ ap is_given l.0)

    pub given-has : (x : Definition) → IsGiven d.syntax (entity_tables d) x (w x) → is_given (w x) ≡ true
    given-has x g = let a = given-again d.syntax (entity_tables d) x g.0 (w x) g.1 in a.has

    module _ (spells : SpellsValues d write) where
      given-literal : (x : Definition) → IsGiven d.syntax (entity_tables d) x (w x) → IsGivenBy d.syntax (entity_tables d) x (write (w x)) (w x)
      given-literal x g = spelled-gives d.syntax (entity_tables d) x g.0 (write (w x)) (w x) g.1 (spells x (w x) g)

      is-unopposed : (x : Definition) → definition_of d n x.name ≡ Some x → Fact x → IsUnopposed x
      is-unopposed x e (inl g) h = ap (λ o. reason_of_written d false o (Ok (write (w x)))) e ∙ given-reason d x (write (w x)) (w x) (given-literal x g)
      is-unopposed x e (inr l) h = left-lacks x l h

      is-written : (x : Definition) → Fact x → IsWritten x
      is-written x (inl g) h = given-value d x (write (w x)) (w x) (given-literal x g)
      is-written x (inr l) h = left-lacks x l h

      pub found-value : (xs : List Definition) (i : ℕ) (x : Definition) → Apart xs → slice_get xs i ≡ Some x → Fact x
          → value_in d (Some x) x.name (specs xs) ≡ some_value (w x)
      found-value xs i x a h f = value-found xs i x a h (is-written x f)

      default-none : (c : Currents) (ss : List Specification) (x : Definition) → value_in d (Some x) x.name ss ≡ some_value (w x) → Fact x
          → (if list_any (is_of x.name) ss then None else reason_in (default_value d c n x)) ≡ None
      default-none c ss x v f = by (list_any (is_of x.name) ss) refl f
        where
          by : (t : Bool) → list_any (is_of x.name) ss ≡ t → Fact x → (if t then None else reason_in (default_value d c n x)) ≡ None
          by true e f = refl
          by false e (inl g) = some-none (w x) (sym (value-some (w x) (given-has x g)) ∙ sym v ∙ none-in d (Some x) x.name ss e)
          by false e (inr l) = ap reason_in (l.1 c)

      same-value : (c : Currents) (ss : List Specification) (x : Definition) → value_in d (Some x) x.name ss ≡ some_value (w x) → Fact x
          → value_of d c n ss x ≡ w x
      same-value c ss x v (inl g) = ap (λ o. unwrap_or o (given_value (default_value d c n x))) (v ∙ value-some (w x) (given-has x g))
      same-value c ss x v (inr l) =
          ap (λ o. unwrap_or o (given_value (default_value d c n x))) (v ∙ ap some_value l.0)
          ∙ ap given_value (l.1 c) ∙ sym l.0

      defaults-none : (c : Currents) (ss : List Specification) (xs : List Definition)
          → AllOf (λ x. (if list_any (is_of x.name) ss then None else reason_in (default_value d c n x)) ≡ None) xs
          → reason_of_defaults d c n ss xs ≡ None
      defaults-none c ss [] h = refl
      defaults-none c ss (x ∷ xs) h = ap (λ o. option_or o (reason_of_defaults d c n ss xs)) h.0 ∙ defaults-none c ss xs h.1

      -- ALL OF THEM
      module _ (xs : List Definition) (apart : Apart xs) (all : xs ≡ attributes d n) (facts : (i : ℕ) (x : Definition) → slice_get xs i ≡ Some x → Fact x) where
        defined : (i : ℕ) (x : Definition) → slice_get xs i ≡ Some x → definition_of d n x.name ≡ Some x
        defined i x h = ap (λ (ys : List Definition). find (λ (y : Definition). bytes_eq x.name y.name) ys) (sym all) ∙ found-apart xs i x apart h

        pub specified-none : reason_of_specifications d n [] (specs xs) ≡ None
        specified-none =
            reasons-none xs [] apart (all-of (IsNew []) xs (λ i x h. refl))
            (all-of IsUnopposed xs (λ i x h. is-unopposed x (defined i x h) (facts i x h)))

        pub left-none : (c : Currents) → reason_of_defaults d c n (specs xs) xs ≡ None
        left-none c =
            defaults-none c (specs xs) xs
            (all-of (λ x. (if list_any (is_of x.name) (specs xs) then None else reason_in (default_value d c n x)) ≡ None) xs
            (λ i x h. default-none c (specs xs) x (found-value xs i x apart h (facts i x h)) (facts i x h)))

        pub values-same : (c : Currents) (f : Definition → Attribute)
            → ((x : Definition) → f x ≡ valued_as x (w x))
            → map (attribute_of d c n (specs xs)) xs ≡ map f xs
        values-same c f is =
            map-all (attribute_of d c n (specs xs)) f xs
            (all-of (λ x. attribute_of d c n (specs xs) x ≡ f x) xs
            (λ i x h. ap (valued_as x) (same-value c (specs xs) x (found-value xs i x apart h (facts i x h)) (facts i x h)) ∙ sym (is x)))
