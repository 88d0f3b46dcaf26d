-- Where no reason holds against a start, each of its attributes has its value.
use Rattle.std.proofs.Common.{◌≡◌, ℕ, zero, suc, Bool, true, false, ◌||◌, List, [], ◌∷◌, Option, Some, None, option_map, option_and_then, unwrap_or, find, Result, Ok, Err, refl, sym, ap, subst, ◌∙◌, if◌then◌else◌}
use Rattle.std.specs.List.{list_any, slice_get}
use Rattle.std.specs.Option.{option_or}
use Rattle.std.proofs.lemmas.Option.{slice_get-map}
use Rattle.std.proofs.lemmas.Slice.Eq.{bytes_eq-Decides}
use Rattle.sgml_scan.specs.text.declared.reason.Reason.{Reason}
use Rattle.sgml_scan.specs.text.declared.reason.Reason.TheVariants as reason
use Rattle.sgml_scan.specs.text.declared.unit.Unit.{Unit as AnyUnit}
use Rattle.sgml_theory_reading.specs.attr.declared.definition.Definition.{Definition}
use Rattle.sgml_theory_reading.specs.attr.declared.error.AttrError.{AttrError}
use Rattle.sgml_theory_reading.specs.attr.declared.error.AttrError.TheVariants as against
use Rattle.sgml_theory_reading.specs.attr.declared.value.AttrValue.{AttrValue}
use Rattle.sgml_theory_reading.specs.attr.Literal.{interpreted}
use Rattle.sgml_theory_reading.specs.attr.Values.{value}
use Rattle.sgml_theory_reading.specs.dtd.Doctypes.{Doctype}
use Rattle.sgml_theory_reading.specs.Names.{Name}
use Rattle.sgml_theory_reading.specs.Types.{attributes, entity_tables}
use Rattle.sgml_theory_reading.specs.Pieces.{Specification, How, Start}
use Rattle.sgml_theory_reading.specs.State.{State}
use Rattle.sgml_theory_reading.specs.Currents.{Currents, is_of, if_value, value_written, value_in}
use Rattle.sgml_theory_spelling.specs.Attributes.{passes_litlen, reason_of_written, definition_named, stands_in, reason_of_specification, reason_of_specifications, default_value, reason_in, reason_of_defaults, unvalued, given_value, value_of, attribute_of, valued}
use Rattle.sgml_theory_spelling.specs.Named.{AreApart}
use Rattle.sgml_theory_spelling.specs.Valued.{error_in, ranked, IsWritten, StartsHaveValues}
use Rattle.sgml_theory_spelling.proofs.Named.{no-definition, one-definition, found-apart}
use Rattle.sgml_theory_spelling.proofs.Valued.{rows-are-ranked}

no-reason : {A : Type 0} (r : Reason) → Some r ≡ None → A
no-reason r h = absurd (never h)
  where
    never : Some r ≡ None → ⊥
    never h = cc

or-first : (a b : Option Reason) → option_or a b ≡ None → a ≡ None
or-first (Some r) b h = no-reason r h
or-first None b h = refl

or-second : (a b : Option Reason) → option_or a b ≡ None → b ≡ None
or-second (Some r) b h = no-reason r h
or-second None b h = h

-- WITHOUT A SPECIFICATION

default-reason : (d : Doctype) (current : Currents) (n : Name) (ss : List Specification) (xs : List Definition) (i : ℕ) (x : Definition)
    → reason_of_defaults d current n ss xs ≡ None → slice_get xs i ≡ Some x
    → (if list_any (is_of x.name) ss then None else reason_in (default_value d current n x)) ≡ None
default-reason d current n ss [] i x h e = no-definition x e
default-reason d current n ss (y ∷ ys) zero x h e =
    ap (λ (z : Definition). if list_any (is_of z.name) ss then None else reason_in (default_value d current n z)) (sym (one-definition y x e))
    ∙ or-first (if list_any (is_of y.name) ss then None else reason_in (default_value d current n y)) (reason_of_defaults d current n ss ys) h
default-reason d current n ss (y ∷ ys) (suc i) x h e =
    default-reason d current n ss ys i x
    (or-second (if list_any (is_of y.name) ss then None else reason_in (default_value d current n y)) (reason_of_defaults d current n ss ys) h) e

given-is : (r : Result AttrValue AttrError) → reason_in r ≡ None → r ≡ Ok (given_value r)
given-is (Ok v) h = refl
given-is (Err e) h = no-reason _ h

none-found : (p : Specification → Bool) (ss : List Specification) → find p ss ≡ None → list_any p ss ≡ false
none-found p [] h = refl
none-found p (s ∷ ss) h = by (p s) refl (λ e. none-found p ss e) h
  where
    no-specification : {A : Type 0} → Some s ≡ None → A
    no-specification h = absurd (never h)
      where
        never : Some s ≡ None → ⊥
        never h = cc

    by : (t : Bool) → p s ≡ t → (find p ss ≡ None → list_any p ss ≡ false) → (if t then Some s else find p ss) ≡ None → list_any p (s ∷ ss) ≡ false
    by true e later h = no-specification h
    by false e later h = ap (λ t. t || list_any p ss) e ∙ later h

-- the value is that of the first specification of the attribute
first-value : (d : Doctype) (x : Definition) (ss : List Specification)
    → value_in d (Some x) x.name ss ≡ option_and_then (λ (s : Specification). value_written d (Some x) s.written) (find (is_of x.name) ss)
first-value d x [] = refl
first-value d x (s ∷ ss) = by (is_of x.name s) (first-value d x ss)
  where
    by : (t : Bool) → value_in d (Some x) x.name ss ≡ option_and_then (λ (s : Specification). value_written d (Some x) s.written) (find (is_of x.name) ss)
        → (if t then value_written d (Some x) s.written else value_in d (Some x) x.name ss)
        ≡ option_and_then (λ (s : Specification). value_written d (Some x) s.written) (if t then Some s else find (is_of x.name) ss)
    by true h = refl
    by false h = h

-- BY A SPECIFICATION

-- no reason holds against the first that passes a test
record Unopposed (d : Doctype) (n : Name) (p : Specification → Bool) (s : Specification) : Type 0 where
  twice : Bool
  reason : reason_of_written d twice (definition_named d n s.attribute) s.written ≡ None
  passes : p s ≡ true

unopposed : (d : Doctype) (n : Name) (p : Specification → Bool) (before ss : List Specification) (s : Specification)
    → reason_of_specifications d n before ss ≡ None → find p ss ≡ Some s → Unopposed d n p s
unopposed d n p before [] s h e = absurd (never e)
  where
    never : None ≡ Some s → ⊥
    never e = cc
unopposed d n p before (u ∷ us) s h e =
    by (p u) refl (λ f. unopposed d n p (u ∷ before) us s (or-second (reason_of_specification d n before u) (reason_of_specifications d n (u ∷ before) us) h) f) e
  where
    same : Some u ≡ Some s → u ≡ s
    same e = cc

    by : (t : Bool) → p u ≡ t → (find p us ≡ Some s → Unopposed d n p s) → (if t then Some u else find p us) ≡ Some s → Unopposed d n p s
    by true f later e =
        subst (Unopposed d n p) (same e)
        (record {
          twice = stands_in u.attribute before;
          reason = or-first (reason_of_specification d n before u) (reason_of_specifications d n (u ∷ before) us) h;
          passes = f;
        })
    by false f later e = later e

-- it names the attribute
names-it : (a : Name) (o : Option Name) (w : Result (List AnyUnit) Reason) → is_of a (record { attribute = o; written = w }) ≡ true → o ≡ Some a
names-it a None w h = absurd (never h)
  where
    never : false ≡ true → ⊥
    never h = cc
names-it a (Some b) w h = ap Some (sym ((bytes_eq-Decides a b).0 h))

-- no row holds exactly where the value is one
ranked-none : (long twice : Bool) (o : Option AttrError) → ranked long twice o ≡ None → o ≡ None
ranked-none long twice None h = refl
ranked-none long twice (Some against.NameLength) h = no-reason reason.NameLength h
ranked-none true twice (Some _) h = no-reason reason.LiteralLimit h
ranked-none false twice (Some against.NotationUnknown) h = no-reason reason.NotationUnknown h
ranked-none false true (Some _) h = no-reason reason.Twice h
ranked-none false false (Some _) h = no-reason _ h

value-is : (r : Result AttrValue AttrError) (other : AttrValue) → error_in r ≡ None → r ≡ Ok (unwrap_or (if_value r) other)
value-is (Ok v) other h = refl
value-is (Err e) other h = absurd (never h)
  where
    never : Some e ≡ None → ⊥
    never h = cc

written-is : (d : Doctype) (x : Definition) (twice : Bool) (w : Result (List AnyUnit) Reason) (other : AttrValue)
    → reason_of_written d twice (Some x) w ≡ None → IsWritten d x w (unwrap_or (value_written d (Some x) w) other)
written-is d x twice (Err r) other h = no-reason r h
written-is d x twice (Ok units) other h =
    let us = interpreted x.declared units in
    let v = value d.syntax x (entity_tables d) None (Some us) in
    value-is v other
    (ranked-none (passes_litlen d.syntax us) twice (error_in v) (sym (rows-are-ranked d.syntax x (entity_tables d) twice us None) ∙ h))

-- EACH ATTRIBUTE

specified-is : (d : Doctype) (n : Name) (ss : List Specification) (i : ℕ) (x : Definition) (other : AttrValue) (s : Specification)
    → AreApart (attributes d n) → reason_of_specifications d n [] ss ≡ None → slice_get (attributes d n) i ≡ Some x → find (is_of x.name) ss ≡ Some s
    → IsWritten d x s.written (unwrap_or (value_in d (Some x) x.name ss) other)
specified-is d n ss i x other s a h e f =
    let u = unopposed d n (is_of x.name) [] ss s h f in
    let named : s.attribute ≡ Some x.name = names-it x.name s.attribute s.written u.passes in
    let its : definition_named d n s.attribute ≡ Some x = ap (definition_named d n) named ∙ found-apart (attributes d n) i x a e in
    let first : value_in d (Some x) x.name ss ≡ value_written d (Some x) s.written =
    first-value d x ss ∙ ap (option_and_then (λ (s : Specification). value_written d (Some x) s.written)) f in
    subst (λ o. IsWritten d x s.written (unwrap_or o other)) (sym first)
    (written-is d x u.twice s.written other (sym (ap (λ o. reason_of_written d u.twice o s.written) its) ∙ u.reason))

defaulted-is : (d : Doctype) (current : Currents) (n : Name) (ss : List Specification) (i : ℕ) (x : Definition)
    → reason_of_defaults d current n ss (attributes d n) ≡ None → slice_get (attributes d n) i ≡ Some x → find (is_of x.name) ss ≡ None
    → default_value d current n x ≡ Ok (value_of d current n ss x)
defaulted-is d current n ss i x h e f =
    let none = none-found (is_of x.name) ss f in
    let reason : reason_in (default_value d current n x) ≡ None =
    sym (ap (λ t. if t then None else reason_in (default_value d current n x)) none) ∙ default-reason d current n ss (attributes d n) i x h e in
    let first : value_in d (Some x) x.name ss ≡ None = first-value d x ss ∙ ap (option_and_then (λ (s : Specification). value_written d (Some x) s.written)) f in
    given-is (default_value d current n x) reason ∙ ap (λ o. Ok (unwrap_or o (given_value (default_value d current n x)))) (sym first)

valued-at : (s : State) (n : Name) (ss : List Specification) (how : How) (proper at_once : Bool) (i : ℕ) (x : Definition)
    → slice_get (attributes s.context.doctype n) i ≡ Some x
    → slice_get (valued s (Start n ss how proper at_once)) i ≡ Some (attribute_of s.context.doctype s.currents n ss x)
unfolding valued
valued-at s n ss how proper at_once i x e =
    slice_get-map (attribute_of s.context.doctype s.currents n ss) (attributes s.context.doctype n) i
    ∙ ap (option_map (attribute_of s.context.doctype s.currents n ss)) e

reasons-apart : (s : State) (n : Name) (ss : List Specification) (how : How) (proper at_once : Bool) → unvalued s (Start n ss how proper at_once) ≡ None
    → (reason_of_specifications s.context.doctype n [] ss ≡ None) × (reason_of_defaults s.context.doctype s.currents n ss (attributes s.context.doctype n) ≡ None)
unfolding unvalued
reasons-apart s n ss how proper at_once h =
    let one = reason_of_specifications s.context.doctype n [] ss in
    let other = reason_of_defaults s.context.doctype s.currents n ss (attributes s.context.doctype n) in
    (or-first one other h, or-second one other h)

pub starts-have-values : StartsHaveValues
starts-have-values s n ss how proper at_once i x a h e =
    let d = s.context.doctype in
    let none = reasons-apart s n ss how proper at_once h in (
      value_of d s.currents n ss x,
      valued-at s n ss how proper at_once i x e,
      record {
        specified = λ u f. specified-is d n ss i x (given_value (default_value d s.currents n x)) u a none.0 e f;
        defaulted = λ f. defaulted-is d s.currents n ss i x none.1 e f;
      },
    )
