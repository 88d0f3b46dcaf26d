-- A start that is written again ends at once where the first one does.
use Rattle.std.proofs.Common.{◌≡◌, ℕ, zero, suc, Bool, true, false, ◌||◌, ◌&&◌, List, [], ◌∷◌, Option, Some, None, Ok, find, refl, sym, ap, ◌∙◌, inl, inr}
use Rattle.std.specs.List.{list_any, slice_get}
use Rattle.std.proofs.lemmas.List.Folds.{list_any-append}
use Rattle.sgml_full.specs.attr.declared.definition.Default.{Default}
use Rattle.sgml_full.specs.attr.declared.definition.Default.TheVariants as defaults
use Rattle.sgml_full.specs.attr.declared.definition.Definition.{Definition}
use Rattle.sgml_full.specs.attr.declared.value.AttrValue.{AttrValue}
use Rattle.sgml_full.specs.attr.Values.{default_gives}
use Rattle.sgml_full.specs.dtd.Doctypes.{Doctype}
use Rattle.sgml_theory_starts.specs.theory_reading.Names.{Name}
use Rattle.sgml_theory_starts.specs.theory_reading.Types.{attributes, definition_of, entity_tables, has_conref, is_conref_default, default_is, type_of, content_of}
use Rattle.sgml_theory_starts.specs.theory_reading.Pieces.{Specification}
use Rattle.sgml_theory_starts.specs.theory_reading.Currents.{Currents, is_of}
use Rattle.sgml_theory_starts.specs.theory_reading.Characters.{is_void, is_conref_of, ends_at_once}
use Rattle.sgml_theory_starts.specs.theory_spelling.Attributes.{reason_of_specifications, default_value, reason_of_defaults, value_of, valued}
use Rattle.sgml_theory_values.specs.Starts.{Writer, DefinitionsHold, CurrentsHold}
use Rattle.sgml_theory_values.specs.Laws.{EndsAtOnceStay}
use Rattle.sgml_full.specs.Full.{is_given}
use Rattle.sgml_theory_values.proofs.Lists.{none-some, true-false, or-true, same-bytes, found-one, any-found, found-some}
use Rattle.sgml_theory_values.proofs.Written.{written, one_spec, specs, given-has, any-one}
use Rattle.sgml_theory_values.proofs.Facts.{Shown, implied-is}
use Rattle.sgml_theory_values.proofs.Starts.{specs-of, split-apart, seen, defined}

alike : (a b : Bool) → (a ≡ true → b ≡ true) → (b ≡ true → a ≡ true) → a ≡ b
alike true b f g = sym (f refl)
alike false true f g = g refl
alike false false f g = refl

both : (a b : Bool) → (a && b) ≡ true → (a ≡ true) × (b ≡ true)
both true b e = (refl, e)
both false b e = true-false (sym e)

-- one of them passes a test where the specification of one of the definitions does
record Passes (write : Writer) (w : Definition → AttrValue) (p : Specification → Bool) (xs : List Definition) : Type 0 where
  place : ℕ
  x : Definition
  stands : slice_get xs place ≡ Some x
  has : is_given (w x) ≡ true
  passes : p (written write x.name (w x)) ≡ true

module _ (write : Writer) (d : Doctype) (n : Name) (w : Definition → AttrValue) (p : Specification → Bool) where
  one-passes : (xs : List Definition) → list_any p (specs write d n w xs) ≡ true → Passes write w p xs
  one-passes [] h = true-false (sym h)
  one-passes (x ∷ xs) h =
      by (is_given (w x) && p (written write x.name (w x))) refl (one-passes xs)
      (sym (list_any-append p (one_spec write d n w x) (specs write d n w xs) ∙ ap (λ t. t || list_any p (specs write d n w xs)) (any-one write p x.name (w x))) ∙ h)
    where
      by : (t : Bool) → (is_given (w x) && p (written write x.name (w x))) ≡ t → (list_any p (specs write d n w xs) ≡ true → Passes write w p xs)
          → (t || list_any p (specs write d n w xs)) ≡ true → Passes write w p (x ∷ xs)
      by true e later h = let k = both (is_given (w x)) (p (written write x.name (w x))) e in record { place = 0; x = x; stands = refl; has = k.0; passes = k.1 }
      by false e later h = let k = later h in record { place = suc k.place; x = k.x; stands = k.stands; has = k.has; passes = k.passes }

  passes-one : (xs : List Definition) (i : ℕ) (x : Definition) → slice_get xs i ≡ Some x → is_given (w x) ≡ true → p (written write x.name (w x)) ≡ true
      → list_any p (specs write d n w xs) ≡ true
  passes-one [] i x h k l = none-some x h
  passes-one (y ∷ ys) zero x h k l =
      list_any-append p (one_spec write d n w y) (specs write d n w ys)
      ∙ ap (λ (z : Definition). list_any p (one_spec write d n w z) || list_any p (specs write d n w ys)) (one y x h)
      ∙ ap (λ t. t || list_any p (specs write d n w ys)) (any-one write p x.name (w x) ∙ ap (λ t. t && p (written write x.name (w x))) k ∙ l)
    where
      one : (y x : Definition) → Some y ≡ Some x → y ≡ x
      one y x e = cc
  passes-one (y ∷ ys) (suc i) x h k l =
      list_any-append p (one_spec write d n w y) (specs write d n w ys)
      ∙ ap (λ t. list_any p (one_spec write d n w y) || t) (passes-one ys i x h k l)
      ∙ or-true (list_any p (one_spec write d n w y))

module _ (write : Writer) (d : Doctype) (c : Currents) (n : Name) (ss : List Specification) (definitions : DefinitionsHold d) (currents : CurrentsHold d c)
    (reasons : reason_of_specifications d n [] ss ≡ None) (left : reason_of_defaults d c n ss (attributes d n) ≡ None) where
  abbrev xs : List Definition
  xs = attributes d n

  abbrev w : Definition → AttrValue
  w = value_of d c n ss

  abbrev refers_by : Specification → Bool
  refers_by s = is_conref_of d n s.attribute

  looked : (i : ℕ) (x : Definition) → slice_get xs i ≡ Some x → Shown d c n ss x (w x)
  looked = seen write d c n ss definitions currents reasons left

  found : (i : ℕ) (x : Definition) → slice_get xs i ≡ Some x → definition_of d n x.name ≡ Some x
  found = defined write d c n ss definitions currents reasons left

  -- an attribute whose default is #CONREF has a value only by a specification
  conref-lacks : {A : Type 0} (x : Definition) (how : Default) → x.default ≡ how → is_conref_default how ≡ true → default_value d c n x ≡ Ok (w x) → is_given (w x) ≡ true → A
  conref-lacks x defaults.Conref e h k has =
      true-false (sym has ∙ ap is_given (implied-is (w x) (sym (ap (default_gives d.syntax x.declared (entity_tables d) (c n x.name)) e) ∙ k)))
  conref-lacks x defaults.Current e h k has = true-false (sym h)
  conref-lacks x (defaults.Value us) e h k has = true-false (sym h)
  conref-lacks x (defaults.Fixed us) e h k has = true-false (sym h)
  conref-lacks x defaults.Required e h k has = true-false (sym h)
  conref-lacks x defaults.Implied e h k has = true-false (sym h)

  back : list_any refers_by (specs write d n w xs) ≡ true → list_any refers_by ss ≡ true
  unfolding has_conref
  back h = by p.x (p.passes) (found p.place p.x p.stands) p.has (looked p.place p.x p.stands)
    where
      p : Passes write w refers_by xs
      p = one-passes write d n w refers_by xs h

      by : (x : Definition) → default_is is_conref_default (definition_of d n x.name) ≡ true → definition_of d n x.name ≡ Some x → is_given (w x) ≡ true
          → Shown d c n ss x (w x) → list_any refers_by ss ≡ true
      by x r f has (inl s) = any-found (is_of x.name) refers_by ss s.first s.found (ap (is_conref_of d n) s.names ∙ r)
      by x r f has (inr s) = conref-lacks x x.default refl (sym (ap (default_is is_conref_default) f) ∙ r) s.default has

  forth-in : (s : Specification) (i : ℕ) (x : Definition) → find refers_by ss ≡ Some s → s.attribute ≡ Some x.name → slice_get xs i ≡ Some x → is_conref_default x.default ≡ true
      → Shown d c n ss x (w x) → list_any refers_by (specs write d n w xs) ≡ true
  unfolding has_conref
  forth-in s i x h named stands r (inl k) =
      passes-one write d n w refers_by xs i x stands (given-has write d n w x k.given) (ap (default_is is_conref_default) (found i x stands) ∙ r)
  forth-in s i x h named stands r (inr k) =
      true-false (sym (any-found refers_by (is_of x.name) ss s h (ap (λ o. is_of x.name (record { attribute = o; written = s.written })) named ∙ same-bytes x.name)) ∙ k.none)

  forth-by : (s : Specification) (a : Name) (o : Option Definition) → find refers_by ss ≡ Some s → s.attribute ≡ Some a → definition_of d n a ≡ o
      → default_is is_conref_default o ≡ true → list_any refers_by (specs write d n w xs) ≡ true
  forth-by s a None h named is r = true-false (sym r)
  forth-by s a (Some x) h named is r =
      let f = found-one xs a x is in
      forth-in s f.place x h (named ∙ ap Some f.named) f.stands r (looked f.place x f.stands)

  forth-named : (s : Specification) (o : Option Name) → find refers_by ss ≡ Some s → s.attribute ≡ o → is_conref_of d n o ≡ true
      → list_any refers_by (specs write d n w xs) ≡ true
  unfolding has_conref
  forth-named s None h named r = true-false (sym r)
  forth-named s (Some a) h named r = forth-by s a (definition_of d n a) h named refl r

  forth : list_any refers_by ss ≡ true → list_any refers_by (specs write d n w xs) ≡ true
  forth h = let f = found-some refers_by ss h in forth-named f.0 f.0.attribute f.1 refl f.2

  pub refers-alike : list_any refers_by (specs write d n w xs) ≡ list_any refers_by ss
  refers-alike = alike (list_any refers_by (specs write d n w xs)) (list_any refers_by ss) back forth

pub ends-stay : EndsAtOnceStay
unfolding valued ends_at_once
ends-stay write s n ss how proper at_once spells h =
    let d = s.context.doctype in
    let k = split-apart s n ss how proper at_once h.unopposed in
    ap (λ ts. is_void (content_of (type_of d n)) || list_any (λ (u : Specification). is_conref_of d n u.attribute) ts) (specs-of write d s.currents n ss (attributes d n))
    ∙ ap (λ t. is_void (content_of (type_of d n)) || t) (refers-alike write d s.currents n ss h.definitions h.currents k.0 k.1)
