-- A start that is written again has its values, leaves the same current values, and ends at once where it did.
use Rattle.std.proofs.Common.{◌≡◌, ℕ, Bool, true, false, ◌&&◌, List, [], ◌∷◌, ◌++◌, map, Option, Some, None, Ok, refl, sym, ap, subst, ◌∙◌, inl, inr, if◌then◌else◌}
use Rattle.std.specs.List.{slice_get}
use Rattle.std.specs.Option.{option_or}
use Rattle.sgml_full.specs.attr.declared.definition.Default.{Default}
use Rattle.sgml_full.specs.attr.declared.definition.Default.TheVariants as defaults
use Rattle.sgml_full.specs.attr.declared.definition.Definition.{Definition}
use Rattle.sgml_full.specs.attr.declared.value.AttrValue.{AttrValue}
use Rattle.sgml_full.specs.attr.Values.{default_gives}
use Rattle.sgml_full.specs.dtd.Doctypes.{Doctype}
use Rattle.sgml_theory_starts.specs.theory_reading.Names.{Name}
use Rattle.sgml_theory_starts.specs.theory_reading.Types.{attributes, definition_of, entity_tables, has_same_list, has_current, is_current_default, default_is}
use Rattle.sgml_theory_starts.specs.theory_reading.Pieces.{Specification, How, Start}
use Rattle.sgml_theory_starts.specs.theory_reading.Facets.{specified}
use Rattle.sgml_theory_starts.specs.theory_reading.Currents.{Currents, value_in}
use Rattle.sgml_theory_starts.specs.theory_reading.State.{State}
use Rattle.sgml_theory_starts.specs.theory_spelling.Attributes.{reason_of_specifications, default_value, reason_of_defaults, value_of, attribute_of, unvalued, valued}
use Rattle.sgml_theory_values.specs.Starts.{Writer, specification, specifications, SpellsValues, DefinitionsHold, CurrentsHold}
use Rattle.sgml_theory_values.specs.Laws.{WrittenStartsHaveTheirValues, CurrentValuesStay}
use Rattle.sgml_full.specs.Full.{is_given}
use Rattle.sgml_theory_values.proofs.Lists.{true-false, Apart, are-apart, found-one, found-apart}
use Rattle.sgml_theory_values.proofs.Written.{some_value, value-some, specs, Fact, given-has, found-value, specified-none, left-none, values-same}
use Rattle.sgml_theory_values.proofs.Facts.{or-first, or-second, Shown, shown, current-is, fact-of}

-- ITS SPECIFICATIONS, definition by definition
pub specs-of : (write : Writer) (d : Doctype) (c : Currents) (n : Name) (ss : List Specification) (xs : List Definition)
    → specifications write (map (attribute_of d c n ss) xs) ≡ specs write d n (value_of d c n ss) xs
specs-of write d c n ss [] = refl
specs-of write d c n ss (x ∷ xs) = ap (λ ts. specification write x.name (value_of d c n ss x) ++ ts) (specs-of write d c n ss xs)

module _ (write : Writer) (d : Doctype) (c : Currents) (n : Name) (ss : List Specification) (definitions : DefinitionsHold d) (currents : CurrentsHold d c)
    (reasons : reason_of_specifications d n [] ss ≡ None) (left : reason_of_defaults d c n ss (attributes d n) ≡ None) where
  abbrev pub xs : List Definition
  xs = attributes d n

  abbrev pub w : Definition → AttrValue
  w = value_of d c n ss

  abbrev pub again : List Specification
  again = specs write d n w xs

  pub apart : Apart xs
  apart = are-apart xs (definitions.apart n)

  pub defined : (i : ℕ) (x : Definition) → slice_get xs i ≡ Some x → definition_of d n x.name ≡ Some x
  defined i x h = found-apart xs i x apart h

  pub seen : (i : ℕ) (x : Definition) → slice_get xs i ≡ Some x → Shown d c n ss x (w x)
  seen i x h = shown d c n ss xs reasons left i x h (defined i x h)

  pub fact : (i : ℕ) (x : Definition) → slice_get xs i ≡ Some x → Fact write d n w x
  fact i x h = fact-of d c n ss x (w x) (definitions.defaults n i x h) (λ e. currents.given n i x (w x) h e) (seen i x h)

  module _ (spells : SpellsValues d write) where
    no-reason : (k : Currents) → option_or (reason_of_specifications d n [] again) (reason_of_defaults d k n again xs) ≡ None
    no-reason k =
        ap (λ o. option_or o (reason_of_defaults d k n again xs)) (specified-none write d n w spells xs apart refl fact)
        ∙ left-none write d n w spells xs apart refl fact k

    same-values : (k : Currents) → map (attribute_of d k n again) xs ≡ map (attribute_of d c n ss) xs
    same-values k = values-same write d n w spells xs apart refl fact k (attribute_of d c n ss) (λ x. refl)

    its-value : (i : ℕ) (x : Definition) → slice_get xs i ≡ Some x → value_in d (Some x) x.name again ≡ some_value (w x)
    its-value i x h = found-value write d n w spells xs i x apart h (fact i x h)

    -- CURRENT VALUES
    abbrev Stays : Option Definition → Name → Name → Type 0
    Stays o a e = option_or (value_in d o a again) (c e a) ≡ option_or (value_in d o a ss) (c e a)

    current-default : (x : Definition) (how : Default) → x.default ≡ how → is_current_default how ≡ true → (v : AttrValue) → default_value d c n x ≡ Ok v
        → c n x.name ≡ Some v
    current-default x defaults.Current e h v k = current-is (c n x.name) v (sym (ap (default_gives d.syntax x.declared (entity_tables d) (c n x.name)) e) ∙ k)
    current-default x (defaults.Value us) e h v k = true-false (sym h)
    current-default x (defaults.Fixed us) e h v k = true-false (sym h)
    current-default x defaults.Required e h v k = true-false (sym h)
    current-default x defaults.Conref e h v k = true-false (sym h)
    current-default x defaults.Implied e h v k = true-false (sym h)

    stays-here : (e : Name) (i : ℕ) (x : Definition) → slice_get xs i ≡ Some x → is_current_default x.default ≡ true → c n x.name ≡ c e x.name
        → Shown d c n ss x (w x) → Fact write d n w x → Stays (Some x) x.name e
    stays-here e i x h cur same (inl s) (inr l) = true-false (sym (given-has write d n w x s.given) ∙ ap is_given l.0)
    stays-here e i x h cur same (inl s) (inl g) =
        ap (λ o. option_or o (c e x.name)) (its-value i x h ∙ value-some (w x) (given-has write d n w x g) ∙ sym s.value)
    stays-here e i x h cur same (inr s) (inl g) =
        let current : c n x.name ≡ Some (w x) = current-default x x.default refl cur (w x) s.default in
        ap (λ o. option_or o (c e x.name)) (its-value i x h ∙ value-some (w x) (given-has write d n w x g))
        ∙ sym current ∙ same ∙ sym (ap (λ o. option_or o (c e x.name)) s.value)
    stays-here e i x h cur same (inr s) (inr l) =
        ap (λ o. option_or o (c e x.name)) (its-value i x h ∙ ap some_value l.0 ∙ sym s.value)

    stays-defined : (e a : Name) (o : Option Definition) → definition_of d n a ≡ o → default_is is_current_default o ≡ true → c n a ≡ c e a → Stays o a e
    stays-defined e a None is h same = true-false (sym h)
    stays-defined e a (Some x) is h same =
        let f = found-one xs a x is in
        subst (λ b. Stays (Some x) b e) (sym f.named)
        (stays-here e f.place x f.stands h (subst (λ b. c n b ≡ c e b) f.named same) (seen f.place x f.stands) (fact f.place x f.stands))

    stays-by : (e a : Name) (t u : Bool) → has_same_list d n e ≡ t → default_is is_current_default (definition_of d n a) ≡ u
        → option_or (if t && u then value_in d (definition_of d n a) a again else None) (c e a)
        ≡ option_or (if t && u then value_in d (definition_of d n a) a ss else None) (c e a)
    stays-by e a true true p q = stays-defined e a (definition_of d n a) refl q (currents.shared n e a p)
    stays-by e a true false p q = refl
    stays-by e a false u p q = refl

pub split-apart : (s : State) (n : Name) (ss : List Specification) (how : How) (proper at_once : Bool) → unvalued s (Start n ss how proper at_once) ≡ None
    → (reason_of_specifications s.context.doctype n [] ss ≡ None) × (reason_of_defaults s.context.doctype s.currents n ss (attributes s.context.doctype n) ≡ None)
unfolding unvalued
split-apart s n ss how proper at_once h =
    let one = reason_of_specifications s.context.doctype n [] ss in
    let other = reason_of_defaults s.context.doctype s.currents n ss (attributes s.context.doctype n) in
    (or-first one other h, or-second one other h)

pub written-starts : WrittenStartsHaveTheirValues
unfolding unvalued valued
written-starts write s t n ss how how' proper proper' at_once at_once' spells h same =
    let d = s.context.doctype in
    let k = split-apart s n ss how proper at_once h.unopposed in
    let is = specs-of write d s.currents n ss (attributes d n) in
    let reasons = no-reason write d s.currents n ss h.definitions h.currents k.0 k.1 spells t.currents in
    let values = same-values write d s.currents n ss h.definitions h.currents k.0 k.1 spells t.currents in
    let ss' = specifications write (map (attribute_of d s.currents n ss) (attributes d n)) in (
      ap (λ (e : Doctype). option_or (reason_of_specifications e n [] ss') (reason_of_defaults e t.currents n ss' (attributes e n))) same
          ∙ ap (λ ts. option_or (reason_of_specifications d n [] ts) (reason_of_defaults d t.currents n ts (attributes d n))) is
          ∙ reasons,
      ap (λ (e : Doctype). map (attribute_of e t.currents n ss') (attributes e n)) same
          ∙ ap (λ ts. map (attribute_of d t.currents n ts) (attributes d n)) is
          ∙ values,
    )

pub current-values : CurrentValuesStay
unfolding valued specified has_current
current-values write s t n ss how how' proper proper' at_once at_once' spells h same currents e a =
    let d = s.context.doctype in
    let k = split-apart s n ss how proper at_once h.unopposed in
    let is = specs-of write d s.currents n ss (attributes d n) in
    let after = λ (f : Doctype) (ts : List Specification) (o : Option AttrValue).
    option_or (if has_same_list f n e && default_is is_current_default (definition_of f n a) then value_in f (definition_of f n a) a ts else None) o in
    ap (λ (f : Doctype). after f (specifications write (map (attribute_of d s.currents n ss) (attributes d n))) (t.currents e a)) same
    ∙ ap (after d (specifications write (map (attribute_of d s.currents n ss) (attributes d n)))) (currents e a)
    ∙ ap (λ ts. after d ts (s.currents e a)) is
    ∙ stays-by write d s.currents n ss h.definitions h.currents k.0 k.1 spells e a (has_same_list d n e) (default_is is_current_default (definition_of d n a)) refl refl
