-- An element refers in a full document where it does.
use Rattle.std.proofs.Common.{◌≡◌, Bool, true, false, ◌||◌, ◌&&◌, List, [], ◌∷◌, map, Option, None, Some, is_some, option_map, unwrap_or, ℕ, refl, sym, ap, ◌∙◌}
use Rattle.std.specs.List.{list_any}
use Rattle.std.proofs.lemmas.List.Folds.{list_any-append}
use Rattle.sgml_full.specs.attr.declared.definition.Default.{Default}
use Rattle.sgml_full.specs.attr.declared.definition.Default.TheVariants as defaults
use Rattle.sgml_full.specs.attr.declared.definition.Definition.{Definition}
use Rattle.sgml_full.specs.attr.declared.value.AttrValue.{AttrValue}
use Rattle.sgml_theory_starts.specs.decl_forms.declared.element.ContentForm.{ContentForm}
use Rattle.sgml_theory_starts.specs.decl_forms.declared.element.ContentForm.TheVariants as form
use Rattle.sgml_full.specs.dtd_elements.Types.{ElementType}
use Rattle.sgml_full.specs.dtd.Doctypes.{Doctype, definitions_for}
use Rattle.sgml_theory_starts.specs.theory_reading.Names.{Name}
use Rattle.sgml_theory_starts.specs.theory_reading.Types as types
use Rattle.sgml_theory_starts.specs.theory_reading.Types.{content_in, element_type, is_declared, type_of, undeclared, attributes, definition_of, has_conref, is_conref_default, default_is}
use Rattle.sgml_theory_starts.specs.theory_reading.Pieces.{Specification, Start}
use Rattle.sgml_theory_starts.specs.theory_reading.Currents.{Currents}
use Rattle.sgml_theory_starts.specs.theory_reading.Characters.{is_void, is_conref_of, ends_at_once}
use Rattle.sgml_theory_starts.specs.theory_reading.Reads.{Attribute}
use Rattle.sgml_theory_starts.specs.theory_spelling.Attributes.{value_of, attribute_of, valued}
use Rattle.sgml_full.specs.Full.{refers, is_conref, is_given, content_of, inside_of, ending}
use Rattle.sgml_theory_values.specs.Laws.{ReferencesStay, no_bytes, EndsAreWritten}
use Rattle.sgml_theory_values.specs.Full.{value_read}
use Rattle.sgml_theory_values.proofs.Lists.{true-false, AllOf, all-of}
use Rattle.sgml_theory_values.proofs.Written.{one_spec, specs, any-one}
use Rattle.sgml_theory_values.proofs.Starts.{split-apart, defined}
use Rattle.sgml_theory_values.proofs.Ends.{refers-alike}

same-default : (how : Default) → is_conref how ≡ is_conref_default how
same-default defaults.Conref = refl
same-default defaults.Current = refl
same-default (defaults.Value us) = refl
same-default (defaults.Fixed us) = refl
same-default defaults.Required = refl
same-default defaults.Implied = refl

swapped : (a b : Bool) → (a && b) ≡ (b && a)
swapped true true = refl
swapped true false = refl
swapped false true = refl
swapped false false = refl

module _ (d : Doctype) (n : Name) (w : Definition → AttrValue) where
  abbrev refers_by : Specification → Bool
  refers_by s = is_conref_of d n s.attribute

  one-refers : (x : Definition) → definition_of d n x.name ≡ Some x → (is_conref x.default && is_given (w x)) ≡ list_any refers_by (one_spec (value_read d) d n w x)
  unfolding has_conref
  one-refers x h =
      ap (λ t. t && is_given (w x)) (same-default x.default)
      ∙ swapped (is_conref_default x.default) (is_given (w x))
      ∙ ap (λ t. is_given (w x) && t) (sym (ap (default_is is_conref_default) h))
      ∙ sym (any-one (value_read d) refers_by x.name (w x))

  refers-written : (xs : List Definition) → AllOf (λ x. definition_of d n x.name ≡ Some x) xs
      → refers xs (map w xs) ≡ list_any refers_by (specs (value_read d) d n w xs)
  refers-written [] h = refl
  refers-written (x ∷ xs) h =
      ap (λ t. t || refers xs (map w xs)) (one-refers x h.0)
      ∙ ap (λ t. list_any refers_by (one_spec (value_read d) d n w x) || t) (refers-written xs h.1)
      ∙ sym (list_any-append refers_by (one_spec (value_read d) d n w x) (specs (value_read d) d n w xs))

values-of : (d : Doctype) (c : Currents) (n : Name) (ss : List Specification) (xs : List Definition)
    → map (λ (a : Attribute). a.value) (map (attribute_of d c n ss) xs) ≡ map (value_of d c n ss) xs
values-of d c n ss [] = refl
values-of d c n ss (x ∷ xs) = ap (λ vs. value_of d c n ss x ∷ vs) (values-of d c n ss xs)

pub references-stay : ReferencesStay
unfolding valued
references-stay s n ss how proper at_once h =
    let d = s.context.doctype in
    let c = s.currents in
    let k = split-apart s n ss how proper at_once h.unopposed in
    ap (refers (attributes d n)) (values-of d c n ss (attributes d n))
    ∙ refers-written d n (value_of d c n ss) (attributes d n)
    (all-of (λ x. definition_of d n x.name ≡ Some x) (attributes d n) (defined (value_read d) d c n ss h.definitions h.currents k.0 k.1))
    ∙ refers-alike (value_read d) d c n ss h.definitions h.currents k.0 k.1

-- WHAT STANDS INSIDE
is-some-type : (d : Doctype) (n : Name) → is_declared d n ≡ true → (t : ElementType) × (element_type d n ≡ Some t)
is-some-type d n h = by (element_type d n) h
  where
    by : (o : Option ElementType) → is_some o ≡ true → (t : ElementType) × (o ≡ Some t)
    by None h = true-false (sym h)
    by (Some t) h = (t, refl)

inside-by : (n : Name) (r : Bool) (c : ContentForm) → no_bytes (ending (inside_of r (Some c)) n) ≡ (is_void (content_in c) || r)
inside-by n true form.Empty = refl
inside-by n true form.Cdata = refl
inside-by n true form.Rcdata = refl
inside-by n true form.Any = refl
inside-by n true (form.Model ts) = refl
inside-by n false form.Empty = refl
inside-by n false form.Cdata = refl
inside-by n false form.Rcdata = refl
inside-by n false form.Any = refl
inside-by n false (form.Model ts) = refl

inside-declared : (d : Doctype) (b : ℕ) (bs : Name) (r : Bool) → is_declared d (b ∷ bs) ≡ true
    → no_bytes (ending (inside_of r (content_of d (b ∷ bs))) (b ∷ bs)) ≡ (is_void (types.content_of (type_of d (b ∷ bs))) || r)
unfolding type_of
inside-declared d b bs r h =
    let t = is-some-type d (b ∷ bs) h in
    ap (λ o. no_bytes (ending (inside_of r (option_map (λ (u : ElementType). u.body.content) o)) (b ∷ bs))) t.1
    ∙ inside-by (b ∷ bs) r t.0.body.content
    ∙ sym (ap (λ o. is_void (types.content_of (unwrap_or o undeclared)) || r) t.1)

pub ends-are-written : EndsAreWritten
unfolding attributes ends_at_once
ends-are-written s b bs ss how proper at_once h declared =
    let d = s.context.doctype in
    let n = b ∷ bs in
    let vs = map (λ (a : Attribute). a.value) (valued s (Start n ss how proper at_once)) in
    inside-declared d b bs (refers (definitions_for d.lists n) vs) declared
    ∙ ap (λ t. is_void (types.content_of (type_of d n)) || t) (references-stay s n ss how proper at_once h)
