-- What holds of current values holds after a start that has values.
use Rattle.std.proofs.Common.{◌≡◌, ℕ, Bool, true, false, ◌&&◌, List, [], Some, None, refl, sym, ap, subst, ◌∙◌, inl, inr, if◌then◌else◌}
use Rattle.std.specs.List.{slice_get}
use Rattle.std.specs.Option.{option_or}
use Rattle.sgml_full.specs.attr.declared.definition.Definition.{Definition}
use Rattle.sgml_full.specs.attr.declared.value.AttrValue.{AttrValue}
use Rattle.sgml_full.specs.dtd_attlists.Tables.{list_of}
use Rattle.sgml_full.specs.dtd.Doctypes.{Doctype, definitions_at}
use Rattle.sgml_theory_starts.specs.theory_reading.Names.{Name}
use Rattle.sgml_theory_starts.specs.theory_reading.Types.{attributes, definition_of, entity_tables, same_number, has_same_list, has_current}
use Rattle.sgml_theory_starts.specs.theory_reading.Pieces.{Specification, Start}
use Rattle.sgml_theory_starts.specs.theory_reading.Facets.{specified}
use Rattle.sgml_theory_starts.specs.theory_reading.Currents.{Currents, value_in, given}
use Rattle.sgml_theory_starts.specs.theory_spelling.Attributes.{reason_of_specifications, reason_of_defaults}
use Rattle.sgml_theory_values.specs.Given.{IsGiven}
use Rattle.sgml_theory_values.specs.Starts.{DefinitionsHold, CurrentsHold}
use Rattle.sgml_theory_values.specs.Laws.{CurrentsStillHold}
use Rattle.sgml_theory_values.proofs.Lists.{same-by, are-apart, found-apart}
use Rattle.sgml_theory_values.proofs.Facts.{Shown, shown}
use Rattle.sgml_theory_values.proofs.Starts.{split-apart}

one-value : (u v : AttrValue) → Some u ≡ Some v → u ≡ v
one-value u v h = cc

same-list : (d : Doctype) (n e : Name) → has_same_list d n e ≡ true → list_of d.lists n ≡ list_of d.lists e
unfolding has_same_list
same-list d n e h = same-by (list_of d.lists n) (list_of d.lists e) h

same-attributes : (d : Doctype) (n e : Name) → has_same_list d n e ≡ true → attributes d e ≡ attributes d n
unfolding attributes
same-attributes d n e h = ap (definitions_at d.lists) (sym (same-list d n e h))

same-others : (d : Doctype) (n m e : Name) → has_same_list d m e ≡ true → has_same_list d n m ≡ has_same_list d n e
unfolding has_same_list
same-others d n m e h = ap (same_number (list_of d.lists n)) (same-by (list_of d.lists m) (list_of d.lists e) h)

module _ (d : Doctype) (c : Currents) (n : Name) (ss : List Specification) (definitions : DefinitionsHold d) (currents : CurrentsHold d c)
    (reasons : reason_of_specifications d n [] ss ≡ None) (left : reason_of_defaults d c n ss (attributes d n) ≡ None) where
  abbrev after : Currents
  after = λ e a. option_or (given d (Some (n, ss)) e a) (c e a)

  by-shown : (e : Name) (i : ℕ) (x : Definition) (u v : AttrValue) → slice_get (attributes d e) i ≡ Some x → Shown d c n ss x u
      → option_or (value_in d (Some x) x.name ss) (c e x.name) ≡ Some v → IsGiven d.syntax (entity_tables d) x v
  by-shown e i x u v h (inl s) k =
      subst (IsGiven d.syntax (entity_tables d) x) (one-value u v (sym (ap (λ o. option_or o (c e x.name)) s.value) ∙ k)) s.given
  by-shown e i x u v h (inr s) k = currents.given e i x v h (sym (ap (λ o. option_or o (c e x.name)) s.value) ∙ k)

  given-by : (e : Name) (i : ℕ) (x : Definition) (v : AttrValue) (t u : Bool) → slice_get (attributes d e) i ≡ Some x → has_same_list d n e ≡ t
      → option_or (if t && u then value_in d (definition_of d n x.name) x.name ss else None) (c e x.name) ≡ Some v → IsGiven d.syntax (entity_tables d) x v
  given-by e i x v true true h same k =
      let here : slice_get (attributes d n) i ≡ Some x = sym (ap (λ ys. slice_get ys i) (same-attributes d n e same)) ∙ h in
      let is = found-apart (attributes d n) i x (are-apart (attributes d n) (definitions.apart n)) here in
      by-shown e i x _ v h (shown d c n ss (attributes d n) reasons left i x here is)
      (sym (ap (λ o. option_or (value_in d o x.name ss) (c e x.name)) is) ∙ k)
  given-by e i x v true false h same k = currents.given e i x v h k
  given-by e i x v false u h same k = currents.given e i x v h k

  pub holds-after : CurrentsHold d after
  holds-after = record {
    given = λ e i x v h k. given-by e i x v (has_same_list d n e) (has_current d n x.name) h refl k;
    shared = λ m e a same.
        ap (λ t. option_or (if t && has_current d n a then value_in d (definition_of d n a) a ss else None) (c m a)) (same-others d n m e same)
        ∙ ap (λ o. option_or (if has_same_list d n e && has_current d n a then value_in d (definition_of d n a) a ss else None) o) (currents.shared m e a same);
  }

pub currents-hold : CurrentsStillHold
unfolding specified
currents-hold s (Start n ss how proper at_once) h =
    let k = split-apart s n ss how proper at_once h.unopposed in
    holds-after s.context.doctype s.currents n ss h.definitions h.currents k.0 k.1
currents-hold s _ h = h.currents
