-- The worked start has its values again: what it has is computed.
use Rattle.std.proofs.Common.{◌≡◌, ℕ, zero, suc, Bool, true, List, [], ◌∷◌, Option, Some, None, is_none, refl, ap, sym, ◌∙◌}
use Rattle.std.specs.List.{list_all, slice_get}
use Rattle.sgml_full.specs.text.declared.unit.Unit.{Unit as AnyUnit}
use Rattle.sgml_full.specs.attr.declared.definition.Definition.{Definition}
use Rattle.sgml_theory_starts.specs.decl_forms.Elements.{element_at}
use Rattle.sgml_theory_starts.specs.decl_forms.Attributes.{attlist_at, attribute_at}
use Rattle.sgml_full.specs.dtd_attlists.declared.list.AttributeList.{AttributeList}
use Rattle.sgml_full.specs.dtd_attlists.Interpreted.{default_units}
use Rattle.sgml_full.specs.dtd.Doctypes.{Doctype}
use Rattle.sgml_theory_starts.specs.theory_reading.Types.{attributes}
use Rattle.sgml_theory_starts.specs.theory_spelling.Attributes.{unvalued, valued}
use Rattle.sgml_theory_values.specs.Starts.{DefinitionsHold, CurrentsHold}
use Rattle.sgml_theory_values.specs.Read.{HaveDefaults}
use Rattle.sgml_theory_values.specs.Laws.{HasValues}
use Rattle.sgml_theory_values.specs.Worked.{type_with_attributes, at_instance, start, first_specified, WorkedStart}
use Rattle.sgml_theory_values.proofs.Tokens.{both}
use Rattle.sgml_theory_values.proofs.Lists.{none-some, true-false}
use Rattle.sgml_theory_values.proofs.Full.{full-documents-spell}
use Rattle.sgml_theory_values.proofs.Reading.{definitions-hold}

all-at : {A : Type 0} (test : A → Bool) (xs : List A) (i : ℕ) (x : A) → list_all test xs ≡ true → slice_get xs i ≡ Some x → test x ≡ true
all-at test [] i x a h = none-some x h
all-at test (y ∷ ys) zero x a h = ap test (same h) ∙ (both (test y) (list_all test ys) a).0
  where
    same : Some y ≡ Some x → x ≡ y
    same e = cc
all-at test (y ∷ ys) (suc i) x a h = all-at test ys i x (both (test y) (list_all test ys) a).1 h

-- DEFINITIONS without a default that is a value
abbrev has_no_default : Definition → Bool
has_no_default x = is_none (default_units x.default)

abbrev have_no_default : AttributeList → Bool
have_no_default l = list_all has_no_default l.definitions

none-default : {A : Type 0} (o : Option (List AnyUnit)) (units : List AnyUnit) → is_none o ≡ true → o ≡ Some units → A
none-default None units h e = none-some units e
none-default (Some us) units h e = true-false (sym h)

no-defaults : (d : Doctype) → list_all have_no_default d.lists ≡ true → HaveDefaults d
no-defaults d h i j l x at within units e =
    none-default (default_units x.default) units (all-at has_no_default l.definitions j x (all-at have_no_default d.lists i l h at) within) e

definitions : DefinitionsHold type_with_attributes
unfolding element_at attlist_at attribute_at
definitions = definitions-hold type_with_attributes refl (no-defaults type_with_attributes refl)

nothing-current : (d : Doctype) → CurrentsHold d (λ e a. None)
nothing-current d = record { given = λ n i x v h k. none-some v k; shared = λ n e a same. refl }

has-values : HasValues at_instance (start first_specified)
unfolding element_at attlist_at attribute_at attributes unvalued
has-values = record { definitions = definitions; currents = nothing-current type_with_attributes; unopposed = refl }

pub worked-start : WorkedStart
unfolding element_at attlist_at attribute_at attributes unvalued valued
worked-start = record {
  has_values = has-values;
  are_values = refl;
  spells = full-documents-spell type_with_attributes;
  again = refl;
  unopposed = refl;
  are_values_again = refl;
}
