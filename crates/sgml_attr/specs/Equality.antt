-- Values that are the same are equal.
use Rattle.std.proofs.Common.{◌≡◌, Bool, List, ℕ, Option, Some, None, refl, sym, ap, ◌∙◌}
use Rattle.std.specs.Bool.{Decides}
use Rattle.std.specs.Cmp.{IsPartialEquivalence}
use Rattle.std.specs.Option.{option_eq}
use Rattle.std.specs.Cmp.Lexicographic.{pointwise, pointwise_decides}
use Rattle.std.proofs.lemmas.Slice.Eq.{bytes_eq-Decides}
use Rattle.std.proofs.lemmas.Bool.Decides.{same_from_decides}
use Rattle.sgml_text.specs.SameUnits.{units-decide}
use Rattle.sgml_attr.specs.declared.value.AttrValue.{AttrValue}
use Rattle.sgml_attr.specs.declared.value.AttrValue.TheVariants as values
use Rattle.sgml_attr.specs.Rows.{same_names}
use Rattle.sgml_attr.specs.Values.{same_value}

pub names-decide : (a b : List (List ℕ)) → Decides (same_names a b) (a ≡ b)
names-decide a b = pointwise_decides bytes_eq-Decides a b

pub value-decides : (a b : AttrValue) → Decides (same_value a b) (a ≡ b)
value-decides values.Implied values.Implied = (λ e. refl, λ e. refl)
value-decides (values.Cdata a) (values.Cdata b) =
    (λ e. ap (λ x. values.Cdata x) ((units-decide a b).0 e), λ e. (units-decide a b).1 (cc))
value-decides (values.Notation a) (values.Notation b) =
    (λ e. ap (λ x. values.Notation x) ((bytes_eq-Decides a b).0 e), λ e. (bytes_eq-Decides a b).1 (cc))
value-decides (values.Entities a) (values.Entities b) =
    (λ e. ap (λ x. values.Entities x) ((bytes_eq-Decides a b).0 e), λ e. (bytes_eq-Decides a b).1 (cc))
value-decides (values.Tokens a) (values.Tokens b) =
    (λ e. ap (λ x. values.Tokens x) ((names-decide a b).0 e), λ e. (names-decide a b).1 (cc))
value-decides _ _ = (λ e. cc, λ e. cc)

-- what tells equality is an equivalence
pub laws-by : {K : Type 0} (E : K → K → Bool) → ((x y : K) → Decides (E x y) (x ≡ y)) → IsPartialEquivalence E
laws-by E d = record {
  symm = λ x y. same_from_decides (E x y) (E y x) (d x y) (λ e. sym ((d y x).0 e), λ e. (d y x).1 (sym e));
  trans = λ x y z e f. (d x z).1 ((d x y).0 e ∙ (d y z).0 f);
}

pub value-laws : IsPartialEquivalence same_value
value-laws = laws-by same_value value-decides

-- the values of a start-tag
abbrev pub same_values : List AttrValue → List AttrValue → Bool
same_values = pointwise same_value

pub values-decide : (a b : List AttrValue) → Decides (same_values a b) (a ≡ b)
values-decide a b = pointwise_decides value-decides a b

pub values-laws : IsPartialEquivalence same_values
values-laws = laws-by same_values values-decide

-- the values of a list, and of all lists
abbrev pub same_entries : List (Option AttrValue) → List (Option AttrValue) → Bool
same_entries = pointwise (option_eq same_value)

abbrev pub same_lists : List (List (Option AttrValue)) → List (List (Option AttrValue)) → Bool
same_lists = pointwise same_entries

pub entry-decides : (a b : Option AttrValue) → Decides (option_eq same_value a b) (a ≡ b)
entry-decides None None = (λ e. refl, λ e. refl)
entry-decides (Some a) (Some b) = (λ e. ap (λ x. Some x) ((value-decides a b).0 e), λ e. (value-decides a b).1 (cc))
entry-decides None (Some b) = (λ e. cc, λ e. cc)
entry-decides (Some a) None = (λ e. cc, λ e. cc)

pub entries-decide : (a b : List (Option AttrValue)) → Decides (same_entries a b) (a ≡ b)
entries-decide a b = pointwise_decides entry-decides a b

pub lists-decide : (a b : List (List (Option AttrValue))) → Decides (same_lists a b) (a ≡ b)
lists-decide a b = pointwise_decides entries-decide a b

pub entries-laws : IsPartialEquivalence same_entries
entries-laws = laws-by same_entries entries-decide

pub lists-laws : IsPartialEquivalence same_lists
lists-laws = laws-by same_lists lists-decide
