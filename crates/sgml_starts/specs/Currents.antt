-- CURRENT VALUES after a start (11.3.4): each attribute of its list whose default is #CURRENT and which it
-- specifies has the value that was specified, and all others are as they were.
use Rattle.std.specs.Prelude.{◌≡◌, ℕ, Bool, true, false, List, length, Option, Some, None, slice_get, if◌then◌else◌}
use Rattle.std.specs.Option.{option_or}
use Rattle.sgml_attr.specs.declared.definition.Default.{Default}
use Rattle.sgml_attr.specs.declared.definition.Default.TheVariants as default
use Rattle.sgml_attr.specs.declared.definition.Definition.{Definition}
use Rattle.sgml_attr.specs.declared.definition.Spec.{Spec}
use Rattle.sgml_attr.specs.declared.value.AttrValue.{AttrValue}
use Rattle.sgml_attr.specs.Currents.{current_at}
use Rattle.sgml_starts.specs.Values.{Start, is_specified}

abbrev pub is_current : Default → Bool
is_current default.Current = true
is_current _ = false

abbrev pub is_current_at : Option Definition → Bool
is_current_at None = false
is_current_at (Some x) = is_current x.default

-- what a start with these values gives the attribute of a number
abbrev pub given : Start → List Spec → List AttrValue → ℕ → Option AttrValue
given S ss values i =
    if is_current_at (slice_get S.definitions i) then (if is_specified S ss i then slice_get values i else None) else None

pub record AreCurrents (S : Start) (ss : List Spec) (values : List AttrValue) (new : List (List (Option AttrValue))) : Type 0 where
  pub as_many : length new ≡ length S.currents
  pub here : (list i : ℕ) → S.list ≡ Some list → current_at new list i ≡ option_or (given S ss values i) (current_at S.currents list i)
  pub elsewhere : (list i : ℕ) → (S.list ≡ Some list → ⊥) → current_at new list i ≡ current_at S.currents list i
