-- The values that are filled in so far.
use Rattle.std.specs.Prelude.{◌≡◌, ◌<◌, ◌⊎◌, ℕ, ◌==◌, ◌&&◌, Bool, true, List, length, Option, Some, None, option_map, slice_get, Ok}
use Rattle.std.specs.List.{list_any}
use Rattle.sgml_attr.specs.declared.definition.Definition.{Definition}
use Rattle.sgml_attr.specs.declared.definition.Spec.{Spec}
use Rattle.sgml_attr.specs.declared.value.AttrValue.{AttrValue}
use Rattle.sgml_starts.specs.declared.filling.Filled.{Filled}
use Rattle.sgml_starts.specs.Values.{Start, is_specified, result_of, any_conref}
use Rattle.sgml_starts.specs.Currents.{is_current_at}

-- the number is one of these
abbrev pub is_among : ℕ → List ℕ → Bool
is_among i numbers = list_any (λ n. n == i) numbers

-- the attribute is specified, and its default is #CURRENT
abbrev pub gives_current : Start → List Spec → ℕ → Bool
gives_current S ss i = is_current_at (slice_get S.definitions i) && is_specified S ss i

-- those that are specified by these specifications
pub record AreFilled (S : Start) (ss : List Spec) (filled : Filled) : Type 0 where
  pub as_many : length filled.values.items ≡ length S.definitions
  pub flags : length filled.specified.items ≡ length S.definitions
  pub flagged : (i : ℕ) (x : Definition) → slice_get S.definitions i ≡ Some x → slice_get filled.specified.items i ≡ Some (is_specified S ss i)
  pub valued : (i : ℕ) (x : Definition) → slice_get S.definitions i ≡ Some x → is_specified S ss i ≡ true
      → option_map (λ (v : AttrValue). Ok v) (slice_get filled.values.items i) ≡ Some (result_of S ss i x)
  pub current : (i : ℕ) → is_among i filled.current.items ≡ gives_current S ss i
  pub conref : filled.conref ≡ any_conref S ss

-- and those without a specification up to this number
pub record AreFilledTo (S : Start) (ss : List Spec) (n : ℕ) (filled : Filled) : Type 0 where
  pub as_many : length filled.values.items ≡ length S.definitions
  pub flags : length filled.specified.items ≡ length S.definitions
  pub flagged : (i : ℕ) (x : Definition) → slice_get S.definitions i ≡ Some x → slice_get filled.specified.items i ≡ Some (is_specified S ss i)
  pub valued : (i : ℕ) (x : Definition) → slice_get S.definitions i ≡ Some x → (i < n) ⊎ (is_specified S ss i ≡ true)
      → option_map (λ (v : AttrValue). Ok v) (slice_get filled.values.items i) ≡ Some (result_of S ss i x)
