-- Several current values that are set.
use Rattle.std.specs.Prelude.{◌≡◌, ◌≢◌, ◌⊎◌, ℕ, Bool, true, false, List, length, Option, None, Some, slice_get}
use Rattle.sgml_attr.specs.declared.value.AttrValue.{AttrValue}
use Rattle.sgml_attr.specs.Currents.{current_at, SetsOne}
use Rattle.sgml_starts.specs.Filled.{is_among}

-- the value of the attribute is set
pub record IsSetTo (old new : List (List (Option AttrValue))) (list attribute : ℕ) (values : List AttrValue) : Type 0 where
  pub value : AttrValue
  pub is : slice_get values attribute ≡ Some value
  pub sets : SetsOne old new list attribute value

-- the values of these attributes of a list are set, and all others are as they were
pub record SetsAll (old new : List (List (Option AttrValue))) (list : ℕ) (attributes : List ℕ) (values : List AttrValue) : Type 0 where
  pub as_many : length new ≡ length old
  pub set : (i : ℕ) → is_among i attributes ≡ true → current_at new list i ≡ slice_get values i
  pub others : (l i : ℕ) → (l ≢ list) ⊎ (is_among i attributes ≡ false) → current_at new l i ≡ current_at old l i

-- the same of a list, where there is one; else nothing is set
abbrev pub SetsAllIn : Option ℕ → List (List (Option AttrValue)) → List (List (Option AttrValue)) → List ℕ → List AttrValue → Type 0
SetsAllIn None old new attributes values = new ≡ old
SetsAllIn (Some list) old new attributes values = SetsAll old new list attributes values
