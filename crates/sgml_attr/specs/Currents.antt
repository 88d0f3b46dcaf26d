-- Current values (11.3.4): for each attribute list, by number, the value that was specified last for each attribute.
use Rattle.std.specs.Prelude.{◌≡◌, ◌≢◌, ◌⊎◌, ℕ, zero, suc, List, [], ◌∷◌, length, Option, Some, None, is_some, slice_get, true}
use Rattle.sgml_attr.specs.declared.value.AttrValue.{AttrValue}

abbrev pub flat : Option (Option AttrValue) → Option AttrValue
flat None = None
flat (Some entry) = entry

-- the value of an attribute of a list, by its number
abbrev pub entry_at : List (Option AttrValue) → ℕ → Option AttrValue
entry_at entries attribute = flat (slice_get entries attribute)

abbrev pub entry_in : Option (List (Option AttrValue)) → ℕ → Option AttrValue
entry_in None attribute = None
entry_in (Some entries) attribute = entry_at entries attribute

-- the current value of an attribute of a list
abbrev pub current_at : List (List (Option AttrValue)) → ℕ → ℕ → Option AttrValue
current_at lists list attribute = entry_in (slice_get lists list) attribute

-- the entries with a value at this place, without values between
abbrev pub placed : List (Option AttrValue) → ℕ → AttrValue → List (Option AttrValue)
placed [] zero value = Some value ∷ []
placed [] (suc n) value = None ∷ placed [] n value
placed (entry ∷ entries) zero value = Some value ∷ entries
placed (entry ∷ entries) (suc n) value = entry ∷ placed entries n value

-- no entry without a value is last
abbrev pub EndsInValue : List (Option AttrValue) → Type 0
EndsInValue [] = Unit {0}
EndsInValue (entry ∷ []) = is_some entry ≡ true
EndsInValue (entry ∷ (next ∷ entries)) = EndsInValue (next ∷ entries)

abbrev pub AllEndInValue : List (List (Option AttrValue)) → Type 0
AllEndInValue [] = Unit {0}
AllEndInValue (entries ∷ lists) = EndsInValue entries × AllEndInValue lists

-- one value is set, and all others are as they were
pub record SetsOne (old new : List (List (Option AttrValue))) (list attribute : ℕ) (value : AttrValue) : Type 0 where
  pub as_many : length new ≡ length old
  pub is_set : current_at new list attribute ≡ Some value
  pub others : (l a : ℕ) → (l ≢ list) ⊎ (a ≢ attribute) → current_at new l a ≡ current_at old l a

-- the same lists, with the same values
pub record SameCurrents (a b : List (List (Option AttrValue))) : Type 0 where
  pub as_many : length a ≡ length b
  pub same : (list attribute : ℕ) → current_at a list attribute ≡ current_at b list attribute
