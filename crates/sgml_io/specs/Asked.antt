-- For which names a store was asked.
use Rattle.std.specs.Prelude.{◌≡◌, ◌⊎◌, ℕ, List, [], ◌∷◌, ◌++◌, Option, Result, Err}
use Rattle.sgml_io.specs.declared.outside.StoreError.{StoreError}
use Rattle.sgml_io.specs.declared.outside.StoreError.TheVariants as store
use Rattle.sgml_io.specs.declared.fetching.FetchError.{FetchError}
use Rattle.sgml_io.specs.declared.fetching.FetchError.TheVariants as errors

-- BY ONE CALL of `find`: for the name, also where it isn't there or the store fails. Where no memory was there it isn't asked.
abbrev pub asked_for : List ℕ → Result (Option ℕ) StoreError → List (List ℕ)
asked_for name (Err store.Memory) = []
asked_for name result = name ∷ []

-- BY ONE FETCH: once for the name, or not at all where no memory was there
abbrev pub AsksFor : {T : Type 0} → List ℕ → List (List ℕ) → List (List ℕ) → Result T FetchError → Type 0
AsksFor name before now (Err errors.Memory) = (now ≡ before) ⊎ (now ≡ before ++ name ∷ [])
AsksFor name before now result = now ≡ before ++ name ∷ []
