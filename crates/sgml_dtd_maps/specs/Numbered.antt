-- How the tables of names follow the lists.
use Rattle.std.specs.Prelude.{ℕ, ◌+◌, ◌^◌, ◌≡◌, ◌<◌, List, [], ◌∷◌, Option, Some, None, if◌then◌else◌, Bool, length}
use Rattle.sgml_names.specs.Index.{found}
use Rattle.sgml_names.specs.Lists.{has}
use Rattle.sgml_dtd_maps.specs.declared.uses.MapUse.{MapUse}

-- the names of the maps with their numbers from n on
abbrev pub numbered : ℕ → List (List ℕ × List (ℕ × List ℕ)) → List (List ℕ × ℕ)
numbered n [] = []
numbered n (m ∷ ms) = (m.0, n) ∷ numbered (n + 1) ms

-- the number of the first of these uses that names an element type, where they are numbered from n
abbrev pub use_from : ℕ → List MapUse → List ℕ → Option ℕ
use_from n [] name = None
use_from n (u ∷ us) name = if has u.targets name then Some n else use_from (n + 1) us name

-- an earlier number holds
abbrev pub or_number : Option ℕ → Bool → ℕ → Option ℕ
or_number (Some k) named n = Some k
or_number None named n = if named then Some n else None

pub record AreNumbered (maps : List (List ℕ × List (ℕ × List ℕ))) (uses : List MapUse) (of_maps of_targets : List (List ℕ × ℕ)) : Type 0 where
  pub maps_are : of_maps ≡ numbered 0 maps
  pub uses_are : (name : List ℕ) → found of_targets name ≡ use_from 0 uses name
  pub few : length uses < 2 ^ 32
