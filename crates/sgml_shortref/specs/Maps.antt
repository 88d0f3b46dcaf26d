-- Short reference maps (11.5): each has a name, and gives entities to strings. They are numbered
-- from 0 in the order in which they were added.
use Rattle.std.specs.Prelude.{ℕ, ◌+◌, ◌==◌, ◌++◌, if◌then◌else◌, List, [], ◌∷◌, Option, None, Some, option_map, is_some, slice_get, map}
use Rattle.std.specs.Str.{bytes_eq}
use Rattle.sgml_shortref.specs.declared.maps.Map.{Map}

-- a map's name, and the strings that it maps, by number, with their entities
abbrev pub entry_of : Map → List ℕ × List (ℕ × List ℕ)
entry_of m = (m.name, m.pairs.items)

abbrev pub entries_of : List Map → List (List ℕ × List (ℕ × List ℕ))
entries_of maps = map entry_of maps

-- the number of the map of this name
abbrev pub number_in : List (List ℕ × List (ℕ × List ℕ)) → List ℕ → Option ℕ
number_in [] name = None
number_in (m ∷ maps) name = if bytes_eq m.0 name then Some 0 else option_map (λ n. n + 1) (number_in maps name)

-- the entity of a string in a map
abbrev pub entity_in : List (ℕ × List ℕ) → ℕ → Option (List ℕ)
entity_in [] string = None
entity_in (pair ∷ pairs) string = if pair.0 == string then Some pair.1 else entity_in pairs string

abbrev pub pairs_of : Option (List ℕ × List (ℕ × List ℕ)) → List (ℕ × List ℕ)
pairs_of None = []
pairs_of (Some m) = m.1

-- the entity that the map of this number gives to a string
abbrev pub mapped_in : List (List ℕ × List (ℕ × List ℕ)) → ℕ → ℕ → Option (List ℕ)
mapped_in maps number string = entity_in (pairs_of (slice_get maps number)) string

-- the maps after one more, unless there is one of its name
abbrev pub added : List (List ℕ × List (ℕ × List ℕ)) → List ℕ → List (ℕ × List ℕ) → List (List ℕ × List (ℕ × List ℕ))
added maps name pairs = if is_some (number_in maps name) then maps else maps ++ (name, pairs) ∷ []
