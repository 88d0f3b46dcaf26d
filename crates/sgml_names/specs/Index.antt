-- Names with their numbers.
use Rattle.std.specs.Prelude.{ℕ, Bool, List, [], ◌∷◌, ◌++◌, Option, map, is_some, if◌then◌else◌}
use Rattle.std.specs.Map.{lookup}
use Rattle.std.specs.Str.{bytes_eq}

-- the number of a name: that of the first entry that has it
abbrev pub found : List (List ℕ × ℕ) → List ℕ → Option ℕ
found es name = lookup (bytes_eq name) es

-- the names of a table
abbrev pub names_of : List (List ℕ × ℕ) → List (List ℕ)
names_of table = map (λ e. e.0) table

-- the table with this name more, unless it is there
abbrev pub with_new : List (List ℕ × ℕ) → List ℕ → ℕ → List (List ℕ × ℕ)
with_new table name number = if is_some (found table name) then table else table ++ (name, number) ∷ []

-- these names, and this one where it is new
abbrev pub with_if_new : Bool → List (List ℕ) → List ℕ → List (List ℕ)
with_if_new new names name = if new then names ++ name ∷ [] else names

-- tables have fewer rows and names, so that each has a number (profile)
abbrev pub table_limit : ℕ
table_limit = 4294967000
