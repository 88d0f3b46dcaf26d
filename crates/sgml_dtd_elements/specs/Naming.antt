-- The table of names, and the places in which element types are named.
use Rattle.std.specs.Prelude.{ℕ, Bool, true, false, ◌+◌, List, [], ◌∷◌, ◌++◌, is_some, if◌then◌else◌, length}
use Rattle.sgml_names.specs.Index.{found}
use Rattle.sgml_decl_forms.specs.declared.element.ElementDeclaration.{ElementDeclaration}
use Rattle.sgml_dtd_elements.specs.declared.row.Place.{Place}

-- the table with these names more
abbrev pub with_names : List (List ℕ × ℕ) → List (List ℕ) → List (List ℕ × ℕ)
with_names table [] = table
with_names table (x ∷ xs) = with_names (table ++ (x, length table) ∷ []) xs

-- one of these names is in the table, or before it
abbrev pub is_twice : List (List ℕ × ℕ) → List (List ℕ) → Bool
is_twice table [] = false
is_twice table (x ∷ xs) = if is_some (found table x) then true else is_twice (table ++ (x, length table) ∷ []) xs

-- the places of the names of the k-th declaration, from the j-th name on
abbrev pub places_in : ℕ → ℕ → List (List ℕ) → List Place
places_in k j [] = []
places_in k j (x ∷ xs) = record { declaration = k; at = j } ∷ places_in k (j + 1) xs

-- the places of the element types of these declarations, which are numbered from k
abbrev pub places_from : ℕ → List ElementDeclaration → List Place
places_from k [] = []
places_from k (d ∷ ds) = places_in k 0 d.names ++ places_from (k + 1) ds
