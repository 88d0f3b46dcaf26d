-- Lists of names.
use Rattle.std.specs.Prelude.{ℕ, Bool, false, ◌+◌, ◌<◌, ◌≡◌, ◌||◌, List, [], ◌∷◌, ◌++◌, map, Option, Some, None, if◌then◌else◌, slice_get}
use Rattle.std.specs.List.{list_any}
use Rattle.std.specs.Str.{bytes_eq}

-- the name is one of these
abbrev pub has : List (List ℕ) → List ℕ → Bool
has names name = list_any (bytes_eq name) names

-- one of these names is among those before it
abbrev pub repeats : List (List ℕ) → List (List ℕ) → Bool
repeats before [] = false
repeats before (name ∷ names) = has before name || repeats (before ++ name ∷ []) names

-- one name stands at two places
pub record StandsTwice (names : List (List ℕ)) : Type 0 where
  pub name : List ℕ
  pub first : ℕ
  pub second : ℕ
  pub before : first < second
  pub here : slice_get names first ≡ Some name
  pub again : slice_get names second ≡ Some name

-- the number of the first of these names that is this one, where they are numbered from n
abbrev pub number_from : ℕ → List (List ℕ) → List ℕ → Option ℕ
number_from n [] name = None
number_from n (x ∷ xs) name = if bytes_eq name x then Some n else number_from (n + 1) xs name

-- these names, numbered from n
abbrev pub numbered : ℕ → List (List ℕ) → List (List ℕ × ℕ)
numbered n [] = []
numbered n (x ∷ xs) = (x, n) ∷ numbered (n + 1) xs

-- these names with one number
abbrev pub with_number : ℕ → List (List ℕ) → List (List ℕ × ℕ)
with_number n names = map (λ name. (name, n)) names
