-- The words of the command (profile): options with their values, and FILE.
use Rattle.std.specs.Prelude.{◌==◌, ℕ, Bool, true, not, List, [], ◌∷◌, codes, Option, option_map, bytes_eq, find}
use Rattle.std.specs.List.{list_any}

abbrev pub Text : Type 0
Text = List ℕ

-- what a word or two give: the name of an option, or `FILE`, and its value
abbrev pub Use : Type 0
Use = Text × Text

abbrev pub option_names : List Text
option_names = codes "mode" ∷ codes "catalog" ∷ codes "piece" ∷ codes "expand" ∷ []

abbrev pub is_option : Text → Bool
is_option name = list_any (λ n. bytes_eq n name) option_names

-- `--`
abbrev pub dashes : Text
dashes = 45 ∷ 45 ∷ []

-- the word doesn't begin with `-` (45), or is `-` alone
abbrev pub may_stand : Text → Bool
may_stand [] = true
may_stand (b ∷ []) = true
may_stand (b ∷ c ∷ bs) = not (b == 45)

abbrev pub as_file : Text → Use
as_file word = (codes "FILE", word)

-- the value that an option, or `FILE`, was given
abbrev pub value_in : List Use → Text → Option Text
value_in uses name = option_map (λ u. u.1) (find (λ u. bytes_eq u.0 name) uses)
