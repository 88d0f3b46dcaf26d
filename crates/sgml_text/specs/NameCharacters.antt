-- Which bytes names begin with and go on with.
use Rattle.std.specs.Prelude.{ℕ, Bool, true, false, replicate, List, [], ◌∷◌, ◌==◌, ◌&&◌, ◌||◌}
use Rattle.std.specs.List.{list_all}
use Rattle.sgml_text.specs.Characters.{is_letter, is_digit}
use Rattle.sgml_text.specs.declared.name_set.NameSet.{NameSet}

-- whether this is a `-`, `.`, `_` or `:` that is marked
abbrev pub is_marked : List Bool → ℕ → Bool
is_marked (minus ∷ stop ∷ low_line ∷ colon ∷ []) b =
    ((b == 45) && minus) || ((b == 46) && stop) || ((b == 95) && low_line) || ((b == 58) && colon)
is_marked marks b = false

-- A name start character is a letter, or one that the syntax adds (9.2.1, 13.4.5).
abbrev pub is_name_start : NameSet → ℕ → Bool
is_name_start set b = is_letter b || is_marked set.start b

-- A name character is also a digit, or one more that the syntax adds (9.2.1, 13.4.5).
abbrev pub is_name_character : NameSet → ℕ → Bool
is_name_character set b = is_letter b || is_digit b || is_marked set.start b || is_marked set.more b

-- the reference syntax: `-` and `.` go on names (13.4.5, LCNMCHAR and UCNMCHAR)
abbrev pub reference_names : NameSet
reference_names = record { start = replicate 4 false; more = true ∷ true ∷ false ∷ false ∷ [] }

-- A name is a name start character and then name characters (9.3).
abbrev pub is_name_of : NameSet → List ℕ → Bool
is_name_of set [] = false
is_name_of set (b ∷ bs) = is_name_start set b && list_all (is_name_character set) bs
