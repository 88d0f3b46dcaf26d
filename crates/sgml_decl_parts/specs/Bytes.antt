-- Bytes of declarations.
use Rattle.std.specs.Prelude.{ℕ, Bool, false, ◌+◌, ◌-◌, ◌*◌, ◌==◌, ◌&&◌, ◌||◌, not, List, [], ◌∷◌, nat_le, min, map, if◌then◌else◌}
use Rattle.std.specs.List.{prefix_len, list_all}
use Rattle.std.specs.Str.{bytes_eq}
use Rattle.sgml_text.specs.Characters.{upper, is_digit}
use Rattle.sgml_text.specs.NameCharacters.{is_name_start, is_name_character}
use Rattle.sgml_text.specs.declared.name_set.NameSet.{NameSet}

-- how many bytes of name characters stand here
abbrev pub name_length : NameSet → List ℕ → ℕ
name_length names bytes = prefix_len (is_name_character names) bytes

abbrev pub begins_name : NameSet → List ℕ → Bool
begins_name names [] = false
begins_name names (b ∷ bytes) = is_name_start names b

abbrev pub begins_with : ℕ → List ℕ → Bool
begins_with c [] = false
begins_with c (b ∷ bytes) = b == c

abbrev pub begins_digit : List ℕ → Bool
begins_digit [] = false
begins_digit (b ∷ bytes) = is_digit b

-- A reference ends with `;` or a record end, which are taken, or with nothing (9.4.5).
abbrev pub reference_end : List ℕ → ℕ
reference_end [] = 0
reference_end (b ∷ bytes) = if (b == 59) || (b == 13) then 1 else 0

-- the number of these digits, or 256 where it is past 255 (9.5)
abbrev pub number_after : ℕ → List ℕ → ℕ
number_after n [] = n
number_after n (d ∷ digits) = number_after (min 256 (10 * n + (d - 48))) digits
