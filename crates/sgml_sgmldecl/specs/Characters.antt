-- The characters of an SGML declaration, which is in the reference concrete syntax (13).
use Rattle.std.specs.Prelude.{ℕ, Bool, List, codes, ◌==◌, ◌||◌}
use Rattle.sgml_text.specs.NameCharacters.{is_name_character, reference_names}

-- what a naming literal may have (profile)
abbrev pub is_mark : ℕ → Bool
is_mark b = (b == 45) || (b == 46) || (b == 95) || (b == 58)

-- the name characters of the reference concrete syntax (9.2.1)
abbrev pub is_name_byte : ℕ → Bool
is_name_byte b = is_name_character reference_names b

-- MDO and the keyword that begin the declaration (13)
abbrev pub opening : List ℕ
opening = codes "<!SGML"

-- the standard's name, with which a declaration begins (13), and a spelling of it that the profile takes too
abbrev pub heading : List ℕ
heading = codes "ISO 8879:1986"

abbrev pub old_heading : List ℕ
old_heading = codes "ISO 8879-1986"
