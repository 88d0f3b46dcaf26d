-- How a literal is read as an attribute value (7.9.3).
use Rattle.std.specs.Prelude.{ℕ, ◌==◌, ◌||◌, Bool, true, false, List, [], ◌∷◌, ◌++◌, if◌then◌else◌, length, nat_lt, Result, Ok, Err}
use Rattle.std.specs.List.{flat_map}
use Rattle.sgml_text.specs.declared.unit.Unit.{Unit as AnyUnit}
use Rattle.sgml_text.specs.declared.unit.Unit.TheVariants.{Byte, Coded, Sdata}
use Rattle.sgml_attr.specs.declared.definition.Declared.{Declared}
use Rattle.sgml_attr.specs.declared.definition.Declared.TheVariants as declared
use Rattle.sgml_attr.specs.declared.error.AttrError.{AttrError}
use Rattle.sgml_attr.specs.declared.error.AttrError.TheVariants.{LiteralLimit}
use Rattle.sgml_attr.specs.Parts.{parts}

-- RS (10) is ignored, RE (13) and the separator TAB (9) become SPACE (32)
abbrev pub character_read : ℕ → List AnyUnit
character_read b = if b == 10 then [] else if (b == 13) || (b == 9) then Byte 32 ∷ [] else Byte b ∷ []

-- a character from a numeric reference stays what it is
abbrev pub unit_read : AnyUnit → List AnyUnit
unit_read (Byte b) = character_read b
unit_read (Coded b) = Byte b ∷ []
unit_read (Sdata entity) = Sdata entity ∷ []

-- one SPACE before each part
abbrev pub spaced : List (List AnyUnit) → List AnyUnit
spaced parts = flat_map (λ part. Byte 32 ∷ part) parts

-- the parts with one SPACE between each two
abbrev pub joined : List (List AnyUnit) → List AnyUnit
joined [] = []
joined (part ∷ parts) = part ++ spaced parts

abbrev pub is_cdata : Declared → Bool
is_cdata declared.Cdata = true
is_cdata _ = false

-- a character of the text behind this one
abbrev pub is_behind : ℕ → AnyUnit → Bool
is_behind last (Byte b) = nat_lt last b
is_behind last (Coded b) = false
is_behind last (Sdata entity) = false

-- the characters behind it are read as they stand
abbrev pub last_separator : Declared → ℕ
last_separator declared = if is_cdata declared then 31 else 32

-- Character data is as it is read; of any other value SPACEs at its ends are dropped, and several together are one.
abbrev pub interpreted : Declared → List AnyUnit → List AnyUnit
interpreted declared units =
    if is_cdata declared then flat_map unit_read units else joined (parts (flat_map unit_read units))

-- LITLEN limits the interpreted literal (13.4.8)
abbrev pub limited : ℕ → List AnyUnit → Result (List AnyUnit) AttrError
limited limit units = if nat_lt limit (length units) then Err LiteralLimit else Ok units
