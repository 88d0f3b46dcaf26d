-- The parts of a value: what stands between SPACEs (7.9.3).
use Rattle.std.specs.Prelude.{◌≡◌, ◌==◌, ℕ, Bool, true, false, List, [], ◌∷◌, ◌++◌, if◌then◌else◌, fold}
use Rattle.sgml_text.specs.declared.unit.Unit.{Unit as AnyUnit}
use Rattle.sgml_text.specs.declared.unit.Unit.TheVariants.{Byte, Coded, Sdata}

-- the character of a unit; a reference to an SDATA entity has none, and goes for 0, which is in no token
abbrev pub character_of : AnyUnit → ℕ
character_of (Byte b) = b
character_of (Coded b) = b
character_of (Sdata entity) = 0

abbrev pub is_space : AnyUnit → Bool
is_space u = character_of u == 32

-- a part that has ended, unless none was begun
abbrev pub ended : List AnyUnit → List (List AnyUnit)
ended [] = []
ended (u ∷ part) = (u ∷ part) ∷ []

-- the parts that have ended and the units of the last one, after one more unit
abbrev pub parted : List (List AnyUnit) × List AnyUnit → AnyUnit → List (List AnyUnit) × List AnyUnit
parted state u = if is_space u then (state.0 ++ ended state.1, []) else (state.0, state.1 ++ u ∷ [])

abbrev pub all_ended : List (List AnyUnit) × List AnyUnit → List (List AnyUnit)
all_ended state = state.0 ++ ended state.1

-- the longest runs without a SPACE
abbrev pub parts : List AnyUnit → List (List AnyUnit)
parts units = all_ended (fold parted ([], []) units)

-- The same in other words.

abbrev pub AllSpaces : List AnyUnit → Type 0
AllSpaces [] = Unit {0}
AllSpaces (u ∷ units) = (is_space u ≡ true) × AllSpaces units

abbrev pub NoSpaces : List AnyUnit → Type 0
NoSpaces [] = Unit {0}
NoSpaces (u ∷ units) = (is_space u ≡ false) × NoSpaces units

-- a SPACE begins these units, or there are none
abbrev pub IsParted : List AnyUnit → Type 0
IsParted [] = Unit {0}
IsParted (u ∷ units) = is_space u ≡ true

-- the units are these parts, each of one unit or more without a SPACE, with SPACEs before, between and after them
abbrev pub AreParts : List (List AnyUnit) → List AnyUnit → Type 0
AreParts [] units = AllSpaces units
AreParts ([] ∷ more) units = ⊥
AreParts ((u ∷ part) ∷ more) units =
    (before : List AnyUnit) × (after : List AnyUnit) × (units ≡ before ++ ((u ∷ part) ++ after)) × AllSpaces before
    × NoSpaces (u ∷ part) × IsParted after × AreParts more after
