-- The short reference strings of the reference syntax (ISO 8879 13.4.6.2, figure 4), by number.
use Rattle.std.specs.Prelude.{◌≡◌, ℕ, ◌≤◌, ◌==◌, ◌||◌, Bool, IsTrue, List, [], ◌∷◌, ◌++◌, Option, Some, length, slice_get}

-- a part of a string
pub data Mark : Type 0 where
  -- this byte
  Is : ℕ → Mark
  -- a blank sequence: as many blanks or more, each SPACE or TAB (B sequence, 9.6.5)
  Blanks : ℕ → Mark

abbrev pub is_blank : ℕ → Bool
is_blank b = (b == 32) || (b == 9)

-- the string of each number: TAB, RE, RS, RS B, RS RE, RS B RE, B RE, SPACE, BB, and those of signs
abbrev pub strings : List (List Mark)
strings =
    (Is 9 ∷ []) ∷ (Is 13 ∷ []) ∷ (Is 10 ∷ []) ∷ (Is 10 ∷ Blanks 1 ∷ []) ∷ (Is 10 ∷ Is 13 ∷ [])
    ∷ (Is 10 ∷ Blanks 1 ∷ Is 13 ∷ []) ∷ (Blanks 1 ∷ Is 13 ∷ []) ∷ (Is 32 ∷ []) ∷ (Blanks 2 ∷ [])
    ∷ (Is 34 ∷ []) ∷ (Is 35 ∷ []) ∷ (Is 37 ∷ []) ∷ (Is 39 ∷ []) ∷ (Is 40 ∷ []) ∷ (Is 41 ∷ []) ∷ (Is 42 ∷ [])
    ∷ (Is 43 ∷ []) ∷ (Is 44 ∷ []) ∷ (Is 45 ∷ []) ∷ (Is 45 ∷ Is 45 ∷ []) ∷ (Is 58 ∷ []) ∷ (Is 59 ∷ [])
    ∷ (Is 61 ∷ []) ∷ (Is 64 ∷ []) ∷ (Is 91 ∷ []) ∷ (Is 93 ∷ []) ∷ (Is 94 ∷ []) ∷ (Is 95 ∷ []) ∷ (Is 123 ∷ [])
    ∷ (Is 124 ∷ []) ∷ (Is 125 ∷ []) ∷ (Is 126 ∷ []) ∷ []

abbrev pub AllBlank : List ℕ → Type 0
AllBlank [] = Unit {0}
AllBlank (b ∷ run) = IsTrue (is_blank b) × AllBlank run

-- these bytes are spelled by the marks, from the first to the last
abbrev pub Spells : List Mark → List ℕ → Type 0
Spells [] word = word ≡ []
Spells (Is c ∷ marks) word = (rest : List ℕ) × (word ≡ c ∷ rest) × Spells marks rest
Spells (Blanks n ∷ marks) word =
    (run : List ℕ) × (rest : List ℕ) × (word ≡ run ++ rest) × (n ≤ length run) × AllBlank run × Spells marks rest

-- the string of this number stands at the head of the text, with this length
pub record Matches (text : List ℕ) (number length_there : ℕ) : Type 0 where
  pub marks : List Mark
  pub is_string : slice_get strings number ≡ Some marks
  pub word : List ℕ
  pub rest : List ℕ
  pub begins : text ≡ word ++ rest
  pub spelled : Spells marks word
  pub as_long : length_there ≡ length word

-- a string is told that is at least so long
abbrev pub AtLeast : ℕ → Option (ℕ × ℕ) → Type 0
AtLeast n o = (s : ℕ × ℕ) × (o ≡ Some s) × (n ≤ s.1)
