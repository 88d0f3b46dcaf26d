-- Separators, words in any letter case, and white space of public identifiers (TR9401).
use Rattle.std.specs.Prelude.{ℕ, Bool, true, false, ◌≡◌, ◌<◌, ◌==◌, ◌&&◌, ◌||◌, List, [], ◌∷◌, ◌++◌, length, All, if◌then◌else◌}
use Rattle.sgml_text.specs.Characters.{upper, is_separator}

-- what is before the next separator: a word, unless nothing is
abbrev pub with_word : List ℕ → List (List ℕ) → List (List ℕ)
with_word [] words = words
with_word (b ∷ bs) words = (b ∷ bs) ∷ words

-- The words that separators part, where these bytes of the first stand before.
abbrev pub words_after : List ℕ → List ℕ → List (List ℕ)
words_after begun [] = with_word begun []
words_after begun (b ∷ bs) = if is_separator b then with_word begun (words_after [] bs) else words_after (begun ++ b ∷ []) bs

-- a SPACE before each word
abbrev pub spaced : List (List ℕ) → List ℕ
spaced [] = []
spaced (w ∷ ws) = 32 ∷ w ++ spaced ws

-- a SPACE between any two words
abbrev pub joined : List (List ℕ) → List ℕ
joined [] = []
joined (w ∷ ws) = w ++ spaced ws

-- white space made single, and the ends trimmed (TR9401): the words with a SPACE between any two
abbrev pub single : List ℕ → List ℕ
single bytes = joined (words_after [] bytes)

-- the text so far, and whether a SPACE is owed between it and what follows
abbrev pub Spaced : Type 0
Spaced = List ℕ × Bool

abbrev pub is_some_text : List ℕ → Bool
is_some_text [] = false
is_some_text (b ∷ bs) = true

-- a separator owes a SPACE where some text stands before it; any other byte is kept, after the SPACE that is owed
abbrev pub spaced_after : Spaced → ℕ → Spaced
spaced_after s b = if is_separator b then (s.0, is_some_text s.0) else (s.0 ++ (if s.1 then 32 ∷ b ∷ [] else b ∷ []), false)

-- The same in other words: a word has a byte, and no separator.
pub record IsWord (w : List ℕ) : Type 0 where
  pub some : 0 < length w
  pub whole : All (λ b. is_separator b ≡ false) w

-- a separator follows, or nothing
abbrev pub IsParted : List ℕ → Type 0
IsParted [] = Unit
IsParted (b ∷ bs) = is_separator b ≡ true

-- These are the words of a text: separators stand before, between and behind them.
abbrev pub AreWords : List (List ℕ) → List ℕ → Type 0
AreWords [] text = All (λ b. is_separator b ≡ true) text
AreWords (w ∷ words) text =
    (blank rest : List ℕ) × (text ≡ blank ++ (w ++ rest)) × All (λ b. is_separator b ≡ true) blank × IsWord w × IsParted rest × AreWords words rest
