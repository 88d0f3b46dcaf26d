-- How much is left to read.
use Rattle.std.specs.Prelude.{ℕ, ◌+◌, ◌*◌, ◌-◌, List, [], ◌∷◌, length}
use Rattle.sgml_theory_spelling.specs.theory_reading.Pieces.{History}
use Rattle.sgml_theory_spelling.specs.theory_reading.Unread.{Input, Rest, rests, spent}

-- twice the bytes that are unread of the texts on the stack, and one for the end of each text
abbrev pub length_left : List Rest → ℕ
length_left [] = 0
length_left (r ∷ rs) = 2 * length r.bytes + 1 + length_left rs

-- and twice the bytes of texts that may still be opened
abbrev pub left_to_read : Input → History → ℕ
left_to_read I h = length_left (rests I h) + 2 * (I.outside.expand - spent I.outside h)
