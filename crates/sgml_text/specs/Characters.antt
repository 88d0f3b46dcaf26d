-- Characters of the reference concrete syntax, and words in any letter case.
use Rattle.std.specs.Prelude.{ℕ, Bool, ◌==◌, ◌&&◌, ◌||◌, not, List, nat_le, map}
use Rattle.std.specs.List.{list_all}
use Rattle.std.specs.Str.{bytes_eq}
use Rattle.std.specs.Char.{to_ascii_uppercase, is_ascii_alphabetic, is_ascii_digit}

-- LC Letter and UC Letter (9.2.1)
abbrev pub is_letter : ℕ → Bool
is_letter b = is_ascii_alphabetic b

-- Digit (9.2.1)
abbrev pub is_digit : ℕ → Bool
is_digit b = is_ascii_digit b

-- a separator: RE, RS, SPACE or TAB (6.2.1, s)
abbrev pub is_separator : ℕ → Bool
is_separator b = (b == 13) || (b == 10) || (b == 32) || (b == 9)

-- An SGML character: a separator, and every byte from 32 up but 127 (13.1, 13.4.2; the bytes above
-- 127 are data characters, profile).
abbrev pub is_sgml_character : ℕ → Bool
is_sgml_character b = is_separator b || (nat_le 32 b && not (b == 127))

abbrev pub all_sgml : List ℕ → Bool
all_sgml bytes = list_all is_sgml_character bytes

-- LIT and LITA, which begin and end literals (9.6.1)
abbrev pub is_quote : ℕ → Bool
is_quote b = (b == 34) || (b == 39)

-- a lower-case letter in upper case; other bytes stay (13.4.5, NAMECASE)
abbrev pub upper : ℕ → ℕ
upper b = to_ascii_uppercase b

-- the word, which is in upper case, is spelled in any letter case (keywords: 13.4.7)
abbrev pub is_word : List ℕ → List ℕ → Bool
is_word word spelled = bytes_eq (map upper spelled) word
