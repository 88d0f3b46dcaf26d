-- What an item begins with, goes on with, and when it is whole (13).
use Rattle.std.specs.Prelude.{ℕ, zero, suc, Bool, true, false, List, [], ◌∷◌, length, ◌==◌, ◌||◌, ◌&&◌}
use Rattle.std.specs.Str.{bytes_eq}
use Rattle.sgml_text.specs.Characters.{upper, is_letter, is_digit, is_quote}
use Rattle.sgml_sgmldecl.specs.declared.row.Item.{Item}
use Rattle.sgml_sgmldecl.specs.declared.row.Item.TheVariants as i
use Rattle.sgml_sgmldecl.specs.declared.row.Content.{Content}
use Rattle.sgml_sgmldecl.specs.declared.row.Content.TheVariants as c
use Rattle.sgml_sgmldecl.specs.Keywords.{spelling}
use Rattle.sgml_sgmldecl.specs.Characters.{is_mark, is_name_byte, opening, heading, old_heading}

-- the byte at this place
abbrev pub has_byte : List ℕ → ℕ → ℕ → Bool
has_byte [] n b = false
has_byte (x ∷ xs) zero b = x == b
has_byte (x ∷ xs) (suc n) b = has_byte xs n b

-- the text begins with these bytes and this one
abbrev pub begins_with : List ℕ → List ℕ → ℕ → Bool
begins_with [] ws b = false
begins_with (x ∷ xs) [] b = x == b
begins_with (x ∷ xs) (w ∷ ws) b = (x == w) && begins_with xs ws b

-- the first byte of an item
abbrev pub begins : Item → ℕ → Bool
begins i.Opening b = false
begins (i.Word k) b = has_byte (spelling k) 0 (upper b)
begins i.Number b = is_digit b
begins (i.Name e) b = is_letter b
begins (i.Literal c) b = is_quote b
begins i.End b = b == 62

-- Of a word of name characters, in upper case, there is so much: may this byte be next?
abbrev pub word_goes_on : Item → List ℕ → ℕ → Bool
word_goes_on i.Opening word b = has_byte opening (length word) (upper b)
word_goes_on (i.Word k) word b = has_byte (spelling k) (length word) (upper b)
word_goes_on i.Number word b = is_digit b
word_goes_on (i.Name e) word b = is_name_byte b
word_goes_on (i.Literal c) word b = false
word_goes_on i.End word b = false

abbrev pub is_whole_word : Item → List ℕ → Bool
is_whole_word i.Opening word = bytes_eq word opening
is_whole_word (i.Word k) word = bytes_eq word (spelling k)
is_whole_word i.Number word = true
is_whole_word (i.Name e) word = true
is_whole_word (i.Literal c) word = false
is_whole_word i.End word = false

-- Between the quotes there is so much: may this byte be next? The marks are those of the last literal of marks.
abbrev pub content_goes_on : Content → List ℕ → List ℕ → ℕ → Bool
content_goes_on c.Any marks word b = true
content_goes_on c.Heading marks word b = begins_with heading word b || begins_with old_heading word b
content_goes_on c.Marks marks word b = is_mark b
content_goes_on c.SameMarks marks word b = has_byte marks (length word) b

abbrev pub is_whole_content : Content → List ℕ → List ℕ → Bool
is_whole_content c.Any marks word = true
is_whole_content c.Heading marks word = bytes_eq word heading || bytes_eq word old_heading
is_whole_content c.Marks marks word = true
is_whole_content c.SameMarks marks word = bytes_eq word marks
