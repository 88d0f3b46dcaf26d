-- What an SGML declaration is, and what it tells (13).
use Rattle.std.specs.Prelude.{ℕ, Bool, true, false, ◌≡◌, ◌==◌, ◌+◌, ◌<◌, ◌≤◌, ◌⊎◌, List, [], ◌∷◌, ◌++◌, ⊤, map, length, take, Result, Ok, Err}
use Rattle.std.specs.List.{list_all}
use Rattle.sgml_text.specs.Characters.{upper, is_letter, is_digit, is_separator, is_quote}
use Rattle.sgml_syntax.specs.declared.syntax.Syntax.{Syntax}
use Rattle.sgml_sgmldecl.specs.declared.due.Due.{Due}
use Rattle.sgml_sgmldecl.specs.declared.due.Due.TheVariants as due
use Rattle.sgml_sgmldecl.specs.declared.feature.DeclError.{DeclError}
use Rattle.sgml_sgmldecl.specs.declared.feature.DeclError.TheVariants as errors
use Rattle.sgml_sgmldecl.specs.declared.heard.Heard.{Heard}
use Rattle.sgml_sgmldecl.specs.declared.row.Row.{Row}
use Rattle.sgml_sgmldecl.specs.declared.row.Item.{Item}
use Rattle.sgml_sgmldecl.specs.declared.row.Item.TheVariants as i
use Rattle.sgml_sgmldecl.specs.declared.row.Content.{Content}
use Rattle.sgml_sgmldecl.specs.declared.row.Content.TheVariants as c
use Rattle.sgml_sgmldecl.specs.Keywords.{spelling}
use Rattle.sgml_sgmldecl.specs.Characters.{is_mark, is_name_byte, opening, heading, old_heading}
use Rattle.sgml_sgmldecl.specs.Heard.{start, tell, contains}
use Rattle.sgml_sgmldecl.specs.Rows.{rows}
use Rattle.sgml_sgmldecl.specs.Following.{IsRow, after, marks_of_content}
use Rattle.sgml_sgmldecl.specs.Refusing.{answer}

-- what follows the `--` that begins a comment, up to the `--` that ends it (10.3): a `-` alone doesn't end it
pub data CommentRest : List ℕ → Type 0 where
  closes : CommentRest (45 ∷ 45 ∷ [])
  another : (b : ℕ) (bs : List ℕ) → (b == 45) ≡ false → CommentRest bs → CommentRest (b ∷ bs)
  lone_dash : (b : ℕ) (bs : List ℕ) → (b == 45) ≡ false → CommentRest bs → CommentRest (45 ∷ b ∷ bs)

-- a number is one or more digits (9.3)
abbrev pub IsNumber : List ℕ → Type 0
IsNumber [] = ⊥
IsNumber (b ∷ bs) = (is_digit b ≡ true) × (list_all is_digit bs ≡ true)

-- a name of the reference concrete syntax: a letter, and then name characters (9.3)
abbrev pub IsName : List ℕ → Type 0
IsName [] = ⊥
IsName (b ∷ bs) = (is_letter b ≡ true) × (list_all is_name_byte bs ≡ true)

-- The bytes are such a word. Keywords are in any letter case.
abbrev pub IsWord : Item → List ℕ → Type 0
IsWord i.Opening w = ⊥
IsWord (i.Word k) w = map upper w ≡ spelling k
IsWord i.Number w = IsNumber w
IsWord (i.Name end) w = IsName w
IsWord (i.Literal content) w = ⊥
IsWord i.End w = ⊥

-- The bytes are what such a literal has between its quotes. The marks are those of the last literal of marks.
abbrev pub IsContent : Content → List ℕ → List ℕ → Type 0
IsContent c.Any marks w = ⊤
IsContent c.Heading marks w = (w ≡ heading) ⊎ (w ≡ old_heading)
IsContent c.Marks marks w = list_all is_mark w ≡ true
IsContent c.SameMarks marks w = w ≡ marks

-- Where this is due, and so much has been told, the bytes from this place on go on to the end of a declaration, which tells
-- so much. Directly after a word of name characters comes a separator, a literal or the end: so a word is as long as it can be.
pub data Reads : (directly_after : Bool) → (at : ℕ) → (due : Due) → (marks : List ℕ) → (told : Heard) → (bytes : List ℕ) → Heard → Type 0 where
  separator : (tight : Bool) (at : ℕ) (d : Due) (marks : List ℕ) (h x : Heard) (b : ℕ) (bs : List ℕ)
      → is_separator b ≡ true → Reads false (at + 1) d marks h bs x → Reads tight at d marks h (b ∷ bs) x
  comment : (at : ℕ) (d : Due) (marks : List ℕ) (h x : Heard) (rest_of_it rest bytes : List ℕ)
      → CommentRest rest_of_it → bytes ≡ 45 ∷ 45 ∷ rest_of_it ++ rest → Reads false (at + (length rest_of_it + 2)) d marks h rest x → Reads false at d marks h bytes x
  word : (at : ℕ) (d : Due) (marks : List ℕ) (h x : Heard) (r : Row) (b : ℕ) (w rest bytes : List ℕ)
      → IsRow r (rows d) → IsWord r.item (b ∷ w) → bytes ≡ b ∷ w ++ rest
      → Reads true (at + (length w + 1)) (after r (map upper (b ∷ w))) marks (tell r.tells at (map upper (b ∷ w)) h) rest x → Reads false at d marks h bytes x
  literal : (tight : Bool) (at : ℕ) (d : Due) (marks : List ℕ) (h x : Heard) (r : Row) (content : Content) (quote : ℕ) (w rest bytes : List ℕ)
      → IsRow r (rows d) → r.item ≡ i.Literal content → is_quote quote ≡ true → contains w quote ≡ false → IsContent content marks w → bytes ≡ quote ∷ w ++ quote ∷ rest
      → Reads false (at + (length w + 2)) r.then (marks_of_content content w marks) (tell r.tells at w h) rest x → Reads tight at d marks h bytes x
  the_end : (tight : Bool) (at : ℕ) (d : Due) (marks : List ℕ) (h : Heard) (r : Row)
      → IsRow r (rows d) → r.item ≡ i.End → Reads tight at d marks h (62 ∷ []) h

-- The bytes are an SGML declaration, which tells so much: `<!SGML` in any letter case, and then what goes on from there to the end.
abbrev pub Declares : List ℕ → Heard → Type 0
Declares bytes x = (w rest : List ℕ) × (map upper w ≡ opening) × (bytes ≡ w ++ rest) × Reads true (length w) due.Heading [] start rest x

-- some declaration begins with the bytes
abbrev pub IsFront : List ℕ → Type 0
IsFront bytes = (more : List ℕ) × (x : Heard) × Declares (bytes ++ more) x

-- the longest front of the text with which some declaration begins has so many bytes
abbrev pub IsLongestFront : List ℕ → ℕ → Type 0
IsLongestFront text n = (n ≤ length text) × IsFront (take n text) × ((m : ℕ) → n < m → m ≤ length text → IsFront (take m text) → ⊥)

-- the text begins with no declaration
abbrev pub BeginsWithNone : List ℕ → Type 0
BeginsWithNone text = (n : ℕ) (x : Heard) → n ≤ length text → Declares (take n text) x → ⊥

-- The answer is that of a declaration at the front of the text.
pub record Found (text : List ℕ) (result : Result (Syntax × ℕ) DeclError) : Type 0 where
  pub told : Heard
  pub used : ℕ
  pub within : used ≤ length text
  pub declares : Declares (take used text) told
  pub answers : result ≡ answer told used

abbrev pub Answers : List ℕ → Result (Syntax × ℕ) DeclError → Type 0
Answers text (Ok found) = Found text (Ok found)
Answers text (Err (errors.BadDeclaration at)) = IsLongestFront text at × BeginsWithNone text
Answers text (Err (errors.FeatureOut which at)) = Found text (Err (errors.FeatureOut which at))
Answers text (Err (errors.QuantityOut name number at)) = Found text (Err (errors.QuantityOut name number at))
Answers text (Err errors.Memory) = ⊤
