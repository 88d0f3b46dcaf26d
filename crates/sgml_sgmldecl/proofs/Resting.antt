-- What completes a declaration from a state of the reader.
use Rattle.std.proofs.Common.{◌≡◌, ℕ, ◌+◌, true, false, List, [], ◌∷◌, ◌++◌, map, length}
use Rattle.std.specs.List.{list_all}
use Rattle.sgml_text.specs.Characters.{upper, is_digit}
use Rattle.sgml_sgmldecl.specs.declared.heard.Heard.{Heard}
use Rattle.sgml_sgmldecl.specs.declared.reading.Part.{Part}
use Rattle.sgml_sgmldecl.specs.declared.reading.Part.TheVariants as p
use Rattle.sgml_sgmldecl.specs.declared.row.Row.{Row}
use Rattle.sgml_sgmldecl.specs.declared.row.Item.{Item}
use Rattle.sgml_sgmldecl.specs.declared.row.Item.TheVariants as i
use Rattle.sgml_sgmldecl.specs.declared.row.Content.{Content}
use Rattle.sgml_sgmldecl.specs.declared.row.Content.TheVariants as c
use Rattle.sgml_sgmldecl.specs.Keywords.{spelling}
use Rattle.sgml_sgmldecl.specs.Characters.{is_name_byte, opening}
use Rattle.sgml_sgmldecl.specs.Heard.{tell, contains}
use Rattle.sgml_sgmldecl.specs.Machine.{State, marks_after}
use Rattle.sgml_sgmldecl.specs.Following.{due_after, marks_of_content}
use Rattle.sgml_sgmldecl.specs.Declaring.{CommentRest, Reads, IsContent}

-- a word that has begun is completed by these bytes
abbrev pub Grows : Item → List ℕ → List ℕ → Type 0
Grows i.Opening word w = word ++ map upper w ≡ opening
Grows (i.Word k) word w = word ++ map upper w ≡ spelling k
Grows i.Number word w = list_all is_digit w ≡ true
Grows (i.Name end) word w = list_all is_name_byte w ≡ true
Grows (i.Literal content) word w = ⊥
Grows i.End word w = ⊥

-- so for what a literal has between its quotes
abbrev pub Fills : Content → List ℕ → List ℕ → List ℕ → Type 0
Fills c.Any marks word w = IsContent c.Any marks (word ++ w)
Fills c.Heading marks word w = IsContent c.Heading marks (word ++ w)
Fills c.Marks marks word w = IsContent c.Marks marks w
Fills c.SameMarks marks word w = IsContent c.SameMarks marks (word ++ w)

pub record InWord (item : Item) (r : Row) (s : State) (at : ℕ) (us : List ℕ) (x : Heard) : Type 0 where
  pub w : List ℕ
  pub rest : List ℕ
  pub all : us ≡ w ++ rest
  pub grows : Grows item s.word w
  pub reads : Reads true (at + length w) (due_after item (s.word ++ map upper w) r.then) (marks_after item (s.word ++ map upper w) s.marks)
      (tell r.tells s.from (s.word ++ map upper w) s.heard) rest x

pub record InLiteral (content : Content) (quote : ℕ) (r : Row) (s : State) (at : ℕ) (us : List ℕ) (x : Heard) : Type 0 where
  pub w : List ℕ
  pub rest : List ℕ
  pub all : us ≡ w ++ quote ∷ rest
  pub clean : contains w quote ≡ false
  pub fills : Fills content s.marks s.word w
  pub item : r.item ≡ i.Literal content
  pub reads : Reads false (at + (length w + 1)) r.then (marks_of_content content (s.word ++ w) s.marks) (tell r.tells s.from (s.word ++ w) s.heard) rest x

-- in a comment, of which these bytes already stand at its end
pub record InComment (done : List ℕ) (s : State) (at : ℕ) (us : List ℕ) (x : Heard) : Type 0 where
  pub c : List ℕ
  pub rest : List ℕ
  pub all : done ++ us ≡ c ++ rest
  pub comment : CommentRest c
  pub next : ℕ
  pub place : next + length done ≡ at + length c
  pub reads : Reads false next s.due s.marks s.heard rest x

pub record AfterDash (s : State) (at : ℕ) (us : List ℕ) (x : Heard) : Type 0 where
  pub more : List ℕ
  pub all : us ≡ 45 ∷ more
  pub comment : InComment [] s (at + 1) more x

abbrev pub RestIn : Part → State → ℕ → List ℕ → Heard → Type 0
RestIn p.Apart s at us x = Reads false at s.due s.marks s.heard us x
RestIn p.After s at us x = Reads true at s.due s.marks s.heard us x
RestIn p.Dash s at us x = AfterDash s at us x
RestIn p.Comment s at us x = InComment [] s at us x
RestIn p.CommentDash s at us x = InComment (45 ∷ []) s at us x
RestIn (p.Word r) s at us x = InWord r.item r s at us x
RestIn (p.Literal r content quote) s at us x = InLiteral content quote r s at us x

-- from this state and place the bytes go on to the end of a declaration that tells so much
abbrev pub Rest : State → ℕ → List ℕ → Heard → Type 0
Rest s at us x = RestIn s.part s at us x
