-- WORKED DOCUMENTS whose tags are written, and whose data stands elsewhere (7.3 to 7.5, 7.6).
use Rattle.std.specs.Prelude.{ℕ, true, false, List, [], ◌∷◌, codes}
use Rattle.sgml_theory_kinds.specs.syntax.Implied.{implied_syntax}
use Rattle.sgml_theory_worked.specs.dtd.Doctypes.{Doctype}
use Rattle.sgml_theory_worked.specs.dtd.Laws.{doctype_of}
use Rattle.sgml_theory_worked.specs.theory_reading.Names.{Name}
use Rattle.sgml_theory_worked.specs.theory_reading.Pieces.{Piece, Start, End, Char, Finish, How, Tag, Short, Slash, Net}
use Rattle.sgml_theory_worked.specs.theory_reading.Context.{at_start, piece_of}
use Rattle.sgml_theory_worked.specs.theory_reading.Omission.{omitted_end}
use Rattle.sgml_theory_worked.specs.theory_reading.Runs.{context_after_run}
use Rattle.sgml_theory_worked.specs.theory_reading.Reads.{Move, pieces}
use Rattle.sgml_theory_worked.specs.Declared.{declared}
use Rattle.sgml_theory_worked.specs.Documents.{D, P, doctype}
use Rattle.sgml_theory_written.specs.Alike.{Alike}
use Rattle.sgml_theory_written.specs.Covering.{Covers}
use Rattle.sgml_theory_written.specs.Standing.{StandBy, StandAlone, AreWritten, alone_move}
use Rattle.sgml_theory_written.specs.Freely.{IsFree, AreFreelyRewritten}

abbrev pub start : Name → How → Piece
start n how = piece_of (Start n [] how true false)

abbrev pub end : Name → How → Piece
end n how = piece_of (End n how)

abbrev pub character : ℕ → Piece
character b = piece_of (Char b)

-- TAGS: of <D><P/a/<P>b<P>c</></D> the end-tags are a NET, one that is left out, and an empty one
abbrev pub paragraphs : Doctype
paragraphs = doctype_of implied_syntax (doctype D (declared (codes "ELEMENT D - - (P+)" ∷ (codes "ELEMENT P - O (#PCDATA)" ∷ []))))

abbrev pub short_tags : List Move
short_tags =
    alone_move (start D Tag)
    ∷ (alone_move (start P Slash) ∷ (alone_move (character 97) ∷ (alone_move (end P Net)
    ∷ (alone_move (start P Tag) ∷ (alone_move (character 98)
    ∷ (record { omitted = omitted_end P ∷ []; visible = start P Tag } ∷ (alone_move (character 99) ∷ (alone_move (end P Short)
    ∷ (alone_move (end D Tag) ∷ (alone_move (piece_of Finish) ∷ []))))))))))

-- it is written as <D><P>a</P><P>b</P><P>c</P></D>
abbrev pub whole_tags : List Piece
whole_tags =
    start D Tag
    ∷ (start P Tag ∷ (character 97 ∷ (end P Tag
    ∷ (start P Tag ∷ (character 98 ∷ (end P Tag
    ∷ (start P Tag ∷ (character 99 ∷ (end P Tag
    ∷ (end D Tag ∷ (piece_of Finish ∷ [])))))))))))

pub record WorkedTags : Type 0 where
  pub stand : StandBy (at_start paragraphs) short_tags
  pub written : AreWritten (at_start paragraphs) (pieces short_tags) whole_tags
  -- and so it stands with no tag left out
  pub alone : StandAlone (at_start paragraphs) whole_tags
  pub alike : Alike (context_after_run (at_start paragraphs) (pieces short_tags)) (context_after_run (at_start paragraphs) whole_tags)

-- DATA: <D>a<P>b</></D> and <D><P></P>c</D>, in mixed content
abbrev pub mixed : Doctype
mixed = doctype_of implied_syntax (doctype D (declared (codes "ELEMENT D - - (#PCDATA|P)*" ∷ (codes "ELEMENT P - - (#PCDATA)" ∷ []))))

abbrev pub first_data : List Move
first_data =
    alone_move (start D Tag)
    ∷ (alone_move (character 97)
    ∷ (alone_move (start P Tag) ∷ (alone_move (character 98) ∷ (alone_move (end P Short)
    ∷ (alone_move (end D Tag) ∷ (alone_move (piece_of Finish) ∷ []))))))

abbrev pub other_data : List Piece
other_data = start D Tag ∷ (start P Tag ∷ (end P Tag ∷ (character 99 ∷ (end D Tag ∷ (piece_of Finish ∷ [])))))

pub record WorkedData : Type 0 where
  pub stand : StandBy (at_start mixed) first_data
  pub free : IsFree (at_start mixed)
  pub rewritten : AreFreelyRewritten (at_start mixed) (pieces first_data) other_data
  -- and so it stands with no tag left out; after the one document the same may come as after the other
  pub alone : StandAlone (at_start mixed) other_data
  pub there : Covers (context_after_run (at_start mixed) other_data) (context_after_run (at_start mixed) (pieces first_data))
  pub here : Covers (context_after_run (at_start mixed) (pieces first_data)) (context_after_run (at_start mixed) other_data)
