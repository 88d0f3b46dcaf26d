-- The state in which the prolog is read, and the pieces that are read there (7.1, 11.1).
use Rattle.std.specs.Prelude.{Bool, true, false, ◌&&◌, ◌==◌, [], None, reverse, length}
use Rattle.std.specs.List.{list_all}
use Rattle.sgml_theory_spelling.specs.theory_reading.Pieces.{Piece, Kind, Sgml, Head, Declare, SubsetEnd, Sep, Ref, EntityEnd, SectionStart, SectionEnd, Skipped, Pi, Comment, History}
use Rattle.sgml_theory_spelling.specs.theory_reading.Context.{at_start}
use Rattle.sgml_theory_spelling.specs.theory_reading.State.{State}
use Rattle.sgml_theory_spelling.specs.theory_reading.Reads.{Move, is_after_subset}
use Rattle.sgml_theory_standing.specs.Kept.{Kept}

-- the pieces of the prolog: its own, and separators, comments, instructions, marked sections and the
-- texts that are opened in it
abbrev pub is_of_prolog : Kind → Bool
is_of_prolog (Sgml syntax) = true
is_of_prolog (Head head base) = true
is_of_prolog (Declare lexemes says base) = true
is_of_prolog (SubsetEnd reads_external) = true
is_of_prolog (Sep byte) = true
is_of_prolog (Ref entity) = true
is_of_prolog EntityEnd = true
is_of_prolog (SectionStart status) = true
is_of_prolog SectionEnd = true
is_of_prolog (Skipped byte) = true
is_of_prolog (Pi text entity) = true
is_of_prolog Comment = true
is_of_prolog _ = false

abbrev pub is_piece_of_prolog : Piece → Bool
is_piece_of_prolog p = is_of_prolog p.kind

-- all that was read is of the prolog
abbrev pub is_in_prolog : History → Bool
is_in_prolog h = list_all is_piece_of_prolog h

-- THE STATE there: nothing but the document type, the texts, the sections and the stage
unfoldable pub state_in_prolog : Kept → State
state_in_prolog k = record {
  context = at_start k.doctype;
  record_ends = [];
  ended = None;
  sections = reverse k.sections;
  texts = length k.stack.places;
  map_settings = [];
  currents = λ e a. None;
  stage = k.stage;
  subset = k.subset;
}

-- THE PROLOG HAS BEEN READ where the document type declaration and the external subset have
abbrev pub is_over : Kept → Bool
is_over k = is_after_subset k.stage && (length k.stack.places == 1)

-- a piece with no omitted tags before it
abbrev pub alone : Piece → Move
alone p = record { omitted = []; visible = p }
