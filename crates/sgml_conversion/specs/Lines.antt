-- The bytes of the lines of what was read.
use Rattle.std.specs.Prelude.{◌≡◌, ℕ, Bool, ◌&&◌, List, ◌++◌, Option, is_none}
use Rattle.sgml_io.specs.Writes.{AppendsFront}
use Rattle.sgml_event_lines.specs.esis.Spelling.{spell_lines}
use Rattle.sgml_dtd.specs.Doctypes.{Doctype}
use Rattle.sgml_events.specs.declared.event.Event.{Event}
use Rattle.sgml_said.specs.Told.{all_said}
use Rattle.sgml_said.specs.theory_reading.Pieces.{History}
use Rattle.sgml_said.specs.theory_reading.Nest.{types}
use Rattle.sgml_said.specs.theory_reading.Reads.{ends_in_finish}
use Rattle.sgml_said.specs.theory_reading.Events.{Event as Said, events}
use Rattle.sgml_said.specs.theory_reading.Identifiers.{id_fault}
use Rattle.sgml_said.specs.theory_reading.Lines.{lines}
use Rattle.sgml_theory_ending.specs.theory_spelling.Spelled.{forms}
use Rattle.sgml_event_lines.specs.Shown.{all_shown}
use Rattle.sgml_event_lines.specs.declared.writer.Writer.{Writer}
use Rattle.sgml_event_lines.specs.Lines.{lines_said, lines_told}
use Rattle.sgml_event_lines.specs.Standing.{StandsAfter}

abbrev pub bytes_of : History → List ℕ
bytes_of h = spell_lines (all_shown (lines forms h))

-- the document is over, and its identifiers agree
abbrev pub conforms : History → Bool
conforms h = ends_in_finish h && is_none (id_fault (events forms h))

-- they are those of a parser's events, by the tables of the document type
abbrev pub LinesAreThoseOfEvents : Type 0
LinesAreThoseOfEvents =
    (h : History) (es : List Event) → events forms h ≡ all_said (types h) es → bytes_of h ≡ spell_lines (lines_told (types h) es (conforms h))

-- A FRONT of the lines of what was told, and of whatever is told after it
abbrev pub AppendsSome : Option (List ℕ) → Option (List ℕ) → Doctype → List Said → Type 0
AppendsSome before now d told =
    (more : List Said) (conforming : Bool) → AppendsFront before now (spell_lines (all_shown (lines_said d (told ++ more) conforming)))

-- a writer has put such a front at any moment
abbrev pub PutIsFront : Type 0
PutIsFront =
    (start : Option (List ℕ)) (count : ℕ) (taken : Option (List ℕ)) (faults : ℕ) (w : Writer) (d : Doctype) (es : List Event)
    → StandsAfter start count taken faults w d es → AppendsSome start taken d (all_said d es)
