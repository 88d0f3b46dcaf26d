-- THE NAMES OF A DOCUMENT TYPE that was read are words of lines: a name begins with a name start character and goes
-- on with name characters (9.3), none of which is a separator or a control character (9.2.1).
use Rattle.std.specs.Prelude.{List}
use Rattle.sgml_event_lines.specs.theory_reading.Nest.{types}
use Rattle.sgml_event_lines.specs.theory_reading.Unread.{Input}
use Rattle.sgml_event_lines.specs.theory_reading.Reads.{Move, ReadsFromStart, read_by}
use Rattle.sgml_theory_kinds.specs.theory_spelling.Spelled.{forms}
use Rattle.sgml_event_lines.specs.theory_reading.Lines.{lines}
use Rattle.sgml_event_lines.specs.Shown.{all_shown}
use Rattle.sgml_event_lines.specs.ReadBack.{HasWords, IsReadBack}

abbrev pub DocumentTypesHaveWords : Type 0
DocumentTypesHaveWords = (I : Input) (ms : List Move) → ReadsFromStart forms I ms → HasWords (types (read_by I ms))

-- THE LINES OF WHAT WAS READ, of every front of every input: their bytes are one file of lines, and whatever reads it
-- as lines reads these (profile: the line format of `nsgmls`).
abbrev pub LinesAreAFile : Type 0
LinesAreAFile =
    (I : Input) (ms : List Move) → ReadsFromStart forms I ms → IsReadBack (all_shown (lines forms (read_by I ms)))
