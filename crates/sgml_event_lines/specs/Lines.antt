-- THE LINES OF EVENTS: those of what they say.
use Rattle.std.specs.Prelude.{◌≡◌, Bool, ◌&&◌, List, ◌++◌, is_none}
use Rattle.sgml_esis.specs.declared.line.Line.{Line as FileLine}
use Rattle.sgml_dtd.specs.Doctypes.{Doctype}
use Rattle.sgml_theory_reading.specs.Events.{Event as Said}
use Rattle.sgml_theory_reading.specs.Lines.{Line, appinfo_lines, with_definitions, none_known, joined, lines_of, conforming_lines, lines_by}
use Rattle.sgml_theory_reading.specs.Identifiers.{id_fault}
use Rattle.sgml_events.specs.declared.event.Event.{Event}
use Rattle.sgml_said.specs.Told.{all_said}
use Rattle.sgml_event_lines.specs.Shown.{all_shown}

-- The lines of what is said: `#` first, neighbouring data as one line, each definition once and
-- directly before the first line that names it, and `C` last where the document conforms.
abbrev pub lines_said : Doctype → List Said → Bool → List Line
lines_said d es conforming = appinfo_lines d.syntax.appinfo ++ (with_definitions d none_known (joined (lines_of d es)) ++ conforming_lines conforming)

abbrev pub lines_told : Doctype → List Event → Bool → List FileLine
lines_told d es conforming = all_shown (lines_said d (all_said d es) conforming)

-- a document conforms where it is over and its identifiers agree
abbrev pub AreThoseOfReading : Type 0
AreThoseOfReading = (d : Doctype) (es : List Said) (over : Bool) → lines_by d es over ≡ lines_said d es (over && is_none (id_fault es))
