-- The bytes of lines, with the data at their end open or closed.
use Rattle.std.specs.Prelude.{ℕ, Bool, true, false, List, [], ◌∷◌, ◌++◌}
use Rattle.sgml_esis.specs.Spelling.{spell_escaped, spell_lines}
use Rattle.sgml_dtd.specs.Doctypes.{Doctype}
use Rattle.sgml_theory_reading.specs.Lines.{Line, CharsLine, Known}
use Rattle.sgml_event_lines.specs.Shown.{all_shown, data_units}
use Rattle.sgml_event_lines.specs.Placed.{placed_line}

abbrev pub spelled : List Line → List ℕ
spelled ls = spell_lines (all_shown ls)

-- what was defined, and whether a line of data is open: more data may join it
pub record Open : Type 0 where
  pub known : Known
  pub within : Bool

-- the end of an open line (LF, 10)
abbrev pub closing : Bool → List ℕ
closing true = 10 ∷ []
closing false = []

-- the begin of a line of data, unless one is open (45 is `-`)
abbrev pub beginning : Bool → List ℕ
beginning true = []
beginning false = 45 ∷ []

-- the bytes that one more line adds
abbrev pub added : Doctype → Open → Line → List ℕ
added d o (CharsLine shapes) = beginning o.within ++ spell_escaped (data_units shapes)
added d o l = closing o.within ++ spelled (placed_line d l o.known).lines

abbrev pub opened_by : Doctype → Open → Line → Open
opened_by d o (CharsLine shapes) = record { known = o.known; within = true }
opened_by d o l = record { known = (placed_line d l o.known).known; within = false }

-- the bytes of lines, one after another, and what is open behind them
abbrev pub all_added : Doctype → Open → List Line → List ℕ
all_added d o [] = []
all_added d o (l ∷ ls) = added d o l ++ all_added d (opened_by d o l) ls

abbrev pub opened : Doctype → Open → List Line → Open
opened d o [] = o
opened d o (l ∷ ls) = opened d (opened_by d o l) ls
