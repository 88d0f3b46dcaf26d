-- How the open sections stand in the texts that are being read (10.4).
use Rattle.std.specs.Prelude.{◌≡◌, ℕ, ◌≤◌, List, [], ◌∷◌, reverse}
use Rattle.sgml_theory_reading.specs.marked.declared.sections.Section.{Section}
use Rattle.sgml_theory_reading.specs.marked.Opened.{is_open_at}
use Rattle.sgml_theory_reading.specs.Pieces.{History}
use Rattle.sgml_theory_reading.specs.Unread.{Input, texts}
use Rattle.sgml_theory_reading.specs.Sections.{sections}
use Rattle.sgml_theory_reading.specs.Reads.{Move, ReadsFromStart, read_by}
use Rattle.sgml_theory_spelling.specs.Places.{in_section}
use Rattle.sgml_theory_spelling.specs.Spelled.{forms}

-- of sections, the innermost first, each began in one of so many texts, and none in a text that was
-- opened after that of a section inside it
abbrev pub AreNested : ℕ → List Section → Type 0
AreNested n [] = Unit {0}
AreNested n (s ∷ ss) = (s.level ≤ n) × AreNested s.level ss

-- the innermost tells whether one is open that began in the text at the top; `sgml_marked` has the
-- oldest first
pub record AreSections (h : History) : Type 0 where
  pub nested : AreNested (texts h) (sections h)
  pub is_open : in_section (texts h) (sections h) ≡ is_open_at (texts h) (reverse (sections h))

-- so it is after all that reads
abbrev pub ReadSectionsAreNested : Type 0
ReadSectionsAreNested = (I : Input) (ms : List Move) → ReadsFromStart forms I ms → AreSections (read_by I ms)
