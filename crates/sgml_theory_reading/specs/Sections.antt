-- The marked sections that are open, each with its status and with how many texts were on the
-- stack at its start (10.4).
use Rattle.std.specs.Prelude.{ℕ, List, [], ◌∷◌}
use Rattle.sgml_dtd.specs.marked.declared.sections.Section.{Section}
use Rattle.sgml_theory_reading.specs.Pieces.{History}
use Rattle.sgml_theory_reading.specs.Facets.{Border, Begins, Ends, NoBorder, border}
use Rattle.sgml_theory_reading.specs.Nest.{without_first}
use Rattle.sgml_theory_reading.specs.Unread.{texts}

abbrev pub sections_after : Border → ℕ → List Section → List Section
sections_after (Begins status) n ss = record { status = status; level = n } ∷ ss
sections_after Ends n ss = without_first ss
sections_after NoBorder n ss = ss

-- the innermost first
unfoldable pub sections : History → List Section
sections [] = []
sections (p ∷ h) = sections_after (border p.kind) (texts h) (sections h)
