-- What it is that a worked case holds.
use Rattle.std.specs.Prelude.{false}
use Rattle.sgml_theory_reading.specs.Unread.{Input, opening}
use Rattle.sgml_theory_reading.specs.Outcome.{Gives}
use Rattle.sgml_theory_worked.specs.Spelling.{small}
use Rattle.sgml_theory_worked.specs.Documents.{no_outside, prolog}
use Rattle.sgml_theory_worked.specs.Cases.{Case}
use Rattle.sgml_theory_worked.specs.Whole.{Whole}

abbrev pub input_of : Case → Input
input_of c = record { document = c.text; was_cut = false; outside = no_outside c.syntax }

-- the text, read after its document type, has the lines of the case, and reading ends as it says
abbrev pub Holds : Case → Type 0
Holds c = Gives small (input_of c) (prolog c.syntax c.declarations) c.expected c.ending

abbrev pub whole_input : Whole → Input
whole_input w = record { document = w.text; was_cut = w.was_cut; outside = w.outside }

-- the document, read from its first byte, has these lines, and reading ends so
abbrev pub HoldsWhole : Whole → Type 0
HoldsWhole w = Gives small (whole_input w) (opening w.outside) w.expected w.ending
