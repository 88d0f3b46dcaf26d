use Rattle.sgml_theory_standing.proofs.Prologs.{state-in-prolog, prolog-reads}
use Rattle.sgml_theory_standing.proofs.Given.{refused-stops}
use Rattle.sgml_theory_standing.proofs.Standing.{stands-on}
use Rattle.sgml_theory_standing.proofs.Falls.{next-falls}
use Rattle.sgml_theory_standing.proofs.Reading.{next-are-read}
use Rattle.sgml_theory_standing.proofs.prolog_is_read.Goals as goal

pub returns : goal.returns
returns c = record { state = state-in-prolog; reads = prolog-reads; stands = stands-on; next = next-are-read; falls = next-falls; refused = refused-stops }
