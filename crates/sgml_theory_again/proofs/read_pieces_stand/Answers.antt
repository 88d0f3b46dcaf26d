use Rattle.sgml_theory_full.specs.Standing.{PieceStands}
use Rattle.sgml_theory_again.proofs.Standing.{at-each, read-stands}
use Rattle.sgml_theory_again.proofs.Live.{read-record-end, record-ends-stay-live}
use Rattle.sgml_theory_again.proofs.Strings.{read-string}
use Rattle.sgml_theory_again.proofs.read_pieces_stand.Goals as goal

pub returns-clause-stand : goal.returns-clause-stand
returns-clause-stand c = λ I h m before p r is. at-each PieceStands h m.omitted m.visible before is.0 p (read-stands I h m r) is.1

pub returns-clause-record_ends : goal.returns-clause-record_ends
returns-clause-record_ends c = read-record-end

pub returns-clause-stay_live : goal.returns-clause-stay_live
returns-clause-stay_live c = record-ends-stay-live

pub returns-clause-strings : goal.returns-clause-strings
returns-clause-strings c = read-string
