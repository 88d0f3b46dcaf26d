use Rattle.sgml_theory_starts.proofs.Holding.{spelled-holds}
use Rattle.sgml_theory_starts.proofs.Reading.{held-is-apart, next-is-apart, read-is-apart}
use Rattle.sgml_theory_starts.proofs.read_attributes_are_apart.Goals as goal

pub returns-clause-spelled : goal.returns-clause-spelled
returns-clause-spelled c = spelled-holds

pub returns-clause-held : goal.returns-clause-held
returns-clause-held c = held-is-apart

pub returns-clause-next : goal.returns-clause-next
returns-clause-next c = next-is-apart

pub returns-clause-read : goal.returns-clause-read
returns-clause-read c = read-is-apart
