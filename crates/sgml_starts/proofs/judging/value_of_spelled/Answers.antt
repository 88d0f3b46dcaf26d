use Rattle.std.proofs.Common.{sym}
use Rattle.sgml_starts.proofs.judging.value_of_spelled.Goals as goal

pub returns-in-Some : goal.returns-in-Some
returns-in-Some c = sym (c.in-Some.ensures c.args.entities.now)
