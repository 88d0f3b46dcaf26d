use Rattle.std.proofs.Common.{◌-◌, ◌*◌}
use Rattle.sgml_workers.proofs.running.+fn-read_beside-join+arg3+read_beside.Given as goal

abbrev pub decreases-join+arg3 : goal.decreases-join+arg3
decreases-join+arg3 g l = 2 * l.workers - 1

abbrev pub decreases-read_beside : goal.decreases-read_beside
decreases-read_beside g l = 2 * l.workers
