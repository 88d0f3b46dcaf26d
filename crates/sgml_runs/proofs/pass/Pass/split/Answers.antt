use Rattle.std.proofs.Common.{rules}
use Rattle.sgml_runs.proofs.Keeps.{splits}
use Rattle.sgml_runs.proofs.pass.Pass.split.Goals as goal

pub split_seat-seat-requires : goal.split_seat-seat-requires
split_seat-seat-requires g c = (search rules, search rules, splits _ _ _ (search rules) (search rules))
