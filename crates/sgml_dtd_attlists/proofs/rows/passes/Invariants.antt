use Rattle.std.proofs.Common.{◌≡◌, length}
use Rattle.std.specs.Prelude.{nat_lt, sum_by}
use Rattle.sgml_dtd_attlists.specs.Rows.{count_of}
use Rattle.sgml_dtd_attlists.proofs.rows.passes.Given as goal

abbrev pub invariant-definitions : goal.invariant-definitions
invariant-definitions l = nat_lt l.left (sum_by count_of l.rest) ≡ nat_lt l.fn.limit (sum_by count_of l.fn.definitions)

abbrev pub decreases-definitions : goal.decreases-definitions
decreases-definitions l = length l.rest
