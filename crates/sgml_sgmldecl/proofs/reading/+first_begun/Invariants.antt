use Rattle.std.proofs.Common.{length}
use Rattle.sgml_sgmldecl.proofs.reading.+first_begun.Given as goal

abbrev pub decreases-first_begun : goal.decreases-first_begun
decreases-first_begun l = length l.rows.now
