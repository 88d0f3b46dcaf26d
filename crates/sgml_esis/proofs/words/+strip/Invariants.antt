use Rattle.std.proofs.Common.{length}
use Rattle.sgml_esis.proofs.words.+strip.Given as goal

abbrev pub decreases-strip : goal.decreases-strip
decreases-strip l = length l.bytes.now
