use Rattle.std.proofs.Common.{◌≡◌, drop}
use Rattle.sgml_selfcheck.specs.Counts.{begins_after}
use Rattle.sgml_selfcheck.proofs.counts.begins_after.Given as goal

abbrev pub invariant-bytes : goal.invariant-bytes
invariant-bytes l = begins_after l.begins (drop l.b-index l.bytes) ≡ begins_after l.fn.begins l.bytes
