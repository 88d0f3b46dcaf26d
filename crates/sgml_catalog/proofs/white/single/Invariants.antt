use Rattle.std.proofs.Common.{◌≡◌, [], false, drop, fold}
use Rattle.sgml_catalog.specs.Words.{spaced_after}
use Rattle.sgml_catalog.proofs.white.single.Given as goal

abbrev pub invariant-loop-b : goal.invariant-loop-b
invariant-loop-b l = fold spaced_after (l.spaced.items, l.owed) (drop l.b-index l.bytes) ≡ fold spaced_after ([], false) l.bytes
