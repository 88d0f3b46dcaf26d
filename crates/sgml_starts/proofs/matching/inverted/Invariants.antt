use Rattle.sgml_starts.specs.Numbers.{AreInverted}
use Rattle.sgml_starts.proofs.matching.inverted.Given as goal

abbrev pub invariant-matched : goal.invariant-matched
invariant-matched l = AreInverted l.specs l.matched l.named.items
