use Rattle.std.proofs.Common.{◌≡◌, ◌-◌, length}
use Rattle.sgml_ambiguity.proofs.firsts.Firsts.whole.Given as goal

abbrev pub invariant-loop-all : goal.invariant-loop-all
invariant-loop-all l = l.all.tokens.items ≡ l.fn.self.tokens.items

abbrev pub decreases-loop-all : goal.decreases-loop-all
decreases-loop-all l = length l.all.tokens.items - l.all.known
