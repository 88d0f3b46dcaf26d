use Rattle.std.proofs.Common.{◌≡◌, drop}
use Rattle.sgml_full.specs.Full.{refers}
use Rattle.sgml_full.proofs.inside.refers.Given as goal

-- none of the values before is a content reference
abbrev pub invariant-loop-i : goal.invariant-loop-i
invariant-loop-i l = refers l.definitions l.values ≡ refers (drop l.i l.definitions) (drop l.i l.values)
