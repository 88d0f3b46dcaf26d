use Rattle.std.proofs.Common.{◌≡◌, drop}
use Rattle.sgml_sgmldecl.specs.Heard.{contains}
use Rattle.sgml_sgmldecl.proofs.heard.contains.Given as goal

abbrev pub invariant-loop-w : goal.invariant-loop-w
invariant-loop-w l = contains l.word l.b ≡ contains (drop l.w-index l.word) l.b
