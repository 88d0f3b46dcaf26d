use Rattle.std.proofs.Common.{◌≡◌, take}
use Rattle.sgml_text.specs.Characters.{all_sgml}
use Rattle.sgml_text.proofs.characters.all_sgml.Given as goal

abbrev pub invariant-loop-b : goal.invariant-loop-b
invariant-loop-b l = l.all ≡ all_sgml (take l.b-index l.bytes)
