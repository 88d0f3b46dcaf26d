use Rattle.std.proofs.Common.{◌≡◌, drop}
use Rattle.sgml_markup.specs.References.{has_wrong_length}
use Rattle.sgml_markup.proofs.literals.has_wrong_length.Given as goal

abbrev pub invariant-loop-i : goal.invariant-loop-i
invariant-loop-i l = has_wrong_length l.syntax l.text ≡ has_wrong_length l.syntax (drop l.i l.text)
