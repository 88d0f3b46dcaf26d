use Rattle.std.proofs.Common.{◌≡◌, drop}
use Rattle.sgml_markup.specs.References.{has_wrong_number}
use Rattle.sgml_markup.proofs.literals.has_wrong_number.Given as goal

abbrev pub invariant-loop-i : goal.invariant-loop-i
invariant-loop-i l = has_wrong_number l.syntax l.text ≡ has_wrong_number l.syntax (drop l.i l.text)
