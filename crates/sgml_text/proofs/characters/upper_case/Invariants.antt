use Rattle.std.proofs.Common.{◌≡◌, map, take}
use Rattle.sgml_text.specs.Characters.{upper}
use Rattle.sgml_text.proofs.characters.upper_case.Given as goal

abbrev pub invariant-loop-b : goal.invariant-loop-b
invariant-loop-b l = l.all.items ≡ map upper (take l.b-index l.bytes)
