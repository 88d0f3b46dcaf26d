use Rattle.std.proofs.Common.{◌≡◌, take}
use Rattle.sgml_text.specs.Units.{characters}
use Rattle.sgml_text.proofs.unit.Units.of_bytes.Given as goal

abbrev pub invariant-loop-b : goal.invariant-loop-b
invariant-loop-b l = l.units.items ≡ characters (take l.b-index l.bytes)
