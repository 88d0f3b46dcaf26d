use Rattle.std.proofs.Common.{◌≡◌, drop}
use Rattle.sgml_esis.specs.Reading.{units_on}
use Rattle.sgml_esis.specs.declared.escapes.Mode.TheVariants as modes
use Rattle.sgml_esis.proofs.escapes.read_on.Given as goal

abbrev pub invariant-loop-b : goal.invariant-loop-b
invariant-loop-b l = units_on l.units.items l.mode (drop l.b-index l.bytes) ≡ units_on l.fn.units.items modes.Plain l.bytes
