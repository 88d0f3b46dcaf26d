use Rattle.std.proofs.Common.{◌≡◌, take}
use Rattle.std.specs.List.{flat_map}
use Rattle.sgml_attr.specs.Literal.{unit_read}
use Rattle.sgml_attr.proofs.literal.read_data.Given as goal

abbrev pub invariant-loop-unit : goal.invariant-loop-unit
invariant-loop-unit l = l.read.items ≡ flat_map unit_read (take l.unit-index l.units)
