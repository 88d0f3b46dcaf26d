use Rattle.std.proofs.Common.{take}
use Rattle.std.specs.Prelude.{flat_map}
use Rattle.sgml_esis.specs.Writing.{Puts}
use Rattle.sgml_full.specs.Spelled.{raw_unit}
use Rattle.sgml_full.proofs.spelling.put_raw_units.Given as goal

abbrev pub invariant-loop-unit : goal.invariant-loop-unit
invariant-loop-unit g l =
    let O = g.O.Sink in
    Puts (O.taken l.fn.sink) (O.faults l.fn.sink) l.fn.held (O.taken l.sink) (O.faults l.sink) l.held (flat_map (raw_unit l.dtd) (take l.unit-index l.units))
