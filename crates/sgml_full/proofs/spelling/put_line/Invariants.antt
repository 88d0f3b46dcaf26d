use Rattle.std.proofs.Common.{take}
use Rattle.std.specs.Prelude.{flat_map}
use Rattle.sgml_esis.specs.Writing.{Puts}
use Rattle.sgml_full.specs.Spelled.{line_byte}
use Rattle.sgml_full.proofs.spelling.put_line.Given as goal

abbrev pub invariant-loop-b : goal.invariant-loop-b
invariant-loop-b g l =
    let O = g.O.Sink in
    Puts (O.taken l.fn.sink) (O.faults l.fn.sink) l.fn.held (O.taken l.sink) (O.faults l.sink) l.held (flat_map line_byte (take l.b-index l.text))
