use Rattle.std.proofs.Common.{map, take}
use Rattle.sgml_theory_reading.specs.Types.{name_of_entity}
use Rattle.sgml_theory_reading.specs.Lines.{define_entities}
use Rattle.sgml_event_lines.specs.Standing.{Defines}
use Rattle.sgml_event_lines.proofs.defining.define_entities.Given as goal

abbrev pub invariant-loop-number : goal.invariant-loop-number
invariant-loop-number g l =
    let O = g.O.Sink in
    Defines l.dtd (λ known. define_entities l.dtd known (map (name_of_entity l.dtd) (take l.number-index l.numbers))) (O.taken l.fn.sink) (O.faults l.fn.sink) l.fn.pen (O.taken l.sink) (O.faults l.sink) l.pen
