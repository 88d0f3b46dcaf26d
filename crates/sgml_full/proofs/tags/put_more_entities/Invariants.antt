use Rattle.std.proofs.Common.{take, ◌∷◌}
use Rattle.std.specs.Prelude.{flat_map}
use Rattle.sgml_esis.specs.Writing.{Puts}
use Rattle.sgml_said.specs.theory_reading.Types.{name_of_entity}
use Rattle.sgml_full.proofs.tags.put_more_entities.Given as goal

abbrev pub invariant-loop-number : goal.invariant-loop-number
invariant-loop-number g l =
    let O = g.O.Sink in
    Puts (O.taken l.fn.sink) (O.faults l.fn.sink) l.fn.held (O.taken l.sink) (O.faults l.sink) l.held (flat_map (λ number. 32 ∷ name_of_entity l.dtd number) (take l.number-index l.numbers))
