use Rattle.std.proofs.Common.{◌∷◌, take}
use Rattle.std.specs.Prelude.{flat_map}
use Rattle.sgml_esis.specs.Writing.{Puts}
use Rattle.sgml_event_lines.proofs.texts.put_names.Given as goal

abbrev pub invariant-loop-name : goal.invariant-loop-name
invariant-loop-name g l =
    let O = g.O.Sink in
    Puts (O.taken l.fn.sink) (O.faults l.fn.sink) l.fn.held (O.taken l.sink) (O.faults l.sink) l.held (flat_map (λ name. 32 ∷ name) (take l.name-index l.names))
