use Rattle.std.proofs.Common.{take}
use Rattle.sgml_esis.specs.Spelling.{spell_names}
use Rattle.sgml_esis.specs.Writing.{Puts}
use Rattle.sgml_full.proofs.tags.put_more_names.Given as goal

abbrev pub invariant-loop-name : goal.invariant-loop-name
invariant-loop-name g l =
    let O = g.O.Sink in
    Puts (O.taken l.fn.sink) (O.faults l.fn.sink) l.fn.held (O.taken l.sink) (O.faults l.sink) l.held (spell_names (take l.name-index l.names))
