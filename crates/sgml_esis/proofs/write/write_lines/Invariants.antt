use Rattle.std.proofs.Common.{take, [], false}
use Rattle.sgml_esis.specs.Spelling.{spell_lines}
use Rattle.sgml_esis.specs.Writing.{Puts}
use Rattle.sgml_esis.proofs.write.write_lines.Given as goal

abbrev pub invariant-loop-line : goal.invariant-loop-line
invariant-loop-line g l =
    let O = g.O.Sink in
    Puts (O.taken l.fn.sink) (O.faults l.fn.sink) ([], false) (O.taken l.sink) (O.faults l.sink) l.held (spell_lines (take l.line-index l.lines))
