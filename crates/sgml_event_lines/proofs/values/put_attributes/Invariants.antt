use Rattle.std.proofs.Common.{◌≡◌, ◌++◌, List, drop}
use Rattle.sgml_theory_reading.specs.Lines.{Line, attribute_lines}
use Rattle.sgml_said.specs.Told.{attributes_with}
use Rattle.sgml_event_lines.specs.Placed.{placed}
use Rattle.sgml_event_lines.specs.Standing.{Defines}
use Rattle.sgml_event_lines.proofs.values.put_attributes.Given as goal

-- the lines before those of the rest were put
abbrev pub invariant-loop-i : goal.invariant-loop-i
invariant-loop-i g l =
    let O = g.O.Sink in
    (done : List Line) × (attribute_lines l.dtd (attributes_with l.definitions l.values) ≡ done ++ attribute_lines l.dtd (attributes_with (drop l.i l.definitions) (drop l.i l.values))) × Defines l.dtd (placed l.dtd done) (O.taken l.fn.sink) (O.faults l.fn.sink) l.fn.pen (O.taken l.sink) (O.faults l.sink) l.pen
