use Rattle.std.proofs.Common.{◌≡◌, ◌++◌, List, ℕ, false, drop}
use Rattle.sgml_esis.specs.Writing.{Puts}
use Rattle.sgml_theory_reading.specs.Lines.{single_from}
use Rattle.sgml_event_lines.specs.Standing.{text_bytes}
use Rattle.sgml_event_lines.proofs.texts.put_single.Given as goal

-- what was put, and what the rest comes to
abbrev pub invariant-loop-b : goal.invariant-loop-b
invariant-loop-b g l =
    let O = g.O.Sink in
    (front : List ℕ) × (front ++ text_bytes (single_from l.begun l.pending (drop l.b-index l.text)) ≡ text_bytes (single_from false false l.text)) × Puts (O.taken l.fn.sink) (O.faults l.fn.sink) l.fn.held (O.taken l.sink) (O.faults l.sink) l.held front
