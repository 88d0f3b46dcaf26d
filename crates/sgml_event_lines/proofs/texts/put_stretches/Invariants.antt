use Rattle.std.proofs.Common.{◌≡◌, ◌++◌, List, ℕ, length}
use Rattle.sgml_esis.specs.Writing.{Puts}
use Rattle.sgml_event_lines.specs.Standing.{text_bytes}
use Rattle.sgml_event_lines.proofs.texts.put_stretches.Given as goal

-- what was put stands before the rest
abbrev pub invariant-stretches : goal.invariant-stretches
invariant-stretches g l =
    let O = g.O.Sink in
    (front : List ℕ) × (l.fn.text ≡ front ++ l.rest) × Puts (O.taken l.fn.sink) (O.faults l.fn.sink) l.fn.held (O.taken l.sink) (O.faults l.sink) l.held (text_bytes front)

abbrev pub decreases-stretches : goal.decreases-stretches
decreases-stretches g l = length l.rest
