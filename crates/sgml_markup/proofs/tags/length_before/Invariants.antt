use Rattle.std.proofs.Common.{◌≡◌, ◌+◌, ◌==◌, not, length, drop}
use Rattle.sgml_markup.specs.References.{run_of}
use Rattle.sgml_markup.proofs.tags.length_before.Given as goal

abbrev pub invariant-loop-i : goal.invariant-loop-i
invariant-loop-i l =
    length (run_of (λ b. not (b == l.q)) l.text) ≡ l.i + length (run_of (λ b. not (b == l.q)) (drop l.i l.text))
