use Rattle.std.proofs.Common.{◌≡◌, drop}
use Rattle.sgml_theory_standing.specs.theory_reading.Unread.{Outside}
use Rattle.sgml_declared.specs.Files.{IsOutsideOf, sources_in}
use Rattle.sgml_declared.proofs.Numbered.{base_from}
use Rattle.sgml_declared.proofs.options.Options.base_at.Given as goal

abbrev pub invariant-loop-level : goal.invariant-loop-level
invariant-loop-level l = (outside : Outside) → IsOutsideOf l.self outside
    → base_from outside (sources_in l.dtd l.subset) l.stack.places ≡ base_from outside (sources_in l.dtd l.subset) (drop l.level l.stack.places)
