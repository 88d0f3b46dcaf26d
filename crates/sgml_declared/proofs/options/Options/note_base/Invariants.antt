use Rattle.std.proofs.Common.{◌≡◌, drop, IfSome}
use Rattle.sgml_theory_standing.specs.theory_reading.Unread.{Outside}
use Rattle.sgml_declared.specs.Files.{IsOutsideOf, IsNoted, sources_in}
use Rattle.sgml_declared.proofs.Numbered.{base_from}
use Rattle.sgml_declared.proofs.options.Options.note_base.Given as goal

abbrev pub invariant-loop-level : goal.invariant-loop-level
invariant-loop-level l = record {
  from : (outside : Outside) → IsOutsideOf l.self outside
      → base_from outside (sources_in l.dtd l.subset) l.stack.places ≡ base_from outside (sources_in l.dtd l.subset) (drop l.level l.stack.places);
  noted : IfSome l.noted (IsNoted l.self);
}
