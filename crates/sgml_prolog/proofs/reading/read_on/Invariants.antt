use Rattle.std.proofs.Common.{◌≡◌, IfSome}
use Rattle.sgml_declared.specs.Files.{IsNoted}
use Rattle.sgml_declared.specs.theory_standing.Next.{left_to_read}
use Rattle.sgml_prolog_steps.specs.Standing.{IsKept}
use Rattle.sgml_prolog.specs.Going.{Goes}
use Rattle.sgml_prolog.proofs.reading.read_on.Given as goal

abbrev pub invariant-reading : goal.invariant-reading
invariant-reading g l = record {
  goes : Goes l.options l.texts l.ended l.asked l.fn.kept l.kept;
  kept : IsKept l.kept;
  expand : l.kept.stack.expand ≡ l.fn.kept.stack.expand;
  asked : l.asked ≡ l.fn.asked;
  noted : IfSome l.noted (IsNoted l.options);
}

abbrev pub decreases-reading : goal.decreases-reading
decreases-reading g l = left_to_read l.kept l.texts
