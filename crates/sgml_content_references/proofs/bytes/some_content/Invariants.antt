use Rattle.std.proofs.Common.{◌≡◌, drop}
use Rattle.sgml_content_references.specs.Ordinary.{some_by}
use Rattle.sgml_content_references.proofs.bytes.some_content.Given as goal

abbrev pub invariant-loop-i : goal.invariant-loop-i
invariant-loop-i l = some_by l.live (drop l.i l.string) ≡ some_by l.fn.live l.string
