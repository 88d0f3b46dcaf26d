use Rattle.std.proofs.Common.{◌≡◌, take}
use Rattle.sgml_dtd_attlists.specs.Rows.{refusals}
use Rattle.sgml_dtd_attlists.proofs.rows.refusals.Given as goal

abbrev pub invariant-loop-definition : goal.invariant-loop-definition
invariant-loop-definition l = l.all.items ≡ refusals l.syntax (take l.definition-index l.definitions)
