use Rattle.std.proofs.Common.{sym, ◌∙◌, arith}
use Rattle.sgml_esis.specs.Plain.{is_plain}
use Rattle.sgml_esis.proofs.Fronts.{prefix_stops, prefix_whole}
use Rattle.sgml_esis.proofs.held.Held.extend_each.Goals as goal
use Rattle.sgml_esis.proofs.held.Held.extend_each.Goals.{then-plain-test+else-is_plain, else-plain-test}

pub returns-clause-count : goal.returns-clause-count
returns-clause-count c =
    elim c.plain-test.branch [
      | then-plain-test+else-is_plain w ↦ prefix_stops is_plain c.args.bytes.now c.plain.count _ c.plain.invariant.3 w.plain-test.true (sym w.is_plain.ensures ∙ w.if-is_plain.false)
      | else-plain-test w ↦ prefix_whole is_plain c.args.bytes.now c.plain.count c.plain.invariant.3 w.plain-test.false c.plain.invariant.0
    ]
