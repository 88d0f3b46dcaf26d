use Rattle.std.proofs.Common.{sym, ◌∙◌}
use Rattle.sgml_esis.specs.Spelling.{spell_line, spell_lines}
use Rattle.sgml_esis.proofs.Holding.{puts_item, all_put, done, stopped}
use Rattle.sgml_esis.proofs.write.write_lines.Goals as goal

pub loop-line-preserved : goal.loop-line-preserved
loop-line-preserved g c =
    puts_item spell_line c.args.lines.now c.loop-line.line-index c.line-item.result _ _ _ _ _ _ _ _ _ c.loop-line-test.true c.line-item.is c.loop-line.invariant c.put_line.ensures

pub returns-then-failed-clause-bytes : goal.returns-then-failed-clause-bytes
returns-then-failed-clause-bytes g c =
    let s = all_put spell_line c.args.lines.now c.loop-line.line-index _ _ _ _ _ _ _ _ c.loop-line-test.false c.loop-line.invariant c.flush.ensures.puts in
    stopped _ _ _ _ c.flush.new.held (spell_lines c.args.lines.now) (sym c.failed.ensures ∙ c.if-failed.true) s

pub returns-then-failed-clause-cause : goal.returns-then-failed-clause-cause
returns-then-failed-clause-cause g c =
    let s = all_put spell_line c.args.lines.now c.loop-line.line-index _ _ _ _ _ _ _ _ c.loop-line-test.false c.loop-line.invariant c.flush.ensures.puts in
    record { later = s.later; failed = s.failed (sym c.failed.ensures ∙ c.if-failed.true) }

pub returns-clause-bytes : goal.returns-clause-bytes
returns-clause-bytes g c =
    let s = all_put spell_line c.args.lines.now c.loop-line.line-index _ _ _ _ _ _ _ _ c.loop-line-test.false c.loop-line.invariant c.flush.ensures.puts in
    done _ _ _ _ c.flush.new.held (spell_lines c.args.lines.now) c.flush.ensures.none (sym c.failed.ensures ∙ c.if-failed.false) s

pub returns-clause-cause : goal.returns-clause-cause
returns-clause-cause g c =
    let s = all_put spell_line c.args.lines.now c.loop-line.line-index _ _ _ _ _ _ _ _ c.loop-line-test.false c.loop-line.invariant c.flush.ensures.puts in
    record { later = s.later; failed = tt }
