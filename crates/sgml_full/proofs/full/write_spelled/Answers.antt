use Rattle.std.proofs.Common.{sym, ◌∙◌}
use Rattle.sgml_esis.proofs.Holding.{done, stopped}
use Rattle.sgml_full.proofs.Whole.{whole_said}
use Rattle.sgml_full.proofs.full.write_spelled.Goals as goal

pub returns-then-failed-clause-bytes : goal.returns-then-failed-clause-bytes
returns-then-failed-clause-bytes g c = stopped _ _ _ _ c.flush.new.held _ (sym c.failed.ensures ∙ c.if-failed.true) (whole_said c.args.prolog.now c.args.dtd.now c.args.events.now _ _ _ _ _ _ _ _ _ _ _ _ _ _ _ c.new-held.ensures c.put.ensures c.put_events.ensures c.put-2.ensures c.flush.ensures.puts)

pub returns-then-failed-clause-cause : goal.returns-then-failed-clause-cause
returns-then-failed-clause-cause g c =
    let s = whole_said c.args.prolog.now c.args.dtd.now c.args.events.now _ _ _ _ _ _ _ _ _ _ _ _ _ _ _ c.new-held.ensures c.put.ensures c.put_events.ensures c.put-2.ensures c.flush.ensures.puts in
    record { later = s.later; failed = s.failed (sym c.failed.ensures ∙ c.if-failed.true) }

pub returns-clause-bytes : goal.returns-clause-bytes
returns-clause-bytes g c = done _ _ _ _ c.flush.new.held _ c.flush.ensures.none (sym c.failed.ensures ∙ c.if-failed.false) (whole_said c.args.prolog.now c.args.dtd.now c.args.events.now _ _ _ _ _ _ _ _ _ _ _ _ _ _ _ c.new-held.ensures c.put.ensures c.put_events.ensures c.put-2.ensures c.flush.ensures.puts)

pub returns-clause-cause : goal.returns-clause-cause
returns-clause-cause g c =
    let s = whole_said c.args.prolog.now c.args.dtd.now c.args.events.now _ _ _ _ _ _ _ _ _ _ _ _ _ _ _ c.new-held.ensures c.put.ensures c.put_events.ensures c.put-2.ensures c.flush.ensures.puts in
    record { later = s.later; failed = tt }
