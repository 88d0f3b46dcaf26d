use Rattle.std.proofs.Common.{[], sym, ◌∙◌, append-nil}
use Rattle.sgml_esis.proofs.Holding.{puts_lost, puts_given, puts_failed}
use Rattle.sgml_esis.proofs.held.flush.Goals as goal

pub returns-then-failed-clause-puts : goal.returns-then-failed-clause-puts
returns-then-failed-clause-puts g c = puts_lost _ _ c.args.held.now c.clear.new.self [] (sym c.failed.ensures ∙ c.if-failed.true) c.clear.ensures

pub returns-in-Ok-clause-puts : goal.returns-in-Ok-clause-puts
returns-in-Ok-clause-puts g c =
    puts_given _ _ _ _ c.args.held.now c.clear-in-Ok.new.self c.items.result.now [] (sym c.failed.ensures ∙ c.if-failed.false) (c.items.ensures ∙ sym (append-nil c.args.held.now.0)) c.in-Ok.ensures.bytes c.write_whole.ensures.cause.later c.clear-in-Ok.ensures

pub returns-in-Err-clause-puts : goal.returns-in-Err-clause-puts
returns-in-Err-clause-puts g c =
    puts_failed _ _ _ _ c.args.held.now c.fail.new.self c.items.result.now [] (sym c.failed.ensures ∙ c.if-failed.false) (c.items.ensures ∙ sym (append-nil c.args.held.now.0)) c.in-Err.ensures.bytes c.write_whole.ensures.cause.later c.in-Err.ensures.cause.failed c.fail.ensures
