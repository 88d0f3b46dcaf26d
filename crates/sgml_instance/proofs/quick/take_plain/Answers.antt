use Rattle.std.proofs.Common.{true, arith}
use Rattle.sgml_instance.proofs.Running.{runs-then, text-runs, text-falls, runs-fall}
use Rattle.sgml_instance.proofs.quick.take_plain.Goals as goal

pub returns-clause-runs : goal.returns-clause-runs
returns-clause-runs g c = λ ended.
    runs-then c.args.options.now c.args.texts.now ended c.args.content.now c.run_text.new.content c.try_other.new.content c.args.told.now.items c.run_text.new.told.items c.try_other.new.told.items
    (c.run_text.ensures.runs ended)
    (text-runs c.args.options.now c.args.texts.now ended c.run_text.new.content c.try_other.new.content c.run_text.new.told.items c.try_other.new.told.items c.try_other.result
    c.run_text.ensures.plain c.try_other.ensures.takes)

pub returns-clause-falls : goal.returns-clause-falls
returns-clause-falls g c some =
    runs-fall c.args.options.now c.args.texts.now true c.args.content.now c.run_text.new.content c.try_other.new.content c.args.told.now.items c.run_text.new.told.items (c.run_text.ensures.runs true)
    (text-falls c.args.options.now c.args.texts.now true c.run_text.new.content c.try_other.new.content c.run_text.new.told.items c.try_other.new.told.items c.try_other.result
    c.run_text.ensures.plain (λ e. omega (arith, some, e)) c.try_other.ensures.takes)
