use Rattle.std.proofs.Common.{true, arith}
use Rattle.sgml_instance.proofs.Running.{runs-none, runs-then}
use Rattle.sgml_instance.proofs.quick.run_plain.Goals as goal

pub turns-init : goal.turns-init
turns-init g c = record {
  runs = λ ended. runs-none c.args.options.now c.args.texts.now ended c.args.content.now c.args.told.now.items;
  content = c.requires.content;
}

pub turns-preserved : goal.turns-preserved
turns-preserved g c = record {
  runs = λ ended.
      runs-then c.args.options.now c.args.texts.now ended c.args.content.now c.turns.content c.take_turn-n.new.content c.args.told.now.items c.turns.told.items c.take_turn-n.new.told.items
      (c.turns.invariant.runs ended) (c.take_turn-n.ensures.runs ended);
  content = c.take_turn-n.ensures.content;
}

pub turns-smaller : goal.turns-smaller
turns-smaller g c = c.take_turn-n.ensures.falls (omega (arith, c.if-n-eq0.false))

pub returns-then-n-eq0-clause-runs : goal.returns-then-n-eq0-clause-runs
returns-then-n-eq0-clause-runs g c = λ ended.
    runs-then c.args.options.now c.args.texts.now ended c.args.content.now c.turns.content c.take_turn-n.new.content c.args.told.now.items c.turns.told.items c.take_turn-n.new.told.items
    (c.turns.invariant.runs ended) (c.take_turn-n.ensures.runs ended)
