use Rattle.std.proofs.Common.{sym, ◌∙◌, true}
use Rattle.sgml_content_tags.specs.sgml_content_steps.Plainly.{plain_state}
use Rattle.sgml_instance.proofs.Running.{runs-none, runs-then, text-runs, text-falls}
use Rattle.sgml_instance.proofs.quick.run_text.Goals as goal

pub text-init : goal.text-init
text-init g c = record {
  runs = λ ended. runs-none c.args.options.now c.args.texts.now ended c.args.content.now c.args.told.now.items;
  content = c.requires.content;
  plain = c.requires.plain;
  around = c.look_around-around.ensures;
}

pub text-preserved : goal.text-preserved
text-preserved g c = record {
  runs = λ ended.
      runs-then c.args.options.now c.args.texts.now ended c.args.content.now c.text.content c.try_plain_text-n.new.content c.args.told.now.items c.text.told.items c.try_plain_text-n.new.told.items
      (c.text.invariant.runs ended)
      (text-runs c.args.options.now c.args.texts.now ended c.text.content c.try_plain_text-n.new.content c.text.told.items c.try_plain_text-n.new.told.items c.try_plain_text-n.result
      c.text.invariant.plain c.try_plain_text-n.ensures.takes);
  content = c.try_plain_text-n.ensures.content;
  plain = c.try_plain_text-n.ensures.alike.scanned plain_state c.text.invariant.plain;
  around = c.text.invariant.around ∙ sym c.try_plain_text-n.ensures.alike.around;
}

pub text-smaller : goal.text-smaller
text-smaller g c =
    text-falls c.args.options.now c.args.texts.now true c.text.content c.try_plain_text-n.new.content c.text.told.items c.try_plain_text-n.new.told.items c.try_plain_text-n.result
    c.text.invariant.plain c.if-n-eq0.false c.try_plain_text-n.ensures.takes

pub returns-then-n-eq0-clause-runs : goal.returns-then-n-eq0-clause-runs
returns-then-n-eq0-clause-runs g c = λ ended.
    runs-then c.args.options.now c.args.texts.now ended c.args.content.now c.text.content c.try_plain_text-n.new.content c.args.told.now.items c.text.told.items c.try_plain_text-n.new.told.items
    (c.text.invariant.runs ended)
    (text-runs c.args.options.now c.args.texts.now ended c.text.content c.try_plain_text-n.new.content c.text.told.items c.try_plain_text-n.new.told.items c.try_plain_text-n.result
    c.text.invariant.plain c.try_plain_text-n.ensures.takes)

pub returns-then-n-eq0-clause-plain : goal.returns-then-n-eq0-clause-plain
returns-then-n-eq0-clause-plain g c = c.try_plain_text-n.ensures.alike.scanned plain_state c.text.invariant.plain
