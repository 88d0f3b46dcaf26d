use Rattle.std.proofs.Common.{ap, sym, ◌∙◌, Bool, subst}
use Rattle.sgml_content_tags.specs.sgml_content_steps.Content.{Content, IsContent}
use Rattle.sgml_instance.specs.Stepping.{taken}
use Rattle.sgml_instance.specs.Going.{GoesOn, Advances, FallsBy, stop_of}
use Rattle.sgml_instance.proofs.Advancing.{goes-none, goes-on-then}
use Rattle.sgml_instance.proofs.Many.{reads-to-stop, reads-enough}
use Rattle.sgml_instance.proofs.Running.{runs-behind, rest-falls}
use Rattle.sgml_instance.proofs.batches.read_rest.Goals as goal

pub reading-init : goal.reading-init
reading-init g c =
    let same = sym c.prepare_models.ensures in
    record {
      goes = subst (λ (x : Content). GoesOn c.args.options.now c.args.texts.now c.args.ended c.args.content.now c.args.over.now x c.args.over.now c.args.told.now.items c.args.told.now.items) same
          (goes-none c.args.options.now c.args.texts.now c.args.ended c.args.content.now c.args.over.now c.args.told.now.items);
      content = subst IsContent same c.requires.content;
      expand = ap (λ (x : Content). x.kept.stack.expand) c.prepare_models.ensures;
      doctype = ap (λ (x : Content). x.kept.doctype) c.prepare_models.ensures;
    }

pub reading-preserved : goal.reading-preserved
reading-preserved g c = record {
  goes = goes-on-then c.args.options.now c.args.texts.now c.args.ended c.args.content.now c.run_plain.new.content c.advance.new.content c.args.over.now c.reading.over c.advance.new.over c.args.told.now.items
      c.run_plain.new.told.items c.advance.new.told.items c.reading-test.true (runs-behind c.args.options.now c.args.texts.now c.args.ended c.args.content.now c.reading.content c.run_plain.new.content c.args.over.now c.reading.over c.args.told.now.items c.reading.told.items c.run_plain.new.told.items c.reading-test.true c.reading.invariant.goes (c.run_plain.ensures.runs c.args.ended)) (subst (λ (b : Bool). Advances c.args.options.now c.args.texts.now c.args.ended c.run_plain.new.content c.advance.new.content c.advance.new.over c.run_plain.new.told.items c.advance.new.told.items (stop_of (taken b c.advance.new.stop))) c.if-not-advance.false c.advance.ensures.advances);
  content = c.advance.ensures.content;
  expand = c.advance.ensures.expand ∙ ((c.run_plain.ensures.runs c.args.ended).expand ∙ c.reading.invariant.expand);
  doctype = c.advance.ensures.doctype ∙ ((c.run_plain.ensures.runs c.args.ended).doctype ∙ c.reading.invariant.doctype);
}

pub returns-then-not-advance-clause-reads : goal.returns-then-not-advance-clause-reads
returns-then-not-advance-clause-reads g c =
    reads-to-stop c.args.options.now c.args.texts.now c.args.ended c.args.content.now c.run_plain.new.content c.advance.new.content c.args.over.now c.reading.over c.advance.new.over c.args.told.now.items
    c.run_plain.new.told.items c.advance.new.told.items c.advance.new.stop c.place_of.result c.paused_at.result c.reading-test.true c.place_of.ensures c.paused_at.ensures (runs-behind c.args.options.now c.args.texts.now c.args.ended c.args.content.now c.reading.content c.run_plain.new.content c.args.over.now c.reading.over c.args.told.now.items c.reading.told.items c.run_plain.new.told.items c.reading-test.true c.reading.invariant.goes (c.run_plain.ensures.runs c.args.ended)) (subst (λ (b : Bool). Advances c.args.options.now c.args.texts.now c.args.ended c.run_plain.new.content c.advance.new.content c.advance.new.over c.run_plain.new.told.items c.advance.new.told.items (stop_of (taken b c.advance.new.stop))) c.if-not-advance.true c.advance.ensures.advances)

pub returns-clause-reads : goal.returns-clause-reads
returns-clause-reads g c =
    reads-enough c.args.options.now c.args.texts.now c.args.ended c.args.content.now c.reading.content c.args.over.now c.reading.over c.args.told.now.items c.reading.told.items c.pause_after.result
    c.pause_after.ensures c.reading.invariant.goes

pub reading-smaller : goal.reading-smaller
reading-smaller g c =
    rest-falls c.args.texts.now c.reading.content c.run_plain.new.content c.advance.new.content c.reading.over c.advance.new.over c.reading-test.true (c.run_plain.ensures.runs c.args.ended).left
    (subst (λ (b : Bool). FallsBy c.args.texts.now c.run_plain.new.content c.advance.new.content c.advance.new.over (stop_of (taken b c.advance.new.stop))) c.if-not-advance.false c.advance.ensures.falls)

pub returns-then-not-advance-clause-expand : goal.returns-then-not-advance-clause-expand
returns-then-not-advance-clause-expand g c = c.advance.ensures.expand ∙ ((c.run_plain.ensures.runs c.args.ended).expand ∙ c.reading.invariant.expand)

pub returns-then-not-advance-clause-doctype : goal.returns-then-not-advance-clause-doctype
returns-then-not-advance-clause-doctype g c = c.advance.ensures.doctype ∙ ((c.run_plain.ensures.runs c.args.ended).doctype ∙ c.reading.invariant.doctype)
