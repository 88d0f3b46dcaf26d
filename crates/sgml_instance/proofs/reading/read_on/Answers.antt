use Rattle.std.proofs.Common.{[], List, ◌∙◌, ap, sym, Bool, subst}
use Rattle.sgml_events.specs.declared.event.Event.{Event}
use Rattle.sgml_content_tags.specs.sgml_content_steps.Content.{Content, IsContent}
use Rattle.sgml_instance.specs.Reading.{reader}
use Rattle.sgml_instance.specs.Stepping.{taken}
use Rattle.sgml_instance.specs.Going.{Advances, GoesFrom, stop_of}
use Rattle.sgml_instance.proofs.Advancing.{none-is, goes-further, answers-filled, some-waits}
use Rattle.sgml_instance.proofs.Going.{goes-nowhere}
use Rattle.sgml_instance.proofs.reading.read_on.Goals as goal
use Rattle.sgml_instance.proofs.reading.read_on.Goals.{then-reading-test+else-has_none, else-reading-test}

pub reading-init : goal.reading-init
reading-init g c =
    let same = sym c.prepare_models.ensures in
    let from = reader c.args.options.now c.args.content.now [] c.args.over.now in
    record {
      goes = subst (λ (x : Content). GoesFrom c.args.options.now c.args.texts.now c.args.ended from (reader c.args.options.now x c.args.waiting.now.items c.args.over.now)) same
          (subst (λ (es : List Event). GoesFrom c.args.options.now c.args.texts.now c.args.ended from (reader c.args.options.now c.args.content.now es c.args.over.now)) (sym c.requires.none)
          (goes-nowhere c.args.options.now c.args.texts.now c.args.ended from));
      content = subst IsContent same c.requires.content;
      expand = ap (λ (x : Content). x.kept.stack.expand) c.prepare_models.ensures;
      doctype = ap (λ (x : Content). x.kept.doctype) c.prepare_models.ensures;
    }

pub reading-preserved : goal.reading-preserved
reading-preserved g c = record {
  goes = goes-further c.args.options.now c.args.texts.now c.args.ended (reader c.args.options.now c.args.content.now [] c.args.over.now) c.reading.content c.advance.new.content c.reading.waiting.items c.advance.new.told.items
      c.reading.over c.advance.new.over c.reading-test.true c.reading.invariant.goes (subst (λ (b : Bool). Advances c.args.options.now c.args.texts.now c.args.ended c.reading.content c.advance.new.content c.advance.new.over c.reading.waiting.items c.advance.new.told.items (stop_of (taken b c.advance.new.stop))) c.if-not-advance.false c.advance.ensures.advances);
  content = c.advance.ensures.content;
  expand = c.advance.ensures.expand ∙ c.reading.invariant.expand;
  doctype = c.advance.ensures.doctype ∙ c.reading.invariant.doctype;
}

pub returns-then-not-advance-clause-filled : goal.returns-then-not-advance-clause-filled
returns-then-not-advance-clause-filled g c =
    answers-filled c.args.options.now c.args.texts.now c.args.ended (reader c.args.options.now c.args.content.now [] c.args.over.now) c.reading.content c.advance.new.content c.reading.waiting.items c.advance.new.told.items
    c.reading.over c.advance.new.over c.advance.new.stop c.place_of.result c.stopped_at.result (none-is c.reading.waiting.items (sym c.if-has_none.ensures)) c.reading-test.true c.place_of.ensures c.stopped_at.ensures
    c.reading.invariant.goes (subst (λ (b : Bool). Advances c.args.options.now c.args.texts.now c.args.ended c.reading.content c.advance.new.content c.advance.new.over c.reading.waiting.items c.advance.new.told.items (stop_of (taken b c.advance.new.stop))) c.if-not-advance.true c.advance.ensures.advances)

pub returns-clause-filled : goal.returns-clause-filled
returns-clause-filled g c = (
  c.reading.invariant.goes,
  elim c.reading-test.branch [
    | then-reading-test+else-has_none w ↦ λ none. some-waits c.reading.waiting.items (sym w.if-has_none.ensures) none
    | else-reading-test w ↦ λ none. w.reading-test.false
  ],
)
