use Rattle.std.proofs.Common.{rules}
use Rattle.sgml_source.specs.declared.told.Told.TheVariants as told
use Rattle.sgml_conversion.proofs.Begun.{one-instruction, event-told, outside-still, prolog-told, stop-told, turns-of}
use Rattle.sgml_conversion.proofs.beginning.read_prolog.Goals as goal

pub returns-in-Prolog-clause-reads : goal.returns-in-Prolog-clause-reads
returns-in-Prolog-clause-reads g c =
    let S = g.S.Store in
    prolog-told (S.files c.args.store.now) (S.left c.args.store.now) c.args.source.now c.args.parser.now (S.left c.prolog.store) c.prolog.source c.prolog.parser (S.left c.told_next.new.store) c.told_next.new.source c.told_next.new.parser c.prolog.early.items c.prolog.invariant.instructions c.prolog.invariant.reads
    (turns-of (S.files c.args.store.now) (S.files c.prolog.store) (S.left c.prolog.store) c.prolog.source c.prolog.parser (S.left c.told_next.new.store) c.told_next.new.source c.told_next.new.parser c.in-Ok.told told.Prolog c.prolog.invariant.files c.in-Prolog.is c.in-Ok.ensures.turns)

pub returns-in-Refused-clause-reads : goal.returns-in-Refused-clause-reads
returns-in-Refused-clause-reads g c =
    let S = g.S.Store in
    stop-told (S.files c.args.store.now) (S.left c.args.store.now) c.args.source.now c.args.parser.now (S.left c.prolog.store) c.prolog.source c.prolog.parser (S.left c.told_next.new.store) c.told_next.new.source c.told_next.new.parser c.prolog.early.items c.in-Refused.refusal c.prolog.invariant.instructions c.prolog.invariant.reads
    (turns-of (S.files c.args.store.now) (S.files c.prolog.store) (S.left c.prolog.store) c.prolog.source c.prolog.parser (S.left c.told_next.new.store) c.told_next.new.source c.told_next.new.parser c.in-Ok.told (told.Refused c.in-Refused.refusal) c.prolog.invariant.files c.in-Refused.is c.in-Ok.ensures.turns)

pub prolog-preserved : goal.prolog-preserved
prolog-preserved g c = record {
  given = search rules;
  going = search rules;
  room = search rules;
  id = search rules;
  kept = search rules;
  files = search rules;
  later = search rules;
  outside = search rules;
  instructions = one-instruction c.prolog.early.items c.note_early.new.early.items c.in-Event.event c.prolog.invariant.instructions c.in-Ok-note_early.ensures.noted;
  reads =
      let S = g.S.Store in
      event-told (S.files c.args.store.now) (S.left c.args.store.now) c.args.source.now c.args.parser.now (S.left c.prolog.store) c.prolog.source c.prolog.parser (S.left c.told_next.new.store) c.told_next.new.source c.told_next.new.parser c.prolog.early.items c.note_early.new.early.items c.in-Event.event (outside-still c.prolog.parser.reading c.told_next.new.parser.reading c.in-Ok.told c.in-Event.event c.in-Ok.ensures.over c.in-Event.is c.prolog.invariant.outside) c.prolog.invariant.instructions c.in-Ok-note_early.ensures.noted c.prolog.invariant.reads
      (turns-of (S.files c.args.store.now) (S.files c.prolog.store) (S.left c.prolog.store) c.prolog.source c.prolog.parser (S.left c.told_next.new.store) c.told_next.new.source c.told_next.new.parser c.in-Ok.told (told.Event c.in-Event.event) c.prolog.invariant.files c.in-Event.is c.in-Ok.ensures.turns);
}
