use Rattle.std.proofs.Common.{None, Some, rules, ◌∙◌, [], sym, append-nil}
use Rattle.sgml_source.specs.declared.told.Paused.TheVariants as paused
use Rattle.sgml_conversion.proofs.Reaching.{tells-on, turns-so, shows-nothing, more-still}
use Rattle.sgml_conversion.proofs.Turned.{shows-on}
use Rattle.sgml_conversion.proofs.whole.read_all.Goals as goal

pub instance-init : goal.instance-init
instance-init g c = record {
  given = search rules;
  going = search rules;
  room = search rules;
  inside = search rules;
  tables = search rules;
  files = search rules;
  later = search rules;
  more = ([], sym (append-nil c.args.events.now.items));
  shown = let S = g.S.Store in shows-nothing (S.files c.args.store.now) (S.left c.args.store.now) c.args.source.now c.args.parser.now c.args.events.now.items;
}

pub returns-in-Finished-clause-tells : goal.returns-in-Finished-clause-tells
returns-in-Finished-clause-tells g c =
    let S = g.S.Store in let i = c.instance.invariant in
    tells-on (S.files c.args.store.now) (S.files c.instance.store) (S.left c.args.store.now) c.args.source.now c.args.parser.now c.args.events.now.items (S.left c.instance.store) c.instance.source c.instance.parser c.instance.events.items
    c.take_turn.new.parser None c.take_turn.new.events.items i.files i.shown
    (turns-so (S.files c.instance.store) (S.left c.instance.store) c.instance.source c.instance.parser c.instance.events.items (S.left c.take_turn.new.store) c.take_turn.new.source c.take_turn.new.parser c.take_turn.new.events.items c.in-Ok.paused paused.Finished c.in-Finished.is c.in-Ok.ensures.turns)

pub returns-in-Finished-clause-more : goal.returns-in-Finished-clause-more
returns-in-Finished-clause-more g c = more-still c.args.events.now.items c.instance.events.items c.take_turn.new.events.items c.instance.invariant.more c.in-Ok.ensures.more

pub returns-in-Refused-clause-tells : goal.returns-in-Refused-clause-tells
returns-in-Refused-clause-tells g c =
    let S = g.S.Store in let i = c.instance.invariant in
    tells-on (S.files c.args.store.now) (S.files c.instance.store) (S.left c.args.store.now) c.args.source.now c.args.parser.now c.args.events.now.items (S.left c.instance.store) c.instance.source c.instance.parser c.instance.events.items
    c.take_turn.new.parser (Some c.in-Refused.refusal) c.take_turn.new.events.items i.files i.shown
    (turns-so (S.files c.instance.store) (S.left c.instance.store) c.instance.source c.instance.parser c.instance.events.items (S.left c.take_turn.new.store) c.take_turn.new.source c.take_turn.new.parser c.take_turn.new.events.items c.in-Ok.paused (paused.Refused c.in-Refused.refusal) c.in-Refused.is c.in-Ok.ensures.turns)

pub returns-in-Refused-clause-more : goal.returns-in-Refused-clause-more
returns-in-Refused-clause-more g c = more-still c.args.events.now.items c.instance.events.items c.take_turn.new.events.items c.instance.invariant.more c.in-Ok.ensures.more

pub instance-preserved : goal.instance-preserved
instance-preserved g c = record {
  given = search rules;
  going = c.in-Ok.ensures.going c.in-Going.is;
  room = search rules;
  inside = c.in-Ok.ensures.instance;
  tables = c.in-Ok.ensures.tables ∙ c.instance.invariant.tables;
  files = c.in-Ok.ensures.files ∙ c.instance.invariant.files;
  later = search rules;
  more = more-still c.args.events.now.items c.instance.events.items c.take_turn.new.events.items c.instance.invariant.more c.in-Ok.ensures.more;
  shown =
      let S = g.S.Store in let i = c.instance.invariant in
      shows-on (S.files c.args.store.now) (S.files c.instance.store) (S.left c.args.store.now) c.args.source.now c.args.parser.now c.args.events.now.items (S.left c.instance.store) c.instance.source c.instance.parser c.instance.events.items
      (S.left c.take_turn.new.store) c.take_turn.new.source c.take_turn.new.parser c.take_turn.new.events.items i.files i.shown
      (turns-so (S.files c.instance.store) (S.left c.instance.store) c.instance.source c.instance.parser c.instance.events.items (S.left c.take_turn.new.store) c.take_turn.new.source c.take_turn.new.parser c.take_turn.new.events.items c.in-Ok.paused paused.Going c.in-Going.is c.in-Ok.ensures.turns);
}
