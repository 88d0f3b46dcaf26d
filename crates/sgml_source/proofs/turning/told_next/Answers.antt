use Rattle.std.proofs.Common.{rules, ap, subst, ◌∙◌, Some, None}
use Rattle.sgml_source.specs.Turning.{Turns, GoesOverAt, is_last}
use Rattle.sgml_source.proofs.Turned.{turns-still, tables-still}
use Rattle.sgml_source.proofs.turning.told_next.Goals as goal

pub returns-in-Some-clause-turns : goal.returns-in-Some-clause-turns
returns-in-Some-clause-turns g c =
    let S = g.S.Store in
    let l = c.turns in
    let n = c.turn.new in
    let t = c.in-Ok.ensures.turns in
    turns-still (S.files c.args.store.now) (S.files l.store) (S.left c.args.store.now) (S.left l.store) (S.left n.store) c.args.source.now l.source n.source c.args.parser.now l.parser n.parser (Some c.in-Some.told)
    l.invariant.files l.invariant.turns (subst (λ z. Turns (S.files l.store) (S.left l.store) l.source l.parser (S.left n.store) n.source n.parser z) c.in-Some.is t)

pub turns-preserved : goal.turns-preserved
turns-preserved g c =
    let S = g.S.Store in
    let l = c.turns in
    let n = c.turn.new in
    let t = c.in-Ok.ensures in
    record {
      turns = turns-still (S.files c.args.store.now) (S.files l.store) (S.left c.args.store.now) (S.left l.store) (S.left n.store) c.args.source.now l.source n.source c.args.parser.now l.parser n.parser None
          l.invariant.files l.invariant.turns (subst (λ z. Turns (S.files l.store) (S.left l.store) l.source l.parser (S.left n.store) n.source n.parser z) c.in-None.is t.turns);
      going = t.going (ap is_last c.in-None.is);
      over = subst (GoesOverAt l.parser.reading n.parser.reading) c.in-None.is t.over ∙ l.invariant.over;
      tables = tables-still c.args.parser.now.reading l.parser.reading n.parser.reading l.invariant.over l.invariant.tables t.tables;
      id = search rules;
      given = λ id given. t.given id (l.invariant.given id given);
      files = search rules;
      faults = search rules;
      room = search rules;
    }
