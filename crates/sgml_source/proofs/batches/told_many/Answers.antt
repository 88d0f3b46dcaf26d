use Rattle.std.proofs.Common.{rules, ap, subst, ◌∙◌, Some, None}
use Rattle.std.specs.Prelude.{Option}
use Rattle.sgml_source.specs.declared.told.Paused.{Paused}
use Rattle.sgml_source.specs.Turning.{TurnsMany, is_last, told_at, told_then}
use Rattle.sgml_source.proofs.Turned.{turns-still}
use Rattle.sgml_source.proofs.Many.{many-still, nothing-told}
use Rattle.sgml_source.proofs.batches.told_many.Goals as goal

pub returns-in-Some-clause-turns : goal.returns-in-Some-clause-turns
returns-in-Some-clause-turns g c =
    let S = g.S.Store in
    let l = c.turns in
    let n = c.turn.new in
    many-still (S.files c.args.store.now) (S.files l.store) (S.left c.args.store.now) (S.left l.store) (S.left n.store) c.args.source.now l.source n.source c.args.parser.now l.parser n.parser n.told.items (told_at c.in-Some.paused)
    l.invariant.files l.invariant.turns
    (subst (λ (z : Option Paused). TurnsMany (S.files l.store) (S.left l.store) l.source l.parser (S.left n.store) n.source n.parser n.told.items (told_then z)) c.in-Some.is c.in-Ok.ensures.turns)

pub turns-preserved : goal.turns-preserved
turns-preserved g c =
    let S = g.S.Store in
    let l = c.turns in
    let n = c.turn.new in
    let t = c.in-Ok.ensures in
    record {
      turns = turns-still (S.files c.args.store.now) (S.files l.store) (S.left c.args.store.now) (S.left l.store) (S.left n.store) c.args.source.now l.source n.source c.args.parser.now l.parser n.parser None
          l.invariant.files l.invariant.turns
          (nothing-told (S.files l.store) (S.left l.store) (S.left n.store) l.source n.source l.parser n.parser n.told.items (t.none c.in-None.is)
          (subst (λ (z : Option Paused). TurnsMany (S.files l.store) (S.left l.store) l.source l.parser (S.left n.store) n.source n.parser n.told.items (told_then z)) c.in-None.is t.turns));
      none = t.none c.in-None.is;
      going = t.going (ap (λ (z : Option Paused). is_last (told_then z)) c.in-None.is);
      inside = t.instance;
      tables = t.tables ∙ l.invariant.tables;
      id = search rules;
      given = λ id given. t.given id (l.invariant.given id given);
      files = search rules;
      faults = search rules;
      room = search rules;
    }
