use Rattle.std.proofs.Common.{Option, Ok, subst, rules, ◌∙◌}
use Rattle.sgml_conversion.specs.declared.answer.Ending.{Ending}
use Rattle.sgml_conversion.specs.declared.answer.Failure.TheVariants as failure
use Rattle.sgml_conversion.specs.Showing.{InstanceTurns}
use Rattle.sgml_conversion.proofs.Taken.{same-cause, without-cause}
use Rattle.sgml_conversion.proofs.Turned.{not-told, shows-on, ends-on, fails-on}
use Rattle.sgml_conversion.proofs.instance.read_instance.Goals as goal

pub returns-in-Err-clause-ends : goal.returns-in-Err-clause-ends
returns-in-Err-clause-ends g c = λ start count es s.
    let S = g.S.Store in let O = g.O.Sink in
    let h = c.instance.invariant.shown start count es s in
    fails-on (S.files c.args.store.now) (S.files c.instance.store) (S.left c.args.store.now) c.args.source.now c.args.parser.now es (S.left c.instance.store) c.instance.source c.instance.parser h.0 start (O.taken c.turn.new.out) c.instance.invariant.files h.2 (c.in-Err.ensures.turns start count h.0 h.1)

pub returns-in-Err-clause-sink : goal.returns-in-Err-clause-sink
returns-in-Err-clause-sink g c = λ start count es s.
    let h = c.instance.invariant.shown start count es s in
    same-cause failure.Sink c.in-Err.failure count (g.O.Sink.faults c.turn.new.out) (c.in-Err.ensures.sink start count h.0 h.1)

pub returns-in-Some-clause-ends : goal.returns-in-Some-clause-ends
returns-in-Some-clause-ends g c = λ start count es s.
    let S = g.S.Store in let O = g.O.Sink in
    let h = c.instance.invariant.shown start count es s in
    ends-on (S.files c.args.store.now) (S.files c.instance.store) (S.left c.args.store.now) c.args.source.now c.args.parser.now es (S.left c.instance.store) c.instance.source c.instance.parser h.0 c.turn.new.parser c.in-Some.outcome start (O.taken c.turn.new.out) c.instance.invariant.files h.2
    (subst (λ (z : Option Ending). InstanceTurns start count (S.files c.instance.store) (S.left c.instance.store) c.instance.source c.instance.parser h.0 (S.left c.turn.new.store) c.turn.new.source c.turn.new.parser (O.taken c.turn.new.out) (O.faults c.turn.new.out) c.turn.new.writer c.turn.new.idents (Ok z)) c.in-Some.is (c.in-Ok.ensures.turns start count h.0 h.1))

pub returns-in-Some-clause-sink : goal.returns-in-Some-clause-sink
returns-in-Some-clause-sink g c = λ start count es s.
    let h = c.instance.invariant.shown start count es s in
    without-cause count (g.O.Sink.faults c.turn.new.out) c.in-Some.outcome (c.in-Ok.ensures.sink start count h.0 h.1).later

pub instance-preserved : goal.instance-preserved
instance-preserved g c = record {
  given = search rules;
  going = c.in-Ok.ensures.going c.in-None.is;
  room = search rules;
  none = c.in-Ok.ensures.none;
  inside = c.in-Ok.ensures.instance;
  files = c.in-Ok.ensures.files ∙ c.instance.invariant.files;
  later = search rules;
  shown = λ start count es s.
      let S = g.S.Store in let O = g.O.Sink in
      let h = c.instance.invariant.shown start count es s in
      let t = subst (λ (z : Option Ending). InstanceTurns start count (S.files c.instance.store) (S.left c.instance.store) c.instance.source c.instance.parser h.0 (S.left c.turn.new.store) c.turn.new.source c.turn.new.parser (O.taken c.turn.new.out) (O.faults c.turn.new.out) c.turn.new.writer c.turn.new.idents (Ok z)) c.in-None.is (c.in-Ok.ensures.turns start count h.0 h.1) in
      (t.0, t.1, shows-on (S.files c.args.store.now) (S.files c.instance.store) (S.left c.args.store.now) c.args.source.now c.args.parser.now es (S.left c.instance.store) c.instance.source c.instance.parser h.0 (S.left c.turn.new.store) c.turn.new.source c.turn.new.parser t.0 c.instance.invariant.files h.2 t.2);
}

pub returns-clause-ends : goal.returns-clause-ends
returns-clause-ends g c = λ start count es s.
    let S = g.S.Store in let O = g.O.Sink in
    let h = c.instance.invariant.shown start count es s in
    fails-on (S.files c.args.store.now) (S.files c.instance.store) (S.left c.args.store.now) c.args.source.now c.args.parser.now es (S.left c.instance.store) c.instance.source c.instance.parser h.0 start (O.taken c.instance.out) c.instance.invariant.files h.2
    (not-told (S.files c.instance.store) (S.left c.instance.store) c.instance.source c.instance.parser h.0 start count (O.taken c.instance.out) (O.faults c.instance.out) c.instance.writer c.instance.idents h.1)

pub returns-clause-sink : goal.returns-clause-sink
returns-clause-sink g c = λ start count es s.
    let h = c.instance.invariant.shown start count es s in
    record { later = h.1.lines.stands.later; failed = λ e. absurd (cc e) }
