use Rattle.std.proofs.Common.{◌≡◌, ◌∷◌, [], length, sym, ap, subst, Err, arith, ◌∙◌}
use Rattle.std.proofs.lemmas.Result.{err_from_is_err_and}
use Rattle.std.specs.Vec.Iter.{into_iter_items}
use Rattle.sgml_catalog.specs.Entries.{step, told, Agrees}
use Rattle.sgml_catalog.proofs.Walking.{refused, further, none_left, ended}
use Rattle.sgml_catalog.proofs.reading.told.Goals as goal

pub returns-in_err-turn : goal.returns-in_err-turn
returns-in_err-turn c =
    let at = c.loop-token in
    let steps : into_iter_items at.token-iterator ≡ c.in-Some.token ∷ into_iter_items c.next.new.self = c.in-Some.ensures.steps.0 in
    let p = err_from_is_err_and c.from_residual.result c.from_residual.ensures.1 in
    let agrees : Agrees (step at.state at.over c.in-Some.token) (Err p.0) = subst (λ e. Agrees (step at.state at.over c.in-Some.token) (Err e)) (sym p.2) c.in_err-turn.ensures in
    rw p.1 (refused at.entries.items at.state at.over c.args.end c.in-Some.token (into_iter_items c.next.new.self) p.0 (told c.args.tokens.items c.args.end) agrees
    (rw steps at at.invariant.0 ∙ ap (λ ts. told ts c.args.end) c.into_iter-token-iterator.ensures.into_iter_gives.0))

pub loop-token-preserved : goal.loop-token-preserved
loop-token-preserved c =
    let at = c.loop-token in
    let steps : into_iter_items at.token-iterator ≡ c.in-Some.token ∷ into_iter_items c.next.new.self = c.in-Some.ensures.steps.0 in (
      further at.entries.items c.add.new.entries.items at.state at.over c.args.end c.in-Some.token (into_iter_items c.next.new.self) c.in_ok-turn.turn (told (into_iter_items c.into_iter-token-iterator.result) c.args.end) c.in_ok-turn.ensures c.in_ok-add.ensures (rw steps at at.invariant.0),
      let was = at.invariant.1 in
          let gone = c.in-Some.ensures.steps.1 in
          let short = ap length steps in
          omega arith,
    )

pub returns : goal.returns
returns c =
    let at = c.loop-token in
    let none = c.in-None.ensures.steps in
    let empty : into_iter_items at.token-iterator ≡ [] = none_left _ (sym at.invariant.1 ∙ none.0) in
    ended at.entries.items at.state at.over c.args.end (into_iter_items at.token-iterator) (told c.args.tokens.items c.args.end) c.closed.result empty (at.invariant.0 ∙ ap (λ ts. told ts c.args.end) c.into_iter-token-iterator.ensures.into_iter_gives.0) c.closed.ensures
