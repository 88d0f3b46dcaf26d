use Rattle.std.proofs.Common.{map, drop, sym, subst, ap, ◌∙◌}
use Rattle.std.proofs.lemmas.Result.{err_from_is_err_and}
use Rattle.sgml_model.specs.View.{view, terms}
use Rattle.sgml_model.specs.Term.{all_done}
use Rattle.sgml_ambiguity.specs.Scan.{token_view, heads, firsts_in_order, lasts_in_order, clash_in_order}
use Rattle.sgml_ambiguity.specs.Parts.{RestLists}
use Rattle.sgml_ambiguity.proofs.Scanning.{from_last, in_order_part, in_order_rest, in_order_on, in_order_all, apart_part, apart_rest, apart_all, among_part, among_rest, among_all}
use Rattle.sgml_ambiguity.proofs.scan.+scan.Goals as goal

pub scan_among-returns-in_err-part-clause-err : goal.scan_among-returns-in_err-part-clause-err
scan_among-returns-in_err-part-clause-err t c = let p = err_from_is_err_and c.from_residual.result c.from_residual.ensures.1 in rw (p.1, p.2)
    (among_all c.args.members.now c.loop-i.i c.index-members-i.result c.loop-i-test.true c.loop-i.auto.i c.index-members-i.is _
    (among_part (view c.index-members-i.result) (terms (map view (drop c.loop-i.i c.args.members.now))) c.loop-i.invariant.clear _ c.in_err-part.ensures.err))

pub scan_among-returns-in_err-rest-clause-err : goal.scan_among-returns-in_err-rest-clause-err
scan_among-returns-in_err-rest-clause-err t c = let p = err_from_is_err_and c.from_residual-in_err-rest.result c.from_residual-in_err-rest.ensures.1 in rw (p.1, p.2)
    (among_all c.args.members.now c.loop-i.i c.index-members-i.result c.loop-i-test.true c.loop-i.auto.i c.index-members-i.is _
    (among_rest c.in_ok-part.part (view c.index-members-i.result) c.in_ok-part.ensures.ok c.loop-i.rest (terms (map view (drop c.loop-i.i c.args.members.now))) c.loop-i.invariant _ c.in_err-rest.ensures.err))

pub scan_in_order-returns-in_err-part-clause-err : goal.scan_in_order-returns-in_err-part-clause-err
scan_in_order-returns-in_err-part-clause-err t c = let p = err_from_is_err_and c.from_residual.result c.from_residual.ensures.1 in rw (p.1, p.2)
    (in_order_all c.args.members.now c.loop-i.i c.index-members-i.result c.loop-i-test.true c.loop-i.auto.i c.index-members-i.is _
    (in_order_part (view c.index-members-i.result) (terms (map view (drop c.loop-i.i c.args.members.now))) c.loop-i.invariant.0.clear _ c.in_err-part.ensures.err))

pub scan_in_order-returns-in_err-rest-clause-err : goal.scan_in_order-returns-in_err-rest-clause-err
scan_in_order-returns-in_err-rest-clause-err t c = let p = err_from_is_err_and c.from_residual-in_err-rest.result c.from_residual-in_err-rest.ensures.1 in rw (p.1, p.2)
    (in_order_all c.args.members.now c.loop-i.i c.index-members-i.result c.loop-i-test.true c.loop-i.auto.i c.index-members-i.is _
    (in_order_rest c.in_ok-part.part (view c.index-members-i.result) c.in_ok-part.ensures.ok c.loop-i.rest (terms (map view (drop c.loop-i.i c.args.members.now))) c.loop-i.invariant.0 _ c.in_err-rest.ensures.err))

pub scan_in_order-loop-i-preserved : goal.scan_in_order-loop-i-preserved
scan_in_order-loop-i-preserved t c = (
  subst (λ ms. RestLists c.in_ok-rest.rest (clash_in_order ms) (all_done ms) (firsts_in_order ms) (lasts_in_order ms))
      (sym (from_last c.args.members.now c.loop-i.i c.index-members-i.result c.loop-i-test.true c.loop-i.auto.i c.index-members-i.is))
      (in_order_on c.in_ok-part.part (view c.index-members-i.result) c.in_ok-part.ensures.ok c.loop-i.rest (terms (map view (drop c.loop-i.i c.args.members.now))) c.loop-i.invariant.0 c.deref.result.now (ap (map token_view) c.deref.ensures.value ∙ c.loop-i.invariant.1) c.in_ok-rest.rest c.in_ok-rest.ensures.ok),
  c.in_ok-part.ensures.ok.firsts_are ∙ sym (ap heads (from_last c.args.members.now c.loop-i.i c.index-members-i.result c.loop-i-test.true c.loop-i.auto.i c.index-members-i.is)),
)

pub scan_of_some-returns-in_err-part-clause-err : goal.scan_of_some-returns-in_err-part-clause-err
scan_of_some-returns-in_err-part-clause-err t c = let p = err_from_is_err_and c.from_residual.result c.from_residual.ensures.1 in rw (p.1, p.2)
    (apart_all c.args.members.now c.loop-i.i c.index-members-i.result c.loop-i-test.true c.loop-i.auto.i c.index-members-i.is _
    (apart_part (view c.index-members-i.result) (terms (map view (drop c.loop-i.i c.args.members.now))) c.loop-i.invariant.clear _ c.in_err-part.ensures.err))

pub scan_of_some-returns-in_err-rest-clause-err : goal.scan_of_some-returns-in_err-rest-clause-err
scan_of_some-returns-in_err-rest-clause-err t c = let p = err_from_is_err_and c.from_residual-in_err-rest.result c.from_residual-in_err-rest.ensures.1 in rw (p.1, p.2)
    (apart_all c.args.members.now c.loop-i.i c.index-members-i.result c.loop-i-test.true c.loop-i.auto.i c.index-members-i.is _
    (apart_rest c.in_ok-part.part (view c.index-members-i.result) c.in_ok-part.ensures.ok c.loop-i.rest (terms (map view (drop c.loop-i.i c.args.members.now))) c.loop-i.invariant _ c.in_err-rest.ensures.err))
