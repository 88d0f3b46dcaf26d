use Rattle.std.proofs.Common.{rules, arith, subst, ◌∙◌, Some, None}
use Rattle.std.specs.Prelude.{Option}
use Rattle.sgml_parse.specs.declared.answer.Wanted.{Wanted}
use Rattle.sgml_parse.specs.Wanting.{IsFirstUnsupplied}
use Rattle.sgml_source.proofs.Rest.{rest-on, left-on, none-at-all}
use Rattle.sgml_source.proofs.supplying.supply_rest.Goals as goal

pub returns-in-None-clause-rest : goal.returns-in-None-clause-rest
returns-in-None-clause-rest g c =
    let l = c.rest in
    none-at-all l.parser l.from l.invariant.before (subst (λ (z : Option Wanted). IsFirstUnsupplied l.from l.parser z) c.in-None.is c.in-Ok.ensures)

pub rest-preserved : goal.rest-preserved
rest-preserved g c =
    let S = g.S.Store in
    let l = c.rest in
    let n = c.supply_from.new in
    let r = c.in-Ok-supply_from.ensures in
    let w = c.in-Some.wanted in
    let first = subst (λ (z : Option Wanted). IsFirstUnsupplied l.from l.parser z) c.in-Some.is c.in-Ok.ensures in
    record {
      supplied = rest-on c.args.limit (S.files c.args.store.now) (S.files l.store) c.args.parser.now l.parser n.parser w l.invariant.files l.invariant.supplied first.1 r.supplied;
      before = left-on l.parser n.parser l.from c.saturating_add-from.result w l.invariant.before first r.after (omega (arith, c.saturating_add-from.ensures));
      reading = r.there.reading ∙ l.invariant.reading;
      well = r.there.failed;
      records = r.records ∙ l.invariant.records;
      ended = r.ended ∙ l.invariant.ended;
      others = λ id h. ((r.others id (l.invariant.others id h).0).0, (r.others id (l.invariant.others id h).0).1 ∙ (l.invariant.others id h).1);
      files = search rules;
      faults = search rules;
    }
