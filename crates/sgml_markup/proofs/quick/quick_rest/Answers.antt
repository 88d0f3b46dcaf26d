use Rattle.std.proofs.Common.{◌∙◌, ap, sym, subst, arith, length, drop}
use Rattle.std.proofs.lemmas.List.{length-drop}
use Rattle.sgml_markup.specs.Forms.{begins_tagc}
use Rattle.sgml_markup.specs.QuickTags.{BeginsSpecification}
use Rattle.sgml_markup.proofs.QuickCode.{quick-end, quick-goes-on}
use Rattle.sgml_markup.proofs.quick.quick_rest.Goals as goal

pub returns-then-begins_tagc-clause-quick : goal.returns-then-begins_tagc-clause-quick
returns-then-begins_tagc-clause-quick c =
    let at = c.specifications.at in
    c.specifications.invariant.goes_on 1
    (quick-end c.args.syntax.now (drop at c.args.text.now)
    (ap begins_tagc (sym c.after-rest.ensures) ∙ sym c.begins_tagc.ensures.value ∙ c.if-begins_tagc.true))

pub specifications-preserved : goal.specifications-preserved
specifications-preserved c =
    let s = c.args.syntax.now in
    let at = c.specifications.at in
    let n = c.in-Some.n in
    let text = c.args.text.now in
    let len = length-drop at text in
    let size = ap length c.after-rest.ensures in
    let within = c.in-Some.ensures.within in
    let room = c.specifications.invariant.within in
    record {
      within = omega (arith, within, size, len, room);
      goes_on = quick-goes-on s at n text (subst (λ xs. BeginsSpecification s xs n) c.after-rest.ensures c.in-Some.ensures.quick)
          c.specifications.invariant.goes_on;
    }
