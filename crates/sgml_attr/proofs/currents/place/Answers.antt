use Rattle.std.proofs.Common.{◌≡◌, ◌<◌, length, arith, ap, sym, ◌∙◌, None, length-append, ◌∷◌, []}
use Rattle.sgml_attr.specs.Currents.{placed}
use Rattle.sgml_attr.proofs.Placing.{placed-there, placed-gap, placed-end}
use Rattle.sgml_attr.proofs.currents.place.Goals as goal

pub returns-then-at-len-clause-ok : goal.returns-then-at-len-clause-ok
returns-then-at-len-clause-ok c =
    placed-there c.args.values.now.items c.args.at c.args.value (omega (arith, c.args.values.now.ok.0))

pub gaps-preserved : goal.gaps-preserved
gaps-preserved c =
    let below : length c.gaps.values.items < c.args.at = omega (arith, c.gaps.values.ok.0) in
    record {
      within = omega (arith, ap length c.push_reserved.ensures.items, length-append c.gaps.values.items (None ∷ []));
      room = omega arith;
      same = ap (λ es. placed es c.args.at c.args.value) c.push_reserved.ensures.items
          ∙ placed-gap c.gaps.values.items c.args.at c.args.value below
          ∙ c.gaps.invariant.same;
    }

pub returns-clause-ok : goal.returns-clause-ok
returns-clause-ok c =
    let full : length c.gaps.values.items ≡ c.args.at = omega (arith, c.gaps.values.ok.0) in
    c.push_reserved-2.ensures.items
    ∙ sym (placed-end c.gaps.values.items c.args.at c.args.value full)
    ∙ c.gaps.invariant.same
    ∙ ap (λ es. placed es c.args.at c.args.value) c.reserve.ensures.items
