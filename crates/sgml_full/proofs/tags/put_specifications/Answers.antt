use Rattle.std.proofs.Common.{arith, List, ℕ, ap, sym, ◌∙◌}
use Rattle.sgml_attr.specs.declared.definition.Definition.{Definition}
use Rattle.sgml_esis.proofs.Holding.{puts_as}
use Rattle.sgml_full.specs.Spelled.{specification}
use Rattle.sgml_full.proofs.Specified.{specification_put}
use Rattle.sgml_full.proofs.tags.put_specifications.Goals as goal

pub loop-i-preserved : goal.loop-i-preserved
loop-i-preserved g c =
    specification_put c.args.dtd.now c.args.definitions.now c.args.values.now c.loop-i.i c.index-definitions-i.result c.index-values-i.result _ _ _ _ _ _ _ _ _ _
    (omega (arith, c.loop-i-test.true, c.defined_values-i-end.ensures.definitions)) (omega (arith, c.loop-i-test.true, c.defined_values-i-end.ensures.values))
    c.index-definitions-i.is c.index-values-i.is c.loop-i.invariant
    (puts_as _ _ _ _ _ _ _ _ (ap (λ (n : List ℕ). specification c.args.dtd.now n c.index-values-i.result) (c.items.ensures.list ∙ ap (λ (a : Definition). a.name) (sym c.index-definitions-i.is))) c.put_specification.ensures)
