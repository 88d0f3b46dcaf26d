use Rattle.std.proofs.Common.{◌+◌, arith, ◌∙◌, sym, ap, ◌||◌, Bool, drop}
use Rattle.sgml_full.specs.Full.{refers}
use Rattle.sgml_full.proofs.Specified.{refers_at}
use Rattle.sgml_full.proofs.inside.refers.Goals as goal

pub loop-i-preserved : goal.loop-i-preserved
loop-i-preserved c =
    c.loop-i.invariant
    ∙ refers_at c.args.definitions.now c.args.values.now c.loop-i.i c.index-definitions-i.result c.index-values-i.result
    (omega (arith, c.loop-i-test.true, c.defined_values-i-end.ensures.definitions)) (omega (arith, c.loop-i-test.true, c.defined_values-i-end.ensures.values)) c.index-definitions-i.is c.index-values-i.is
    ∙ ap (λ (t : Bool). t || refers (drop (c.loop-i.i + 1) c.args.definitions.now) (drop (c.loop-i.i + 1) c.args.values.now)) (sym c.is_reference.ensures ∙ c.if-is_reference.false)

pub returns-then-is_reference : goal.returns-then-is_reference
returns-then-is_reference c =
    sym (c.loop-i.invariant
    ∙ refers_at c.args.definitions.now c.args.values.now c.loop-i.i c.index-definitions-i.result c.index-values-i.result
    (omega (arith, c.loop-i-test.true, c.defined_values-i-end.ensures.definitions)) (omega (arith, c.loop-i-test.true, c.defined_values-i-end.ensures.values)) c.index-definitions-i.is c.index-values-i.is
    ∙ ap (λ (t : Bool). t || refers (drop (c.loop-i.i + 1) c.args.definitions.now) (drop (c.loop-i.i + 1) c.args.values.now)) (sym c.is_reference.ensures ∙ c.if-is_reference.true))
