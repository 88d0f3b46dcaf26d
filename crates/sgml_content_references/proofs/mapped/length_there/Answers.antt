use Rattle.std.proofs.Common.{subst, drop, below_more, arith, ap, ◌∙◌}
use Rattle.sgml_scan.proofs.markup.EndLemmas.{rest-of}
use Rattle.sgml_content_steps.specs.contracts.content.Content.{the_view}
use Rattle.sgml_content_references.specs.Mapped.{BeginsString, StartsOwn}
use Rattle.sgml_content_references.proofs.Places.{texts-there, string-ends, text-ends}
use Rattle.sgml_content_references.proofs.mapped.length_there.Goals as goal

pub loop-i-preserved : goal.loop-i-preserved
loop-i-preserved c =
    below_more (λ i. StartsOwn c.args.content.now (drop i c.args.text.now)) c.loop-i.i c.loop-i.invariant
    (subst (λ xs. StartsOwn c.args.content.now xs) (rest-of c.loop-i.i c.args.text.now) (c.goes_on.ensures.own c.if-not-goes_on.false))

pub returns-then-not-goes_on-clause-each : goal.returns-then-not-goes_on-clause-each
returns-then-not-goes_on-clause-each c =
    texts-there c.args.content.now c.args.text.now c.loop-i.i (λ i l. c.text_length-whole.ensures.sure i (let t = c.loop-i-test.true in omega (arith, l, t))) c.loop-i.invariant

pub returns-then-not-goes_on-clause-ends : goal.returns-then-not-goes_on-clause-ends
returns-then-not-goes_on-clause-ends c =
    string-ends c.args.content.now c.args.text.now c.loop-i.i
    (subst BeginsString (rest-of c.loop-i.i c.args.text.now) (c.goes_on.ensures.other c.if-not-goes_on.true))

pub returns-clause-each : goal.returns-clause-each
returns-clause-each c =
    texts-there c.args.content.now c.args.text.now c.text_length-whole.result c.text_length-whole.ensures.sure
    (λ i l. c.loop-i.invariant i (let t = c.loop-i-test.false in omega (arith, l, t)))

pub returns-clause-ends : goal.returns-clause-ends
returns-clause-ends c =
    text-ends c.args.content.now c.args.text.now _ _ c.text_length-whole.result
    (ap the_view c.content-inside.view_is ∙ c.content.view_is) c.syntax.ensures c.text_length-whole.ensures.scanned
