use Rattle.std.proofs.Common.{length, map, sym, ap, ◌∙◌, subst, arith}
use Rattle.std.proofs.lemmas.List.{length-map}
use Rattle.sgml_model.specs.Group.{IsBadAt}
use Rattle.sgml_model.specs.Reading.{goes_on}
use Rattle.sgml_model.specs.ReaderView.{sign}
use Rattle.sgml_model.specs.OutlineView.{outline_of}
use Rattle.sgml_model.proofs.Signs.{sign_at}
use Rattle.sgml_model.proofs.Judging.{IsJudged, judged_start, judged_small, judged_more, judged_bad, judged_short}
use Rattle.sgml_model.proofs.Building.{with_reading}
use Rattle.sgml_model.proofs.read.judged.Goals as goal

pub loop-at-init : goal.loop-at-init
loop-at-init c = subst (IsJudged (map sign c.args.tokens.now) 0) (sym c.new-outline.ensures) (judged_start (map sign c.args.tokens.now))

pub step-requires-clause-members : goal.step-requires-clause-members
step-requires-clause-members c =
    let small = judged_small (map sign c.args.tokens.now) c.loop-at.at (outline_of c.loop-at.outline) c.loop-at.invariant in
    let below = c.loop-at-test.true in
    omega (arith, c.well_formed)

pub returns-then-not-goes_on-clause-bad : goal.returns-then-not-goes_on-clause-bad
returns-then-not-goes_on-clause-bad c =
    with_reading (map sign c.args.tokens.now) c.loop-at.at
    (judged_bad (map sign c.args.tokens.now) c.loop-at.at (outline_of c.loop-at.outline) (sign c.index-tokens-at.result) (simp length-map c.loop-at-test.true)
    (sign_at c.args.tokens.now c.loop-at.at c.index-tokens-at.result c.loop-at-test.true c.index-tokens-at.is) c.loop-at.invariant
    (sym c.in_ok-goes_on.ensures ∙ ap (λ more. goes_on more (outline_of c.step.new.self)) c.if-not-goes_on.true))

pub loop-at-preserved : goal.loop-at-preserved
loop-at-preserved c =
    judged_more (map sign c.args.tokens.now) c.loop-at.at (outline_of c.loop-at.outline) (outline_of c.step.new.self) (sign c.index-tokens-at.result) (simp length-map c.loop-at-test.true)
    (sign_at c.args.tokens.now c.loop-at.at c.index-tokens-at.result c.loop-at-test.true c.index-tokens-at.is) c.loop-at.invariant
    (sym c.in_ok-goes_on.ensures ∙ ap (λ more. goes_on more (outline_of c.step.new.self)) c.if-not-goes_on.false)

pub returns-then-not-closed-clause-bad : goal.returns-then-not-closed-clause-bad
returns-then-not-closed-clause-bad c =
    with_reading (map sign c.args.tokens.now) (length c.args.tokens.now)
    (subst (IsBadAt (map sign c.args.tokens.now)) (length-map c.args.tokens.now sign)
    (judged_short (map sign c.args.tokens.now) c.loop-at.at (outline_of c.loop-at.outline) (simp length-map c.loop-at-test.false) c.loop-at.invariant (sym c.closed.ensures ∙ c.if-not-closed.true)))
