use Rattle.std.proofs.Common.{Err, subst}
use Rattle.sgml_sgmldecl.specs.Declaring.{Answers}
use Rattle.sgml_prolog_steps.proofs.Misplacing.{placed-ok, placed-feature, placed-quantity, of-no-form}
use Rattle.sgml_prolog_steps.proofs.misplaced_sgml.misplaced.Goals as goal

pub returns-in-Ok : goal.returns-in-Ok
returns-in-Ok c = placed-ok c.args.own.now c.in-Ok.field-0 c.in-Ok.ensures.answers

pub returns-in-Err-FeatureOut : goal.returns-in-Err-FeatureOut
returns-in-Err-FeatureOut c =
    placed-feature c.args.own.now c.in-Err-FeatureOut.field-0-0 c.in-Err-FeatureOut.field-0-1
    (subst (λ e. Answers c.args.own.now (Err e)) c.in-Err-FeatureOut.field-0-is c.in-Err-FeatureOut.ensures.answers)

pub returns-in-Err-QuantityOut : goal.returns-in-Err-QuantityOut
returns-in-Err-QuantityOut c =
    placed-quantity c.args.own.now c.in-Err-QuantityOut.field-0-0 c.in-Err-QuantityOut.field-0-1 c.in-Err-QuantityOut.field-0-2
    (subst (λ e. Answers c.args.own.now (Err e)) c.in-Err-QuantityOut.field-0-is c.in-Err-QuantityOut.ensures.answers)

pub returns-in-Err-BadDeclaration : goal.returns-in-Err-BadDeclaration
returns-in-Err-BadDeclaration c =
    of-no-form c.args.own.now
    (subst (λ e. Answers c.args.own.now (Err e)) c.in-Err-BadDeclaration.field-0-is c.in-Err-BadDeclaration.ensures.answers).1
