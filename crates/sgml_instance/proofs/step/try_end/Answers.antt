use Rattle.std.proofs.Common.{Result, sym, subst}
use Rattle.sgml_prolog_steps.specs.declared.stepping.Stop.{Stop}
use Rattle.sgml_content_tags.specs.sgml_content_steps.Steps.{Tells}
use Rattle.sgml_instance.proofs.step.try_end.Goals as goal

pub returns : goal.returns
returns c =
    subst (λ (z : Result (Unit {0}) Stop). Tells c.args.texts.now c.args.token c.args.content.now c.take_end.new.content c.args.told.now.items c.take_end.new.told.items z) (sym c.went.ensures) c.take_end.ensures
