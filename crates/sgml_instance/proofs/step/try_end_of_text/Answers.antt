use Rattle.std.proofs.Common.{Result, sym, subst, ◌≡◌, false, OnErr}
use Rattle.sgml_prolog_steps.specs.declared.stepping.Stop.{Stop}
use Rattle.sgml_instance.specs.Stepping.{TellsEnd, turned}
use Rattle.sgml_instance.proofs.step.try_end_of_text.Goals as goal

pub returns-clause-tells : goal.returns-clause-tells
returns-clause-tells c =
    subst (λ (z : Result (Unit {0}) Stop). TellsEnd c.args.texts.now c.args.content.now c.take_end_of_text.new.content c.args.told.now.items c.take_end_of_text.new.told.items (turned c.take_end_of_text.new.over z)) (sym c.went.ensures) c.take_end_of_text.ensures.tells

pub returns-clause-over : goal.returns-clause-over
returns-clause-over c =
    subst (λ (z : Result (Unit {0}) Stop). OnErr z (c.take_end_of_text.new.over ≡ false)) (sym c.went.ensures) c.take_end_of_text.ensures.over
