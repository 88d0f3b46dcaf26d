use Rattle.std.proofs.Common.{Result, sym, subst}
use Rattle.sgml_prolog_steps.specs.declared.stepping.Stop.{Stop}
use Rattle.sgml_content_tags.specs.sgml_content_steps.Content.{Content}
use Rattle.sgml_content_tags.specs.sgml_content_steps.Found.{IsFound}
use Rattle.sgml_content_tags.specs.sgml_content_steps.declared.found.Found.TheVariants as found
use Rattle.sgml_instance.specs.Stepping.{TellsOn, taken, turned}
use Rattle.sgml_instance.proofs.Found.{tells-refused, tells-undecided, token-turned, tells-end}
use Rattle.sgml_instance.proofs.step.step.Goals as goal

pub returns-in-Token-clause-tells : goal.returns-in-Token-clause-tells
returns-in-Token-clause-tells g c =
    token-turned c.args.options.now c.scan_state-state.result c.args.texts.now c.args.ended c.in-Token.token c.args.content.now c.take_next.new.content c.args.told.now.items c.take_next.new.told.items c.args.over.now (taken c.take_next.result c.take_next.new.stop)
    c.requires.going_on c.scan_state-state.ensures.held (subst (λ (z : Content). IsFound z.kept c.scan_state-state.result c.args.texts.now c.args.ended (found.Token c.in-Token.token)) c.content.view_is c.in-Token.ensures.found) c.take_next.ensures

pub returns-in-End-clause-tells : goal.returns-in-End-clause-tells
returns-in-End-clause-tells g c =
    tells-end c.args.options.now c.scan_state-state.result c.args.texts.now c.args.ended c.args.content.now c.try_end_of_text.new.content c.args.told.now.items c.try_end_of_text.new.told.items (turned c.try_end_of_text.new.over (taken c.try_end_of_text.result c.try_end_of_text.new.stop))
    c.scan_state-state.ensures.held (subst (λ (z : Content). IsFound z.kept c.scan_state-state.result c.args.texts.now c.args.ended found.End) c.content.view_is c.in-End.ensures.found) c.try_end_of_text.ensures.tells

pub returns-in-End-clause-over : goal.returns-in-End-clause-over
returns-in-End-clause-over g c = c.try_end_of_text.ensures.over

pub returns-in-Refused-clause-tells : goal.returns-in-Refused-clause-tells
returns-in-Refused-clause-tells g c =
    subst (λ (z : Result (Unit {0}) Stop). TellsOn c.args.options.now c.args.texts.now c.args.ended c.args.content.now c.args.content.now c.args.told.now.items c.args.told.now.items (turned c.args.over.now z)) (sym c.refused.ensures)
    (tells-refused c.args.options.now c.scan_state-state.result c.args.texts.now c.args.ended c.args.content.now c.args.told.now.items c.in-Refused.reason c.requires.content c.scan_state-state.ensures.held (subst (λ (z : Content). IsFound z.kept c.scan_state-state.result c.args.texts.now c.args.ended (found.Refused c.in-Refused.reason)) c.content.view_is c.in-Refused.ensures.found))

pub returns-in-More-clause-tells : goal.returns-in-More-clause-tells
returns-in-More-clause-tells g c =
    subst (λ (z : Result (Unit {0}) Stop). TellsOn c.args.options.now c.args.texts.now c.args.ended c.args.content.now c.args.content.now c.args.told.now.items c.args.told.now.items (turned c.args.over.now z)) (sym c.undecided.ensures)
    (tells-undecided c.args.options.now c.scan_state-state.result c.args.texts.now c.args.ended c.args.content.now c.args.told.now.items c.requires.content c.scan_state-state.ensures.held (subst (λ (z : Content). IsFound z.kept c.scan_state-state.result c.args.texts.now c.args.ended found.More) c.content.view_is c.in-More.ensures.found))
