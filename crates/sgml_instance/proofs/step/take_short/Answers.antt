use Rattle.std.proofs.Common.{Ok, sym, subst}
use Rattle.sgml_declared.specs.theory_reading.Characters.{ordinary}
use Rattle.sgml_declared.specs.theory_reading.Pieces.{ToData, ToExternalData}
use Rattle.sgml_content_tags.specs.sgml_content_steps.Content.{Content}
use Rattle.sgml_content_references.specs.Strings.{StandsFor, TellsString}
use Rattle.sgml_content_references.specs.declared.string.Strung.{Strung}
use Rattle.sgml_instance.proofs.Found.{string-at}
use Rattle.sgml_instance.proofs.step.take_short.Goals as goal

pub take_ordinary-requires-clause-stands : goal.take_ordinary-requires-clause-stands
take_ordinary-requires-clause-stands c =
    let r = subst (λ (z : Strung). TellsString c.args.options.now c.args.texts.now c.args.token c.args.content.now c.take_string.new.content c.args.told.now.items c.take_string.new.told.items (Ok z)) c.in-Ordinary.is c.in-Ok.ensures in
    subst (λ (z : Content). StandsFor c.args.texts.now c.args.token z (λ s own. ordinary s own)) (sym r.0) r.2

pub returns-in-Ordinary : goal.returns-in-Ordinary
returns-in-Ordinary c =
    let r = subst (λ (z : Strung). TellsString c.args.options.now c.args.texts.now c.args.token c.args.content.now c.take_string.new.content c.args.told.now.items c.take_string.new.told.items (Ok z)) c.in-Ordinary.is c.in-Ok.ensures in
    string-at c.args.options.now c.args.state c.args.texts.now c.args.token c.args.content.now c.take_string.new.content c.take_ordinary.new.content c.args.told.now.items c.take_string.new.told.items c.take_ordinary.new.told.items
    c.take_ordinary.result r.0 r.1 c.take_ordinary.ensures

pub take_data_string-requires-clause-stands : goal.take_data_string-requires-clause-stands
take_data_string-requires-clause-stands c =
    let r = subst (λ (z : Strung). TellsString c.args.options.now c.args.texts.now c.args.token c.args.content.now c.take_string.new.content c.args.told.now.items c.take_string.new.told.items (Ok z)) c.in-Data.is c.in-Ok.ensures in
    subst (λ (z : Content). StandsFor c.args.texts.now c.args.token z (λ s own. ToData c.in-Data.number)) (sym r.0) r.3

pub returns-in-Data : goal.returns-in-Data
returns-in-Data c =
    let r = subst (λ (z : Strung). TellsString c.args.options.now c.args.texts.now c.args.token c.args.content.now c.take_string.new.content c.args.told.now.items c.take_string.new.told.items (Ok z)) c.in-Data.is c.in-Ok.ensures in
    string-at c.args.options.now c.args.state c.args.texts.now c.args.token c.args.content.now c.take_string.new.content c.take_data_string.new.content c.args.told.now.items c.take_string.new.told.items c.take_data_string.new.told.items
    c.take_data_string.result r.0 r.1 c.take_data_string.ensures

pub take_external_string-requires-clause-stands : goal.take_external_string-requires-clause-stands
take_external_string-requires-clause-stands c =
    let r = subst (λ (z : Strung). TellsString c.args.options.now c.args.texts.now c.args.token c.args.content.now c.take_string.new.content c.args.told.now.items c.take_string.new.told.items (Ok z)) c.in-External.is c.in-Ok.ensures in
    subst (λ (z : Content). StandsFor c.args.texts.now c.args.token z (λ s own. ToExternalData c.in-External.number)) (sym r.0) r.3

pub returns-in-External : goal.returns-in-External
returns-in-External c =
    let r = subst (λ (z : Strung). TellsString c.args.options.now c.args.texts.now c.args.token c.args.content.now c.take_string.new.content c.args.told.now.items c.take_string.new.told.items (Ok z)) c.in-External.is c.in-Ok.ensures in
    string-at c.args.options.now c.args.state c.args.texts.now c.args.token c.args.content.now c.take_string.new.content c.take_external_string.new.content c.args.told.now.items c.take_string.new.told.items c.take_external_string.new.told.items
    c.take_external_string.result r.0 r.1 c.take_external_string.ensures

pub returns-in-Taken : goal.returns-in-Taken
returns-in-Taken c = let s = subst (λ (z : Strung). TellsString c.args.options.now c.args.texts.now c.args.token c.args.content.now c.take_string.new.content c.args.told.now.items c.take_string.new.told.items (Ok z)) c.in-Taken.is c.in-Ok.ensures in
    (s.0, s.1, s.2, s.3 c.args.state)

pub returns-in-Err : goal.returns-in-Err
returns-in-Err c = let s = c.in-Err.ensures in (s.0, s.1, s.2, s.3 c.args.state)
