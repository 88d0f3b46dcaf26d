use Rattle.std.proofs.Common.{sym, ap, subst, ◌∙◌, Ok, Err, None}
use Rattle.std.specs.Prelude.{Option}
use Rattle.sgml_parse.specs.declared.answer.ParsePause.{ParsePause}
use Rattle.sgml_parse.specs.declared.answer.ParseError.{ParseError}
use Rattle.sgml_parse.specs.Batches.{ReadsOn, IsWantedThen}
use Rattle.sgml_source.specs.declared.told.Paused.{Paused}
use Rattle.sgml_source.specs.Turning.{TurnsMany, told_then, paused_then}
use Rattle.sgml_source.proofs.Many.{all-gained, events-are-told, end-is-told, stop-is-told, want-is-met-then, more-is-met-then, paused-so}
use Rattle.sgml_source.proofs.batches.turn.Goals as goal

pub returns-in-Going-clause-turns : goal.returns-in-Going-clause-turns
returns-in-Going-clause-turns g c =
    let S = g.S.Store in
    let old = c.args.parser.now in
    let new = c.read.new.self in
    let gained = c.read.new.told.items in
    events-are-told (S.files c.args.store.now) (S.left c.args.store.now) c.args.source.now old new gained c.in-Ok.ensures.same.records
    (all-gained old new _ gained _ c.requires.none (subst (λ (z : ParsePause). ReadsOn old new c.args.told.now.items gained (Ok z)) c.in-Going.is c.in-Ok.ensures.reads))

pub returns-in-Finished-clause-turns : goal.returns-in-Finished-clause-turns
returns-in-Finished-clause-turns g c =
    let S = g.S.Store in
    let old = c.args.parser.now in
    let new = c.read.new.self in
    let gained = c.read.new.told.items in
    end-is-told (S.files c.args.store.now) (S.left c.args.store.now) c.args.source.now old new gained
    (all-gained old new _ gained _ c.requires.none (subst (λ (z : ParsePause). ReadsOn old new c.args.told.now.items gained (Ok z)) c.in-Finished.is c.in-Ok.ensures.reads))

pub returns-in-Refused-clause-turns : goal.returns-in-Refused-clause-turns
returns-in-Refused-clause-turns g c =
    let S = g.S.Store in
    let old = c.args.parser.now in
    let new = c.read.new.self in
    let gained = c.read.new.told.items in
    stop-is-told (S.files c.args.store.now) (S.left c.args.store.now) c.args.source.now old new gained c.in-Refused.refusal
    (all-gained old new _ gained _ c.requires.none (subst (λ (z : ParseError). ReadsOn old new c.args.told.now.items gained (Err z)) c.in-Refused.is c.in-Err.ensures.reads))

pub returns-in-Ok-supply_from-clause-turns : goal.returns-in-Ok-supply_from-clause-turns
returns-in-Ok-supply_from-clause-turns g c =
    let S = g.S.Store in
    let old = c.args.parser.now in
    let new = c.read.new.self in
    let gained = c.read.new.told.items in
    let given = c.in-Ok-supply_from.ensures in
    let known = S.files c.args.store.now in
    let left = S.left c.args.store.now in
    subst (λ (z : Option Paused). TurnsMany known left c.args.source.now old (S.left c.supply_from.new.store) c.args.source.now c.supply_from.new.parser gained (told_then z)) (sym (c.paused_then.ensures ∙ ap (paused_then None) c.deref.ensures.value))
    (paused-so known left (S.left c.supply_from.new.store) c.args.source.now c.args.source.now old c.supply_from.new.parser gained None
    (want-is-met-then known left (S.left c.supply_from.new.store) c.args.source.now old new c.supply_from.new.parser gained c.in-Want.entity c.in-Want.name c.in-Ok.ensures.same.records
    (all-gained old new _ gained _ c.requires.none (subst (λ (z : ParsePause). ReadsOn old new c.args.told.now.items gained (Ok z)) c.in-Want.is c.in-Ok.ensures.reads))
    (given.others c.args.source.now.id c.requires.given).1 (subst (λ (z : ParsePause). IsWantedThen (Ok z) new.wanted) c.in-Want.is c.in-Ok.ensures.wanted) given.supplied given.there given.records))

pub returns-in-Ok-read_more-clause-turns : goal.returns-in-Ok-read_more-clause-turns
returns-in-Ok-read_more-clause-turns g c =
    let S = g.S.Store in
    let old = c.args.parser.now in
    let new = c.read.new.self in
    let gained = c.read.new.told.items in
    let more = c.read_more.new in
    let known = S.files c.args.store.now in
    let left = S.left c.args.store.now in
    subst (λ (z : Option Paused). TurnsMany known left c.args.source.now old (S.left more.store) more.source more.parser gained (told_then z)) (sym (c.paused_then-in-Ok-read_more.ensures ∙ ap (paused_then c.in-Ok-read_more.refused) c.deref-in-Ok-read_more.ensures.value))
    (paused-so known left (S.left more.store) c.args.source.now more.source old more.parser gained c.in-Ok-read_more.refused
    (more-is-met-then known left (S.left more.store) c.args.source.now more.source old new more.parser gained _ c.in-Ok.ensures.same.records
    (all-gained old new _ gained _ c.requires.none (subst (λ (z : ParsePause). ReadsOn old new c.args.told.now.items gained (Ok z)) c.in-More.is c.in-Ok.ensures.reads))
    c.in-Ok-read_more.ensures.there c.in-Ok-read_more.ensures.more))
