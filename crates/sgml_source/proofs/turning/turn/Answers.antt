use Rattle.std.proofs.Common.{sym, ap, ◌∙◌, subst, Ok, Err}
use Rattle.sgml_parse.specs.declared.answer.ParseStep.{ParseStep}
use Rattle.sgml_parse.specs.declared.answer.ParseError.{ParseError}
use Rattle.sgml_parse.specs.Parsing.{NextIsParsing, GoesOver, IsWantedBy, is_in_instance}
use Rattle.sgml_source.specs.Turning.{Turns}
use Rattle.sgml_source.proofs.Turned.{event-is-told, prolog-is-told, finish-is-told, refusal-is-told, want-is-met, more-is-met}
use Rattle.sgml_source.proofs.turning.turn.Goals as goal

pub returns-in-Event-clause-turns : goal.returns-in-Event-clause-turns
returns-in-Event-clause-turns g c =
    let S = g.S.Store in
    let old = c.args.parser.now in
    let new = c.next.new.self in
    event-is-told (S.files c.args.store.now) (S.left c.args.store.now) c.args.source.now old new c.in-Event.event c.in-Ok.ensures.same.records
    (subst (λ (z : ParseStep). NextIsParsing old new (Ok z)) c.in-Event.is c.in-Ok.ensures.reads)

pub supply_rest-requires-clause-prolog : goal.supply_rest-requires-clause-prolog
supply_rest-requires-clause-prolog g c = (subst (λ (z : ParseStep). GoesOver c.args.parser.now.reading c.next.new.self.reading (Ok z)) c.in-Prolog.is c.in-Ok.ensures.over).1

pub returns-in-Ok-supply_rest-clause-turns : goal.returns-in-Ok-supply_rest-clause-turns
returns-in-Ok-supply_rest-clause-turns g c =
    let S = g.S.Store in
    let old = c.args.parser.now in
    let new = c.next.new.self in
    let given = c.in-Ok-supply_rest.ensures in
    prolog-is-told (S.files c.args.store.now) (S.left c.args.store.now) (S.left c.supply_rest.new.store) c.args.source.now old new c.supply_rest.new.parser c.in-Ok.ensures.same.records
    (subst (λ (z : ParseStep). NextIsParsing old new (Ok z)) c.in-Prolog.is c.in-Ok.ensures.reads) (given.others c.args.source.now.id c.requires.given).1 given.supplied given.there given.records

pub returns-in-Ok-supply_rest-clause-over : goal.returns-in-Ok-supply_rest-clause-over
returns-in-Ok-supply_rest-clause-over g c =
    let o = subst (λ (z : ParseStep). GoesOver c.args.parser.now.reading c.next.new.self.reading (Ok z)) c.in-Prolog.is c.in-Ok.ensures.over in
    (o.0, ap is_in_instance c.in-Ok-supply_rest.ensures.there.reading ∙ o.1)

pub returns-in-Finished-clause-turns : goal.returns-in-Finished-clause-turns
returns-in-Finished-clause-turns g c =
    let S = g.S.Store in
    let old = c.args.parser.now in
    let new = c.next.new.self in
    finish-is-told (S.files c.args.store.now) (S.left c.args.store.now) c.args.source.now old new (subst (λ (z : ParseStep). NextIsParsing old new (Ok z)) c.in-Finished.is c.in-Ok.ensures.reads)

pub returns-in-Refused-clause-turns : goal.returns-in-Refused-clause-turns
returns-in-Refused-clause-turns g c =
    let S = g.S.Store in
    let old = c.args.parser.now in
    let new = c.next.new.self in
    refusal-is-told (S.files c.args.store.now) (S.left c.args.store.now) c.args.source.now old new c.in-Refused.refusal (subst (λ (z : ParseError). NextIsParsing old new (Err z)) c.in-Refused.is c.in-Err.ensures.reads)

pub returns-in-Ok-supply_from-clause-turns : goal.returns-in-Ok-supply_from-clause-turns
returns-in-Ok-supply_from-clause-turns g c =
    let S = g.S.Store in
    let old = c.args.parser.now in
    let new = c.next.new.self in
    let given = c.in-Ok-supply_from.ensures in
    want-is-met (S.files c.args.store.now) (S.left c.args.store.now) (S.left c.supply_from.new.store) c.args.source.now old new c.supply_from.new.parser c.in-Want.entity c.in-Want.name c.in-Ok.ensures.same.records
    (subst (λ (z : ParseStep). NextIsParsing old new (Ok z)) c.in-Want.is c.in-Ok.ensures.reads) (given.others c.args.source.now.id c.requires.given).1
    (subst (λ (z : ParseStep). IsWantedBy (Ok z) new.wanted) c.in-Want.is c.in-Ok.ensures.wanted) given.supplied given.there given.records

pub returns-in-Ok-read_more-clause-turns : goal.returns-in-Ok-read_more-clause-turns
returns-in-Ok-read_more-clause-turns g c =
    let S = g.S.Store in
    let old = c.args.parser.now in
    let new = c.next.new.self in
    let more = c.read_more.new in
    let told = S.files c.args.store.now in
    let left = S.left c.args.store.now in
    subst (λ z. Turns told left c.args.source.now old (S.left more.store) more.source more.parser z) (sym c.refused_told.ensures)
    (more-is-met told left (S.left more.store) c.args.source.now more.source old new more.parser _ c.in-Ok.ensures.same.records (subst (λ (z : ParseStep). NextIsParsing old new (Ok z)) c.in-More.is c.in-Ok.ensures.reads)
    c.in-Ok-read_more.ensures.more)
