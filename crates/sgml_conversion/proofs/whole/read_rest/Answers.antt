use Rattle.std.proofs.Common.{◌≡◌, rules, arith, ℕ, ap, subst, length, Some, None}
use Rattle.sgml_text.specs.declared.place.Place.{Place}
use Rattle.sgml_conversion.specs.declared.answer.Ending.TheVariants as ending
use Rattle.sgml_conversion.specs.declared.whole.WholeRead.TheVariants as read
use Rattle.sgml_conversion.specs.Telling.{RestReads}
use Rattle.sgml_conversion.proofs.Reaching.{rest-refused, rest-faulty, rest-whole, tells-so, judged-in}
use Rattle.sgml_conversion.proofs.whole.read_rest.Goals as goal

pub returns-in-Some-clause-reads : goal.returns-in-Some-clause-reads
returns-in-Some-clause-reads g c =
    let S = g.S.Store in
    rest-refused (S.files c.args.store.now) (S.left c.args.store.now) c.args.source.now c.args.parser.now c.args.events.now.items c.read_all.new.parser c.read_all.new.events.items c.in-Some.refusal
    (tells-so (S.files c.args.store.now) (S.left c.args.store.now) c.args.source.now c.args.parser.now c.args.events.now.items c.read_all.new.parser c.read_all.new.events.items c.in-Ok.refused (Some c.in-Some.refusal) c.in-Some.is c.in-Ok.ensures.tells)

pub returns-in-Ok-Refused-clause-reads : goal.returns-in-Ok-Refused-clause-reads
returns-in-Ok-Refused-clause-reads g c =
    let S = g.S.Store in
    rest-faulty (S.files c.args.store.now) (S.left c.args.store.now) c.args.source.now c.args.parser.now c.args.events.now.items c.read_all.new.parser c.read_all.new.events.items c.in-Ok-Refused.refusal
    (tells-so (S.files c.args.store.now) (S.left c.args.store.now) c.args.source.now c.args.parser.now c.args.events.now.items c.read_all.new.parser c.read_all.new.events.items c.in-Ok.refused None c.in-None.is c.in-Ok.ensures.tells)
    (judged-in c.dtd.result.now _ c.deref.result.now c.read_all.new.events.items c.in-Ok-Refused.field-0 (ending.Refused c.in-Ok-Refused.refusal) c.dtd.ensures c.deref.ensures.value c.in-Ok-Refused.field-0-is c.in-Ok-Refused.ensures.judged)

pub returns-in-Ok-Conforming-clause-reads : goal.returns-in-Ok-Conforming-clause-reads
returns-in-Ok-Conforming-clause-reads g c =
    let S = g.S.Store in
    let count : length c.args.events.now.items ≡ c.len-from.result = search (rules, arith) in
    subst (λ (n : ℕ). RestReads (S.files c.args.store.now) (S.left c.args.store.now) c.args.source.now c.args.parser.now c.args.events.now.items c.read_all.new.parser c.read_all.new.events.items (read.Whole n c.place-at.result.at)) count
    (rest-whole (S.files c.args.store.now) (S.left c.args.store.now) c.args.source.now c.args.parser.now c.args.events.now.items c.read_all.new.parser c.read_all.new.events.items c.place-at.result.at
    c.requires.instance c.in-Ok.ensures.tables (ap (λ (z : Place). z.at) c.place-at.ensures) c.in-Ok.ensures.more
    (tells-so (S.files c.args.store.now) (S.left c.args.store.now) c.args.source.now c.args.parser.now c.args.events.now.items c.read_all.new.parser c.read_all.new.events.items c.in-Ok.refused None c.in-None.is c.in-Ok.ensures.tells)
    (judged-in c.dtd.result.now _ c.deref.result.now c.read_all.new.events.items c.in-Ok-Conforming.field-0 ending.Conforming c.dtd.ensures c.deref.ensures.value c.in-Ok-Conforming.field-0-is c.in-Ok-Conforming.ensures.judged))
