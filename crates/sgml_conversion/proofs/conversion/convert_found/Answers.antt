use Rattle.sgml_conversion.specs.declared.answer.Failure.TheVariants as failure
use Rattle.sgml_conversion.proofs.Found.{in-prolog, first-told, first-failed, not-begun-to}
use Rattle.sgml_conversion.proofs.conversion.convert_found.Goals as goal

pub returns-in_default-clause-converts : goal.returns-in_default-clause-converts
returns-in_default-clause-converts g c = not-begun-to c.args.limit (g.S.Store.files c.args.store.now) c.args.options.value c.args.declaration (g.S.Store.left c.args.store.now) c.args.id (g.O.Sink.taken c.args.out.now) failure.Memory

pub returns-in_default-begin-clause-converts : goal.returns-in_default-begin-clause-converts
returns-in_default-begin-clause-converts g c = not-begun-to c.args.limit (g.S.Store.files c.args.store.now) c.args.options.value c.args.declaration (g.S.Store.left c.args.store.now) c.args.id (g.O.Sink.taken c.args.out.now) failure.Memory

pub convert_from-requires-clause-prolog : goal.convert_from-requires-clause-prolog
convert_from-requires-clause-prolog g c = in-prolog c.args.options.value c.args.declaration c.in-Ok-begin.parser c.in-Ok-begin.ensures.begins

pub returns-in-Err-clause-converts : goal.returns-in-Err-clause-converts
returns-in-Err-clause-converts g c =
    let S = g.S.Store in let O = g.O.Sink in
    first-failed c.args.limit (S.files c.args.store.now) c.args.options.value c.args.declaration (S.left c.args.store.now) c.args.id c.in-Ok-begin.parser c.convert_from.new.parser (O.taken c.args.out.now) (O.taken c.convert_from.new.out) c.in-Err.failure
    c.in-Ok-begin.ensures.begins c.in-Ok-begin.ensures.records c.in-Err.ensures.converts

pub returns-clause-converts : goal.returns-clause-converts
returns-clause-converts g c =
    let S = g.S.Store in let O = g.O.Sink in
    first-told c.args.limit (S.files c.args.store.now) c.args.options.value c.args.declaration (S.left c.args.store.now) c.args.id c.in-Ok-begin.parser c.convert_from.new.parser (O.taken c.args.out.now) (O.taken c.convert_from.new.out) c.in-Ok-convert_from.ending c.outcome_of.result
    c.in-Ok-begin.ensures.begins c.in-Ok-begin.ensures.records c.in-Ok-convert_from.ensures.converts c.outcome_of.ensures.outcome
