use Rattle.std.proofs.Common.{◌++◌, Some, None}
use Rattle.sgml_source.specs.parse.Parsing.{doctype_in}
use Rattle.sgml_conversion.specs.declared.answer.Failure.TheVariants as failure
use Rattle.sgml_conversion.proofs.Taken.{same-cause, without-cause}
use Rattle.sgml_conversion.proofs.Turned.{not-told, many-turned, all-taken, many-taken, many-lost, cause-told, end-told, end-failed, refusal-told, refusal-failed}
use Rattle.sgml_conversion.proofs.instance.turn.Goals as goal

pub returns-in-Err-clause-turns : goal.returns-in-Err-clause-turns
returns-in-Err-clause-turns g c = λ start count es s.
    not-told (g.S.Store.files c.args.store.now) (g.S.Store.left c.args.store.now) c.args.source.now c.args.parser.now es start count (g.O.Sink.taken c.args.out.now) (g.O.Sink.faults c.args.out.now) c.args.writer.now c.args.idents.now s

pub returns-in-Err-take_told-clause-turns : goal.returns-in-Err-take_told-clause-turns
returns-in-Err-take_told-clause-turns g c =
    let S = g.S.Store in let O = g.O.Sink in
    many-lost (S.files c.args.store.now) (S.left c.args.store.now) c.args.source.now c.args.parser.now (S.left c.told_many.new.store) c.told_many.new.source c.told_many.new.parser c.told_many.new.told.items _ c.dtd.result.now
    (O.taken c.args.out.now) (O.faults c.args.out.now) c.args.writer.now c.args.idents.now (O.taken c.take_told.new.out) (O.faults c.take_told.new.out) c.take_told.new.writer c.take_told.new.idents c.in-Err-take_told.failure
    c.dtd.ensures c.in-Ok.ensures.tables c.in-Ok.ensures.turns c.in-Err-take_told.ensures.takes

pub returns-in-Err-take_told-clause-sink : goal.returns-in-Err-take_told-clause-sink
returns-in-Err-take_told-clause-sink g c =
    let O = g.O.Sink in
    λ start count es s. same-cause failure.Sink c.in-Err-take_told.failure count (O.faults c.take_told.new.out)
    (cause-told c.args.parser.now c.told_many.new.parser c.dtd.result.now (O.taken c.args.out.now) (O.faults c.args.out.now) c.args.writer.now c.args.idents.now (O.faults c.take_told.new.out) _
    c.dtd.ensures c.in-Ok.ensures.tables c.in-Err-take_told.ensures.cause start count es s)

pub returns-in-Going-clause-turns : goal.returns-in-Going-clause-turns
returns-in-Going-clause-turns g c = λ start count es s.
    let S = g.S.Store in let O = g.O.Sink in
    many-taken (S.files c.args.store.now) (S.left c.args.store.now) c.args.source.now c.args.parser.now es (S.left c.told_many.new.store) c.told_many.new.source c.told_many.new.parser c.told_many.new.told.items
    start count (O.taken c.take_told.new.out) (O.faults c.take_told.new.out) c.take_told.new.writer c.take_told.new.idents c.in-Ok.ensures.tables
    (many-turned (S.files c.args.store.now) (S.left c.args.store.now) c.args.source.now c.args.parser.now (S.left c.told_many.new.store) c.told_many.new.source c.told_many.new.parser c.told_many.new.told.items c.in-Ok.paused _ c.in-Going.is c.in-Ok.ensures.turns)
    (all-taken c.args.parser.now c.told_many.new.parser _ c.dtd.result.now _ _ _ _ _ _ _ _ c.dtd.ensures c.in-Ok.ensures.tables c.in-Ok-take_told.ensures.takes start count es s)

pub returns-in-Going-clause-sink : goal.returns-in-Going-clause-sink
returns-in-Going-clause-sink g c =
    let O = g.O.Sink in
    λ start count es s. without-cause count (O.faults c.take_told.new.out) None
    (cause-told c.args.parser.now c.told_many.new.parser c.dtd.result.now (O.taken c.args.out.now) (O.faults c.args.out.now) c.args.writer.now c.args.idents.now (O.faults c.take_told.new.out) _
    c.dtd.ensures c.in-Ok.ensures.tables c.in-Ok-take_told.ensures.cause start count es s).later

pub returns-in-Ok-finish-clause-turns : goal.returns-in-Ok-finish-clause-turns
returns-in-Ok-finish-clause-turns g c = λ start count es s.
    let S = g.S.Store in let O = g.O.Sink in
    let stand = all-taken c.args.parser.now c.told_many.new.parser _ c.dtd.result.now _ _ _ _ _ _ _ _ c.dtd.ensures c.in-Ok.ensures.tables c.in-Ok-take_told.ensures.takes start count es s in
    end-told (S.files c.args.store.now) (S.left c.args.store.now) c.args.source.now c.args.parser.now es (S.left c.told_many.new.store) c.told_many.new.source c.told_many.new.parser c.told_many.new.told.items c.in-Ok-finish.outcome
    start (O.taken c.finish.new.out) c.in-Ok.ensures.tables
    (many-turned (S.files c.args.store.now) (S.left c.args.store.now) c.args.source.now c.args.parser.now (S.left c.told_many.new.store) c.told_many.new.source c.told_many.new.parser c.told_many.new.told.items c.in-Ok.paused _ c.in-Finished.is c.in-Ok.ensures.turns)
    (c.in-Ok-finish.ensures.finishes start count (doctype_in c.args.parser.now.reading) (es ++ c.told_many.new.told.items) stand)

pub returns-in-Ok-finish-clause-sink : goal.returns-in-Ok-finish-clause-sink
returns-in-Ok-finish-clause-sink g c = λ start count es s.
    let stand = all-taken c.args.parser.now c.told_many.new.parser _ c.dtd.result.now _ _ _ _ _ _ _ _ c.dtd.ensures c.in-Ok.ensures.tables c.in-Ok-take_told.ensures.takes start count es s in
    without-cause count (g.O.Sink.faults c.finish.new.out) (Some c.in-Ok-finish.outcome) (c.in-Ok-finish.ensures.cause start count (doctype_in c.args.parser.now.reading) (es ++ c.told_many.new.told.items) stand).later

pub returns-in-Err-finish-clause-turns : goal.returns-in-Err-finish-clause-turns
returns-in-Err-finish-clause-turns g c = λ start count es s.
    let S = g.S.Store in let O = g.O.Sink in
    let stand = all-taken c.args.parser.now c.told_many.new.parser _ c.dtd.result.now _ _ _ _ _ _ _ _ c.dtd.ensures c.in-Ok.ensures.tables c.in-Ok-take_told.ensures.takes start count es s in
    end-failed (S.files c.args.store.now) (S.left c.args.store.now) c.args.source.now c.args.parser.now es (S.left c.told_many.new.store) c.told_many.new.source c.told_many.new.parser c.told_many.new.told.items c.in-Err-finish.failure
    start (O.taken c.finish.new.out) c.in-Ok.ensures.tables
    (many-turned (S.files c.args.store.now) (S.left c.args.store.now) c.args.source.now c.args.parser.now (S.left c.told_many.new.store) c.told_many.new.source c.told_many.new.parser c.told_many.new.told.items c.in-Ok.paused _ c.in-Finished.is c.in-Ok.ensures.turns)
    (c.in-Err-finish.ensures.finishes start count (doctype_in c.args.parser.now.reading) (es ++ c.told_many.new.told.items) stand)

pub returns-in-Err-finish-clause-sink : goal.returns-in-Err-finish-clause-sink
returns-in-Err-finish-clause-sink g c = λ start count es s.
    let stand = all-taken c.args.parser.now c.told_many.new.parser _ c.dtd.result.now _ _ _ _ _ _ _ _ c.dtd.ensures c.in-Ok.ensures.tables c.in-Ok-take_told.ensures.takes start count es s in
    same-cause failure.Sink c.in-Err-finish.failure count (g.O.Sink.faults c.finish.new.out) (c.in-Err-finish.ensures.cause start count (doctype_in c.args.parser.now.reading) (es ++ c.told_many.new.told.items) stand)

pub returns-in-Ok-end_lines-clause-turns : goal.returns-in-Ok-end_lines-clause-turns
returns-in-Ok-end_lines-clause-turns g c = λ start count es s.
    let S = g.S.Store in let O = g.O.Sink in
    let stand = all-taken c.args.parser.now c.told_many.new.parser _ c.dtd.result.now _ _ _ _ _ _ _ _ c.dtd.ensures c.in-Ok.ensures.tables c.in-Ok-take_told.ensures.takes start count es s in
    refusal-told (S.files c.args.store.now) (S.left c.args.store.now) c.args.source.now c.args.parser.now es (S.left c.told_many.new.store) c.told_many.new.source c.told_many.new.parser c.told_many.new.told.items c.in-Refused.refusal c.in-Ok-end_lines.outcome
    start (O.taken c.end_lines.new.out) c.in-Ok.ensures.tables
    (many-turned (S.files c.args.store.now) (S.left c.args.store.now) c.args.source.now c.args.parser.now (S.left c.told_many.new.store) c.told_many.new.source c.told_many.new.parser c.told_many.new.told.items c.in-Ok.paused _ c.in-Refused.is c.in-Ok.ensures.turns)
    (c.in-Ok-end_lines.ensures.lines start count (doctype_in c.args.parser.now.reading) (es ++ c.told_many.new.told.items) stand.lines) c.in-Ok-end_lines.ensures.outcome

pub returns-in-Ok-end_lines-clause-sink : goal.returns-in-Ok-end_lines-clause-sink
returns-in-Ok-end_lines-clause-sink g c = λ start count es s.
    let stand = all-taken c.args.parser.now c.told_many.new.parser _ c.dtd.result.now _ _ _ _ _ _ _ _ c.dtd.ensures c.in-Ok.ensures.tables c.in-Ok-take_told.ensures.takes start count es s in
    without-cause count (g.O.Sink.faults c.end_lines.new.out) (Some c.in-Ok-end_lines.outcome) (c.in-Ok-end_lines.ensures.cause start count (doctype_in c.args.parser.now.reading) (es ++ c.told_many.new.told.items) stand.lines).later

pub returns-in-Err-end_lines-clause-turns : goal.returns-in-Err-end_lines-clause-turns
returns-in-Err-end_lines-clause-turns g c = λ start count es s.
    let S = g.S.Store in let O = g.O.Sink in
    let stand = all-taken c.args.parser.now c.told_many.new.parser _ c.dtd.result.now _ _ _ _ _ _ _ _ c.dtd.ensures c.in-Ok.ensures.tables c.in-Ok-take_told.ensures.takes start count es s in
    refusal-failed (S.files c.args.store.now) (S.left c.args.store.now) c.args.source.now c.args.parser.now es (S.left c.told_many.new.store) c.told_many.new.source c.told_many.new.parser c.told_many.new.told.items c.in-Refused.refusal
    start (O.taken c.end_lines.new.out) c.in-Ok.ensures.tables
    (many-turned (S.files c.args.store.now) (S.left c.args.store.now) c.args.source.now c.args.parser.now (S.left c.told_many.new.store) c.told_many.new.source c.told_many.new.parser c.told_many.new.told.items c.in-Ok.paused _ c.in-Refused.is c.in-Ok.ensures.turns)
    (c.in-Err-end_lines.ensures.lines start count (doctype_in c.args.parser.now.reading) (es ++ c.told_many.new.told.items) stand.lines)

pub returns-in-Err-end_lines-clause-sink : goal.returns-in-Err-end_lines-clause-sink
returns-in-Err-end_lines-clause-sink g c = λ start count es s.
    let stand = all-taken c.args.parser.now c.told_many.new.parser _ c.dtd.result.now _ _ _ _ _ _ _ _ c.dtd.ensures c.in-Ok.ensures.tables c.in-Ok-take_told.ensures.takes start count es s in
    same-cause failure.Sink c.in-Err-end_lines.failure count (g.O.Sink.faults c.end_lines.new.out) (c.in-Err-end_lines.ensures.cause start count (doctype_in c.args.parser.now.reading) (es ++ c.told_many.new.told.items) stand.lines)
