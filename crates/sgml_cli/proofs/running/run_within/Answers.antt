use Rattle.std.proofs.Common.{rules, Ok, Err, sym, ◌∙◌}
use Rattle.sgml_cli.proofs.Exits.{told-usage, exit-read, exit-stopped, failed-store, failed-sink, failed-memory, set-converts, counts-answer}
use Rattle.std.specs.Prelude.{map, string_bytes}
use Rattle.sgml_cli.proofs.Numbered.{selfcheck_is_of_a_book}
use Rattle.sgml_cli.proofs.running.run_within.Goals as goal

pub returns-in_default-found-clause-answers : goal.returns-in_default-found-clause-answers
returns-in_default-found-clause-answers g c =
    told-usage c.args.limit (g.S.Store.files c.args.store.now) _ c.finish-in_default-found.result c.usage.result.now (g.O.Sink.taken c.args.out.now) _ _ _ (sym c.in_default-found.is ∙ c.in-Ok.ensures) c.usage.ensures
    c.finish-in_default-found.ensures

pub returns-in-Err-clause-answers : goal.returns-in-Err-clause-answers
returns-in-Err-clause-answers g c =
    exit-stopped c.args.limit (g.S.Store.files c.args.store.now) _ _ c.in-Some.command c.in-Err.error (g.O.Sink.taken c.args.out.now) c.stop.result _ _ _ (sym c.in-Some.is ∙ c.in-Ok.ensures) c.as_ref.ensures.value
    c.in-Err.ensures.sets c.stop.ensures.stopped

pub returns-in-Ok-convert_document-clause-answers : goal.returns-in-Ok-convert_document-clause-answers
returns-in-Ok-convert_document-clause-answers g c =
    exit-read c.args.limit (g.S.Store.files c.args.store.now) _ c.in-Some.command c.in-Ok-read_settings.settings c.in-Ok-convert_document.outcome (g.O.Sink.taken c.args.out.now) (g.O.Sink.taken c.convert_document.new.out) c.answer.result _ _ _
    (sym c.in-Some.is ∙ c.in-Ok.ensures)
    (set-converts c.args.limit (g.S.Store.files c.args.store.now) (g.S.Store.files c.read_settings.new.store) _ c.in-Some.command c.in-Ok-read_settings.settings (g.O.Sink.taken c.args.out.now) (g.O.Sink.taken c.convert_document.new.out)
    (Ok c.in-Ok-convert_document.outcome) (search rules) c.in-Ok-read_settings.ensures.files c.as_ref.ensures.value c.in-Ok-read_settings.ensures.sets c.in-Ok-convert_document.ensures.converts)
    c.answer.ensures.answered

pub returns-in-Err-Store-clause-answers : goal.returns-in-Err-Store-clause-answers
returns-in-Err-Store-clause-answers g c =
    failed-store c.args.limit (g.S.Store.files c.args.store.now) _ c.in-Some.command c.in-Ok-read_settings.settings (g.O.Sink.taken c.args.out.now) (g.O.Sink.taken c.convert_document.new.out) c.in-Err-Store.field-0 c.finish-in-Err-Store.result _ _ _
    (sym c.in-Some.is ∙ c.in-Ok.ensures)
    (set-converts c.args.limit (g.S.Store.files c.args.store.now) (g.S.Store.files c.read_settings.new.store) _ c.in-Some.command c.in-Ok-read_settings.settings (g.O.Sink.taken c.args.out.now) (g.O.Sink.taken c.convert_document.new.out)
    (Err c.in-Err-Store.field-0) (search rules) c.in-Ok-read_settings.ensures.files c.as_ref.ensures.value c.in-Ok-read_settings.ensures.sets c.in-Err-Store.ensures.converts)
    c.finish-in-Err-Store.ensures

pub returns-in-Err-Sink-clause-answers : goal.returns-in-Err-Sink-clause-answers
returns-in-Err-Sink-clause-answers g c =
    failed-sink c.args.limit (g.S.Store.files c.args.store.now) _ c.in-Some.command c.in-Ok-read_settings.settings (g.O.Sink.taken c.args.out.now) (g.O.Sink.taken c.convert_document.new.out) c.in-Err-Sink.field-0 c.finish-in-Err-Sink.result _ _ _ _
    (sym c.in-Some.is ∙ c.in-Ok.ensures)
    (set-converts c.args.limit (g.S.Store.files c.args.store.now) (g.S.Store.files c.read_settings.new.store) _ c.in-Some.command c.in-Ok-read_settings.settings (g.O.Sink.taken c.args.out.now) (g.O.Sink.taken c.convert_document.new.out)
    (Err c.in-Err-Sink.field-0) (search rules) c.in-Ok-read_settings.ensures.files c.as_ref.ensures.value c.in-Ok-read_settings.ensures.sets c.in-Err-Sink.ensures.converts)
    c.finish-in-Err-Sink.ensures

pub returns-clause-answers : goal.returns-clause-answers
returns-clause-answers g c =
    failed-memory c.args.limit (g.S.Store.files c.args.store.now) _ c.in-Some.command c.in-Ok-read_settings.settings (g.O.Sink.taken c.args.out.now) (g.O.Sink.taken c.convert_document.new.out) c.in-Err-Memory.field-0 c.finish-in-Err-Memory.result _ _ _
    (sym c.in-Some.is ∙ c.in-Ok.ensures)
    (set-converts c.args.limit (g.S.Store.files c.args.store.now) (g.S.Store.files c.read_settings.new.store) _ c.in-Some.command c.in-Ok-read_settings.settings (g.O.Sink.taken c.args.out.now) (g.O.Sink.taken c.convert_document.new.out)
    (Err c.in-Err-Memory.field-0) (search rules) c.in-Ok-read_settings.ensures.files c.as_ref.ensures.value c.in-Ok-read_settings.ensures.sets c.in-Err-Memory.ensures.converts)
    c.finish-in-Err-Memory.ensures

pub run_count-requires-clause-book : goal.run_count-requires-clause-book
run_count-requires-clause-book g c = λ number m. selfcheck_is_of_a_book (map string_bytes c.args.words.now) c.in-Some.command number (sym c.in-Ok.ensures ∙ c.in-Some.is) m

pub returns-then-not-is_document-clause-answers : goal.returns-then-not-is_document-clause-answers
returns-then-not-is_document-clause-answers g c =
    counts-answer c.args.limit (g.S.Store.files c.args.store.now) (g.S.Store.files c.read_settings.new.store) _ _ c.in-Some.command c.in-Ok-read_settings.settings c.run_count.result _ _ (sym c.in-Some.is ∙ c.in-Ok.ensures)
    c.in-Ok-read_settings.ensures.files c.as_ref.ensures.value c.in-Ok-read_settings.ensures.sets c.run_count.ensures.answers c.run_count.ensures.usage
