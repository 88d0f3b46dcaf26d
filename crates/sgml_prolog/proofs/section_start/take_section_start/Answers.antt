use Rattle.std.proofs.Common.{Err, ◌≤◌, sym, subst}
use Rattle.sgml_declared.specs.theory_standing.Kept.{Kept}
use Rattle.sgml_prolog_steps.specs.Steps.{IsStep}
use Rattle.sgml_prolog_steps.proofs.Constructs.{start-whole}
use Rattle.sgml_prolog.proofs.Lexing.{IsMark}
use Rattle.sgml_prolog.proofs.Statuses.{start-stopped-step, start-deep, start-within, start-memory-step, start-step}
use Rattle.sgml_prolog.proofs.section_start.take_section_start.Goals as goal

pub read_status-requires-clause-whole : goal.read_status-requires-clause-whole
read_status-requires-clause-whole c =
    start-whole c.args.kept.now c.args.texts.now c.args.ended c.args.token c.requires.kept c.requires.going_on c.requires.sort c.requires.read c.requires.there

pub returns-in-Err-read_status : goal.returns-in-Err-read_status
returns-in-Err-read_status c asked =
    subst (λ z. IsStep c.args.options.now c.args.texts.now c.args.ended asked c.args.kept.now c.read_status.new.kept (Err z)) (sym c.stop_of.ensures)
    (start-stopped-step c.args.options.now c.args.texts.now c.args.ended asked c.args.token c.args.kept.now c.read_status.new.kept c.in-Err-read_status.error c.requires.kept c.requires.going_on
    c.requires.sort c.requires.read c.requires.there c.in-Err-read_status.ensures.err c.in-Err-read_status.ensures.left)

pub go_back-requires-clause-depth : goal.go_back-requires-clause-depth
go_back-requires-clause-depth c =
    start-deep c.args.texts.now c.args.ended c.args.token c.mark-mark.result c.args.kept.now c.read_status.new.kept c.begin_section.new.kept c.requires.kept c.requires.going_on
    c.requires.sort c.requires.read c.requires.there c.in-Ok-read_status.ensures.over
    (subst (λ (k : Kept). IsMark c.mark-mark.result k.stack) c.kept.view_is (record { depth = c.mark-mark.ensures.depth; at = c.mark-mark.ensures.at; spent = c.mark-mark.ensures.spent }))
    c.in-Err-begin_section.ensures.err

pub go_back-requires-clause-spent : goal.go_back-requires-clause-spent
go_back-requires-clause-spent c =
    start-within c.args.texts.now c.args.ended c.args.token c.mark-mark.result c.args.kept.now c.read_status.new.kept c.begin_section.new.kept c.requires.kept c.requires.going_on
    c.requires.sort c.requires.read c.requires.there c.in-Ok-read_status.ensures.over
    (subst (λ (k : Kept). c.mark-mark.result.spent ≤ k.stack.expand) c.kept.view_is c.mark-mark.ensures.within)
    c.in-Err-begin_section.ensures.err

pub returns-in-Err-begin_section : goal.returns-in-Err-begin_section
returns-in-Err-begin_section c asked =
    start-memory-step c.args.options.now c.args.texts.now c.args.ended asked c.args.token c.mark-mark.result c.args.kept.now c.read_status.new.kept c.begin_section.new.kept c.go_back.new.kept
    c.requires.kept c.requires.going_on c.requires.sort c.requires.read c.requires.there c.in-Ok-read_status.ensures.over
    (subst (λ (k : Kept). IsMark c.mark-mark.result k.stack) c.kept.view_is (record { depth = c.mark-mark.ensures.depth; at = c.mark-mark.ensures.at; spent = c.mark-mark.ensures.spent }))
    c.in-Ok-read_status.ensures.same c.in-Err-begin_section.ensures.err c.go_back.ensures

pub returns-in-Ok-begin_section : goal.returns-in-Ok-begin_section
returns-in-Ok-begin_section c asked =
    start-step c.args.options.now c.args.texts.now c.args.ended asked c.args.token c.args.kept.now c.read_status.new.kept c.begin_section.new.kept c.in-Ok-read_status.status c.in-Ok.level
    c.requires.kept c.requires.going_on c.requires.sort c.requires.read c.requires.there c.in-Ok-read_status.ensures.taken c.in-Ok-read_status.ensures.over c.in-Ok-read_status.ensures.same
    c.in-Ok.ensures c.in-Ok-begin_section.ensures.ok
