use Rattle.std.proofs.Common.{◌∙◌, sym, ap, subst, length}
use Rattle.sgml_theory_reading.specs.records.Items.{Markup}
use Rattle.sgml_decl_lexemes.specs.decl_parts.declared.ends.Construct.TheVariants.{SectionStart}
use Rattle.sgml_declared.specs.Taking.{Ends}
use Rattle.sgml_inside.specs.Inside.{noted_in}
use Rattle.sgml_content_steps.specs.Content.{Content}
use Rattle.sgml_content_sections.specs.Starts.{IsBegun, IsNotBegun}
use Rattle.sgml_content_sections.proofs.Quiet.{now-kept, now-changed}
use Rattle.sgml_content_sections.proofs.Starting.{ignored-step, start-ends, begun-step, not-begun-step}
use Rattle.sgml_content_sections.proofs.starts.take_section_start.Goals as goal

pub begin_by_status-requires-clause-whole : goal.begin_by_status-requires-clause-whole
begin_by_status-requires-clause-whole c =
    subst (λ (z : Content). Ends SectionStart z.kept.doctype c.args.texts.now z.kept.stack c.args.token.length) (sym c.content.view_is)
    (start-ends c.args.content.now.kept c.args.texts.now c.args.token.length c.args.state.mode (sym c.is_ignored.ensures ∙ c.if-is_ignored.false) c.requires.whole)

pub returns-in-Ok-begin_ignored : goal.returns-in-Ok-begin_ignored
returns-in-Ok-begin_ignored c =
    ignored-step c.args.options.now c.args.state c.args.texts.now c.args.token c.in-Ok.level c.args.content.now c.begin_ignored.new.content c.requires.content c.requires.kind
    (sym c.is_ignored.ensures ∙ c.if-is_ignored.true) (c.in-Ok.ensures ∙ ap (λ (z : Content). length z.kept.stack.places) c.content.view_is) c.in-Ok-begin_ignored.ensures.ok

pub returns-in-Ok-begin_by_status : goal.returns-in-Ok-begin_by_status
returns-in-Ok-begin_by_status c =
    begun-step c.args.options.now c.args.state c.args.texts.now c.args.token c.in-Ok.level c.args.content.now _ c.begin_by_status.new.kept c.requires.content c.requires.kind
    (sym c.is_ignored.ensures ∙ c.if-is_ignored.false) c.requires.whole (c.in-Ok.ensures ∙ ap (λ (z : Content). length z.kept.stack.places) c.content.view_is)
    (subst (λ (z : Content). IsBegun c.args.options.now c.args.texts.now c.in-Ok.level z.kept c.begin_by_status.new.kept) c.content.view_is c.in-Ok-begin_by_status.ensures.ok)
    (now-changed c.begin_by_status.new.kept c.note.new.self (noted_in Markup) _ c.args.content.now c.content.view_is c.note.ensures.elements c.note.ensures.ended c.note.ensures.room)

pub returns-in-Err-begin_by_status : goal.returns-in-Err-begin_by_status
returns-in-Err-begin_by_status c =
    not-begun-step c.args.options.now c.args.state c.args.texts.now c.args.token c.args.content.now _ c.in-Err-begin_by_status.stop c.requires.content c.requires.kind
    (sym c.is_ignored.ensures ∙ c.if-is_ignored.false) c.requires.whole
    (subst (λ (z : Content). IsNotBegun c.args.options.now c.args.texts.now z.kept c.in-Err-begin_by_status.stop) c.content.view_is c.in-Err-begin_by_status.ensures.err)
    (now-kept c.begin_by_status.new.kept _ c.args.content.now c.content.view_is c.in-Err-begin_by_status.ensures.left)
