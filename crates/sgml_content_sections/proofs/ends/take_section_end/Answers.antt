use Rattle.std.proofs.Common.{◌∙◌, sym, ap, length}
use Rattle.sgml_marked.specs.Opened.{is_open_at}
use Rattle.sgml_content_steps.specs.Content.{Content}
use Rattle.sgml_content_sections.proofs.Closing.{open-at, memory-takes, section-none-step, section-end-step}
use Rattle.sgml_content_sections.proofs.ends.take_section_end.Goals as goal

pub returns-in-Err : goal.returns-in-Err
returns-in-Err c = memory-takes c.args.texts.now c.args.token c.args.content.now c.requires.content

pub returns-then-not-is_section_open : goal.returns-then-not-is_section_open
returns-then-not-is_section_open c =
    section-none-step c.args.texts.now c.args.token c.args.content.now c.requires.content c.requires.kind
    (open-at c.in-Ok.on c.is_section_open.result _ c.args.content.now c.content.view_is c.in-Ok.ensures c.is_section_open.ensures ∙ c.if-not-is_section_open.true)

pub returns : goal.returns
returns c =
    section-end-step c.args.texts.now c.args.token c.in-Ok.on c.args.content.now c.end_section.new.content c.requires.content c.requires.kind
    (c.in-Ok.ensures ∙ ap (λ (z : Content). length z.kept.stack.places) c.content.view_is)
    (ap (λ (z : Content). is_open_at c.in-Ok.on z.kept.sections) (sym c.content.view_is) ∙ (sym c.is_section_open.ensures ∙ c.if-not-is_section_open.false)) c.end_section.ensures
