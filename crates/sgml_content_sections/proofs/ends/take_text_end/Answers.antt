use Rattle.std.proofs.Common.{◌∙◌}
use Rattle.sgml_content_sections.proofs.Closing.{open-at, memory-ends, section-open-step, text-end-step}
use Rattle.sgml_content_sections.proofs.ends.take_text_end.Goals as goal

pub returns-in-Err : goal.returns-in-Err
returns-in-Err c texts = memory-ends texts c.args.content.now c.requires.content

pub returns-then-is_section_open : goal.returns-then-is_section_open
returns-then-is_section_open c texts =
    section-open-step texts c.args.content.now c.requires.content c.requires.entity
    (open-at c.in-Ok.on c.is_section_open.result _ c.args.content.now c.content.view_is c.in-Ok.ensures c.is_section_open.ensures ∙ c.if-is_section_open.true)

pub returns : goal.returns
returns c texts =
    text-end-step texts c.args.content.now c.end_text.new.content c.requires.content c.requires.entity
    (open-at c.in-Ok.on c.is_section_open.result _ c.args.content.now c.content.view_is c.in-Ok.ensures c.is_section_open.ensures ∙ c.if-is_section_open.false) c.end_text.ensures
