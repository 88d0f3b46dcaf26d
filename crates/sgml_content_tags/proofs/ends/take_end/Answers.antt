use Rattle.std.proofs.Common.{refl, sym, ◌∙◌}
use Rattle.sgml_infer.specs.declared.visible.Visible.TheVariants as visible
use Rattle.sgml_content_steps.proofs.Marking.{memory-tells}
use Rattle.sgml_content_tags.proofs.Numbered.{number-within, named-there}
use Rattle.sgml_content_tags.proofs.Tags.{tag-tells, tag-ends, tag-undefined}
use Rattle.sgml_content_tags.proofs.ends.take_end.Goals as goal

pub returns-in-Ok-None : goal.returns-in-Ok-None
returns-in-Ok-None c =
    tag-undefined c.args.texts.now c.args.token c.args.content.now c.requires.kind c.args.told.now.items c.requires.content
    (named-there c.args.content.now.kept.doctype _ _ _ c.tag_at-tag.ensures (sym c.in-Ok-None.ensures ∙ c.in-Ok-None.field-0-is))

pub returns-in-Err : goal.returns-in-Err
returns-in-Err c =
    memory-tells c.args.texts.now c.args.token c.args.content.now c.args.told.now.items c.args.told.now.items c.requires.content refl

pub end_element-requires-clause-numbered : goal.end_element-requires-clause-numbered
end_element-requires-clause-numbered c =
    number-within c.args.content.now.kept.doctype _ c.in-Ok-Some.number (sym c.in-Ok-Some.ensures ∙ c.in-Ok-Some.field-0-is)

pub end_element-requires-clause-number : goal.end_element-requires-clause-number
end_element-requires-clause-number c =
    number-within c.args.content.now.kept.doctype _ c.in-Ok-Some.number (sym c.in-Ok-Some.ensures ∙ c.in-Ok-Some.field-0-is)

pub returns : goal.returns
returns c =
    tag-tells c.args.texts.now c.args.token (visible.EndTag c.in-Ok-Some.number) c.in-Ok-Some.number c.args.content.now c.end_element.new.content
    c.args.told.now.items c.end_element.new.told.items c.end_element.result c.requires.within
    (tag-ends c.args.texts.now c.args.token c.args.content.now c.requires.kind c.in-Ok-Some.number
    (named-there c.args.content.now.kept.doctype _ _ _ c.tag_at-tag.ensures (sym c.in-Ok-Some.ensures ∙ c.in-Ok-Some.field-0-is))) c.end_element.ensures
