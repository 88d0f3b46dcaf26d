use Rattle.std.proofs.Common.{refl, sym, ◌∙◌, take, Some}
use Rattle.sgml_scan.specs.StartTags.{start_name}
use Rattle.sgml_content_tags.proofs.Plainly.{named-by, start-at}
use Rattle.sgml_content_tags.proofs.quick.start_there.Goals as goal

pub returns-in-Ok-Some : goal.returns-in-Ok-Some
returns-in-Ok-Some c =
    let t = c.in-Some.tag in
    let tag = c.in-Some.ensures in
    let rest = c.rest_at-rest.result.now in
    start-at c.args.content.now c.args.texts.now t c.in-Ok-Some.number rest c.rest_at-rest.ensures.value c.requires.content c.rest_at-rest.ensures.fits tag
    (named-by c.args.content.now.kept.doctype (take t.length rest) (start_name t.name) tag.others _ (Some c.in-Ok-Some.number) tag.parts refl
    (sym c.in-Ok-Some.field-0-is ∙ c.in-Ok-Some.ensures))
