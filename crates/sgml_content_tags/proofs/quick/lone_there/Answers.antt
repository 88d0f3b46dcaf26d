use Rattle.std.proofs.Common.{refl, sym, ◌∙◌, arith, take, [], Some}
use Rattle.sgml_markup.specs.declared.kinds.TokenKind.TheVariants as kind
use Rattle.sgml_content_tags.specs.Quick.{name_part}
use Rattle.sgml_content_tags.proofs.Plainly.{named-by, lone-at}
use Rattle.sgml_content_tags.proofs.quick.lone_there.Goals as goal

pub returns-in-Ok-Some : goal.returns-in-Ok-Some
returns-in-Ok-Some c =
    let n = c.lone_length-n.result in
    let rest = c.rest_at-rest.result.now in
    let tag = c.lone_length-n.ensures.tag (omega (arith, c.if-n-eq0.false)) in
    lone-at c.args.content.now c.args.texts.now kind.StartTag n 1 c.in-Ok-Some.number rest c.rest_at-rest.ensures.value c.requires.content (omega (arith, c.if-n-eq0.false))
    c.lone_length-n.ensures.within c.rest_at-rest.ensures.fits tag
    (named-by c.args.content.now.kept.doctype (take n rest) (name_part 1 n) [] _ (Some c.in-Ok-Some.number) tag.parts refl (sym c.in-Ok-Some.field-0-is ∙ c.in-Ok-Some.ensures))
