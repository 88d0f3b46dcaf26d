use Rattle.std.proofs.Common.{refl, sym, ◌∙◌, arith, take, [], Some}
use Rattle.sgml_markup.specs.declared.kinds.TokenKind.TheVariants as kind
use Rattle.sgml_content_tags.specs.Quick.{name_part}
use Rattle.sgml_content_tags.proofs.Numbered.{number-as}
use Rattle.sgml_content_tags.proofs.Plainly.{named-by, lone-at}
use Rattle.sgml_content_tags.proofs.quick.end_there.Goals as goal

pub returns-then-is_named : goal.returns-then-is_named
returns-then-is_named c =
    let n = c.end_length-n.result in
    let d = c.args.content.now.kept.doctype in
    let number = c.in-Some.number in
    let rest = c.rest_at-rest.result.now in
    let tag = c.end_length-n.ensures.tag (omega (arith, c.if-n-eq0.false)) in
    lone-at c.args.content.now c.args.texts.now kind.EndTag n 2 number rest c.rest_at-rest.ensures.value c.requires.content (omega (arith, c.if-n-eq0.false))
    c.end_length-n.ensures.within c.rest_at-rest.ensures.fits tag
    (named-by d (take n rest) (name_part 2 n) [] _ (Some number) tag.parts refl
    (number-as d number _ c.requires.content.tree.distinct c.in-Some.ensures.number (sym c.is_named.ensures ∙ c.if-is_named.true)))
