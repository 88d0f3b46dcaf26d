use Rattle.std.proofs.Common.{◌≡◌, length, ap, ◌∙◌, arith}
use Rattle.sgml_declared.specs.theory_standing.Kept.{Kept}
use Rattle.sgml_parse.proofs.Unsupplied.{none-at-all}
use Rattle.sgml_parse.proofs.wanting.first_unsupplied.Goals as goal

pub returns : goal.returns
returns c =
    let k = c.args.kept.now in
    let count : c.count-end.result ≡ length k.doctype.entities = c.count-end.ensures.count ∙ ap length (c.entities-2.ensures.entities ∙ ap (λ (z : Kept). z.doctype.entities) c.kept.view_is) in
    none-at-all c.args.options.now k c.args.texts.now c.args.missing.now c.args.from c.entities.number c.entities.invariant.none (omega (arith, c.entities-test.false, count))
