use Rattle.std.proofs.Common.{◌∙◌, ap, subst, arith, List, ℕ, drop}
use Rattle.sgml_markup.specs.QuickTags.{BeginsName, EndsQuickly}
use Rattle.sgml_markup.proofs.EndLemmas.{rest-of}
use Rattle.sgml_scan.proofs.StartTags.{start-tag-at}
use Rattle.sgml_scan.proofs.starts.start_tag.Goals as goal

pub returns-in-Some : goal.returns-in-Some
returns-in-Some c =
    let s = c.args.syntax.now in
    let text = c.args.text.now in
    let name = c.short_name-name.result in
    start-tag-at s text name c.in-Some.n c.in-len1-up.len_at_least (omega (arith, c.if-b-ne60.false))
    (subst (λ (xs : List ℕ). BeginsName s xs name) (rest-of 1 text) (c.short_name-name.ensures.quick (omega (arith, c.if-name-eq0.false))))
    (subst (λ (xs : List ℕ). EndsQuickly s xs c.in-Some.n) (rest-of name _ ∙ ap (drop name) (rest-of 1 text)) c.in-Some.ensures.quick)
