use Rattle.std.proofs.Common.{ap, ◌∙◌, sym}
use Rattle.sgml_names.specs.syntax.declared.syntax.Syntax.{Syntax}
use Rattle.sgml_infer.specs.Visibles.{kind_in}
use Rattle.sgml_infer.proofs.Leaving.{end-decided}
use Rattle.sgml_infer.proofs.standing.Standing.may_end.Goals as goal

pub returns-in-Some : goal.returns-in-Some
returns-in-Some c =
    let s = c.args.self.now in
    end-decided s c.requires.standing c.in-Some.inner.element c.in-Some.inner.position c.in-Some.inner.state.now c.in-Some.ensures (kind_in s c.args.visible)
    (ap (λ (x : Syntax). x.omittag) (sym c.syntax.ensures) ∙ c.if-not-syntax.false)
    (sym c.leaves.ensures ∙ c.if-not-leaves.false)
    (sym c.is_finished.ensures ∙ c.if-not-is_finished.false)
    c.omits_end.result
    c.omits_end.ensures
