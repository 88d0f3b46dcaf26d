use Rattle.std.proofs.Common.{◌≡◌, ◌&&◌, true, ap, sym, ◌∙◌}
use Rattle.sgml_names.specs.syntax.declared.syntax.Syntax.{Syntax}
use Rattle.sgml_infer.specs.Tables.{type_at}
use Rattle.sgml_infer.specs.Seen.{seen}
use Rattle.sgml_infer.proofs.Contents.{end-said}
use Rattle.sgml_infer.proofs.Asked.{end-inner}
use Rattle.sgml_infer.proofs.standing.Standing.end_is_omissible.Goals as goal

pub returns-then-syntax : goal.returns-then-syntax
returns-then-syntax c =
    let s = c.args.self.now in let t = s.dtd.now in let i = c.in-Some.inner.element in
    let o : true ≡ t.syntax.omittag = sym c.if-syntax.true ∙ ap (λ (x : Syntax). x.omittag) c.syntax.ensures in
    end-said t i c.omits.result c.omits.ensures ∙ (ap (λ b. b && (type_at t i).omits.end) o
    ∙ end-inner t i c.in-Some.inner.position c.in-Some.inner.state.now (seen s) c.requires.distinct c.in-Some.ensures)
