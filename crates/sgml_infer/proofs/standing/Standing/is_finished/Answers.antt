use Rattle.std.proofs.Common.{sym, ◌∙◌, ap, not, Bool, []}
use Rattle.sgml_theory_reading.specs.Omission.{finished}
use Rattle.sgml_infer.specs.Trees.{context_with}
use Rattle.sgml_infer.specs.Seen.{seen}
use Rattle.sgml_infer.proofs.Asked.{finished-inner, finished-before, finished-behind}
use Rattle.sgml_infer.proofs.standing.Standing.is_finished.Goals as goal

pub returns-in-Some : goal.returns-in-Some
returns-in-Some c =
    c.is_finished.ensures ∙ finished-inner c.args.self.now.dtd.now c.in-Some.inner.element c.in-Some.inner.position c.in-Some.inner.state.now (seen c.args.self.now) c.requires.distinct c.in-Some.ensures

pub returns-then-self : goal.returns-then-self
returns-then-self c =
    let t = c.args.self.now.dtd.now in
    c.if-self.true ∙ (finished-behind t ∙ sym (ap finished c.in-None.ensures ∙ ap (λ (b : Bool). finished (context_with t [] b)) c.if-self.true))

pub returns-else-self : goal.returns-else-self
returns-else-self c =
    let t = c.args.self.now.dtd.now in
    ap not c.has_doctype.ensures ∙ (finished-before t ∙ sym (ap finished c.in-None.ensures ∙ ap (λ (b : Bool). finished (context_with t [] b)) c.if-self.false))
