use Rattle.std.proofs.Common.{◌∙◌, ap, sym, List, ℕ}
use Rattle.sgml_markup.specs.References.{wrong_number, in_literal}
use Rattle.sgml_markup.proofs.EndLemmas.{rest-of}
use Rattle.sgml_markup.proofs.Quiet.{somewhere-step}
use Rattle.sgml_markup.proofs.literals.has_wrong_number.Goals as goal

pub loop-i-preserved : goal.loop-i-preserved
loop-i-preserved c =
    let s = c.args.syntax.now in
    let text = c.args.text.now in
    let i = c.loop-i.i in
    let f = λ (rest : List ℕ). wrong_number s (in_literal s rest) rest in
    c.loop-i.invariant
    ∙ somewhere-step f text i c.loop-i-test.true (ap f (sym (rest-of i text)) ∙ sym c.is_wrong_number.ensures ∙ c.if-is_wrong_number.false)
