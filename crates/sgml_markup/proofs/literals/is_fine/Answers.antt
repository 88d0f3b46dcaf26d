use Rattle.std.proofs.Common.{◌∙◌, ap, sym, List, ℕ, refl}
use Rattle.sgml_markup.specs.References.{wrong_number, wrong_length, in_literal}
use Rattle.sgml_markup.specs.QuickTags.{begins_sgml}
use Rattle.sgml_markup.proofs.EndLemmas.{rest-of}
use Rattle.sgml_markup.proofs.Quiet.{sgml-step, somewhere-step}
use Rattle.sgml_markup.proofs.literals.is_fine.Goals as goal

pub loop-i-preserved : goal.loop-i-preserved
loop-i-preserved c =
    let s = c.args.syntax.now in
    let text = c.args.text.now in
    let i = c.loop-i.i in
    let f = λ (rest : List ℕ). wrong_number s (in_literal s rest) rest in
    let g = λ (rest : List ℕ). wrong_length s (in_literal s rest) rest in
    let fine = c.if-not-is_fine_at.ensures in
    record {
      sgml = c.loop-i.invariant.sgml ∙ sgml-step text i c.loop-i-test.true (ap begins_sgml (sym (rest-of i text)) ∙ fine.sgml refl);
      number = c.loop-i.invariant.number ∙ somewhere-step f text i c.loop-i-test.true (ap f (sym (rest-of i text)) ∙ fine.number refl);
      short = c.loop-i.invariant.short ∙ somewhere-step g text i c.loop-i-test.true (ap g (sym (rest-of i text)) ∙ fine.length refl);
    }
