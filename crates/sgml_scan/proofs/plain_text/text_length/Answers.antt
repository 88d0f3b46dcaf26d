use Rattle.std.proofs.Common.{sym, subst, arith}
use Rattle.sgml_markup.proofs.EndLemmas.{rest-of}
use Rattle.sgml_scan.specs.declared.classes.Run.TheVariants.{Chars}
use Rattle.sgml_scan.specs.Tokens.{IsOne}
use Rattle.sgml_scan.proofs.Firsts.{text-scanned}
use Rattle.sgml_scan.proofs.plain_text.text_length.Goals as goal

pub returns-then-is_end-clause-scanned : goal.returns-then-is_end-clause-scanned
returns-then-is_end-clause-scanned c = λ some ended.
    let a = c.args in
    let n = c.text_of-n.result in
    text-scanned a.syntax.now a.state ended a.text.now n c.requires.mode c.requires.content some c.text_of-n.ensures.within c.text_of-n.ensures.sure
    (λ one. c.is_end.ensures c.if-is_end.true ended (subst (λ xs. IsOne a.syntax.now a.state ended Chars xs) (sym (rest-of n a.text.now)) one))

pub returns-else-is_end-clause-sure : goal.returns-else-is_end-clause-sure
returns-else-is_end-clause-sure c = λ i l. absurd (omega (arith, l))

pub returns-else-is_end-clause-scanned : goal.returns-else-is_end-clause-scanned
returns-else-is_end-clause-scanned c = λ l. absurd (omega (arith, l))
