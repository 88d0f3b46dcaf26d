use Rattle.std.proofs.Common.{sym, subst, arith}
use Rattle.sgml_markup.proofs.EndLemmas.{rest-of}
use Rattle.sgml_scan.specs.declared.classes.Run.TheVariants.{Chars}
use Rattle.sgml_scan.specs.Tokens.{IsOne, IsScanned}
use Rattle.sgml_scan.proofs.Firsts.{text-scanned}
use Rattle.sgml_scan.proofs.scanning.scan_content.Goals as goal

pub returns-then-is_end : goal.returns-then-is_end
returns-then-is_end c =
    let a = c.args in
    let n = c.text_of-n.result in
    subst (λ x. IsScanned a.syntax.now a.state a.ended a.text.now x) (sym c.token.ensures)
    (text-scanned a.syntax.now a.state a.ended a.text.now n c.requires.mode c.requires.content (let z = c.if-n-eq0.false in omega (arith, z)) c.text_of-n.ensures.within c.text_of-n.ensures.sure
    (λ one. c.is_end.ensures c.if-is_end.true a.ended (subst (λ xs. IsOne a.syntax.now a.state a.ended Chars xs) (sym (rest-of n a.text.now)) one)))
