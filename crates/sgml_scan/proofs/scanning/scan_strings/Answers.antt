use Rattle.std.proofs.Common.{sym, subst, arith}
use Rattle.sgml_markup.proofs.EndLemmas.{rest-of}
use Rattle.sgml_scan.specs.declared.classes.Run.TheVariants.{Chars}
use Rattle.sgml_scan.specs.Tokens.{IsOne, IsScanned}
use Rattle.sgml_scan.proofs.Firsts.{words-scanned}
use Rattle.sgml_scan.proofs.scanning.scan_strings.Goals as goal

pub returns : goal.returns
returns c =
    let a = c.args in
    let n = c.word_of-n.result in
    subst (λ x. IsScanned a.syntax.now a.state a.ended a.text.now x) (sym c.token.ensures)
    (words-scanned a.syntax.now a.state a.ended a.text.now n c.requires.mode c.requires.maps (let z = c.if-n-eq0.false in omega (arith, z)) c.word_of-n.ensures.within c.word_of-n.ensures.sure
    (λ one. c.is_word_end.ensures c.if-not-is_word_end.false a.ended (subst (λ xs. IsOne a.syntax.now a.state a.ended Chars xs) (sym (rest-of n a.text.now)) one)))
