use Rattle.std.proofs.Common.{sym, subst}
use Rattle.sgml_scan.specs.Tokens.{IsScanned}
use Rattle.sgml_scan.proofs.Firsts.{end-scanned, start-scanned}
use Rattle.sgml_scan.proofs.scanning.scan_bound.Goals as goal

pub returns-then-b-eq13 : goal.returns-then-b-eq13
returns-then-b-eq13 c =
    let a = c.args in
    subst (λ x. IsScanned a.syntax.now a.state a.ended a.text.now x) (sym c.token.ensures)
    (end-scanned a.syntax.now a.state a.ended a.text.now c.requires.mode c.in-len1-up.len_at_least c.requires.content
    c.if-b-eq13.true)

pub returns-then-b-eq10 : goal.returns-then-b-eq10
returns-then-b-eq10 c =
    let a = c.args in
    subst (λ x. IsScanned a.syntax.now a.state a.ended a.text.now x) (sym c.token-then-b-eq10.ensures)
    (start-scanned a.syntax.now a.state a.ended a.text.now c.requires.mode c.in-len1-up.len_at_least c.requires.content
    c.if-b-eq10.true)
