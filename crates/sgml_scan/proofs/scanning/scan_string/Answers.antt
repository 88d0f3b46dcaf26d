use Rattle.std.proofs.Common.{◌∙◌, sym}
use Rattle.sgml_scan.proofs.Standing.{quiet-at}
use Rattle.sgml_scan.proofs.Firsts.{quiet-scanned}
use Rattle.sgml_scan.proofs.scanning.scan_string.Goals as goal

pub matched-requires-clause-plain : goal.matched-requires-clause-plain
matched-requires-clause-plain c =
    let a = c.args in
    quiet-at a.syntax.now a.state a.ended a.text.now c.requires.mode c.in-len1-up.len_at_least (sym c.is_quiet.ensures ∙ c.if-is_quiet.true)

pub returns-then-is_quiet : goal.returns-then-is_quiet
returns-then-is_quiet c =
    let a = c.args in
    quiet-scanned a.syntax.now a.state a.ended a.text.now c.matched.result c.requires.mode c.in-len1-up.len_at_least c.requires.maps
    (sym c.is_quiet.ensures ∙ c.if-is_quiet.true) c.matched.ensures
