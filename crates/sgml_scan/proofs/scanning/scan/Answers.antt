use Rattle.std.proofs.Common.{subst, drop}
use Rattle.std.proofs.lemmas.List.{length-drop}
use Rattle.sgml_markup.proofs.EndLemmas.{rest-of}
use Rattle.sgml_scan.specs.Tokens.{IsScanned, IsWithin}
use Rattle.sgml_scan.proofs.Lawful.{scanned-within}
use Rattle.sgml_scan.proofs.scanning.scan.Goals as goal

pub returns-clause-within : goal.returns-clause-within
returns-clause-within g c =
    let text = c.args.text.now in
    let at = c.args.at in
    let scanned = c.scan_first-scanned.result in
    let is = subst (λ xs. IsScanned c.args.syntax.now c.args.state c.args.ended xs scanned) (rest-of at text) c.scan_first-scanned.ensures in
    subst (λ n. IsWithin n scanned) (length-drop at text)
    (scanned-within c.args.syntax.now c.args.state c.args.ended (drop at text) scanned c.requires.mode is)
