use Rattle.std.proofs.Common.{◌∙◌, sym}
use Rattle.sgml_scan.proofs.Standing.{quiet-at}
use Rattle.sgml_scan.proofs.stretches.delimiter.Goals as goal

pub returns-then-is_quiet : goal.returns-then-is_quiet
returns-then-is_quiet c =
    quiet-at c.args.syntax.now c.args.state c.args.ended c.args.text.now c.requires c.in-len1-up.len_at_least
    (sym c.is_quiet.ensures ∙ c.if-is_quiet.true)
