use Rattle.sgml_scan.proofs.Standing.{string-not-none, undecided-not-none}
use Rattle.sgml_scan.proofs.stretches.has_no_string.Goals as goal

pub returns-in-String : goal.returns-in-String
returns-in-String c = λ h. string-not-none c.args.ended c.args.text.now c.in-String.field-0 c.in-String.field-1 c.in-String.ensures h

pub returns-in-NeedMore : goal.returns-in-NeedMore
returns-in-NeedMore c = λ h. undecided-not-none c.args.ended c.args.text.now c.in-NeedMore.ensures h
