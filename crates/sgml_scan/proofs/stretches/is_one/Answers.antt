use Rattle.sgml_scan.proofs.Standing.{found-not-one, need-more-not-one}
use Rattle.sgml_scan.proofs.stretches.is_one.Goals as goal

pub returns-in-Found : goal.returns-in-Found
returns-in-Found c = λ h.
    found-not-one c.args.syntax.now c.args.state c.args.ended c.args.run c.args.text.now c.in-Found.field-0 c.in-Found.field-1 c.in-Found.ensures h

pub returns-in-NeedMore : goal.returns-in-NeedMore
returns-in-NeedMore c = λ h. need-more-not-one c.args.syntax.now c.args.state c.args.ended c.args.run c.args.text.now c.in-NeedMore.ensures h
