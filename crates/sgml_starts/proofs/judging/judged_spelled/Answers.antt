use Rattle.std.proofs.Common.{ap, sym, length, nat_lt}
use Rattle.std.proofs.lemmas.List.{length-map}
use Rattle.sgml_text.specs.Units.{characters}
use Rattle.sgml_text.specs.declared.unit.Unit.TheVariants.{Byte}
use Rattle.sgml_attr.specs.Literal.{interpreted}
use Rattle.sgml_starts.proofs.Judged.{IsJudged, judged-so}
use Rattle.sgml_starts.proofs.judging.judged_spelled.Goals as goal

judged : (c : goal.After-answered) → IsJudged c.args.syntax.now c.args.definition.now c.args.entities.now c.args.twice (interpreted c.args.definition.now.declared (characters c.args.bytes.now)) c.answered.result
judged c =
    let s = c.args.syntax.now in
    let d = c.args.definition.now in
    judged-so s d c.args.entities.now c.args.twice (interpreted d.declared (characters c.args.bytes.now)) (characters c.args.bytes.now)
    (nat_lt s.quantities.litlen (length c.args.bytes.now)) c.value_of_spelled-answer.result c.answered.result
    c.requires.same
    (ap (nat_lt s.quantities.litlen) (sym (length-map c.args.bytes.now (λ b. Byte b))))
    c.value_of_spelled-answer.ensures c.answered.ensures

pub returns-clause-none : goal.returns-clause-none
returns-clause-none c = (judged c).none

pub returns-clause-err : goal.returns-clause-err
returns-clause-err c = (judged c).err
