use Rattle.std.proofs.Common.{refl, ap, sym, ◌∙◌, ◌≡◌, List, length, nat_lt}
use Rattle.sgml_text.specs.declared.unit.Unit.{Unit as AnyUnit}
use Rattle.sgml_attr.specs.Literal.{interpreted}
use Rattle.sgml_starts.specs.Rows.{passes_litlen}
use Rattle.sgml_starts.proofs.Judged.{IsJudged, judged-so}
use Rattle.sgml_starts.proofs.judging.judged.Goals as goal

judged : (c : goal.After-answered) → IsJudged c.args.syntax.now c.args.definition.now c.args.entities.now c.args.twice (interpreted c.args.definition.now.declared c.args.units.now) c.answered.result
judged c =
    let s = c.args.syntax.now in
    let d = c.args.definition.now in
    judged-so s d c.args.entities.now c.args.twice (interpreted d.declared c.args.units.now) c.in_ok-read.read
    (nat_lt s.quantities.litlen (length c.items-2.result.now)) c.value_given-answer.result c.answered.result
    (ap (interpreted d.declared) (sym c.items.ensures) ∙ sym c.in_ok-read.ensures)
    (ap (λ (x : List AnyUnit). passes_litlen s x) c.items-2.ensures)
    c.value_given-answer.ensures c.answered.ensures

pub returns-clause-none : goal.returns-clause-none
returns-clause-none c = (judged c).none

pub returns-clause-ok : goal.returns-clause-ok
returns-clause-ok c = (judged c).ok

pub returns-clause-err : goal.returns-clause-err
returns-clause-err c = (judged c).err
