-- An input has one answer.
use Rattle.std.proofs.Common.{◌≡◌, [], sym, ap, ◌∙◌}
use Rattle.sgml_conversion.specs.theory_reading.Unread.{Input}
use Rattle.sgml_conversion.specs.declared.answer.Outcome.TheVariants as outcome
use Rattle.sgml_conversion.proofs.Answered.{one-answer}
use Rattle.sgml_selfcheck.specs.Counts.{summary_of}
use Rattle.sgml_selfcheck.specs.Checking.{IsAnswer, OneCheck}
use Rattle.sgml_selfcheck.specs.declared.answer.Checked.{Checked}
use Rattle.sgml_selfcheck.specs.declared.answer.Checked.TheVariants as checked

one_of : (I : Input) (a b : Checked) → IsAnswer a I → IsAnswer b I → a ≡ b
one_of I (checked.Summary s) (checked.Summary t) (out, p, e) (more, q, f) =
    ap checked.Summary (e ∙ ap summary_of (one-answer I outcome.Conforming outcome.Conforming [] out more p q).1 ∙ sym f)
one_of I (checked.Summary s) (checked.Refused r x) (out, p, e) (more, q) = absurd (let k : outcome.Conforming ≡ outcome.Refused r x = (one-answer I outcome.Conforming (outcome.Refused r x) [] out more p q).0 in cc)
one_of I (checked.Refused r x) (checked.Summary s) (out, p) (more, q, f) = absurd (let k : outcome.Refused r x ≡ outcome.Conforming = (one-answer I (outcome.Refused r x) outcome.Conforming [] out more p q).0 in cc)
one_of I (checked.Refused r x) (checked.Refused s y) (out, p) (more, q) =
    let k : outcome.Refused r x ≡ outcome.Refused s y = (one-answer I (outcome.Refused r x) (outcome.Refused s y) [] out more p q).0 in
    cc

pub one : OneCheck
one = λ I a b p q. one_of I a b p q
