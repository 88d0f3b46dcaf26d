use Rattle.std.proofs.Common.{◌∙◌, ◌+◌, ◌*◌, sym, ap, arith, min}
use Rattle.sgml_text.specs.Characters.{is_digit}
use Rattle.sgml_markup.specs.References.{run_of, number_of}
use Rattle.sgml_markup.proofs.Quiet.{number-step}
use Rattle.sgml_markup.proofs.references.number_at.Goals as goal

pub digits-preserved : goal.digits-preserved
digits-preserved c = (
  omega (arith, c.up_to_256-number.ensures),
  number-step is_digit c.args.text.now c.digits.b-index (min 256 (number_of (run_of is_digit c.args.text.now))) c.digits.number
      c.up_to_256-number.result c.digits-test.true (sym c.is_ascii_digit.ensures.value ∙ c.if-not-is_ascii_digit.false) c.digits.invariant.1
      (c.up_to_256-number.ensures ∙ ap (λ n. min 256 (10 * c.digits.number + n)) c.from.ensures),
)
