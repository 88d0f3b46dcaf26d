use Rattle.std.proofs.Common.{ap, sym, ◌∙◌}
use Rattle.std.specs.Option.{option_copied}
use Rattle.sgml_theory_reading.specs.Reasons.{has_reason_to_be_written}
use Rattle.sgml_infer.specs.Seen.{seen}
use Rattle.sgml_infer.proofs.Leaving.{written-in}
use Rattle.sgml_infer.proofs.standing.Standing.has_reason_to_be_written.Goals as goal

pub returns-in-Some : goal.returns-in-Some
returns-in-Some c =
    written-in c.args.self.now c.requires c.in-Some.name.now c.must_be_written.result c.must_be_written.ensures
    ∙ ap (λ o. has_reason_to_be_written (seen c.args.self.now) (option_copied o)) (sym c.in-Some.is)
