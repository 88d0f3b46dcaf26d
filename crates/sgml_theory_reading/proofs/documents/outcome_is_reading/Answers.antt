use Rattle.std.proofs.Common.{refl}
use Rattle.sgml_theory_reading.specs.Unread.{standing}
use Rattle.sgml_theory_reading.specs.State.{state}
use Rattle.sgml_theory_reading.specs.Outcome.{outcome, outcome_lines}
use Rattle.sgml_theory_reading.proofs.Computed.{outcome-comes, lines-computed, gives-computed}
use Rattle.sgml_theory_reading.proofs.documents.outcome_is_reading.Goals as goal

pub returns : goal.returns
returns c = record {
  reads = λ forms input h n f. outcome-comes n forms input h f;
  tells = lines-computed;
  gives = λ forms input h n f none ended.
      let o = outcome n forms input.was_cut input.outside (state h) (standing input h) in
      gives-computed n forms input h o (outcome_lines forms (state h) o) refl f none ended refl;
}
