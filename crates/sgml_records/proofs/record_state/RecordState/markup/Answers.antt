use Rattle.std.proofs.Common.{ap, sym, ◌∙◌}
use Rattle.sgml_records.specs.Items.{Markup}
use Rattle.sgml_records.specs.Facts.{Facts, noted}
use Rattle.sgml_records.proofs.Steps.{facts-noted}
use Rattle.sgml_records.proofs.record_state.RecordState.markup.Goals as goal

pub returns-clause-state : goal.returns-clause-state
unfolding noted
returns-clause-state c = λ earlier h. ap (λ (f : Facts). noted f Markup) (c.self.view_is ∙ h) ∙ sym (facts-noted earlier Markup)

pub returns-clause-noted : goal.returns-clause-noted
unfolding noted
returns-clause-noted c = ap (λ (f : Facts). noted f Markup) c.self.view_is
