use Rattle.std.proofs.Common.{ap, sym, ◌∙◌}
use Rattle.sgml_records.specs.Items.{Data, Subelement}
use Rattle.sgml_records.specs.Facts.{Facts, facts, noted}
use Rattle.sgml_records.specs.Puts.{kept_if}
use Rattle.sgml_records.proofs.Steps.{facts-noted}
use Rattle.sgml_records.proofs.record_state.RecordState.proper.Goals as goal

pub returns-clause-state : goal.returns-clause-state
unfolding noted
returns-clause-state c = λ earlier h. c.content_comes.ensures.state ∙ (ap (λ (f : Facts). noted f Data) h ∙ sym (facts-noted earlier Subelement))

pub returns-clause-put : goal.returns-clause-put
unfolding facts
returns-clause-put c = λ earlier h. c.content_comes.ensures.put ∙ ap (λ (f : Facts). kept_if f.waiting) h

pub returns-clause-noted : goal.returns-clause-noted
unfolding noted
returns-clause-noted c = c.content_comes.ensures.state
