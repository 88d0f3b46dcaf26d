use Rattle.std.specs.Prelude.{refl}
use Rattle.sgml_records.specs.Facts.{noted}
use Rattle.sgml_records.proofs.record_state.RecordState.content_comes.Goals as goal

pub returns-clause-state : goal.returns-clause-state
unfolding noted
returns-clause-state c = refl
