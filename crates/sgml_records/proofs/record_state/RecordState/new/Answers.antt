use Rattle.std.specs.Prelude.{refl}
use Rattle.sgml_records.specs.Facts.{facts}
use Rattle.sgml_records.proofs.record_state.RecordState.new.Goals as goal

pub returns : goal.returns
unfolding facts
returns c = refl
