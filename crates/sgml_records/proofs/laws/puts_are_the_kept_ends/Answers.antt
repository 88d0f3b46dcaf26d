use Rattle.std.specs.Prelude.{◌≡◌, refl}
use Rattle.sgml_records.specs.Items.{RecordEnd}
use Rattle.sgml_records.specs.RecordEnds.{IsIgnoredThere}
use Rattle.sgml_records.specs.Facts.{facts}
use Rattle.sgml_records.specs.Puts.{put_at}
use Rattle.sgml_records.specs.declared.record_state.Put.TheVariants.{Nothing}
use Rattle.sgml_records.proofs.Places.{at-place, kept-is, nothing-is, stands-within}
use Rattle.sgml_records.proofs.laws.puts_are_the_kept_ends.Goals as goal

pub returns-clause-kept : goal.returns-clause-kept
returns-clause-kept c = kept-is

pub returns-clause-ignored : goal.returns-clause-ignored
returns-clause-ignored c = λ items i stands.
    at-place (λ earlier. put_at earlier RecordEnd ≡ Nothing) (IsIgnoredThere items) items (nothing-is items) i (stands-within items i RecordEnd stands)

pub returns-clause-data_in_a_row : goal.returns-clause-data_in_a_row
unfolding facts
returns-clause-data_in_a_row c = λ earlier. (refl, refl)
