use Rattle.std.specs.Prelude.{IsTrue}
use Rattle.sgml_records.specs.RecordEnds.{IsIgnoredAsFirst, IsIgnoredAfterMarkup, IsIgnoredThere}
use Rattle.sgml_records.specs.Facts.{only_markup, only_markup_since, is_live}
use Rattle.sgml_records.proofs.Waiting.{waits-true, true-waits}
use Rattle.sgml_records.proofs.Words.{as-first, after-markup}
use Rattle.sgml_records.proofs.Places.{at-place, live-is}
use Rattle.sgml_records.proofs.laws.search_is_the_standards.Goals as goal

pub returns-clause-first : goal.returns-clause-first
returns-clause-first c = λ items.
    at-place (λ earlier. IsTrue (only_markup earlier)) (IsIgnoredAsFirst items) items (as-first items)

pub returns-clause-after_markup : goal.returns-clause-after_markup
returns-clause-after_markup c = λ items.
    at-place (λ earlier. IsTrue (only_markup_since earlier)) (IsIgnoredAfterMarkup items) items (after-markup items)

pub returns-clause-live : goal.returns-clause-live
returns-clause-live c = λ items.
    at-place (λ earlier. IsTrue (is_live earlier)) (λ i. ¬ IsIgnoredThere items i) items (live-is items)

pub returns-clause-waits : goal.returns-clause-waits
returns-clause-waits c = λ earlier. (waits-true earlier, true-waits earlier)
