-- What is kept before the first byte.
use Rattle.std.specs.Prelude.{[]}
use Rattle.std.proofs.Common.{refl, arith}
use Rattle.sgml_theory_spelling.specs.theory_reading.Facets.{turn, border, is_finish, declares, stage_after, subset_named}
use Rattle.sgml_theory_spelling.specs.theory_reading.Nest.{types}
use Rattle.sgml_theory_spelling.specs.theory_reading.Unread.{unread, rests, spent, external_subset}
use Rattle.sgml_theory_spelling.specs.theory_reading.Sections.{sections}
use Rattle.sgml_theory_spelling.specs.theory_reading.State.{stage}
use Rattle.sgml_theory_standing.specs.Laws.{ReadingBegins}

pub reading-begins : ReadingBegins
unfolding turn border is_finish declares stage_after subset_named types unread rests spent external_subset sections stage
reading-begins texts I more document supplied = (
  record {
    read = ([], tt, refl);
    goes_on = refl;
    doctype_is = refl;
    places_are = refl;
    open_are = (omega arith, tt);
    within = (omega arith, tt);
    unread_is = (refl, document, tt);
    levels_are = refl;
    expand_is = refl;
    spent_is = refl;
    sections_are = refl;
    stage_is = refl;
    subset_is = refl;
    supplied = supplied;
  },
  refl,
)
