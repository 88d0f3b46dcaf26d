use Rattle.sgml_theory_spelling.proofs.Judged.{added-is-unopposed, first-is-against, added-is-spelled, refused-is-spelled}
use Rattle.sgml_theory_spelling.proofs.tables_judge.Goals as goal

pub returns : goal.returns
returns c = record { unopposed = added-is-unopposed; against = first-is-against; added = added-is-spelled; refused = refused-is-spelled }
