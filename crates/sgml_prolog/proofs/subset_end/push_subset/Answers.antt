use Rattle.std.proofs.Common.{subst}
use Rattle.sgml_declared.specs.theory_reading.Facets.{subset_number}
use Rattle.sgml_declared.specs.theory_standing.Kept.{Kept, sources_of}
use Rattle.sgml_declared.specs.Opening.{Opens}
use Rattle.sgml_prolog.proofs.subset_end.push_subset.Goals as goal

pub returns-clause-opens : goal.returns-clause-opens
returns-clause-opens c =
    subst (λ (k : Kept). Opens c.args.options.now (sources_of k) c.args.texts.now k.stack c.open.new.stack subset_number c.open.result) c.kept.view_is c.open.ensures.opens
