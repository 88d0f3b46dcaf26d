use Rattle.std.proofs.Common.{OnOk, subst}
use Rattle.sgml_declared.specs.theory_standing.Kept.{Kept}
use Rattle.sgml_declared.specs.Taking.{EndIsTaken}
use Rattle.sgml_prolog.proofs.subset_end.read_end.Goals as goal

pub returns-clause-taken : goal.returns-clause-taken
returns-clause-taken c =
    subst (λ (k : Kept). OnOk c.take_subset_end.result (EndIsTaken c.args.options.now k.doctype k.subset c.args.texts.now k.stack c.take_subset_end.new.stack)) c.kept.view_is
    c.take_subset_end.ensures.ok
