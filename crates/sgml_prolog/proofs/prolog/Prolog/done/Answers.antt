use Rattle.std.proofs.Common.{◌∙◌, ap, subst}
use Rattle.sgml_declared.specs.theory_standing.Kept.{Kept}
use Rattle.sgml_prolog_steps.specs.Standing.{IsKept}
use Rattle.sgml_prolog.specs.Reading.{Reader}
use Rattle.sgml_prolog.proofs.Ended.{document-alone}
use Rattle.sgml_prolog.proofs.prolog.Prolog.done.Goals as goal

pub returns-clause-alone : goal.returns-clause-alone
returns-clause-alone c =
    ap (λ (k : Kept). k.stack.places) (c.dtd.view_is ∙ (c.into_inner.ensures ∙ ap (λ (r : Reader). r.kept) c.self.view_is))
    ∙ document-alone c.args.self.kept (subst (λ (r : Reader). IsKept r.kept) c.self.view_is c.self.invariant.sound.kept) c.requires
