use Rattle.std.proofs.Common.{None, ◌∙◌, ap}
use Rattle.sgml_declared.specs.theory_standing.Kept.{Kept}
use Rattle.sgml_declared.specs.Files.{Choices}
use Rattle.sgml_prolog.specs.Reading.{reader, start_of}
use Rattle.sgml_prolog.proofs.Beginning.{begins-at-start, sound-start}
use Rattle.sgml_prolog.proofs.prolog.Prolog.begin.Goals as goal

pub invariant_of-result : goal.invariant_of-result
invariant_of-result c =
    let options = ap (λ (o : Choices). start_of c.syntax_of-syntax.result o.expand) c.deref.ensures in
    record { sound = sound-start c.args.options.value c.syntax_of-syntax.result c.in_ok-kept.kept.value (c.in_ok-kept.ensures ∙ options); noted = tt }

pub returns-clause-begins : goal.returns-clause-begins
returns-clause-begins c =
    let options = ap (λ (o : Choices). start_of c.syntax_of-syntax.result o.expand) c.deref.ensures in
    begins-at-start c.args.declaration c.args.options.value _ c.syntax_of-syntax.result c.syntax_of-syntax.ensures
    (ap (λ (k : Kept). reader c.args.options.value k None None) (c.in_ok-kept.ensures ∙ options))
