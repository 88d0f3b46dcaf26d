use Rattle.std.proofs.Common.{ap, ◌∙◌, sym}
use Rattle.sgml_names.specs.syntax.declared.syntax.Syntax.{Syntax}
use Rattle.sgml_infer.specs.Visibles.{kind_of}
use Rattle.sgml_infer.proofs.Leaving.{no-omittag}
use Rattle.sgml_infer.proofs.standing.Standing.omissible_start.Goals as goal

pub returns-then-not-syntax-clause-may : goal.returns-then-not-syntax-clause-may
returns-then-not-syntax-clause-may c =
    no-omittag c.args.self.now c.requires.standing (kind_of c.args.self.now.dtd.now c.args.visible) (ap (λ (x : Syntax). x.omittag) (sym c.syntax.ensures) ∙ c.if-not-syntax.true)
