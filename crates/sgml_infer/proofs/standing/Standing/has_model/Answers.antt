use Rattle.std.proofs.Common.{ap, ◌∙◌}
use Rattle.sgml_theory_reading.specs.Types.{content_of}
use Rattle.sgml_infer.specs.Tables.{type_at}
use Rattle.sgml_infer.specs.Known.{is_model}
use Rattle.sgml_infer.specs.declared.known.Known.{Known}
use Rattle.sgml_infer.proofs.Knowing.{model-told}
use Rattle.sgml_infer.proofs.standing.Standing.has_model.Goals as goal

pub returns : goal.returns
returns c =
    c.is_model.ensures
    ∙ (ap (λ (k : Known). is_model k.content) c.known.ensures ∙ model-told (content_of (type_at c.args.self.now.dtd.now c.args.element)))
