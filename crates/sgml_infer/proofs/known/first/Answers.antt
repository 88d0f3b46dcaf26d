use Rattle.std.proofs.Common.{◌∙◌, ap, sym}
use Rattle.sgml_theory_reading.specs.Types.{Content}
use Rattle.sgml_infer.specs.Known.{first_in}
use Rattle.sgml_infer.proofs.Contents.{content-model}
use Rattle.sgml_infer.proofs.known.first.Goals as goal

pub returns-in-Model : goal.returns-in-Model
returns-in-Model c =
    let e = content-model c.args.dtd.now c.args.element c.content.result.now c.in-Model.automaton c.content.ensures c.in-Model.is in
    c.first_of.ensures ∙ sym (ap (λ (x : Content). first_in c.args.dtd.now x) e)
