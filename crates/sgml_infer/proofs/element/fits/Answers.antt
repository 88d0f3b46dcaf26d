use Rattle.std.specs.Option.{option_copied}
use Rattle.sgml_infer.proofs.Contents.{content-model, fits-model}
use Rattle.sgml_infer.proofs.element.fits.Goals as goal

pub returns-in-Model : goal.returns-in-Model
returns-in-Model c =
    let e = content-model c.args.dtd.now c.args.element c.content.result.now c.in-Model.automaton c.content.ensures c.in-Model.is in
    fits-model c.args.dtd.now c.args.element c.in-Model.automaton e c.args.state.now (option_copied c.args.token) c.takes.result c.takes.ensures
