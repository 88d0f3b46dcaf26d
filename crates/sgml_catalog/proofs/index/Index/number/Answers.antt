use Rattle.std.proofs.Common.{◌∙◌, ap}
use Rattle.sgml_catalog.specs.Keys.{found, key_of}
use Rattle.sgml_catalog.proofs.KeyLemmas.{found-keyed}
use Rattle.sgml_catalog.proofs.index.Index.number.Goals as goal

pub returns : goal.returns
returns c = c.copied.ensures ∙ c.get.ensures.value ∙ found-keyed c.args.key.now c.self.inside.numbers.entries ∙ ap (λ es. found es (key_of c.args.key.now)) c.self.view_is
