use Rattle.std.proofs.Common.{◌∙◌, ap, ◌++◌, ◌∷◌, []}
use Rattle.sgml_catalog.specs.Keys.{found, key_of}
use Rattle.sgml_catalog.proofs.KeyLemmas.{keyed-added}
use Rattle.sgml_catalog.proofs.index.Index.add.Goals as goal

pub returns-clause-ok : goal.returns-clause-ok
returns-clause-ok c =
    keyed-added c.self.inside.numbers c.insert.new.self.entries c.args.key c.args.number c.in_ok-insert.ensures.entries (ap (λ es. found es (key_of c.args.key)) c.self.view_is ∙ c.requires)
    ∙ ap (λ es. es ++ (key_of c.args.key, c.args.number) ∷ []) c.self.view_is
