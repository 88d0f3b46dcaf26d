use Rattle.std.proofs.Common.{◌≡◌, ◌<◌, arith}
use Rattle.sgml_declared.specs.Files.{noted_if}
use Rattle.sgml_declared.proofs.Noting.{subset-found, entity-found}
use Rattle.sgml_declared.proofs.options.Options.note_text.Goals as goal

pub returns-in-1-clause-found : goal.returns-in-1-clause-found
returns-in-1-clause-found c =
    let number : c.args.number ≡ 1 = omega arith in
    subset-found c.args.self.now c.args.dtd.now c.args.subset.now c.args.number (λ found. noted_if found c.note_subset.new.noted) c.note_subset.result number c.note_subset.ensures.found

pub returns-in_default-clause-found : goal.returns-in_default-clause-found
returns-in_default-clause-found c =
    let number : 1 < c.args.number = omega arith in
    entity-found c.args.self.now c.args.dtd.now c.args.subset.now c.args.number (λ found. noted_if found c.note_entity.new.noted) c.note_entity.result number c.note_entity.ensures.found
