use Rattle.std.proofs.Common.{map, sym, ◌∙◌}
use Rattle.sgml_model.specs.Model.{model_of}
use Rattle.sgml_model.specs.ReaderView.{sign}
use Rattle.sgml_model.proofs.Building.{read_spells, read_reading, sized_passed}
use Rattle.sgml_model.proofs.read.read_group.Goals as goal

pub returns-in-Some-clause-refused : goal.returns-in-Some-clause-refused
returns-in-Some-clause-refused c =
    let z = c.in_ok-sizes.ensures.sizes in
    (z.0, read_spells (map sign c.args.tokens.now) z.0 z.1, read_reading (map sign c.args.tokens.now) z.0 z.1, sized_passed c.args.limits (map sign c.args.tokens.now) z ∙ sym c.first_passed.ensures ∙ c.in-Some.is)

pub returns-clause-read : goal.returns-clause-read
returns-clause-read c = read_spells (map sign c.args.tokens.now) (model_of c.in_ok-built.field-0) c.in_ok-built.ensures
