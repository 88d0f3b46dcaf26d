use Rattle.std.proofs.Common.{◌∙◌, sym, ap, refl}
use Rattle.sgml_attr.specs.Matching.{attribute_by}
use Rattle.sgml_starts.specs.Taken.{name_in, spec_in}
use Rattle.sgml_starts.proofs.filling.Start.take_units.Goals as goal

pub returns-in-Ok-clause-ok : goal.returns-in-Ok-clause-ok
returns-in-Ok-clause-ok c =
    let S = c.args.self.now in
    c.in-Ok.ensures.ok (spec_in c.args.tag.now c.args.name c.args.units)
    (ap (attribute_by S.syntax.general_fold S.definitions (name_in c.args.tag.now c.args.name)) (sym c.items.ensures) ∙ sym c.number_of.ensures.of ∙ c.in-Some.is) refl

pub returns-in-Err-clause-err : goal.returns-in-Err-clause-err
returns-in-Err-clause-err c =
    let S = c.args.self.now in
    c.in-Err.ensures.err (spec_in c.args.tag.now c.args.name c.args.units)
    (ap (attribute_by S.syntax.general_fold S.definitions (name_in c.args.tag.now c.args.name)) (sym c.items.ensures) ∙ sym c.number_of.ensures.of ∙ c.in-Some.is) refl
