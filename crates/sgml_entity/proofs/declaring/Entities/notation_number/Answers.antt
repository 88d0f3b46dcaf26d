use Rattle.std.proofs.Common.{◌∙◌, ap}
use Rattle.sgml_names.specs.Index.{found}
use Rattle.sgml_entity.specs.Entities.{notation_of}
use Rattle.sgml_entity.proofs.Numbers.{found-notations}
use Rattle.sgml_entity.proofs.declaring.Entities.notation_number.Goals as goal

pub returns : goal.returns
returns c =
    c.number.ensures ∙ ap (found c.self.inside.of_notations) c.items.ensures.list
    ∙ ap (λ es. found es c.args.name.now) c.self.invariant.notations_are
    ∙ found-notations 0 c.self.inside.notations.items c.args.name.now
    ∙ ap (λ t. notation_of t.notations c.args.name.now) c.self.view_is
