use Rattle.std.proofs.Common.{◌≡◌, ◌∙◌, sym, ap, subst, Option}
use Rattle.sgml_attr.specs.Matching.{attribute_by}
use Rattle.sgml_markup.specs.declared.kinds.Part.{Part}
use Rattle.sgml_starts.specs.Values.{Start}
use Rattle.sgml_starts.specs.Taken.{name_in}
use Rattle.sgml_starts.proofs.filling.Start.number_of.Goals as goal

pub returns-in-None-clause-of : goal.returns-in-None-clause-of
returns-in-None-clause-of c =
    subst (λ (T : Start). c.attribute_with_member.result ≡ attribute_by T.syntax.general_fold T.definitions (name_in c.args.tag.now c.args.name) c.args.units.now) c.self.view_is
    (c.attribute_with_member.ensures.of
    ∙ ap (λ (n : Option Part). attribute_by c.self.inside.syntax.now.general_fold c.self.inside.definitions.now (name_in c.args.tag.now n) c.args.units.now) (sym c.in-None.is))
