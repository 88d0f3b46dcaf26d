use Rattle.std.proofs.Common.{◌∙◌, ap, map}
use Rattle.sgml_names.proofs.Numbering.{found-numbered}
use Rattle.sgml_names.specs.Index.{found}
use Rattle.sgml_dtd_elements.specs.Kept.{declared}
use Rattle.sgml_dtd_elements.specs.Types.{types, names, number_of}
use Rattle.sgml_dtd_elements.proofs.elements.Elements.number.Goals as goal

pub returns : goal.returns
returns c =
    c.number.ensures ∙ ap (found c.self.inside.index) c.items.ensures.list
    ∙ ap (λ es. found es c.args.name.now) c.self.invariant.index_is
    ∙ found-numbered 0 (names (types (map declared c.self.inside.rows.items))) c.args.name.now
    ∙ ap (λ ds. number_of ds c.args.name.now) c.self.view_is
