use Rattle.std.proofs.Common.{◌∙◌, ap, arith, length, map, subst}
use Rattle.sgml_dtd_elements.specs.Kept.{declared}
use Rattle.sgml_dtd_elements.specs.Laws.{AreDistinct}
use Rattle.sgml_dtd_elements.specs.Types.{types}
use Rattle.sgml_dtd_elements.proofs.PlacedNames.{length-places}
use Rattle.sgml_dtd_elements.proofs.elements.Elements.count.Goals as goal

pub returns-clause-count : goal.returns-clause-count
returns-clause-count c =
    omega (arith, ap length c.self.invariant.places_are, length-places 0 (map declared c.self.inside.rows.items), ap (λ ds. length (types ds)) c.self.view_is)

pub returns-clause-distinct : goal.returns-clause-distinct
returns-clause-distinct c = subst AreDistinct c.self.view_is c.self.invariant.distinct
