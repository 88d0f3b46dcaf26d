use Rattle.std.proofs.Common.{rules, ◌≡◌}
use Rattle.std.proofs.lemmas.Bool.Decides.{Decides-at}
use Rattle.sgml_text.specs.SameUnits.{same_units, units-decide}
use Rattle.sgml_text.proofs.unit.UnitsPartialEq.eq.Goals as goal

pub returns-clause-exact : goal.returns-clause-exact
returns-clause-exact c =
    let is : c.eq.result ≡ same_units c.args.self.now c.args.other.now = search rules in
    Decides-at c.eq.result (same_units c.args.self.now c.args.other.now) is (units-decide c.args.self.now c.args.other.now)
