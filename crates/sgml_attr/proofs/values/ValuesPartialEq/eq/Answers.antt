use Rattle.std.proofs.Common.{rules, ◌≡◌}
use Rattle.std.proofs.lemmas.Bool.Decides.{Decides-at}
use Rattle.sgml_attr.specs.Equality.{same_values, values-decide}
use Rattle.sgml_attr.proofs.values.ValuesPartialEq.eq.Goals as goal

pub returns-clause-exact : goal.returns-clause-exact
returns-clause-exact c =
    let is : c.eq.result ≡ same_values c.args.self.now c.args.other.now = search rules in
    Decides-at c.eq.result (same_values c.args.self.now c.args.other.now) is (values-decide c.args.self.now c.args.other.now)
