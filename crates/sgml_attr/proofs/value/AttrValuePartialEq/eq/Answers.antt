use Rattle.std.proofs.Common.{rules, ◌≡◌}
use Rattle.std.proofs.lemmas.Bool.Decides.{Decides-at}
use Rattle.sgml_attr.specs.Values.{same_value}
use Rattle.sgml_attr.specs.Equality.{value-decides}
use Rattle.sgml_attr.proofs.value.AttrValuePartialEq.eq.Goals as goal

pub returns-in-Tokens-Tokens-clause-exact : goal.returns-in-Tokens-Tokens-clause-exact
returns-in-Tokens-Tokens-clause-exact c =
    let is : c.same_names.result ≡ same_value c.args.self.now c.args.other.now = search rules in
    Decides-at c.same_names.result (same_value c.args.self.now c.args.other.now) is (value-decides c.args.self.now c.args.other.now)
