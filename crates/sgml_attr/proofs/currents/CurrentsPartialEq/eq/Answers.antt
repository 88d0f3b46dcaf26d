use Rattle.std.proofs.Common.{rules, ◌≡◌, subst}
use Rattle.std.proofs.lemmas.Bool.Decides.{Decides-at}
use Rattle.sgml_attr.specs.Currents.{AllEndInValue}
use Rattle.sgml_attr.specs.Equality.{same_lists}
use Rattle.sgml_attr.proofs.Placing.{currents-decide}
use Rattle.sgml_attr.proofs.currents.CurrentsPartialEq.eq.Goals as goal

pub returns-clause-exact : goal.returns-clause-exact
returns-clause-exact c =
    let is : c.eq.result ≡ same_lists c.args.self.now c.args.other.now = search rules in
    let mine : AllEndInValue c.args.self.now = subst AllEndInValue c.self.view_is c.self.invariant in
    let others : AllEndInValue c.args.other.now = subst AllEndInValue c.other.view_is c.other.invariant in
    Decides-at c.eq.result (same_lists c.args.self.now c.args.other.now) is (currents-decide c.args.self.now c.args.other.now mine others)
