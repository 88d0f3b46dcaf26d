use Rattle.std.proofs.Common.{◌≡◌, ◌∙◌, sym, ap, subst, Option, Some, List, ℕ}
use Rattle.sgml_attr.specs.Matching.{attribute_by}
use Rattle.sgml_starts.specs.Values.{Start}
use Rattle.sgml_starts.proofs.filling.Start.add_calm.Goals as goal

pub returns-in-Some-clause-taken : goal.returns-in-Some-clause-taken
returns-in-Some-clause-taken c = λ told s named same.
    let S = c.args.self.now in
    let found : c.attribute_named.result ≡ attribute_by S.syntax.general_fold S.definitions (Some c.args.name.now) s.value =
    subst (λ (Z : Start). c.attribute_named.result ≡ attribute_by Z.syntax.general_fold Z.definitions (Some c.args.name.now) s.value) c.self.view_is c.attribute_named.ensures.of in
    c.add_calm_at.ensures.taken told s
    (ap (λ (n : Option (List ℕ)). attribute_by S.syntax.general_fold S.definitions n s.value) named ∙ sym found ∙ c.in-Some.is) same
