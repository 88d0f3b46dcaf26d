use Rattle.std.proofs.Common.{◌≡◌, ◌∙◌, sym, ap, subst, length, List, ℕ, Option}
use Rattle.sgml_attr.specs.Matching.{AreMatched, attributes_of}
use Rattle.sgml_starts.specs.Numbers.{AreInverted}
use Rattle.sgml_starts.proofs.Numbered.{if-ok, named-all, many-attributes}
use Rattle.sgml_starts.proofs.matching.first_numbers.Goals as goal

pub returns-in-Ok-clause-many : goal.returns-in-Ok-clause-many
returns-in-Ok-clause-many c = if-ok c.inverted.result c.inverted.ensures (λ named h. h.as_many)

pub returns-in-Ok-clause-named : goal.returns-in-Ok-clause-named
returns-in-Ok-clause-named c =
    let all = attributes_of c.args.syntax.now c.args.definitions.now c.args.specs.now in
    if-ok c.inverted.result c.inverted.ensures (λ named h.
    named-all (length c.args.definitions.now) all c.deref.result.now named.items
    (subst (λ (m : List (Option ℕ)). AreMatched (length c.args.definitions.now) all m) (sym c.deref.ensures.value) c.in-Ok.ensures)
    (subst (λ (n : ℕ). AreInverted n c.deref.result.now named.items) (sym (many-attributes c.args.syntax.now c.args.definitions.now c.args.specs.now)) h))
