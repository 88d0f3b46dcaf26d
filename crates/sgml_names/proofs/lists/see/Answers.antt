use Rattle.std.proofs.Common.{◌≡◌, ◌∙◌, ap, sym, true, false, not, is_some}
use Rattle.sgml_names.specs.Lists.{has}
use Rattle.sgml_names.specs.Index.{names_of}
use Rattle.sgml_names.proofs.Repeating.{found_has}
use Rattle.sgml_names.proofs.lists.see.Goals as goal

pub returns-then-is_some-clause-new : goal.returns-then-is_some-clause-new
returns-then-is_some-clause-new c =
    let there : has (names_of c.args.seen.now) c.args.name.now ≡ true =
    sym (found_has c.args.seen.now c.args.name.now) ∙ ap is_some (sym c.number.ensures) ∙ sym c.is_some.ensures ∙ c.if-is_some.true in
    ap not (sym there)

pub returns-clause-new : goal.returns-clause-new
returns-clause-new c =
    let absent : has (names_of c.args.seen.now) c.args.name.now ≡ false =
    sym (found_has c.args.seen.now c.args.name.now) ∙ ap is_some (sym c.number.ensures) ∙ sym c.is_some.ensures ∙ c.if-is_some.false in
    ap not (sym absent)
