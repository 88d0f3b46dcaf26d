use Rattle.std.proofs.Common.{◌≡◌, ◌∙◌, sym, ap, subst, Option, Some, None, ℕ}
use Rattle.std.specs.Prelude.{slice_get, IfSome}
use Rattle.sgml_attr.specs.Matching.{attributes_of}
use Rattle.sgml_starts.specs.declared.error.StartError.{StartError}
use Rattle.sgml_starts.specs.Rows.{reason_of_spec}
use Rattle.sgml_starts.specs.Values.{refused}
use Rattle.sgml_starts.specs.Starts.{IsUnvalued}
use Rattle.sgml_starts.proofs.Added.{attribute-at, unknown-is}
use Rattle.sgml_starts.proofs.Completed.{unnamed-is}
use Rattle.sgml_starts.proofs.filling.Start.add_spec.Goals as goal

pub add-requires-clause-number : goal.add-requires-clause-number
add-requires-clause-number c = c.requires.within c.in-Some.number c.in-Some.ensures

pub returns-in-Ok-clause-ok : goal.returns-in-Ok-clause-ok
returns-in-Ok-clause-ok c = λ all before s numbers here h units.
    let named = attribute-at c.args.self.now all c.args.j s (Some c.in-Some.number) here (numbers.named.each c.in-Some.number c.args.j c.in-Some.ensures) in
    (c.in-Ok.ensures.none before s h named units, c.in-Ok.ensures.ok before s h named units)

pub returns-in-Err-clause-err : goal.returns-in-Err-clause-err
returns-in-Err-clause-err c = λ all before s numbers here h units.
    let named = attribute-at c.args.self.now all c.args.j s (Some c.in-Some.number) here (numbers.named.each c.in-Some.number c.args.j c.in-Some.ensures) in
    c.in-Err.ensures.err before s h named units

pub returns-in_default-clause-err : goal.returns-in_default-clause-err
returns-in_default-clause-err c = λ all before s numbers here h units.
    let S = c.args.self.now in
    subst (λ (e : StartError). IsUnvalued (refused (reason_of_spec S.syntax S.tables S.definitions before s)) e) (sym c.unnamed.ensures)
    (unnamed-is c.args.numbers.now.unknown c.args.j (reason_of_spec S.syntax S.tables S.definitions before s)
    (λ u. unknown-is S before s (attribute-at S all c.args.j s None here
    (subst (λ (o : Option ℕ). IfSome o (λ k. slice_get (attributes_of S.syntax S.definitions all) k ≡ Some None)) u numbers.unknown))))
