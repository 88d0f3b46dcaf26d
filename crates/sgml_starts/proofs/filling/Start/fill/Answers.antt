use Rattle.std.proofs.Common.{◌≡◌, ◌∙◌, sym, ap, subst, refl, take, Option, List}
use Rattle.sgml_text.specs.declared.reason.Reason.{Reason}
use Rattle.sgml_attr.specs.declared.definition.Spec.{Spec}
use Rattle.sgml_starts.specs.Values.{refused}
use Rattle.sgml_starts.specs.Starts.{IsUnvalued}
use Rattle.sgml_starts.specs.Filled.{AreFilled}
use Rattle.sgml_starts.proofs.Completed.{spec-at, taken, specs-step, specs-stop}
use Rattle.sgml_starts.proofs.filling.Start.fill.Goals as goal

pub add_spec-requires-clause-within : goal.add_spec-requires-clause-within
add_spec-requires-clause-within c = λ i e. c.specs.invariant.numbers.named.within i c.specs.j e

pub returns-in-Err-clause-err : goal.returns-in-Err-clause-err
returns-in-Err-clause-err c =
    let S = c.args.self.now in
    let specs = c.args.specs.now in
    let j = c.specs.j in
    let s = c.index-specs-j.result in
    subst (λ (o : Option Reason). IsUnvalued (refused o) c.in-Err.error) (sym c.specs.invariant.none)
    (specs-stop S.syntax S.tables S.definitions specs j s c.in-Err.error c.specs-test.true c.index-specs-j.is
    (c.in-Err.ensures.err specs (take j specs) s c.specs.invariant.numbers (spec-at specs j s c.specs-test.true c.index-specs-j.is) c.specs.invariant.filled refl))

pub specs-preserved : goal.specs-preserved
specs-preserved c =
    let S = c.args.self.now in
    let specs = c.args.specs.now in
    let j = c.specs.j in
    let s = c.index-specs-j.result in
    let both = c.in_default.ensures.ok specs (take j specs) s c.specs.invariant.numbers (spec-at specs j s c.specs-test.true c.index-specs-j.is) c.specs.invariant.filled refl in
    record {
      numbers = c.specs.invariant.numbers;
      filled = subst (λ (b : List Spec). AreFilled S b c.add_spec.new.filled) (taken specs j s c.specs-test.true c.index-specs-j.is) both.1;
      none = c.specs.invariant.none ∙ specs-step S.syntax S.tables S.definitions specs j s c.specs-test.true c.index-specs-j.is both.0;
    }
