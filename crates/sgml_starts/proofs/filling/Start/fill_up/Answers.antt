use Rattle.std.proofs.Common.{◌≡◌, ◌<◌, ◌≤◌, ◌∙◌, sym, ap, subst, arith, length, Option}
use Rattle.sgml_text.specs.declared.reason.Reason.{Reason}
use Rattle.sgml_starts.specs.declared.filling.Filled.{Filled}
use Rattle.sgml_starts.specs.Values.{Start, refused}
use Rattle.sgml_starts.specs.Starts.{IsUnvalued}
use Rattle.sgml_starts.proofs.Completed.{some-at, defaults-stop, defaults-step, all-filled}
use Rattle.sgml_starts.proofs.filling.Start.fill_up.Goals as goal

pub returns-in-Err-clause-err : goal.returns-in-Err-clause-err
returns-in-Err-clause-err c = λ ss h.
    let S = c.args.self.now in
    let l : c.definitions.i < length S.definitions = omega (arith, c.definitions-test.true, ap (λ (z : Start). length z.definitions) c.self.view_is) in
    let x = some-at S.definitions c.definitions.i l in
    subst (λ (o : Option Reason). IsUnvalued (refused o) c.in-Err.error) (sym (c.definitions.invariant.none ss h))
    (defaults-stop S ss c.definitions.i x.0 c.in-Err.error x.1 (c.in-Err.ensures.err ss x.0 x.1 (c.definitions.invariant.filled ss h)))

pub definitions-preserved : goal.definitions-preserved
definitions-preserved c =
    let S = c.args.self.now in
    let l : c.definitions.i < length S.definitions = omega (arith, c.definitions-test.true, ap (λ (z : Start). length z.definitions) c.self.view_is) in
    let x = some-at S.definitions c.definitions.i l in
    record {
      within = omega (arith, l);
      rest = c.in_default.ensures.rest ∙ ap (λ (z : Filled). record z { values = c.fill_one.new.filled.values }) c.definitions.invariant.rest;
      many = c.in_default.ensures.many ∙ c.definitions.invariant.many;
      filled = λ ss h. c.in_default.ensures.ok ss x.0 x.1 (c.definitions.invariant.filled ss h);
      none = λ ss h. c.definitions.invariant.none ss h ∙ defaults-step S ss c.definitions.i x.0 x.1 (c.in_default.ensures.none ss x.0 x.1 (c.definitions.invariant.filled ss h));
    }

pub returns-clause-ok : goal.returns-clause-ok
returns-clause-ok c = λ ss h.
    let S = c.args.self.now in
    let l : length S.definitions ≤ c.definitions.i = omega (arith, c.definitions-test.false, ap (λ (z : Start). length z.definitions) c.self.view_is) in
    all-filled S ss c.definitions.i c.definitions.filled l (c.definitions.invariant.filled ss h)
