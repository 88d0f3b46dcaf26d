use Rattle.std.proofs.Common.{arith, ◌∙◌, ap, subst, ◌-◌}
use Rattle.sgml_theory_reading.specs.Omission.{inside_of_ended}
use Rattle.sgml_theory_reading.specs.Context.{Context}
use Rattle.sgml_infer.specs.Seen.{seen}
use Rattle.sgml_infer.specs.Visibles.{kind_in, IsFit}
use Rattle.sgml_infer.proofs.Running.{kept-all, end-kept, fit-kept, ends-run, ends-context, ends-inside, ends-begin-run, ends-begin-context}
use Rattle.sgml_infer.proofs.walk.infer_ends.Goals as goal

pub ends-init : goal.ends-init
ends-init c =
    let s = c.args.standing.now in let x = kind_in s c.args.visible in let e = kept-all s c.requires.none in
    record {
      within = omega arith;
      inside = c.inside_of_ended-inside.ensures ∙ ap (λ (k : Context). inside_of_ended k x) e;
      fit = subst (λ (k : Context). IsFit k x c.args.before) e c.requires.before;
      run = ends-begin-run s c.requires.none x;
      context = ends-begin-context s c.requires.none;
    }

pub ends-preserved : goal.ends-preserved
ends-preserved c =
    let s = c.args.standing.now in let x = kind_in s c.args.visible in let k = c.ends.kept in
    let t = s.dtd.now in let ls = s.levels.now in let b = s.begun in
    let m = end-kept s c.kept.result k c.args.visible c.kept.ensures.doctype c.kept.ensures.seen c.ends-test.ensures in
    record {
      within = omega arith;
      inside = c.one_less-inside.ensures ∙ ends-inside t ls b c.args.visible k c.ends.invariant.within m.0 m.1 c.ends.inside c.ends.invariant.inside;
      fit = fit-kept s c.kept-in-ends.result (k - 1) c.args.visible c.kept-in-ends.ensures.doctype c.kept-in-ends.ensures.seen c.fit-fit.result c.fit-fit.ensures;
      run = ends-run t ls b x k c.ends.invariant.within m.0 m.1 (seen s) c.ends.invariant.run;
      context = ends-context t ls b x k c.ends.invariant.within m.0 m.1 (seen s) c.ends.invariant.context;
    }
