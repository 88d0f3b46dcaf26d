use Rattle.std.proofs.Common.{◌∙◌, ap, arith, length, length-append, [], ◌∷◌}
use Rattle.sgml_text.specs.declared.reason.Reason.{Reason}
use Rattle.sgml_content_steps.specs.Content.{Content}
use Rattle.sgml_content_steps.proofs.Between.{same-on}
use Rattle.sgml_content_steps.proofs.Valued.{one-further, one-stops, stop-weaker, all-valued}
use Rattle.sgml_content_steps.proofs.starting.values_of_starts.Goals as goal

pub returns-in-Err-clause-err : goal.returns-in-Err-clause-err
returns-in-Err-clause-err c =
    stop-weaker _ _ c.in-Err.stop
    (λ (r : Reason). one-stops c.args.content.now.kept.doctype c.starts.content.kept.doctype c.args.content.now.tree.starts.items
    c.content.inside.tree.starts.items c.args.content.now.currents c.starts.content.currents c.starts.values.items c.starts.at
    c.started-element.result r (ap (λ (z : Content). z.kept.doctype) c.starts.invariant.same)
    (ap (λ (z : Content). z.tree.starts.items) (c.content.view_is ∙ c.starts.invariant.same)) c.started-element.ensures c.starts.invariant.goes)
    c.in-Err.ensures.err

pub starts-preserved : goal.starts-preserved
starts-preserved c = record {
  same = c.in-Ok.ensures.same ∙ ap (λ (z : Content). record z { currents = c.values_of_start.new.content.currents }) c.starts.invariant.same;
  currents = same-on _ _ _ c.in-Ok.ensures.currents c.starts.invariant.currents;
  count = omega (arith, length-append c.starts.values.items (c.in-Ok.of_start ∷ []), ap length c.in_default.ensures.items);
  goes = one-further c.args.content.now.kept.doctype c.starts.content.kept.doctype c.args.content.now.tree.starts.items
      c.content.inside.tree.starts.items c.args.content.now.currents c.starts.content.currents c.values_of_start.new.content.currents
      c.starts.values.items c.push.new.self.items c.starts.at c.started-element.result c.in-Ok.of_start
      (ap (λ (z : Content). z.kept.doctype) c.starts.invariant.same)
      (ap (λ (z : Content). z.tree.starts.items) (c.content.view_is ∙ c.starts.invariant.same)) c.started-element.ensures c.in-Ok.ensures.ok
      c.in-Ok.ensures.currents c.in_default.ensures.items c.starts.invariant.goes;
}

pub returns-clause-ok : goal.returns-clause-ok
returns-clause-ok c =
    all-valued c.args.content.now.kept.doctype c.args.content.now.tree.starts.items c.args.content.now.currents c.starts.content.currents
    c.starts.values.items c.starts.at (omega (arith, c.requires.starts)) c.starts.invariant.goes
