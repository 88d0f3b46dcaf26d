use Rattle.std.proofs.Common.{◌∙◌, ap, length, arith}
use Rattle.sgml_inside.specs.Inside.{Inside}
use Rattle.sgml_content_steps.proofs.Bounds.{begun-length}
use Rattle.sgml_content_steps.proofs.Moved.{start-moves, start-tells}
use Rattle.sgml_content_steps.proofs.run_telling.take_each_start.Goals as goal

pub starts-preserved : goal.starts-preserved
starts-preserved c = record {
  inside = start-moves c.args.dtd.now c.args.tree.now.starts.items c.starts.at c.started.result c.starts.inside c.take_start.new.inside c.started.ensures
      c.take_start.ensures.inside
      ∙ c.starts.invariant.inside;
  told = start-tells c.args.dtd.now c.args.place c.args.tree.now.starts.items c.starts.at c.started.result c.starts.inside c.take_start.new.inside
      c.in-Some.of_start c.starts.values.items c.pop.new.self.items c.starts.told.items c.take_start.new.told.items c.started.ensures
      c.in-Some.ensures.items c.take_start.ensures.inside c.take_start.ensures.told
      ∙ c.starts.invariant.told;
  left = omega (arith, c.in-Some.ensures.cases);
  levels = let e = ap (λ (v : Inside). length v.elements) c.take_start.ensures.inside ∙ begun-length c.args.dtd.now c.started.result c.starts.inside in omega arith;
  room = ap (λ (v : Inside). v.room) c.take_start.ensures.inside ∙ c.starts.invariant.room;
  few = omega arith;
  capacity = c.take_start.ensures.capacity ∙ c.starts.invariant.capacity;
}
