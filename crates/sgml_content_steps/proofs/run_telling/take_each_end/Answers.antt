use Rattle.std.proofs.Common.{◌∙◌, arith, length-append}
use Rattle.sgml_content_steps.proofs.Moved.{end-moves, end-tells}
use Rattle.sgml_content_steps.proofs.run_telling.take_each_end.Goals as goal

pub ends-preserved : goal.ends-preserved
ends-preserved c = record {
  inside = end-moves c.args.tree.now.ended.items c.ends.at c.ended-element.result c.ends.inside c.close.new.self c.ended-element.ensures c.close.ensures.elements
      c.close.ensures.ended c.close.ensures.room
      ∙ c.ends.invariant.inside;
  told = end-tells c.args.tree.now.ended.items c.ends.at c.ended-element.result c.ends.told.items c.tell.new.told.items c.ended-element.ensures
      c.tell.ensures.items
      ∙ c.ends.invariant.told;
  count = grind (arith, length-append);
  capacity = c.tell.ensures.capacity ∙ c.ends.invariant.capacity;
}
