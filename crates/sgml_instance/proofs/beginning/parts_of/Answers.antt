use Rattle.sgml_instance.proofs.beginning.parts_of.Goals as goal

pub returns : goal.returns
returns c = record {
  tree_is = c.in_ok-tree.ensures.tree;
  context_is = c.in_ok-tree.ensures.context;
  none_open = c.in_ok-inside.ensures.none;
  none_ended = c.in_ok-inside.ensures.ended;
  room = c.in_ok-inside.ensures.room;
  none_current = c.in_ok-currents.ensures;
}
