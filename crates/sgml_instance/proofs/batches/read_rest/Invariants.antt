use Rattle.std.proofs.Common.{◌≡◌}
use Rattle.sgml_content_tags.specs.sgml_content_steps.Content.{IsContent}
use Rattle.sgml_instance.specs.Going.{GoesOn, left_then}
use Rattle.sgml_instance.proofs.batches.read_rest.Given as goal

abbrev pub invariant-reading : goal.invariant-reading
invariant-reading g l = record {
  goes : GoesOn l.options l.texts l.ended l.fn.content l.fn.over l.content l.over l.fn.told.items l.told.items;
  content : IsContent l.content;
  expand : l.content.kept.stack.expand ≡ l.fn.content.kept.stack.expand;
  doctype : l.content.kept.doctype ≡ l.fn.content.kept.doctype;
}

abbrev pub decreases-reading : goal.decreases-reading
decreases-reading g l = left_then l.content l.texts l.over
