use Rattle.std.proofs.Common.{◌≡◌, []}
use Rattle.sgml_content_tags.specs.sgml_content_steps.Content.{IsContent}
use Rattle.sgml_instance.specs.Reading.{reader}
use Rattle.sgml_instance.specs.Going.{GoesFrom, left_then}
use Rattle.sgml_instance.proofs.reading.read_on.Given as goal

abbrev pub invariant-reading : goal.invariant-reading
invariant-reading g l = record {
  goes : GoesFrom l.options l.texts l.ended (reader l.options l.fn.content [] l.fn.over) (reader l.options l.content l.waiting.items l.over);
  content : IsContent l.content;
  expand : l.content.kept.stack.expand ≡ l.fn.content.kept.stack.expand;
  doctype : l.content.kept.doctype ≡ l.fn.content.kept.doctype;
}

abbrev pub decreases-reading : goal.decreases-reading
decreases-reading g l = left_then l.content l.texts l.over
