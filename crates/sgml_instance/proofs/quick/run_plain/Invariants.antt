use Rattle.std.proofs.Common.{Bool}
use Rattle.sgml_declared.specs.theory_standing.Next.{left_to_read}
use Rattle.sgml_content_tags.specs.sgml_content_steps.Content.{IsContent}
use Rattle.sgml_instance.specs.Quick.{RunsOn}
use Rattle.sgml_instance.proofs.quick.run_plain.Given as goal

abbrev pub invariant-turns : goal.invariant-turns
invariant-turns g l = record {
  runs : (ended : Bool) → RunsOn l.options l.texts ended l.fn.content l.content l.fn.told.items l.told.items;
  content : IsContent l.content;
}

abbrev pub decreases-turns : goal.decreases-turns
decreases-turns g l = left_to_read l.content.kept l.texts
