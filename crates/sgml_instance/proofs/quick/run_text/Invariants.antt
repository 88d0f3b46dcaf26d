use Rattle.std.proofs.Common.{◌≡◌, Bool}
use Rattle.sgml_declared.specs.theory_standing.Next.{left_to_read}
use Rattle.sgml_content_tags.specs.sgml_content_steps.Content.{IsContent}
use Rattle.sgml_content_references.specs.content_data.Roles.{around_of}
use Rattle.sgml_content_tags.specs.sgml_content_steps.Plainly.{plain_state, IsScannedIn}
use Rattle.sgml_instance.specs.Quick.{RunsOn}
use Rattle.sgml_instance.proofs.quick.run_text.Given as goal

abbrev pub invariant-text : goal.invariant-text
invariant-text g l = record {
  runs : (ended : Bool) → RunsOn l.options l.texts ended l.fn.content l.content l.fn.told.items l.told.items;
  content : IsContent l.content;
  plain : IsScannedIn plain_state l.content;
  around : l.around ≡ around_of l.content;
}

abbrev pub decreases-text : goal.decreases-text
decreases-text g l = left_to_read l.content.kept l.texts
