use Rattle.sgml_theory_full.proofs.Instances.{instances-are-read-again}
use Rattle.sgml_theory_full.proofs.instances_are_read_again.Goals as goal

pub returns : goal.returns
returns c = instances-are-read-again (record {
  values = c.starts_are_read_back.ensures.values;
  at_once = c.starts_are_read_back.ensures.ends;
  spell = c.full_documents_spell_values.ensures.spell;
  refer = c.full_documents_spell_values.ensures.refer;
}) c.written_instances_are_read.ensures c.read_may_be_written.ensures
