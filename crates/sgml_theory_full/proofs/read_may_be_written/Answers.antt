use Rattle.sgml_theory_full.proofs.Followed.{read-may-be-written}
use Rattle.sgml_theory_full.proofs.read_may_be_written.Goals as goal

pub returns : goal.returns
returns c = read-may-be-written (record {
  values = c.starts_are_read_back.ensures.values;
  at_once = c.starts_are_read_back.ensures.ends;
  spell = c.full_documents_spell_values.ensures.spell;
  refer = c.full_documents_spell_values.ensures.refer;
})
