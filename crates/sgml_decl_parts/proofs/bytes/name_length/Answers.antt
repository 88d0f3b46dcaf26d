use Rattle.sgml_decl_parts.proofs.Names.{name-some}
use Rattle.sgml_decl_parts.proofs.bytes.name_length.Goals as goal

pub returns-clause-some : goal.returns-clause-some
returns-clause-some c = λ is. rw c.name_length.ensures.count (name-some c.args.names.now c.args.bytes.now is)
