use Rattle.sgml_theory_written.proofs.Spelled.{types-its-ends}
use Rattle.sgml_theory_written.proofs.spelled_ends_have_their_types.Goals as goal

pub returns : goal.returns
returns c = types-its-ends
