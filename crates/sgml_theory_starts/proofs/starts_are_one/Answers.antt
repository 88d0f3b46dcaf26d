use Rattle.sgml_theory_starts.proofs.One.{are-named, are-one}
use Rattle.sgml_theory_starts.proofs.Refused.{begun-is-refused}
use Rattle.sgml_theory_starts.proofs.starts_are_one.Goals as goal

pub returns-clause-named : goal.returns-clause-named
returns-clause-named c = are-named

pub returns-clause-starts : goal.returns-clause-starts
returns-clause-starts c = are-one

pub returns-clause-begun : goal.returns-clause-begun
returns-clause-begun c = begun-is-refused
