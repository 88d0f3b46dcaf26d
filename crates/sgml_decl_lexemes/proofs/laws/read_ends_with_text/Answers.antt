use Rattle.sgml_decl_lexemes.proofs.Standing as standing
use Rattle.sgml_decl_lexemes.proofs.laws.read_ends_with_text.Goals as goal

pub returns-clause-source : goal.returns-clause-source
returns-clause-source c = standing.ends-with-text

pub returns-clause-asked : goal.returns-clause-asked
returns-clause-asked c = standing.stands-after
