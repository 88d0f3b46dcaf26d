use Rattle.sgml_theory_spelling.proofs.Statuses.{keywords-give-status}
use Rattle.sgml_theory_spelling.proofs.keywords_give_status.Goals as goal

pub returns : goal.returns
returns c = keywords-give-status
