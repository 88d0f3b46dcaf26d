use Rattle.sgml_theory_prologs.proofs.AtBorder.{decided-prologs-are-read}
use Rattle.sgml_theory_prologs.proofs.Before.{same-prologs-are-read}
use Rattle.sgml_theory_prologs.proofs.same_prologs_are_read.Goals as goal

pub returns-clause-characters : goal.returns-clause-characters
returns-clause-characters c = same-prologs-are-read

pub returns-clause-anything : goal.returns-clause-anything
returns-clause-anything c = decided-prologs-are-read
