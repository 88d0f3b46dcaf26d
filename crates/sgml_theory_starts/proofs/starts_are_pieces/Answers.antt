use Rattle.sgml_theory_starts.proofs.Pieces.{starts-are-valued, starts-are-unvalued}
use Rattle.sgml_theory_starts.proofs.starts_are_pieces.Goals as goal

pub returns-clause-valued : goal.returns-clause-valued
returns-clause-valued c = starts-are-valued

pub returns-clause-unvalued : goal.returns-clause-unvalued
returns-clause-unvalued c = starts-are-unvalued
