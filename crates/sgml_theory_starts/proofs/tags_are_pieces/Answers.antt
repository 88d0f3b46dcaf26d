use Rattle.sgml_theory_starts.proofs.Pieces.{tags-are-valued, tags-are-unvalued}
use Rattle.sgml_theory_starts.proofs.tags_are_pieces.Goals as goal

pub returns-clause-valued : goal.returns-clause-valued
returns-clause-valued c = tags-are-valued

pub returns-clause-unvalued : goal.returns-clause-unvalued
returns-clause-unvalued c = tags-are-unvalued
