use Rattle.sgml_decl_lexemes.proofs.Texts as texts
use Rattle.sgml_decl_lexemes.proofs.laws.others_are_left.Goals as goal

pub returns-clause-gone : goal.returns-clause-gone
returns-clause-gone c = texts.without-same

pub returns-clause-left : goal.returns-clause-left
returns-clause-left c = texts.without-other
