use Rattle.sgml_decl_lexemes.proofs.Counting as unread
use Rattle.sgml_decl_lexemes.proofs.laws.left_counts.Goals as goal

pub returns : goal.returns
returns c = unread.left_counts
