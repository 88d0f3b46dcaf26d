use Rattle.sgml_decl_lexemes.proofs.Alike as alike
use Rattle.sgml_decl_lexemes.proofs.laws.alike_stacks_are_alike.Goals as goal

pub returns-clause-many : goal.returns-clause-many
returns-clause-many c = alike.length-alike

pub returns-clause-unread : goal.returns-clause-unread
returns-clause-unread c = λ I J s t a some high. alike.unread-alike I J s.places t.places a.places some high
