use Rattle.sgml_decl_lexemes.proofs.Independent as independent
use Rattle.sgml_decl_lexemes.proofs.Lacking as lacking
use Rattle.sgml_decl_lexemes.proofs.Wholly as wholly
use Rattle.sgml_decl_lexemes.proofs.laws.alike_is_read.Goals as goal

pub returns-clause-read : goal.returns-clause-read
returns-clause-read c = independent.also-read

pub returns-clause-refused : goal.returns-clause-refused
returns-clause-refused c = independent.also-refused

pub returns-clause-whole : goal.returns-clause-whole
returns-clause-whole c = wholly.alike-whole

pub returns-clause-wanted : goal.returns-clause-wanted
returns-clause-wanted c = lacking.also-wanted
