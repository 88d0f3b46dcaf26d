use Rattle.sgml_decl_forms.proofs.OneGrammar.{one_grammar, goes_on_where_open}
use Rattle.sgml_decl_forms.proofs.laws.what_is_due_is_the_grammar.Goals as goal

pub returns-clause-ends : goal.returns-clause-ends
returns-clause-ends c = one_grammar

pub returns-clause-goes_on : goal.returns-clause-goes_on
returns-clause-goes_on c = goes_on_where_open
