use Rattle.sgml_markup.proofs.FormMarkup.{form-judged, form-parts}
use Rattle.sgml_markup.proofs.laws.tags_by_grammar.Goals as goal

pub returns-clause-form : goal.returns-clause-form
returns-clause-form c = λ s closing start kind markup room. form-judged s closing start kind markup room

pub returns-clause-parts : goal.returns-clause-parts
returns-clause-parts c = λ s closing start markup form. form-parts s closing start markup form
