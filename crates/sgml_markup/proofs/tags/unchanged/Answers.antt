use Rattle.sgml_markup.proofs.Walking.{naming-of, run-form, run-parts, literal-form, literal-parts}
use Rattle.sgml_markup.proofs.tags.unchanged.Goals as goal

pub returns-in-ElementName-clause-form : goal.returns-in-ElementName-clause-form
returns-in-ElementName-clause-form c = λ closing at.
    run-form c.args.syntax.now c.args.state c.name_length.result c.args.text.now
    (naming-of c.args.state c.in-ElementName.is) c.name_length.ensures.value closing at

pub returns-in-ElementName-clause-parts : goal.returns-in-ElementName-clause-parts
returns-in-ElementName-clause-parts c = λ closing at.
    run-parts c.args.syntax.now c.args.state c.name_length.result c.args.text.now
    (naming-of c.args.state c.in-ElementName.is) c.name_length.ensures.value closing at

pub returns-in-Literal-clause-form : goal.returns-in-Literal-clause-form
returns-in-Literal-clause-form c = λ closing at.
    literal-form c.args.syntax.now c.args.state c.in-Literal.q c.in-Literal.field-1 c.length_before.result c.args.text.now
    c.in-Literal.is c.length_before.ensures.value closing at

pub returns-in-Literal-clause-parts : goal.returns-in-Literal-clause-parts
returns-in-Literal-clause-parts c = λ closing at.
    literal-parts c.args.syntax.now c.args.state c.in-Literal.q c.in-Literal.field-1 c.length_before.result c.args.text.now
    c.in-Literal.is c.length_before.ensures.value closing at
