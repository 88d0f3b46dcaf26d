use Rattle.sgml_attr.proofs.Choosing.{indexed-of, named-within}
use Rattle.sgml_attr.proofs.matching.attribute_of.Goals as goal

pub returns-in-Some-clause-of : goal.returns-in-Some-clause-of
returns-in-Some-clause-of c =
    indexed-of c.indexed.result c.args.index.now c.in-Some.index c.args.definitions.now c.args.syntax.now.general_fold c.args.spec.now.name c.args.spec.now.value
    c.requires c.in-Some.is c.indexed.ensures

pub returns-in-Some-clause-within : goal.returns-in-Some-clause-within
returns-in-Some-clause-within c =
    named-within c.indexed.result c.args.definitions.now c.args.syntax.now.general_fold c.args.spec.now.name c.args.spec.now.value
    (indexed-of c.indexed.result c.args.index.now c.in-Some.index c.args.definitions.now c.args.syntax.now.general_fold c.args.spec.now.name c.args.spec.now.value
    c.requires c.in-Some.is c.indexed.ensures)
