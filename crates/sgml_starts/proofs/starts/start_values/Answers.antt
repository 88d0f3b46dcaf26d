use Rattle.std.proofs.Common.{subst}
use Rattle.sgml_starts.specs.Specified.{Input, Specified}
use Rattle.sgml_starts.specs.Values.{unvalued}
use Rattle.sgml_starts.specs.Starts.{start_of, input_of, HasValues, IsUnvalued}
use Rattle.sgml_starts.proofs.Numbered.{if-ok}
use Rattle.sgml_starts.proofs.Whole.{if-err}
use Rattle.sgml_starts.proofs.Tags.{nothing-is}
use Rattle.sgml_starts.proofs.starts.start_values.Goals as goal

pub returns-in-None-clause-ok : goal.returns-in-None-clause-ok
returns-in-None-clause-ok c =
    let I : Input = input_of c.args.syntax.now c.args.dtd.now c.args.texts.now c.args.stack.now in
    let S = start_of c.args.syntax.now c.args.dtd.now c.args.element c.args.currents.now in
    if-ok c.values_of.result c.values_of.ensures.ok (λ told h.
    subst (λ (a : Specified). HasValues S a told c.values_of.new.currents)
    (nothing-is I c.args.tag c.nothing.result c.in-None.is c.nothing.ensures.specs c.nothing.ensures.stop) (h c.args.stack.now.spent))

pub returns-in-None-clause-err : goal.returns-in-None-clause-err
returns-in-None-clause-err c =
    let I : Input = input_of c.args.syntax.now c.args.dtd.now c.args.texts.now c.args.stack.now in
    let S = start_of c.args.syntax.now c.args.dtd.now c.args.element c.args.currents.now in
    if-err c.values_of.result c.values_of.ensures.err (λ e h.
    subst (λ (a : Specified). IsUnvalued (unvalued S a) e)
    (nothing-is I c.args.tag c.nothing.result c.in-None.is c.nothing.ensures.specs c.nothing.ensures.stop) (h c.args.stack.now.spent))
