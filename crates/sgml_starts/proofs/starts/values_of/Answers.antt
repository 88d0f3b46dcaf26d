use Rattle.std.proofs.Common.{◌≡◌, ◌∙◌, sym, arith, length, []}
use Rattle.std.specs.Prelude.{slice_get}
use Rattle.sgml_dtd.specs.dtd_elements.Types.{types}
use Rattle.sgml_starts.specs.Starts.{definitions_of, start_of}
use Rattle.sgml_starts.proofs.Whole.{definitions-are, none-defined, if-err}
use Rattle.sgml_starts.proofs.starts.values_of.Goals as goal

pub defined_values-requires-clause-definitions : goal.defined_values-requires-clause-definitions
defined_values-requires-clause-definitions c =
    definitions-are c.args.dtd.now (slice_get (types c.args.dtd.now.elements) c.args.element) c.definitions-definitions.result.now c.definitions-definitions.ensures

pub returns-then-is_empty-clause-err : goal.returns-then-is_empty-clause-err
returns-then-is_empty-clause-err c =
    let few : length c.definitions-definitions.result.now ≡ 0 = grind (arith, c.is_empty.ensures, c.if-is_empty.true) in
    let none : definitions_of c.args.dtd.now c.args.element ≡ [] =
    sym (definitions-are c.args.dtd.now (slice_get (types c.args.dtd.now.elements) c.args.element) c.definitions-definitions.result.now c.definitions-definitions.ensures)
    ∙ none-defined c.definitions-definitions.result.now few in
    if-err c.without_attributes.result c.without_attributes.ensures.err (λ e h spent.
    h (start_of c.args.syntax.now c.args.dtd.now c.args.element c.args.currents.now) spent none)
