use Rattle.std.proofs.Common.{◌≡◌, ◌∙◌, refl, sym, ap, [], Some, List, ℕ}
use Rattle.std.specs.Prelude.{slice_get}
use Rattle.sgml_entity.specs.Stack.{Stack, moved}
use Rattle.sgml_attr.specs.declared.definition.Definition.{Definition}
use Rattle.sgml_dtd.specs.dtd_elements.Types.{types}
use Rattle.sgml_starts.specs.Specified.{Specified, specified}
use Rattle.sgml_starts.specs.Starts.{definitions_of, start_of, input_of}
use Rattle.sgml_starts.proofs.Whole.{definitions-are}
use Rattle.sgml_starts.proofs.Lone.{lone-values}
use Rattle.sgml_starts.proofs.starts.tag_values.Goals as goal

pub specified_values-requires-clause-definitions : goal.specified_values-requires-clause-definitions
specified_values-requires-clause-definitions c =
    definitions-are c.args.dtd.now (slice_get (types c.args.dtd.now.elements) c.args.element) c.definitions-definitions.result.now c.definitions-definitions.ensures

pub returns-then-is_lone-clause-ok : goal.returns-then-is_lone-clause-ok
returns-then-is_lone-clause-ok c =
    let none : definitions_of c.args.dtd.now c.args.element ≡ [] =
    sym (definitions-are c.args.dtd.now (slice_get (types c.args.dtd.now.elements) c.args.element) c.definitions-definitions.result.now c.definitions-definitions.ensures) ∙ c.if-is_lone.ensures.none refl in
    lone-values (start_of c.args.syntax.now c.args.dtd.now c.args.element c.args.currents.now)
    (specified (input_of c.args.syntax.now c.args.dtd.now c.args.texts.now c.args.stack.now) (Some c.args.size)) c.args.stack.now.spent c.no_values.result
    none (c.if-is_lone.ensures.specified refl) c.no_values.ensures.values c.no_values.ensures.conref

pub returns-then-is_lone-clause-after : goal.returns-then-is_lone-clause-after
returns-then-is_lone-clause-after c =
    let s : Stack = c.args.stack.now in
    c.advance.ensures
    ∙ ap (λ (n : ℕ). record s { spent = n; places = moved c.args.size s.places }) (sym (ap (λ (a : Specified). a.spent) (c.if-is_lone.ensures.specified refl)))
