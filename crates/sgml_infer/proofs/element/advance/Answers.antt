use Rattle.std.proofs.Common.{sym}
use Rattle.std.specs.Option.{option_copied}
use Rattle.sgml_infer.proofs.Contents.{content-model, left-found, left-missed, state-found, position-found}
use Rattle.sgml_infer.proofs.element.advance.Goals as goal

pub returns-in-Some-clause-left : goal.returns-in-Some-clause-left
returns-in-Some-clause-left c =
    let e = content-model c.args.dtd.now c.args.element c.content.result.now c.in-Model.automaton c.content.ensures c.in-Model.is in
    left-found c.args.dtd.now c.args.element c.in-Model.automaton e c.args.state.now c.step_to.new.state (option_copied c.args.token) c.requires.state c.step_to.ensures.left

pub returns-in-Some-clause-state : goal.returns-in-Some-clause-state
returns-in-Some-clause-state c =
    let e = content-model c.args.dtd.now c.args.element c.content.result.now c.in-Model.automaton c.content.ensures c.in-Model.is in
    state-found c.args.dtd.now c.args.element c.in-Model.automaton e c.args.state.now c.step_to.new.state (option_copied c.args.token) c.requires.state c.step_to.ensures.state c.step_to.ensures.left

pub returns-in-Some-clause-position : goal.returns-in-Some-clause-position
returns-in-Some-clause-position c =
    let e = content-model c.args.dtd.now c.args.element c.content.result.now c.in-Model.automaton c.content.ensures c.in-Model.is in
    position-found c.args.dtd.now c.args.element c.in-Model.automaton e c.args.state.now c.step_to.new.state (option_copied c.args.token) c.in-Some.found c.requires.state (sym c.in-Some.ensures) c.step_to.ensures.left

pub returns-in-None-clause-left : goal.returns-in-None-clause-left
returns-in-None-clause-left c =
    let e = content-model c.args.dtd.now c.args.element c.content.result.now c.in-Model.automaton c.content.ensures c.in-Model.is in
    left-missed c.args.dtd.now c.args.element c.in-Model.automaton e c.args.state.now (option_copied c.args.token) (sym c.in-None.ensures)
