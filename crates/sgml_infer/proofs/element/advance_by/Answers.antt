use Rattle.std.proofs.Common.{ap, ◌∙◌, subst, Some, Option, ℕ}
use Rattle.sgml_automaton.specs.model.Left.{Leaves}
use Rattle.sgml_automaton.specs.Automaton.{term_of}
use Rattle.sgml_automaton.specs.Position.{next_by}
use Rattle.sgml_theory_reading.specs.Names.{Name}
use Rattle.sgml_theory_reading.specs.Types.{content_of}
use Rattle.sgml_infer.specs.Tables.{name_at, type_at}
use Rattle.sgml_infer.specs.Trees.{IsStepIn}
use Rattle.sgml_infer.proofs.Contents.{content-model, left-found, state-for, state-found, position-found, step-token, step-missed}
use Rattle.sgml_infer.proofs.Knowing.{known-within, named-in}
use Rattle.sgml_infer.proofs.element.advance_by.Goals as goal

pub known_at-requires : goal.known_at-requires
known_at-requires c = known-within c.args.dtd.now c.args.known.now c.args.number c.requires.known c.requires.start

pub returns-in-None-clause-left : goal.returns-in-None-clause-left
returns-in-None-clause-left c =
    let t = c.args.dtd.now in let x = content_of (type_at t c.args.element) in let n = name_at t c.args.number in
    step-missed x c.args.position c.args.state.now n c.requires.position (subst (λ (o : Option ℕ). IsStepIn x c.args.position n o) c.in-None.is c.requires.step)

pub step_to-requires-clause-state : goal.step_to-requires-clause-state
step_to-requires-clause-state c =
    let e = content-model c.args.dtd.now c.args.element c.content.result.now c.in-Model.automaton c.content.ensures c.in-Model.is in
    state-for c.args.dtd.now c.args.element c.in-Model.automaton e c.args.state.now c.requires.state c.requires.room

pub step_to-requires-clause-token : goal.step_to-requires-clause-token
step_to-requires-clause-token c =
    let t = c.args.dtd.now in let a = c.in-Model.automaton in let s = c.args.state.now in let x = content_of (type_at t c.args.element) in let n = name_at t c.args.number in
    let e = content-model t c.args.element c.content.result.now a c.content.ensures c.in-Model.is in
    ap (λ (m : Name). next_by (term_of a s) (Some m)) (named-in t c.args.known.now c.args.number c.known_at.result.now c.requires.known c.requires.start c.known_at.ensures)
    ∙ step-token t c.args.element a e c.args.position s n c.in-Some.found c.requires.position (subst (λ (o : Option ℕ). IsStepIn x c.args.position n o) c.in-Some.is c.requires.step)

pub returns-in-Model-clause-left : goal.returns-in-Model-clause-left
returns-in-Model-clause-left c =
    let t = c.args.dtd.now in let a = c.in-Model.automaton in let s = c.args.state.now in let n = name_at t c.args.number in
    let e = content-model t c.args.element c.content.result.now a c.content.ensures c.in-Model.is in
    let m : Leaves (term_of a s) (Some n) (term_of a c.step_to.new.state) = subst (λ (m : Name). Leaves (term_of a s) (Some m) (term_of a c.step_to.new.state)) (named-in t c.args.known.now c.args.number c.known_at.result.now c.requires.known c.requires.start c.known_at.ensures) c.step_to.ensures.left in
    left-found t c.args.element a e s c.step_to.new.state (Some n) c.requires.state m

pub returns-in-Model-clause-state : goal.returns-in-Model-clause-state
returns-in-Model-clause-state c =
    let t = c.args.dtd.now in let a = c.in-Model.automaton in let s = c.args.state.now in let n = name_at t c.args.number in
    let e = content-model t c.args.element c.content.result.now a c.content.ensures c.in-Model.is in
    let m : Leaves (term_of a s) (Some n) (term_of a c.step_to.new.state) = subst (λ (m : Name). Leaves (term_of a s) (Some m) (term_of a c.step_to.new.state)) (named-in t c.args.known.now c.args.number c.known_at.result.now c.requires.known c.requires.start c.known_at.ensures) c.step_to.ensures.left in
    state-found t c.args.element a e s c.step_to.new.state (Some n) c.requires.state c.step_to.ensures.state m

pub returns-in-Model-clause-position : goal.returns-in-Model-clause-position
returns-in-Model-clause-position c =
    let t = c.args.dtd.now in let a = c.in-Model.automaton in let s = c.args.state.now in let x = content_of (type_at t c.args.element) in let n = name_at t c.args.number in
    let e = content-model t c.args.element c.content.result.now a c.content.ensures c.in-Model.is in
    let m : Leaves (term_of a s) (Some n) (term_of a c.step_to.new.state) = subst (λ (m : Name). Leaves (term_of a s) (Some m) (term_of a c.step_to.new.state)) (named-in t c.args.known.now c.args.number c.known_at.result.now c.requires.known c.requires.start c.known_at.ensures) c.step_to.ensures.left in
    let k = step-token t c.args.element a e c.args.position s n c.in-Some.found c.requires.position (subst (λ (o : Option ℕ). IsStepIn x c.args.position n o) c.in-Some.is c.requires.step) in
    position-found t c.args.element a e s c.step_to.new.state (Some n) c.in-Some.found c.requires.state k m
