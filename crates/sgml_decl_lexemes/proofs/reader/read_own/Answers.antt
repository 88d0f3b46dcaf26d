use Rattle.std.proofs.Common.{◌∙◌, ap, subst, sym, ℕ}
use Rattle.sgml_decl_parts.specs.Ends.{before}
use Rattle.sgml_decl_lexemes.specs.Sources.{Source}
use Rattle.sgml_decl_lexemes.specs.Readings.{OnTop, State, state_of, advanced}
use Rattle.sgml_decl_lexemes.specs.Declares.{IsStop}
use Rattle.sgml_decl_lexemes.proofs.Going.{begun-so-far, goes-on, declared, one-lexeme, stopped}
use Rattle.sgml_decl_lexemes.proofs.Passing.{so_far_past, less_past}
use Rattle.sgml_decl_lexemes.proofs.Ending.{ended}
use Rattle.sgml_decl_lexemes.proofs.reader.read_own.Goals as goal

pub parts-init : goal.parts-init
parts-init c = begun-so-far c.args.given.now c.args.stack.now c.first_reading-progress.result c.advance.new.self c.requires.some c.requires.height
    (c.advance.ensures ∙ ap (λ (n : ℕ). advanced n c.args.stack.now) (c.before-2.ensures.value ∙ ap (λ (I : Source). before I.construct) c.given.view_is))
    c.first_reading-progress.ensures c.requires.quote

pub returns-in-Ok-Ended-clause-value : goal.returns-in-Ok-Ended-clause-value
returns-in-Ok-Ended-clause-value c =
    let before : State = state_of c.pass_separators-bytes.new.progress c.pass_separators-bytes.new.stack in
    let so_far = so_far_past c.args.given.now c.args.stack.now (state_of c.parts.progress c.parts.stack) before c.parts.invariant c.pass_separators-bytes.ensures.passed in
    let next : State = state_of c.read_next.new.progress c.read_next.new.stack in
    one-lexeme c.args.given.now c.args.stack.now before next c.finish.result so_far (rw c.in-Ok-Ended.field-0-is at c.in-Ok-Ended.ensures.step) c.finish.ensures

pub returns-in-Ok-Ended-clause-ok : goal.returns-in-Ok-Ended-clause-ok
returns-in-Ok-Ended-clause-ok c =
    let before : State = state_of c.pass_separators-bytes.new.progress c.pass_separators-bytes.new.stack in
    let so_far = so_far_past c.args.given.now c.args.stack.now (state_of c.parts.progress c.parts.stack) before c.parts.invariant c.pass_separators-bytes.ensures.passed in
    let next : State = state_of c.read_next.new.progress c.read_next.new.stack in
    declared c.args.given.now c.args.stack.now before next c.finish.result so_far (rw c.in-Ok-Ended.field-0-is at c.in-Ok-Ended.ensures.step) c.finish.ensures

pub parts-smaller : goal.parts-smaller
parts-smaller c =
    let before : State = state_of c.pass_separators-bytes.new.progress c.pass_separators-bytes.new.stack in
    let next : State = state_of c.read_next.new.progress c.read_next.new.stack in
    less_past c.args.given.now c.args.stack.now (state_of c.parts.progress c.parts.stack) before next c.parts.invariant c.pass_separators-bytes.ensures.passed (rw c.in-Ok-More.field-0-is at c.in-Ok-More.ensures.step)

pub parts-preserved : goal.parts-preserved
parts-preserved c =
    let before : State = state_of c.pass_separators-bytes.new.progress c.pass_separators-bytes.new.stack in
    let so_far = so_far_past c.args.given.now c.args.stack.now (state_of c.parts.progress c.parts.stack) before c.parts.invariant c.pass_separators-bytes.ensures.passed in
    let next : State = state_of c.read_next.new.progress c.read_next.new.stack in
    goes-on c.args.given.now c.args.stack.now before next so_far (rw c.in-Ok-More.field-0-is at c.in-Ok-More.ensures.step)

pub returns-in-Ok-Ended-clause-after : goal.returns-in-Ok-Ended-clause-after
returns-in-Ok-Ended-clause-after c =
    let before : State = state_of c.pass_separators-bytes.new.progress c.pass_separators-bytes.new.stack in
    let so_far = so_far_past c.args.given.now c.args.stack.now (state_of c.parts.progress c.parts.stack) before c.parts.invariant c.pass_separators-bytes.ensures.passed in
    let next : State = state_of c.read_next.new.progress c.read_next.new.stack in
    ended c.args.given.now c.args.stack.now before next c.requires.some so_far (rw c.in-Ok-Ended.field-0-is at c.in-Ok-Ended.ensures.step)

pub returns-in-Err-clause-on_top : goal.returns-in-Err-clause-on_top
returns-in-Err-clause-on_top c =
    let before : State = state_of c.pass_separators-bytes.new.progress c.pass_separators-bytes.new.stack in
    let so_far = so_far_past c.args.given.now c.args.stack.now (state_of c.parts.progress c.parts.stack) before c.parts.invariant c.pass_separators-bytes.ensures.passed in
    subst (OnTop c.args.stack.now) (sym c.in-Err.ensures.memory) so_far.on_top

pub returns-in-Ok-Refused-clause-on_top : goal.returns-in-Ok-Refused-clause-on_top
returns-in-Ok-Refused-clause-on_top c =
    let before : State = state_of c.pass_separators-bytes.new.progress c.pass_separators-bytes.new.stack in
    let so_far = so_far_past c.args.given.now c.args.stack.now (state_of c.parts.progress c.parts.stack) before c.parts.invariant c.pass_separators-bytes.ensures.passed in
    let step = rw c.in-Ok-Refused.field-0-is at c.in-Ok-Refused.ensures.step in
    subst (OnTop c.args.stack.now) (sym step.1) so_far.on_top

pub returns-in-Ok-Refused-clause-err : goal.returns-in-Ok-Refused-clause-err
returns-in-Ok-Refused-clause-err c =
    let before : State = state_of c.pass_separators-bytes.new.progress c.pass_separators-bytes.new.stack in
    let so_far = so_far_past c.args.given.now c.args.stack.now (state_of c.parts.progress c.parts.stack) before c.parts.invariant c.pass_separators-bytes.ensures.passed in
    let step = rw c.in-Ok-Refused.field-0-is at c.in-Ok-Refused.ensures.step in
    subst (IsStop c.args.given.now c.args.stack.now) (sym c.error_of.ensures) (stopped c.args.given.now c.args.stack.now before c.in-Ok-Refused.fault so_far step.0)
