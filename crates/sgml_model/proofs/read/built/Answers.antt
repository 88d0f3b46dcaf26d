use Rattle.std.proofs.Common.{◌≡◌, ℕ, ◌≤◌, List, map, length, take, Some, sym, ap, ◌∙◌, option_map}
use Rattle.std.proofs.lemmas.List.{length-map}
use Rattle.sgml_model.specs.View.{view}
use Rattle.sgml_model.specs.Reading.{State, start, run}
use Rattle.sgml_model.specs.ReaderView.{sign, state_of}
use Rattle.sgml_model.proofs.Grammar.{run_more, is_whole, spells_model, take_all}
use Rattle.sgml_model.proofs.Signs.{sign_at}
use Rattle.sgml_model.proofs.Building.{some_step, small_step, ends_whole, mapped_some, gone_on}
use Rattle.sgml_model.specs.declared.token.GroupToken.{GroupToken}
use Rattle.sgml_model.proofs.read.built.Goals as goal

pub loop-token-init : goal.loop-token-init
unfolding run
loop-token-init c = ap Some (sym c.new-reader.ensures)

pub step-requires : goal.step-requires
step-requires c =
    small_step (map sign c.args.tokens.now) c.loop-token.token-index (sign c.token-item.result) (state_of c.loop-token.reader) (simp length-map c.loop-token-test.true)
    (sign_at c.args.tokens.now c.loop-token.token-index c.token-item.result c.loop-token-test.true c.token-item.is) c.loop-token.invariant c.requires

pub loop-token-preserved : goal.loop-token-preserved
loop-token-preserved c =
    let tokens = map sign c.args.tokens.now in
    let next = sign_at c.args.tokens.now c.loop-token.token-index c.token-item.result c.loop-token-test.true c.token-item.is in
    let p = some_step tokens c.loop-token.token-index (sign c.token-item.result) (state_of c.loop-token.reader) (simp length-map c.loop-token-test.true) next c.loop-token.invariant c.requires in
    let same = gone_on c.in_ok-step.field-0 (state_of c.step.new.self) p.0 _ c.in_ok-step.ensures p.1 in
    run_more tokens c.loop-token.token-index (sign c.token-item.result) (state_of c.loop-token.reader) (simp length-map c.loop-token-test.true) next c.loop-token.invariant
    ∙ p.1 ∙ ap Some (sym same)

all_read : (ts : List GroupToken) (i : ℕ) (s : State) → length ts ≤ i → run start (take i (map sign ts)) ≡ Some s → run start (map sign ts) ≡ Some s
all_read ts i s l h = ap (run start) (sym (take_all (map sign ts) i (simp length-map l))) ∙ h

pub unwrap-requires : goal.unwrap-requires
unwrap-requires c =
    let p = ends_whole (map sign c.args.tokens.now) (state_of c.loop-token.reader) (all_read c.args.tokens.now c.loop-token.token-index (state_of c.loop-token.reader) c.loop-token-test.false c.loop-token.invariant) c.requires in
    mapped_some view c.whole.result p.0 (c.whole.ensures ∙ p.1)

pub of-requires-clause-well_formed : goal.of-requires-clause-well_formed
of-requires-clause-well_formed c =
    let s = is_whole (map sign c.args.tokens.now) (state_of c.loop-token.reader) (view c.unwrap.result)
    (all_read c.args.tokens.now c.loop-token.token-index (state_of c.loop-token.reader) c.loop-token-test.false c.loop-token.invariant)
    (sym c.whole.ensures ∙ ap (option_map view) c.unwrap.ensures) in
    spells_model (map sign c.args.tokens.now) (view c.unwrap.result) s

pub of-requires-clause-in_order : goal.of-requires-clause-in_order
of-requires-clause-in_order c =
    let s = is_whole (map sign c.args.tokens.now) (state_of c.loop-token.reader) (view c.unwrap.result)
    (all_read c.args.tokens.now c.loop-token.token-index (state_of c.loop-token.reader) c.loop-token-test.false c.loop-token.invariant)
    (sym c.whole.ensures ∙ ap (option_map view) c.unwrap.ensures) in
    s.numbered
