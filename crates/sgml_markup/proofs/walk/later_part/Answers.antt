use Rattle.std.proofs.Common.{◌+◌, ◌∷◌, ◌∙◌, ap, subst, sym, arith, drop, List, ℕ, Option, slice_index_or}
use Rattle.sgml_markup.specs.declared.kinds.Part.{Part}
use Rattle.sgml_markup.specs.Tags.{tag_parts, with_part}
use Rattle.sgml_markup.proofs.Walking.{Sound, PartBehind, step-sound, parts-at}
use Rattle.sgml_markup.proofs.walk.later_part.Goals as goal

pub returns-in-Some-clause-parts : goal.returns-in-Some-clause-parts
returns-in-Some-clause-parts c =
    let s = c.args.syntax.now in
    let w = c.args.walk.now in
    let closing = w.closing in
    let at = c.bytes.at in
    let body = c.unclosed-body.result.now in
    let step = c.tag_step-step.result in
    rw c.if-walk.false (
    ap (λ (b : List ℕ). tag_parts s closing w.at w.state (drop w.at b)) (sym c.unclosed-body.ensures.value)
    ∙ c.bytes.invariant.2
    ∙ parts-at s closing at c.bytes.state body c.bytes-test.true
    ∙ ap (λ st. with_part st.part (tag_parts s closing (at + 1) st.next (drop (at + 1) body))) (sym c.tag_step-step.ensures)
    ∙ ap (λ (o : Option Part). with_part o (tag_parts s closing (at + 1) step.next (drop (at + 1) body))) c.in-Some.is
    ∙ ap (λ (b : List ℕ). c.in-Some.part ∷ tag_parts s closing (at + 1) step.next (drop (at + 1) b)) c.unclosed-body.ensures.value)

pub returns-in-Some-clause-within : goal.returns-in-Some-clause-within
returns-in-Some-clause-within c =
    let at = c.bytes.at in
    let b = slice_index_or c.unclosed-body.result.now at 0 in
    let sound = subst (λ step. Sound at step) (sym c.tag_step-step.ensures) (step-sound c.args.syntax.now c.args.walk.now.closing at c.bytes.state b c.bytes.invariant.1) in
    let inside = subst (PartBehind at) c.in-Some.is sound.part in
    (inside.0, omega (arith, inside.1, c.bytes.invariant.0))

pub returns-in-Some-clause-stands : goal.returns-in-Some-clause-stands
returns-in-Some-clause-stands c =
    let at = c.bytes.at in
    let b = slice_index_or c.unclosed-body.result.now at 0 in
    let sound = subst (λ step. Sound at step) (sym c.tag_step-step.ensures) (step-sound c.args.syntax.now c.args.walk.now.closing at c.bytes.state b c.bytes.invariant.1) in
    record { within = omega (arith, c.bytes-test.true, c.unclosed-body.ensures.within); behind = sound.next }

pub bytes-preserved : goal.bytes-preserved
bytes-preserved c =
    let s = c.args.syntax.now in
    let closing = c.args.walk.now.closing in
    let at = c.bytes.at in
    let body = c.unclosed-body.result.now in
    let b = slice_index_or body at 0 in
    let step = c.tag_step-step.result in
    let sound = subst (λ st. Sound at st) (sym c.tag_step-step.ensures) (step-sound s closing at c.bytes.state b c.bytes.invariant.1) in (
      omega (arith, c.bytes-test.true, c.unclosed-body.ensures.within),
      sound.next,
      c.bytes.invariant.2
          ∙ parts-at s closing at c.bytes.state body c.bytes-test.true
          ∙ ap (λ st. with_part st.part (tag_parts s closing (at + 1) st.next (drop (at + 1) body))) (sym c.tag_step-step.ensures)
          ∙ ap (λ (o : Option Part). with_part o (tag_parts s closing (at + 1) step.next (drop (at + 1) body))) c.in_default.is,
    )
