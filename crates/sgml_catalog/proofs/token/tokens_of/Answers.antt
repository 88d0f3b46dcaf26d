use Rattle.std.proofs.Common.{length, drop, take, sym, ap, ◌∙◌, arith, List, ℕ, length-drop}
use Rattle.sgml_catalog.specs.Tokens.{item_of}
use Rattle.sgml_catalog.proofs.Spelled.{over_on, unended_on, blank_on, literal_on, word_on}
use Rattle.sgml_catalog.proofs.token.tokens_of.Goals as goal

pub returns-in-Over : goal.returns-in-Over
returns-in-Over c =
    let p = ap item_of (sym c.rest_from-rest.ensures) ∙ (sym c.item_of.ensures.item ∙ c.in-Over.is) in
    over_on c.args.text.now c.loop-tokens.at c.loop-tokens.tokens.items c.end_at.result c.loop-tokens.invariant.1 p c.end_at.ensures

pub returns-in-Unended : goal.returns-in-Unended
returns-in-Unended c =
    let p = ap item_of (sym c.rest_from-rest.ensures) ∙ (sym c.item_of.ensures.item ∙ c.in-Unended.is) in
    unended_on c.args.text.now c.loop-tokens.at c.loop-tokens.tokens.items c.end_at-in-Unended.result c.loop-tokens.invariant.1 p c.end_at-in-Unended.ensures

pub loop-tokens-preserved-in-Blank : goal.loop-tokens-preserved-in-Blank
loop-tokens-preserved-in-Blank c =
    let p = ap item_of (sym c.rest_from-rest.ensures) ∙ (sym c.item_of.ensures.item ∙ c.in-Blank.is) in
    let long = ap (λ (l : List ℕ). length l) c.rest_from-rest.ensures ∙ length-drop c.loop-tokens.at c.args.text.now in (
      omega (arith, c.in-Blank.ensures.fits.1, long, c.loop-tokens.invariant.0),
      blank_on c.args.text.now c.loop-tokens.at c.in-Blank.n c.loop-tokens.tokens.items c.loop-tokens.invariant.1 p,
    )

pub loop-tokens-preserved-in-Literal : goal.loop-tokens-preserved-in-Literal
loop-tokens-preserved-in-Literal c =
    let p = ap item_of (sym c.rest_from-rest.ensures) ∙ (sym c.item_of.ensures.item ∙ c.in-Literal.is) in
    let long = ap (λ (l : List ℕ). length l) c.rest_from-rest.ensures ∙ length-drop c.loop-tokens.at c.args.text.now in
    let t = c.in_ok-token_of-in-Literal.field-0 in
    let made = c.in_ok-token_of-in-Literal.ensures in (
      omega (arith, c.in-Literal.ensures.fits, long, c.loop-tokens.invariant.0),
      literal_on c.args.text.now c.loop-tokens.at c.in-Literal.n c.loop-tokens.tokens.items c.push.new.self.items t c.loop-tokens.invariant.1 p c.in_ok-push-in-Literal.ensures.items made.0 made.1 (made.2 ∙ (ap (λ (k : ℕ). take k (drop 1 c.rest_from-rest.result.now)) (omega arith) ∙ ap (λ (l : List ℕ). take c.in-Literal.n (drop 1 l)) c.rest_from-rest.ensures)),
    )

pub loop-tokens-preserved : goal.loop-tokens-preserved
loop-tokens-preserved c =
    let p = ap item_of (sym c.rest_from-rest.ensures) ∙ (sym c.item_of.ensures.item ∙ c.in-Word.is) in
    let long = ap (λ (l : List ℕ). length l) c.rest_from-rest.ensures ∙ length-drop c.loop-tokens.at c.args.text.now in
    let t = c.in_ok-token_of-in-Word.field-0 in
    let made = c.in_ok-token_of-in-Word.ensures in (
      omega (arith, c.in-Word.ensures.fits.1, long, c.loop-tokens.invariant.0),
      word_on c.args.text.now c.loop-tokens.at c.in-Word.n c.loop-tokens.tokens.items c.push-in-Word.new.self.items t c.loop-tokens.invariant.1 p c.in_ok-push-in-Word.ensures.items made.0 made.1 (made.2 ∙ ap (λ (l : List ℕ). take c.in-Word.n l) c.rest_from-rest.ensures),
    )
