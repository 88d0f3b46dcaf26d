use Rattle.std.proofs.Common.{◌≡◌, ◌≤◌, ◌∙◌, length, ap, fold, drop, [], false, rules, subst, List, ℕ}
use Rattle.sgml_catalog.specs.Words.{Spaced, spaced_after}
use Rattle.sgml_catalog.proofs.Spacing.{made_single, none_left}
use Rattle.sgml_catalog.proofs.white.single.Goals as goal

pub returns : goal.returns
returns c =
    let past : length c.args.bytes.now ≤ c.loop-b.b-index = search rules in
    let none : drop c.loop-b.b-index c.args.bytes.now ≡ [] = none_left c.loop-b.b-index c.args.bytes.now past in
    let made : Spaced = (c.loop-b.spaced.items, c.loop-b.owed) in
    ap (λ (s : Spaced). s.0) {x = made} (subst (λ (l : List ℕ). fold spaced_after made l ≡ fold spaced_after ([], false) c.args.bytes.now) none c.loop-b.invariant) ∙ made_single c.args.bytes.now
