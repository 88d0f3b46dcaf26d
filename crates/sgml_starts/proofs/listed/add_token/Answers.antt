use Rattle.std.proofs.Common.{◌≡◌, ◌<◌, ◌∷◌, ◌++◌, ◌∙◌, [], sym, ap, arith, length, List, ℕ}
use Rattle.sgml_starts.proofs.Several.{token-ended}
use Rattle.sgml_starts.proofs.listed.add_token.Goals as goal

pub returns : goal.returns
returns c =
    let some : 0 < length c.args.part.now = grind (arith, c.if-is_empty.false, c.is_empty.ensures) in
    c.in_ok-push.ensures.items
    ∙ ap (λ (x : List (List ℕ)). c.args.names.now.items ++ x)
    (ap (λ (n : List ℕ). n ∷ []) c.in_ok-name.ensures ∙ sym (token-ended c.args.folding c.args.part.now some))
