use Rattle.std.proofs.Common.{◌≡◌, ◌<◌, ◌∷◌, ◌++◌, ◌∙◌, sym, ap, [], List, ℕ, arith, length, map}
use Rattle.std.proofs.lemmas.List.{length-map}
use Rattle.sgml_names.specs.Naming.{cased_character}
use Rattle.sgml_attr.proofs.Plain.{tokens-spelled, one-some}
use Rattle.sgml_attr.proofs.tokens.tokens_spelled.Goals as goal

pub returns : goal.returns
returns c =
    let all : List ℕ = map (cased_character c.args.folding) c.args.bytes.now in
    let some : 0 < length c.args.bytes.now = grind (arith, c.is_empty.ensures, c.if-is_empty.false) in
    let mapped : 0 < length all = omega (arith, some, length-map c.args.bytes.now (cased_character c.args.folding)) in
    let token : c.of.result ≡ all = c.of.ensures ∙ c.in_ok-token.ensures in
    let pushed : c.push.new.self.items ≡ c.of.result ∷ [] = c.in_ok-push.ensures.items ∙ ap (λ (x : List (List ℕ)). x ++ c.of.result ∷ []) c.new-names.ensures.items in
    pushed ∙ ap (λ (x : List ℕ). x ∷ []) token ∙ sym (one-some all mapped) ∙ sym (tokens-spelled c.args.folding c.args.bytes.now c.requires)
