-- The first `--`, one byte further on.
use Rattle.std.proofs.Common.{◌≡◌, ℕ, zero, suc, ◌+◌, ◌<◌, Bool, false, cond, List, [], ◌∷◌, length, drop, Option, Some, None, option_map, refl, sym, ap, ◌∙◌, arith, subst}
use Rattle.sgml_catalog.specs.Tokens.{begins_comment, before_dashes}

dash_here : (b : Bool) (x : Option ℕ) → b ≡ false → cond b (Some 0) x ≡ x
dash_here b x is = rw is refl

dash_step : (n : ℕ) (xs : List ℕ) → n < length xs → begins_comment (drop n xs) ≡ false → before_dashes (drop n xs) ≡ option_map (λ m. m + 1) (before_dashes (drop (suc n) xs))
dash_step n [] lt is = absurd (omega arith)
dash_step zero (x ∷ xs) lt is = dash_here (begins_comment (x ∷ xs)) (option_map (λ m. m + 1) (before_dashes xs)) is
dash_step (suc n) (x ∷ xs) lt is = dash_step n xs (omega arith) is

moved : (at : ℕ) (r : Option ℕ) → option_map (λ m. m + (at + 1)) r ≡ option_map (λ m. m + at) (option_map (λ m. m + 1) r)
moved at None = refl
moved at (Some n) = ap Some (omega arith)

-- where no `--` stands at this place
pub dashes_later : (at : ℕ) (text : List ℕ) (r : Option ℕ) → at < length text → begins_comment (drop at text) ≡ false → option_map (λ n. n + at) (before_dashes (drop at text)) ≡ r → option_map (λ n. n + (at + 1)) (before_dashes (drop (at + 1) text)) ≡ r
dashes_later at text r lt bare is =
    let e : suc at ≡ at + 1 = omega arith in
    subst (λ (k : ℕ). option_map (λ n. n + (at + 1)) (before_dashes (drop k text)) ≡ r) e
    (moved at (before_dashes (drop (suc at) text)) ∙ (ap (option_map (λ m. m + at)) (sym (dash_step at text lt bare)) ∙ is))
