-- How often numbers stand in lists, and what views have together.
use Rattle.std.specs.Prelude.{◌≡◌, ◌<◌, ◌≤◌, ℕ, ◌+◌, ◌==◌, cond, List, [], ◌∷◌}
use Rattle.sgml_runs.specs.declared.view.View.{View}

-- how often k stands in the list
abbrev pub times : ℕ → List ℕ → ℕ
times k [] = 0
times k (x ∷ xs) = cond (x == k) 1 0 + times k xs

-- each number below n stands in the list once, and no other does
abbrev pub EachOnce : ℕ → List ℕ → Type 0
EachOnce n ks = (k : ℕ) → (k < n → times k ks ≡ 1) × (n ≤ k → times k ks ≡ 0)

-- f of each view, added up
abbrev pub total : {T : Type 0} → (View T → ℕ) → List (View T) → ℕ
total f [] = 0
total f (v ∷ vs) = f v + total f vs

-- one more than the first, or 0
abbrev pub after_first : List ℕ → ℕ
after_first [] = 0
after_first (x ∷ xs) = 1 + x
