-- Lines of names, one more and by number.
use Rattle.std.proofs.Common.{◌≡◌, ℕ, ◌+◌, ◌<◌, zero, suc, List, [], ◌∷◌, ◌++◌, length, get_or, sym, ap, ◌∙◌, arith}
use Rattle.sgml_esis.specs.Short.{short_end}
use Rattle.sgml_dtd.specs.Doctypes.{Doctype}
use Rattle.sgml_said.specs.Told.{name_at}
use Rattle.sgml_event_lines.specs.Standing.{AreLines}

at_more : (ls : List (List ℕ)) (x : List ℕ) (f : ℕ → List ℕ) → ((n : ℕ) → n < length ls → get_or ls n [] ≡ f n) → x ≡ f (length ls) → (n : ℕ) → n < length (ls ++ x ∷ []) → get_or (ls ++ x ∷ []) n [] ≡ f n
at_more [] x f h e zero m = e
at_more [] x f h e (suc n) m = absurd (omega (arith, m))
at_more (l ∷ ls) x f h e zero m = h zero (omega arith)
at_more (l ∷ ls) x f h e (suc n) m = at_more ls x (λ k. f (suc k)) (λ k p. h (suc k) (omega (arith, p))) e n (omega (arith, m))

-- one more
pub lines_more : (d : Doctype) (ls : List (List ℕ)) (x name : List ℕ) (number : ℕ) → AreLines d ls → length ls ≡ number → x ≡ short_end name → name ≡ name_at d number → AreLines d (ls ++ x ∷ [])
lines_more d ls x name number are long is named = at_more ls x (λ n. short_end (name_at d n)) are (is ∙ ap short_end (named ∙ ap (name_at d) (sym long)))
