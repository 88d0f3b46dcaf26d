-- Open sections in the order of their starts.
use Rattle.std.specs.Prelude.{reverse}
use Rattle.std.proofs.Common.{◌≡◌, ℕ, Bool, true, false, cond, ◌||◌, List, [], ◌∷◌, ◌++◌, refl, sym, ap, ◌∙◌}
use Rattle.std.proofs.lemmas.Bool.{eq-eqb}
use Rattle.std.proofs.lemmas.List.{reverse-append}
use Rattle.sgml_dtd.specs.marked.declared.status.Status.{Status}
use Rattle.sgml_dtd.specs.marked.declared.sections.Section.{Section}
use Rattle.sgml_dtd.specs.marked.Opened.{is_at, is_open_at, without_last}
use Rattle.sgml_theory_reading.specs.Facets.{Begins, Ends}
use Rattle.sgml_theory_reading.specs.Sections.{sections_after}

pub section-starts : (status : Status) (n : ℕ) (ss : List Section) → reverse (sections_after (Begins status) n ss) ≡ reverse ss ++ (record { status = status; level = n }) ∷ []
section-starts status n ss = reverse-append (record { status = status; level = n } ∷ []) ss

or-true : (b : Bool) → (b || true) ≡ true
or-true true = refl
or-true false = refl

open-at-last : (xs : List Section) (s : Section) → is_open_at s.level (xs ++ s ∷ []) ≡ true
open-at-last [] s = ap (λ b. b || false) (eq-eqb s.level s.level refl)
open-at-last (x ∷ xs) s = ap (λ b. is_at s.level x || b) (open-at-last xs s) ∙ or-true (is_at s.level x)

last-ends : (xs : List Section) (s : Section) → without_last s.level (xs ++ s ∷ []) ≡ xs
last-ends [] s = ap (λ b. cond b [] (s ∷ [])) (eq-eqb s.level s.level refl)
last-ends (x ∷ xs) s =
    ap (λ b. cond b (x ∷ without_last s.level (xs ++ s ∷ [])) (cond (is_at s.level x) (xs ++ s ∷ []) (x ∷ without_last s.level (xs ++ s ∷ [])))) (open-at-last xs s)
    ∙ ap (λ ys. x ∷ ys) (last-ends xs s)

pub section-ends : (n : ℕ) (s : Section) (ss : List Section) → reverse (sections_after Ends n (s ∷ ss)) ≡ without_last s.level (reverse (s ∷ ss))
section-ends n s ss = sym (ap (without_last s.level) (reverse-append (s ∷ []) ss) ∙ last-ends (reverse ss) s)
