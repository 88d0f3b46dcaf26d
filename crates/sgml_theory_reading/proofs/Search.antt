-- The open elements by search are those by steps.
use Rattle.std.specs.Prelude.{◌≡◌, ℕ, zero, suc, List, [], ◌∷◌, ◌++◌, drop}
use Rattle.std.proofs.Common.{refl, sym, ap, ◌∙◌, append_assoc}
use Rattle.sgml_theory_reading.specs.Pieces.{Piece, History}
use Rattle.sgml_theory_reading.specs.Facets.{Effect, Opens, Closes, Stays, effect}
use Rattle.sgml_theory_reading.specs.Nest.{Open, nest, nest_after, with_piece, without_first, nest_by_search, found_at}

-- these pieces, the newest first, stand in the innermost element behind what is there
with_pieces : List Piece → List Open → List Open
with_pieces here [] = []
with_pieces here (o ∷ os) = record { element = o.element; slash = o.slash; before = o.before; inside = here ++ o.inside } ∷ os

append-nil : {A : Type 0} (xs : List A) → xs ++ [] ≡ xs
append-nil [] = refl
append-nil (x ∷ xs) = ap (λ ys. x ∷ ys) (append-nil xs)

pieces-none : (os : List Open) → with_pieces [] os ≡ os
unfolding with_pieces
pieces-none [] = refl
pieces-none (o ∷ os) = refl

pieces-more : (here : List Piece) (p : Piece) (os : List Open) → with_pieces (here ++ p ∷ []) os ≡ with_pieces here (with_piece p os)
unfolding with_pieces
pieces-more here p [] = refl
pieces-more here p (o ∷ os) = λ i. record { element = o.element; slash = o.slash; before = o.before; inside = append_assoc here (p ∷ []) o.inside i } ∷ os

pieces-one : (p : Piece) (os : List Open) → with_pieces (p ∷ []) os ≡ with_piece p os
unfolding with_pieces
pieces-one p [] = refl
pieces-one p (o ∷ os) = refl

drop-with : (k : ℕ) (p : Piece) (os : List Open) → drop (suc k) (with_piece p os) ≡ drop (suc k) os
drop-with k p [] = refl
drop-with k p (o ∷ os) = refl

drop-less : (k : ℕ) (os : List Open) → drop (suc k) os ≡ drop k (without_first os)
drop-less zero [] = refl
drop-less (suc k) [] = refl
drop-less k (o ∷ os) = refl

found : (e : Effect) (d : History) (k : ℕ) (p : Piece) (here : List Piece) (h : History) → ((k : ℕ) (here : List Piece) → nest_by_search k here h ≡ with_pieces here (drop k (nest h))) → found_at e d k p here (λ k' here'. nest_by_search k' here' h) ≡ with_pieces here (drop k (nest_after e d p (nest h)))
unfolding with_pieces
found Closes d k p here h back = back (suc k) here ∙ ap (with_pieces here) (drop-less k (nest h))
found (Opens n slash) d zero p here h back = λ i. record { element = n; slash = slash; before = d; inside = sym (append-nil here) i } ∷ (back zero (p ∷ []) ∙ pieces-one p (nest h)) i
found (Opens n slash) d (suc zero) p here h back = back zero (here ++ p ∷ []) ∙ pieces-more here p (nest h)
found (Opens n slash) d (suc (suc k)) p here h back = back (suc k) here ∙ ap (with_pieces here) (sym (drop-with k p (nest h)))
found Stays d zero p here h back = back zero (here ++ p ∷ []) ∙ pieces-more here p (nest h)
found Stays d (suc k) p here h back = back (suc k) here ∙ ap (with_pieces here) (sym (drop-with k p (nest h)))

search-in : (h : History) (k : ℕ) (here : List Piece) → nest_by_search k here h ≡ with_pieces here (drop k (nest h))
unfolding nest with_pieces
search-in [] zero here = refl
search-in [] (suc k) here = refl
search-in (p ∷ h) k here = found (effect p.kind) h k p here h (search-in h)

pub search-is-nest : (h : History) → nest_by_search 0 [] h ≡ nest h
search-is-nest h = search-in h 0 [] ∙ pieces-none (nest h)
