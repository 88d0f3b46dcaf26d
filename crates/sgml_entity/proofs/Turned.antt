-- The stack's list is the vector turned round.
use Rattle.std.proofs.Common.{◌≡◌, ◌-◌, ℕ, List, [], ◌∷◌, ◌++◌, sym, ap, ◌∙◌, length, take, drop, reverse}
use Rattle.std.proofs.lemmas.List.{reverse-append, length-reverse, length-drop, take-append-drop, drop_at}
use Rattle.sgml_text.specs.declared.place.Place.{Place}
use Rattle.sgml_entity.specs.Stack.{place_at, moved_to}

-- what is kept of a stack, with its top moved
pub gone_back : (xs front : List Place) (n : ℕ) (p : Place) (at : ℕ) → take n xs ≡ front ++ p ∷ [] → reverse (front ++ place_at p.entity at ∷ []) ≡ moved_to at (drop (length xs - n) (reverse xs))
gone_back xs front n p at h =
    let turned : reverse xs ≡ reverse (drop n xs) ++ reverse (take n xs) = ap reverse (sym (take-append-drop n xs)) ∙ reverse-append (take n xs) (drop n xs) in
    let size : length (reverse (drop n xs)) ≡ length xs - n = length-reverse (drop n xs) ∙ length-drop n xs in
    let kept : drop (length xs - n) (reverse xs) ≡ reverse (take n xs) = ap (drop (length xs - n)) turned ∙ drop_at (reverse (drop n xs)) (reverse (take n xs)) (length xs - n) size in
    reverse-append front (place_at p.entity at ∷ [])
    ∙ ap (moved_to at) (sym (kept ∙ ap reverse h ∙ reverse-append front (p ∷ [])))
