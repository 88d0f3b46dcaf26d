-- Bytes that are counted one stretch after another.
use Rattle.std.proofs.Common.{◌≡◌, ℕ, ◌+◌, ◌≤◌, List, [], ◌∷◌, ◌++◌, length, refl, sym, ap, ◌∙◌, arith, add_assoc, zero-add, cond, Bool, true, false, ◌==◌, ◌&&◌}
use Rattle.std.proofs.lemmas.List.Sums.{sum_by-append}
use Rattle.std.specs.List.{count_by}
use Rattle.sgml_selfcheck.specs.Counts.{is_line_end, elements_in, begins_after}

pub elements_in-append : (begins : Bool) (xs ys : List ℕ) → elements_in begins (xs ++ ys) ≡ elements_in begins xs + elements_in (begins_after begins xs) ys
elements_in-append begins [] ys = sym (zero-add (elements_in begins ys))
elements_in-append begins (b ∷ bs) ys =
    let one : ℕ = cond (begins && b == 40) 1 0 in
    ap (λ n. one + n) (elements_in-append (is_line_end b) bs ys) ∙ sym (add_assoc one (elements_in (is_line_end b) bs) (elements_in (begins_after (is_line_end b) bs) ys))

pub begins_after-append : (begins : Bool) (xs ys : List ℕ) → begins_after begins (xs ++ ys) ≡ begins_after (begins_after begins xs) ys
begins_after-append begins [] ys = refl
begins_after-append begins (b ∷ bs) ys = begins_after-append (is_line_end b) bs ys

pub count_by-append : (xs ys : List ℕ) → count_by is_line_end (xs ++ ys) ≡ count_by is_line_end xs + count_by is_line_end ys
count_by-append xs ys = sum_by-append (λ x. cond (is_line_end x) 1 0) xs ys

at_most_one : (t : Bool) → cond t 1 0 ≤ 1
at_most_one true = omega arith
at_most_one false = omega arith

pub elements_in-le-length : (begins : Bool) (xs : List ℕ) → elements_in begins xs ≤ length xs
elements_in-le-length begins [] = omega arith
elements_in-le-length begins (b ∷ bs) = omega (arith, at_most_one (begins && b == 40), elements_in-le-length (is_line_end b) bs)
