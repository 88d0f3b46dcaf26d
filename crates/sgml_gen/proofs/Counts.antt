-- The counts of the generated book.
use Rattle.std.proofs.Common.{◌≡◌, ℕ, ◌+◌, ◌*◌, zero, suc, List, [], ◌∷◌, ◌++◌, length, refl, sym, ap, ◌∙◌, arith, add-one, cond, Bool, append_assoc, append-nil, length-append}
use Rattle.std.specs.Prelude.{flat_map, codes}
use Rattle.std.specs.List.{count_by}
use Rattle.std.proofs.lemmas.Grind.{flat_map-append}
use Rattle.std.proofs.lemmas.List.Sums.{sum_by-append}
use Rattle.sgml_gen.specs.Book.{Shown, shown, head, title_text, chapter_text, chapters_text, document_of, title_shown, chapter_shown, chapters_shown, book_shown, begins_element, Sizes}

abbrev written : List Shown → List ℕ
written ss = flat_map (λ s. s.written) ss

count_by-append : {X : Type 0} (p : X → Bool) (xs ys : List X) → count_by p (xs ++ ys) ≡ count_by p xs + count_by p ys
count_by-append p xs ys = sum_by-append (λ x. cond (p x) 1 0) xs ys

-- one more chapter
pub chapter_more : (n k : ℕ) (old new : List ℕ) → old ≡ head ++ title_text n ++ chapters_text n k → new ≡ old ++ chapter_text n (k + 1) → new ≡ head ++ title_text n ++ chapters_text n (k + 1)
chapter_more n k old new h is =
    let more : chapters_text n (k + 1) ≡ chapters_text n k ++ chapter_text n (k + 1) = ap (chapters_text n) (add-one k) in
    is ∙ ap (λ v. v ++ chapter_text n (k + 1)) h ∙ append_assoc (head ++ title_text n) (chapters_text n k) (chapter_text n (k + 1)) ∙ ap (λ v. head ++ title_text n ++ v) (sym more)

chapter_written : (n i : ℕ) → written (chapter_shown n i) ≡ chapter_text n i
chapter_written n i = simp append_assoc

chapters_written : (n k : ℕ) → written (chapters_shown n k) ≡ chapters_text n k
chapters_written n zero = refl
chapters_written n (suc k) =
    flat_map-append (λ s. s.written) (chapters_shown n k) (chapter_shown n (k + 1)) ∙ ap (λ v. v ++ written (chapter_shown n (k + 1))) (chapters_written n k) ∙ ap (λ v. chapters_text n k ++ v) (chapter_written n (k + 1))

title_written : (n : ℕ) → written (title_shown n) ≡ title_text n
title_written n = simp (append_assoc, append-nil)

book_written : (n : ℕ) → document_of n ≡ head ++ written (book_shown n)
book_written n =
    let parts : written (book_shown n) ≡ title_text n ++ chapters_text n n =
    flat_map-append (λ s. s.written) (title_shown n ++ chapters_shown n n) (shown [] (codes ")BOOK") ∷ shown [] (codes "C") ∷ [])
    ∙ append-nil (written (title_shown n ++ chapters_shown n n))
    ∙ flat_map-append (λ s. s.written) (title_shown n) (chapters_shown n n)
    ∙ ap (λ v. v ++ written (chapters_shown n n)) (title_written n) ∙ ap (λ v. title_text n ++ v) (chapters_written n n) in
    append_assoc head (title_text n) (chapters_text n n) ∙ ap (λ v. head ++ v) (sym parts)

chapter_length : (n i : ℕ) → length (chapter_shown n i) ≡ 13
chapter_length n i = refl

chapters_length : (n k : ℕ) → length (chapters_shown n k) ≡ 13 * k
chapters_length n zero = refl
chapters_length n (suc k) =
    omega (arith, length-append (chapters_shown n k) (chapter_shown n (k + 1)), chapters_length n k, chapter_length n (k + 1))

book_length : (n : ℕ) → length (book_shown n) ≡ 13 * n + 6
book_length n =
    let title : length (title_shown n) ≡ 4 = refl in
    let rest : List Shown = shown [] (codes ")BOOK") ∷ shown [] (codes "C") ∷ [] in
    let two : length rest ≡ 2 = refl in
    omega (arith, length-append (title_shown n ++ chapters_shown n n) rest, length-append (title_shown n) (chapters_shown n n), chapters_length n n, title, two)

chapter_count : (n i : ℕ) → count_by begins_element (chapter_shown n i) ≡ 4
chapter_count n i = refl

chapters_count : (n k : ℕ) → count_by begins_element (chapters_shown n k) ≡ 4 * k
chapters_count n zero = refl
chapters_count n (suc k) =
    omega (arith, count_by-append begins_element (chapters_shown n k) (chapter_shown n (k + 1)), chapters_count n k, chapter_count n (k + 1))

book_count : (n : ℕ) → count_by begins_element (book_shown n) ≡ 4 * n + 2
book_count n =
    let title : count_by begins_element (title_shown n) ≡ 2 = refl in
    let rest : List Shown = shown [] (codes ")BOOK") ∷ shown [] (codes "C") ∷ [] in
    let none : count_by begins_element rest ≡ 0 = refl in
    omega (arith, count_by-append begins_element (title_shown n ++ chapters_shown n n) rest, count_by-append begins_element (title_shown n) (chapters_shown n n), chapters_count n n, title, none)

pub sizes : Sizes
sizes = record { written = book_written; elements = book_count; lines = book_length }
