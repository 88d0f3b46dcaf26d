-- The generated book. (profile)
use Rattle.std.specs.Prelude.{◌≡◌, ℕ, ◌+◌, ◌*◌, ◌==◌, zero, suc, Bool, false, List, [], ◌∷◌, ◌++◌, length, flat_map, codes, decimal}
use Rattle.std.specs.List.{count_by}

-- its document type: each line ends with LF (10)
abbrev pub head : List ℕ
head =
    codes "<!DOCTYPE book [" ++ (10 ∷ codes "<!ELEMENT book O O (title, chapter+)>" ++ (10 ∷ codes "<!ELEMENT title O O (#PCDATA)>" ++ (10 ∷ codes "<!ELEMENT chapter - O (title, p+)>" ++ (10 ∷ codes "<!ELEMENT p O O (#PCDATA | em)*>" ++ (10 ∷ codes "<!ELEMENT em - - (#PCDATA)>" ++ (10 ∷ codes "<!ATTLIST chapter n NUMBER #REQUIRED>" ++ (10 ∷ codes "]>" ++ 10 ∷ [])))))))

-- the line `Book of n`
abbrev pub title_text : ℕ → List ℕ
title_text n = codes "Book of " ++ (decimal n ++ 10 ∷ [])

-- the two lines of chapter i of n
abbrev pub chapter_text : ℕ → ℕ → List ℕ
chapter_text n i =
    codes "<chapter n=" ++ (decimal i ++ (codes ">Part " ++ (decimal i ++ (10 ∷ codes "<p>Line " ++ (decimal i ++ (codes " of <em>" ++ (decimal n ++ (codes "</em>." ++ 10 ∷ []))))))))

-- the first k chapters of n
abbrev pub chapters_text : ℕ → ℕ → List ℕ
chapters_text n zero = []
chapters_text n (suc k) = chapters_text n k ++ chapter_text n (k + 1)

abbrev pub document_of : ℕ → List ℕ
document_of n = head ++ title_text n ++ chapters_text n n

-- What the parser shows of the book: each of its lines with what is written for it in the document, which is nothing
-- for a tag that is left out.
pub record Shown : Type 0 where
  pub written : List ℕ
  pub line : List ℕ

abbrev pub shown : List ℕ → List ℕ → Shown
shown written line = record { written = written; line = line }

abbrev pub title_shown : ℕ → List Shown
title_shown n =
    shown [] (codes "(BOOK") ∷ shown [] (codes "(TITLE") ∷ shown (codes "Book of " ++ (decimal n ++ 10 ∷ [])) (codes "-Book of " ++ decimal n) ∷ shown [] (codes ")TITLE") ∷ []

abbrev pub chapter_shown : ℕ → ℕ → List Shown
chapter_shown n i =
    shown (codes "<chapter n=" ++ decimal i) (codes "AN TOKEN " ++ decimal i) ∷ shown (codes ">") (codes "(CHAPTER") ∷ shown [] (codes "(TITLE") ∷ shown (codes "Part " ++ (decimal i ++ 10 ∷ [])) (codes "-Part " ++ decimal i) ∷ shown [] (codes ")TITLE") ∷ shown (codes "<p>") (codes "(P") ∷ shown (codes "Line " ++ (decimal i ++ codes " of ")) (codes "-Line " ++ (decimal i ++ codes " of ")) ∷ shown (codes "<em>") (codes "(EM") ∷ shown (decimal n) (45 ∷ decimal n) ∷ shown (codes "</em>") (codes ")EM") ∷ shown (codes "." ++ 10 ∷ []) (codes "-.") ∷ shown [] (codes ")P") ∷ shown [] (codes ")CHAPTER") ∷ []

abbrev pub chapters_shown : ℕ → ℕ → List Shown
chapters_shown n zero = []
chapters_shown n (suc k) = chapters_shown n k ++ chapter_shown n (k + 1)

abbrev pub book_shown : ℕ → List Shown
book_shown n = title_shown n ++ chapters_shown n n ++ (shown [] (codes ")BOOK") ∷ shown [] (codes "C") ∷ [])

abbrev pub first_is : List ℕ → Bool
first_is [] = false
first_is (b ∷ bs) = b == 40

-- the lines that begin an element begin with a parenthesis (40)
abbrev pub begins_element : Shown → Bool
begins_element s = first_is s.line

pub record Sizes : Type 0 where
  pub written : (n : ℕ) → document_of n ≡ head ++ flat_map (λ s. s.written) (book_shown n)
  pub elements : (n : ℕ) → count_by begins_element (book_shown n) ≡ 4 * n + 2
  pub lines : (n : ℕ) → length (book_shown n) ≡ 13 * n + 6
