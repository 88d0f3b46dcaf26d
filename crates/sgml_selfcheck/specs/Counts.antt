-- What is counted of the bytes of lines. (profile)
use Rattle.std.specs.Prelude.{ℕ, ◌+◌, ◌==◌, ◌&&◌, Bool, true, List, [], ◌∷◌, ◌++◌, length, codes, decimal, count_by, if◌then◌else◌}

-- a line ends with LF (10)
abbrev pub is_line_end : ℕ → Bool
is_line_end b = b == 10

-- how many lines begin with a parenthesis (40), which starts an element; `begins`: a line begins with the first byte
abbrev pub elements_in : Bool → List ℕ → ℕ
elements_in begins [] = 0
elements_in begins (b ∷ bs) = (if begins && b == 40 then 1 else 0) + elements_in (is_line_end b) bs

-- a line begins after these bytes
abbrev pub begins_after : Bool → List ℕ → Bool
begins_after begins [] = begins
begins_after begins (b ∷ bs) = begins_after (is_line_end b) bs

-- the line `elements E lines L bytes B`, which LF ends
abbrev pub summary_text : ℕ → ℕ → ℕ → List ℕ
summary_text elements lines bytes =
    codes "elements " ++ (decimal elements ++ (codes " lines " ++ (decimal lines ++ (codes " bytes " ++ (decimal bytes ++ 10 ∷ [])))))

-- THE SUMMARY of the bytes of lines
abbrev pub summary_of : List ℕ → List ℕ
summary_of bytes = summary_text (elements_in true bytes) (count_by is_line_end bytes) (length bytes)
