-- Which short reference string a text begins with: the longest one (9.6.4, 9.6.5). Strings are told by
-- their numbers.
use Rattle.std.specs.Prelude.{ℕ, ◌+◌, ◌==◌, ◌&&◌, Bool, true, false, not, if◌then◌else◌, List, [], ◌∷◌, Option, None, Some, is_some}
use Rattle.sgml_delim.specs.Answers.{Stays, Differs}
use Rattle.sgml_shortref.specs.Strings.{is_blank}
use Rattle.sgml_shortref.specs.declared.matching.Matched.{Matched}
use Rattle.sgml_shortref.specs.declared.matching.Matched.TheVariants.{String, Plain, NeedMore}
use Rattle.sgml_shortref.specs.declared.matching.Next.{Next}
use Rattle.sgml_shortref.specs.declared.matching.Next.TheVariants.{Border, RecordEnd, Other}

-- how many blanks the text begins with
abbrev pub blanks : List ℕ → ℕ
blanks [] = 0
blanks (b ∷ bytes) = if is_blank b then 1 + blanks bytes else 0

-- what stands after them
abbrev pub next_after : List ℕ → Next
next_after [] = Border
next_after (b ∷ bytes) = if is_blank b then next_after bytes else if b == 13 then RecordEnd else Other

abbrev pub is_record_end : Next → Bool
is_record_end RecordEnd = true
is_record_end _ = false

-- RS, RS B, RS RE or RS B RE, by what stands after RS; with the length
abbrev pub after_start : ℕ → Next → ℕ × ℕ
after_start k next =
    if is_record_end next then (if k == 0 then (4, 2) else (5, k + 2))
    else if k == 0 then (2, 1) else (3, k + 1)

-- B RE, BB, TAB or SPACE, by the first blank, how many stand after it, and what stands after those
abbrev pub from_blank : ℕ → ℕ → Next → ℕ × ℕ
from_blank b k next =
    if is_record_end next then (6, k + 2)
    else if k == 0 then (if b == 9 then (0, 1) else (7, 1)) else (8, k + 1)

-- a sign that is a string by itself, or RE
abbrev pub signs : List (ℕ × ℕ)
signs =
    (13, 1) ∷ (34, 9) ∷ (35, 10) ∷ (37, 11) ∷ (39, 12) ∷ (40, 13) ∷ (41, 14) ∷ (42, 15) ∷ (43, 16) ∷ (44, 17)
    ∷ (58, 20) ∷ (59, 21) ∷ (61, 22) ∷ (64, 23) ∷ (91, 24) ∷ (93, 25) ∷ (94, 26) ∷ (95, 27) ∷ (123, 28)
    ∷ (124, 29) ∷ (125, 30) ∷ (126, 31) ∷ []

abbrev pub sign_in : List (ℕ × ℕ) → ℕ → Option (ℕ × ℕ)
sign_in [] b = None
sign_in (sign ∷ more) b = if sign.0 == b then Some (sign.1, 1) else sign_in more b

abbrev pub hyphens : List ℕ → ℕ × ℕ
hyphens [] = (18, 1)
hyphens (b ∷ bytes) = if b == 45 then (19, 2) else (18, 1)

-- by whether the first byte is RS, a blank or a hyphen
abbrev pub answer_from : Bool → Bool → Bool → ℕ → List ℕ → Option (ℕ × ℕ)
answer_from true blank hyphen b bytes = Some (after_start (blanks bytes) (next_after bytes))
answer_from false true hyphen b bytes = Some (from_blank b (blanks bytes) (next_after bytes))
answer_from false false true b bytes = Some (hyphens bytes)
answer_from false false false b bytes = sign_in signs b

-- the number and the length of the string that a whole text begins with
abbrev pub answer : List ℕ → Option (ℕ × ℕ)
answer [] = None
answer (b ∷ bytes) = answer_from (b == 10) (is_blank b) (b == 45) b bytes

-- a string begins with this byte: one stands there, whatever follows
abbrev pub begins_string : ℕ → Bool
begins_string b = is_some (answer (b ∷ []))

-- the answer about a whole text is this whatever follows, or two continuations give different ones
abbrev pub Answers : Bool → (List ℕ → Option (ℕ × ℕ)) → List ℕ → Matched → Type 0
Answers ended answer bytes (String i n) = Stays ended answer bytes (Some (i, n))
Answers ended answer bytes Plain = Stays ended answer bytes None
Answers ended answer bytes NeedMore = Differs ended answer bytes

-- The same as the text is read: NeedMore where its end decides and more may follow.
abbrev pub is_border : Next → Bool
is_border Border = true
is_border _ = false

abbrev pub string_of : ℕ × ℕ → Matched
string_of s = String s.0 s.1

abbrev pub unless : Bool → Matched → Matched
unless true m = NeedMore
unless false m = m

abbrev pub matched_sign : Option (ℕ × ℕ) → Matched
matched_sign None = Plain
matched_sign (Some s) = string_of s

abbrev pub is_empty : List ℕ → Bool
is_empty [] = true
is_empty (b ∷ bytes) = false

abbrev pub matched_from : Bool → Bool → Bool → Bool → ℕ → List ℕ → Matched
matched_from true blank hyphen ended b bytes =
    unless (is_border (next_after bytes) && not ended) (string_of (after_start (blanks bytes) (next_after bytes)))
matched_from false true hyphen ended b bytes =
    unless (is_border (next_after bytes) && not ended) (string_of (from_blank b (blanks bytes) (next_after bytes)))
matched_from false false true ended b bytes = unless (is_empty bytes && not ended) (string_of (hyphens bytes))
matched_from false false false ended b bytes = matched_sign (sign_in signs b)

abbrev pub matched : Bool → List ℕ → Matched
matched ended [] = unless (not ended) Plain
matched ended (b ∷ bytes) = matched_from (b == 10) (is_blank b) (b == 45) ended b bytes
