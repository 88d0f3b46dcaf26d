-- What is matched in a text stays whatever follows, or two continuations differ.
use Rattle.std.proofs.Common.{arith, ◌∙◌, ap, sym, refl, ◌≡◌, ◌+◌, ◌==◌, ◌&&◌, not, ℕ, Bool, true, false, if◌then◌else◌, List, [], ◌∷◌, ◌++◌, append-nil, Option, Some, None}
use Rattle.sgml_delim.specs.Answers.{MayFollow}
use Rattle.sgml_shortref.specs.Strings.{is_blank}
use Rattle.sgml_shortref.specs.Matches.{blanks, next_after, is_border, is_empty, after_start, from_blank, hyphens, sign_in, signs, answer_from, answer, Answers, string_of, unless, matched_sign, matched_from, matched}
use Rattle.sgml_shortref.specs.declared.matching.Matched.{Matched}
use Rattle.sgml_shortref.specs.declared.matching.Matched.TheVariants.{String, Plain, NeedMore}
use Rattle.sgml_shortref.specs.declared.matching.Next.{Next}
use Rattle.sgml_shortref.specs.declared.matching.Next.TheVariants.{Border, RecordEnd, Other}

false-true : {b : Bool} → b ≡ false → b ≡ true → ⊥
false-true p q = cc

abbrev first : ℕ × ℕ → ℕ
first p = p.0

abbrev number : Option (ℕ × ℕ) → ℕ
number (Some s) = s.0
number None = 0

-- the run of blanks in a longer text
sign-no-border : (t : Bool) → is_border (if t then RecordEnd else Other) ≡ false
sign-no-border true = refl
sign-no-border false = refl

stays-by : (t : Bool) (b : ℕ) (bytes rest : List ℕ) → is_border (if t then next_after bytes else if b == 13 then RecordEnd else Other) ≡ false
    → (is_border (next_after bytes) ≡ false → (blanks (bytes ++ rest) ≡ blanks bytes) × (next_after (bytes ++ rest) ≡ next_after bytes))
    → ((if t then 1 + blanks (bytes ++ rest) else 0) ≡ (if t then 1 + blanks bytes else 0))
    × ((if t then next_after (bytes ++ rest) else if b == 13 then RecordEnd else Other) ≡ (if t then next_after bytes else if b == 13 then RecordEnd else Other))
stays-by true b bytes rest e more = (ap (λ n. 1 + n) (more e).0, (more e).1)
stays-by false b bytes rest e more = (refl, refl)

run-stays : (bytes rest : List ℕ) → is_border (next_after bytes) ≡ false
    → (blanks (bytes ++ rest) ≡ blanks bytes) × (next_after (bytes ++ rest) ≡ next_after bytes)
run-stays [] rest e = absurd (false-true e refl)
run-stays (b ∷ bytes) rest e = stays-by (is_blank b) b bytes rest e (λ h. run-stays bytes rest h)

ends-by : (t : Bool) (b : ℕ) (bytes : List ℕ) → is_border (if t then next_after bytes else if b == 13 then RecordEnd else Other) ≡ true
    → (is_border (next_after bytes) ≡ true → (blanks (bytes ++ (13 ∷ [])) ≡ blanks bytes) × (next_after (bytes ++ (13 ∷ [])) ≡ RecordEnd))
    → ((if t then 1 + blanks (bytes ++ (13 ∷ [])) else 0) ≡ (if t then 1 + blanks bytes else 0))
    × ((if t then next_after (bytes ++ (13 ∷ [])) else if b == 13 then RecordEnd else Other) ≡ RecordEnd)
ends-by true b bytes e more = (ap (λ n. 1 + n) (more e).0, (more e).1)
ends-by false b bytes e more = absurd (false-true (sign-no-border (b == 13)) e)

run-ends : (bytes : List ℕ) → is_border (next_after bytes) ≡ true
    → (blanks (bytes ++ (13 ∷ [])) ≡ blanks bytes) × (next_after (bytes ++ (13 ∷ [])) ≡ RecordEnd)
run-ends [] e = (refl, refl)
run-ends (b ∷ bytes) e = ends-by (is_blank b) b bytes e (λ h. run-ends bytes h)

border-is : (next : Next) → is_border next ≡ true → next ≡ Border
border-is Border e = refl
border-is RecordEnd e = absurd (false-true refl e)
border-is Other e = absurd (false-true refl e)

-- a string that a run of blanks and what stands after it give
abbrev of-run : (ℕ → Next → ℕ × ℕ) → List ℕ → Option (ℕ × ℕ)
of-run f bytes = Some (f (blanks bytes) (next_after bytes))

run-answers-by : (f : ℕ → Next → ℕ × ℕ) → ((k : ℕ) → (f k Border).0 ≡ (f k RecordEnd).0 → ⊥)
    → (ended : Bool) (bytes : List ℕ) (t : Bool) → is_border (next_after bytes) ≡ t
    → Answers ended (of-run f) bytes (unless (t && not ended) (string_of (f (blanks bytes) (next_after bytes))))
run-answers-by f differs ended bytes false e = λ rest h.
    let stays = run-stays bytes rest e in
    ap (λ k. Some (f k (next_after (bytes ++ rest)))) stays.0 ∙ ap (λ next. Some (f (blanks bytes) next)) stays.1
run-answers-by f differs true bytes true e = λ rest h.
    ap (λ r. of-run f (bytes ++ r)) (h refl) ∙ ap (of-run f) (append-nil bytes)
run-answers-by f differs false bytes true e = record {
  goes_on = refl;
  one = [];
  other = 13 ∷ [];
  differ = λ same.
      let ends = run-ends bytes e in
      differs (blanks bytes)
      (ap (λ next. (f (blanks bytes) next).0) (sym (border-is (next_after bytes) e))
      ∙ ap (λ r. number (of-run f r)) (sym (append-nil bytes))
      ∙ ap number same
      ∙ ap (λ k. (f k (next_after (bytes ++ (13 ∷ [])))).0) ends.0
      ∙ ap (λ next. (f (blanks bytes) next).0) ends.1);
}

start-differs-by : (t : Bool) (k : ℕ) → first (if t then (2, 1) else (3, k + 1)) ≡ first (if t then (4, 2) else (5, k + 2)) → ⊥
start-differs-by true k e = omega arith
start-differs-by false k e = omega arith

start-differs : (k : ℕ) → (after_start k Border).0 ≡ (after_start k RecordEnd).0 → ⊥
start-differs k e = start-differs-by (k == 0) k e

blank-differs-by : (t u : Bool) (k : ℕ) → first (if t then (if u then (0, 1) else (7, 1)) else (8, k + 1)) ≡ 6 → ⊥
blank-differs-by true true k e = omega arith
blank-differs-by true false k e = omega arith
blank-differs-by false u k e = omega arith

blank-differs : (b k : ℕ) → (from_blank b k Border).0 ≡ (from_blank b k RecordEnd).0 → ⊥
blank-differs b k e = blank-differs-by (k == 0) (b == 9) k e

hyphens-answers : (ended : Bool) (bytes : List ℕ)
    → Answers ended (λ xs. Some (hyphens xs)) bytes (unless (is_empty bytes && not ended) (string_of (hyphens bytes)))
hyphens-answers true [] = λ rest h. ap (λ r. Some (hyphens r)) (h refl)
hyphens-answers false [] = record {
  goes_on = refl;
  one = [];
  other = 45 ∷ [];
  differ = λ same. let e : 18 ≡ 19 = ap number same in omega arith;
}
hyphens-answers ended (b ∷ bytes) = λ rest h. refl

sign-answers : (ended : Bool) (bytes : List ℕ) (o : Option (ℕ × ℕ)) → Answers ended (λ xs. o) bytes (matched_sign o)
sign-answers ended bytes None = λ rest h. refl
sign-answers ended bytes (Some s) = λ rest h. refl

from-answers : (start blank hyphen ended : Bool) (b : ℕ) (bytes : List ℕ)
    → Answers ended (answer_from start blank hyphen b) bytes (matched_from start blank hyphen ended b bytes)
from-answers true blank hyphen ended b bytes =
    run-answers-by after_start start-differs ended bytes (is_border (next_after bytes)) refl
from-answers false true hyphen ended b bytes =
    run-answers-by (from_blank b) (blank-differs b) ended bytes (is_border (next_after bytes)) refl
from-answers false false true ended b bytes = hyphens-answers ended bytes
from-answers false false false ended b bytes = sign-answers ended bytes (sign_in signs b)

head-answers : (ended : Bool) (b : ℕ) (bytes : List ℕ) (m : Matched)
    → Answers ended (answer_from (b == 10) (is_blank b) (b == 45) b) bytes m → Answers ended answer (b ∷ bytes) m
head-answers ended b bytes (String i n) a = λ rest h. a rest h
head-answers ended b bytes Plain a = λ rest h. a rest h
head-answers ended b bytes NeedMore a = record { goes_on = a.goes_on; one = a.one; other = a.other; differ = λ e. a.differ e }

none-some : (y : ℕ × ℕ) (o : Option (ℕ × ℕ)) → o ≡ None → o ≡ Some y → ⊥
none-some y o d e = cc

pub matched-answers : (ended : Bool) (bytes : List ℕ) → Answers ended answer bytes (matched ended bytes)
matched-answers true [] = λ rest h. ap answer (h refl)
matched-answers false [] = record {
  goes_on = refl;
  one = [];
  other = 13 ∷ [];
  differ = λ same. none-some (1, 1) (answer []) refl same;
}
matched-answers ended (b ∷ bytes) =
    head-answers ended b bytes (matched_from (b == 10) (is_blank b) (b == 45) ended b bytes)
    (from-answers (b == 10) (is_blank b) (b == 45) ended b bytes)

-- ONE ANSWER holds of a text

free : {ended : Bool} → ended ≡ false → (rest : List ℕ) → MayFollow ended rest
free e rest = λ t. absurd (false-true e t)

pair-same : (i n j k : ℕ) (o : Option (ℕ × ℕ)) → o ≡ Some (i, n) → o ≡ Some (j, k) → String i n ≡ String j k
pair-same i n j k o e f = ap (λ x. of_option x) (sym e ∙ f)
  where
    of_option : Option (ℕ × ℕ) → Matched
    of_option None = Plain
    of_option (Some p) = String p.0 p.1

pair-none : {A : Type 0} (i n : ℕ) (o : Option (ℕ × ℕ)) → o ≡ Some (i, n) → o ≡ None → A
pair-none i n o e f = absurd (not-some-and-none e f)
  where
    not-some-and-none : o ≡ Some (i, n) → o ≡ None → ⊥
    not-some-and-none e f = cc

pub answers-one : (ended : Bool) (f : List ℕ → Option (ℕ × ℕ)) (bytes : List ℕ) (a b : Matched)
    → Answers ended f bytes a → Answers ended f bytes b → a ≡ b
answers-one ended f bytes (String i n) (String j k) g h =
    pair-same i n j k (f (bytes ++ [])) (g [] (λ t. refl)) (h [] (λ t. refl))
answers-one ended f bytes (String i n) Plain g h = pair-none i n (f (bytes ++ [])) (g [] (λ t. refl)) (h [] (λ t. refl))
answers-one ended f bytes Plain (String i n) g h = pair-none i n (f (bytes ++ [])) (h [] (λ t. refl)) (g [] (λ t. refl))
answers-one ended f bytes Plain Plain g h = refl
answers-one ended f bytes NeedMore NeedMore g h = refl
answers-one ended f bytes (String i n) NeedMore g h =
    absurd (h.differ (g h.one (free h.goes_on h.one) ∙ sym (g h.other (free h.goes_on h.other))))
answers-one ended f bytes NeedMore (String i n) g h =
    absurd (g.differ (h g.one (free g.goes_on g.one) ∙ sym (h g.other (free g.goes_on g.other))))
answers-one ended f bytes Plain NeedMore g h =
    absurd (h.differ (g h.one (free h.goes_on h.one) ∙ sym (g h.other (free h.goes_on h.other))))
answers-one ended f bytes NeedMore Plain g h =
    absurd (g.differ (h g.one (free g.goes_on g.one) ∙ sym (h g.other (free g.goes_on g.other))))
