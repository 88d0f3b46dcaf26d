-- What is recognised by verdicts in a text that may go on is told of it, and nothing else is.
use Rattle.std.proofs.Common.{◌≡◌, ℕ, Bool, true, false, List, [], ◌∷◌, ◌++◌, Option, None, Some, length, drop, refl, sym, ◌∙◌, ap, if◌then◌else◌, ◌&&◌, ◌||◌, ◌==◌, arith, eq-eqb, eqb-true}
use Rattle.sgml_syntax.specs.declared.syntax.Syntax.{Syntax}
use Rattle.sgml_delim.specs.declared.delim.Delim.{Delim}
use Rattle.sgml_delim.specs.declared.delim.Mode.{Mode}
use Rattle.sgml_delim.specs.declared.delim.Need.{Need}
use Rattle.sgml_delim.specs.declared.delim.Verdict.{Verdict}
use Rattle.sgml_delim.specs.declared.delim.Verdict.TheVariants.{Holds, Fails, Undecided}
use Rattle.sgml_delim.specs.declared.delim.Recognised.{Recognised}
use Rattle.sgml_delim.specs.declared.delim.Recognised.TheVariants as r
use Rattle.sgml_delim.specs.Tables.{string, begins, begins_by, allowed, follows, need, in_force, stands, delims, is_nothing, is_after_mdo}
use Rattle.sgml_delim.specs.Answers.{MayFollow, Decides, DecidesPrefix, Answers, is_first, answer}
use Rattle.sgml_delim.proofs.Deciding.{true-false, prefix-end, prefix-step, follows-end, minus-end-of, stands-unforced, stands-unlike, stands-inside, decides-after, first-holds, first-undecided, answers-next}
use Rattle.sgml_delim.specs.Verdicts.{prefix_verdict, follow_verdict, after_prefix, verdict, by_verdict, recognised_among, recognised}

prefix-byte : (c b : ℕ) (string bytes : List ℕ) (t : Bool) → (c == b) ≡ t → DecidesPrefix false string bytes (prefix_verdict string bytes)
    → DecidesPrefix false (c ∷ string) (b ∷ bytes) (if t then prefix_verdict string bytes else Fails)
prefix-byte c b string bytes true e h = prefix-step false c b string bytes (prefix_verdict string bytes) (eqb-true c b e) h
prefix-byte c b string bytes false e h = λ rest f. ap (λ t. t && begins string (bytes ++ rest)) e

prefix-decides : (string bytes : List ℕ) → DecidesPrefix false string bytes (prefix_verdict string bytes)
prefix-decides [] bytes = (bytes, refl)
prefix-decides (c ∷ string) [] = prefix-end false c string
prefix-decides (c ∷ string) (b ∷ bytes) = prefix-byte c b string bytes (c == b) refl (prefix-decides string bytes)

apart : {A : Type 0} (t : Bool) → t ≡ true → t ≡ false → A
apart t p q = absurd (never t p q)
  where
    never : (t : Bool) → t ≡ true → t ≡ false → ⊥
    never t p q = cc

or-third : (x y z : Bool) → (x || y) ≡ true → (x || y || z) ≡ true
or-third true y z e = refl
or-third false true z e = refl
or-third false false z e = apart false e refl

or-none : (x y z : Bool) → (x || y) ≡ false → z ≡ false → (x || y || z) ≡ false
or-none true y z e f = apart true refl e
or-none false true z e f = apart true refl e
or-none false false z e f = f

or-second : (x y : Bool) → (x || y) ≡ false → y ≡ false
or-second true y e = apart true refl e
or-second false y e = e

and-first : (x y : Bool) → (x && y) ≡ true → x ≡ true
and-first true y e = refl
and-first false y e = apart false e refl

and-second : (x y : Bool) → (x && y) ≡ true → y ≡ true
and-second true y e = e
and-second false y e = apart false e refl

turned-equal : (a b : ℕ) → (a == b) ≡ false → (b == a) ≡ false
turned-equal a b e = whether (b == a) refl
  where
    whether : (t : Bool) → (b == a) ≡ t → (b == a) ≡ false
    whether true is = apart (a == b) (eq-eqb a b (sym (eqb-true b a is))) e
    whether false is = is

and-unlike : (x y z w : Bool) → (x && y) ≡ false → (y ≡ false → z ≡ false) → (x && (z && w)) ≡ false
and-unlike true true z w e f = apart true refl e
and-unlike true false z w e f = ap (λ t. t && w) (f refl)
and-unlike false y z w e f = refl

-- what must follow, where nothing, one byte or more bytes do
follow-end : (s : Syntax) (n : Need) (t : Bool) → is_nothing n ≡ t → Decides false (follows s n) [] (if t then Holds else Undecided)
follow-end s n true e = λ rest f. ap (λ t. (t || begins_by (allowed s n) rest) || (is_after_mdo n && begins (45 ∷ 45 ∷ []) rest)) e
follow-end s n false e = follows-end false s n e

minus-undecided : (s : Syntax) (n : Need) (b : ℕ) → (is_after_mdo n && (b == 45)) ≡ true → allowed s n b ≡ false → Decides false (follows s n) (b ∷ []) Undecided
minus-undecided s n b e f =
    minus-end-of false s n (b ∷ []) (and-first (is_after_mdo n) (b == 45) e) (omega arith) (omega arith)
    (eqb-true b 45 (and-second (is_after_mdo n) (b == 45) e)) f

no-minus : (n : Need) (b : ℕ) (rest : List ℕ) → (is_after_mdo n && (b == 45)) ≡ false → (is_after_mdo n && begins (45 ∷ 45 ∷ []) (b ∷ rest)) ≡ false
no-minus n b rest e = and-unlike (is_after_mdo n) (b == 45) (45 == b) (begins (45 ∷ []) rest) e (λ f. turned-equal b 45 f)

follow-one : (s : Syntax) (n : Need) (b : ℕ) (t u : Bool) → (is_nothing n || allowed s n b) ≡ t → (is_after_mdo n && (b == 45)) ≡ u
    → Decides false (follows s n) (b ∷ []) (if t then Holds else if u then Undecided else Fails)
follow-one s n b true u e f = λ rest g. or-third (is_nothing n) (allowed s n b) (is_after_mdo n && begins (45 ∷ 45 ∷ []) (b ∷ rest)) e
follow-one s n b false true e f = minus-undecided s n b f (or-second (is_nothing n) (allowed s n b) e)
follow-one s n b false false e f = λ rest g.
    or-none (is_nothing n) (allowed s n b) (is_after_mdo n && begins (45 ∷ 45 ∷ []) (b ∷ rest)) e (no-minus n b rest f)

follow-more : (s : Syntax) (n : Need) (b c : ℕ) (bytes : List ℕ) (t : Bool) → follows s n (b ∷ c ∷ bytes) ≡ t
    → Decides false (follows s n) (b ∷ c ∷ bytes) (if t then Holds else Fails)
follow-more s n b c bytes true e = λ rest f. e
follow-more s n b c bytes false e = λ rest f. e

follow-decides : (s : Syntax) (n : Need) (bytes : List ℕ) → Decides false (follows s n) bytes (follow_verdict s n bytes)
follow-decides s n [] = follow-end s n (is_nothing n) refl
follow-decides s n (b ∷ []) = follow-one s n b (is_nothing n || allowed s n b) (is_after_mdo n && (b == 45)) refl refl
follow-decides s n (b ∷ c ∷ bytes) = follow-more s n b c bytes (follows s n (b ∷ c ∷ bytes)) refl

-- a delimiter in its context
after-prefix-decides : (s : Syntax) (m : Mode) (net : Bool) (x : Delim) (bytes : List ℕ) (v w : Verdict) → in_force s m net x ≡ true
    → DecidesPrefix false (string x) bytes v → Decides false (follows s (need m x)) (drop (length (string x)) bytes) w
    → Decides false (stands s m net x) bytes (after_prefix v w)
after-prefix-decides s m net x bytes Holds w force p q = decides-after false s m net x bytes w force p q
after-prefix-decides s m net x bytes Fails w force p q = λ rest f. stands-unlike s m net x (bytes ++ rest) (p rest f)
after-prefix-decides s m net x bytes Undecided w force p q = stands-inside false s m net x bytes force p

verdict-by : (s : Syntax) (m : Mode) (net : Bool) (x : Delim) (bytes : List ℕ) (t : Bool) → in_force s m net x ≡ t
    → Decides false (stands s m net x) bytes
    (if t then after_prefix (prefix_verdict (string x) bytes) (follow_verdict s (need m x) (drop (length (string x)) bytes)) else Fails)
verdict-by s m net x bytes true e =
    after-prefix-decides s m net x bytes (prefix_verdict (string x) bytes) (follow_verdict s (need m x) (drop (length (string x)) bytes)) e
    (prefix-decides (string x) bytes) (follow-decides s (need m x) (drop (length (string x)) bytes))
verdict-by s m net x bytes false e = λ rest f. stands-unforced s m net x (bytes ++ rest) e

verdict-decides : (s : Syntax) (m : Mode) (net : Bool) (x : Delim) (bytes : List ℕ) → Decides false (stands s m net x) bytes (verdict s m net x bytes)
verdict-decides s m net x bytes = verdict-by s m net x bytes (in_force s m net x) refl

-- the first of them
by-verdict-answers : (s : Syntax) (m : Mode) (net : Bool) (x : Delim) (xs : List Delim) (bytes : List ℕ) (v : Verdict) (others : Recognised)
    → Decides false (stands s m net x) bytes v → Answers false (is_first s m net xs) bytes others
    → Answers false (is_first s m net (x ∷ xs)) bytes (by_verdict x others v)
by-verdict-answers s m net x xs bytes Holds others d a = (refl, λ rest f. first-holds s m net x xs (bytes ++ rest) (d rest f))
by-verdict-answers s m net x xs bytes Fails others d a = answers-next false s m net x xs bytes others d a
by-verdict-answers s m net x xs bytes Undecided others d a = first-undecided false s m net x xs bytes d

among-answers : (s : Syntax) (m : Mode) (net : Bool) (xs : List Delim) (bytes : List ℕ) → Answers false (is_first s m net xs) bytes (recognised_among s m net xs bytes)
among-answers s m net [] bytes = λ rest f. refl
among-answers s m net (x ∷ xs) bytes =
    by-verdict-answers s m net x xs bytes (verdict s m net x bytes) (recognised_among s m net xs bytes)
    (verdict-decides s m net x bytes) (among-answers s m net xs bytes)

pub recognised-answers : (s : Syntax) (m : Mode) (net : Bool) (bytes : List ℕ) → Answers false (answer s m net) bytes (recognised s m net bytes)
unfolding recognised
recognised-answers s m net bytes = among-answers s m net (delims m) bytes

-- ONE ANSWER holds of a text

free : {ended : Bool} → ended ≡ false → (rest : List ℕ) → MayFollow ended rest
free e rest = λ t. absurd (true-false (sym e ∙ t))

-- answers about one text are one
some-same : (x y : Delim) (o : Option Delim) → o ≡ Some x → o ≡ Some y → x ≡ y
some-same x y o e f = cc

some-none : {A : Type 0} (x : Delim) (o : Option Delim) → o ≡ Some x → o ≡ None → A
some-none x o e f = absurd (not-some-and-none e f)
  where
    not-some-and-none : o ≡ Some x → o ≡ None → ⊥
    not-some-and-none e f = cc

found-same : (x y : Delim) (n k : ℕ) → x ≡ y → n ≡ length (string x) → k ≡ length (string y) → r.Found x n ≡ r.Found y k
found-same x y n k e f g =
    ap (λ z. r.Found z n) e ∙ ap (r.Found y) (f ∙ ap (λ z. length (string z)) e ∙ sym g)

pub recognised-one : (ended : Bool) (f : List ℕ → Option Delim) (bytes : List ℕ) (a b : Recognised)
    → Answers ended f bytes a → Answers ended f bytes b → a ≡ b
recognised-one ended f bytes (r.Found x n) (r.Found y k) g h =
    found-same x y n k (some-same x y (f (bytes ++ [])) (g.1 [] (λ t. refl)) (h.1 [] (λ t. refl))) g.0 h.0
recognised-one ended f bytes (r.Found x n) r.Plain g h = some-none x (f (bytes ++ [])) (g.1 [] (λ t. refl)) (h [] (λ t. refl))
recognised-one ended f bytes r.Plain (r.Found x n) g h = some-none x (f (bytes ++ [])) (h.1 [] (λ t. refl)) (g [] (λ t. refl))
recognised-one ended f bytes r.Plain r.Plain g h = refl
recognised-one ended f bytes r.NeedMore r.NeedMore g h = refl
recognised-one ended f bytes (r.Found x n) r.NeedMore g h =
    absurd (h.differ (g.1 h.one (free h.goes_on h.one) ∙ sym (g.1 h.other (free h.goes_on h.other))))
recognised-one ended f bytes r.NeedMore (r.Found x n) g h =
    absurd (g.differ (h.1 g.one (free g.goes_on g.one) ∙ sym (h.1 g.other (free g.goes_on g.other))))
recognised-one ended f bytes r.Plain r.NeedMore g h =
    absurd (h.differ (g h.one (free h.goes_on h.one) ∙ sym (g h.other (free h.goes_on h.other))))
recognised-one ended f bytes r.NeedMore r.Plain g h =
    absurd (g.differ (h g.one (free g.goes_on g.one) ∙ sym (h g.other (free g.goes_on g.other))))
