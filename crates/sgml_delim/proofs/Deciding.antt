-- What is decided of a text, from its parts.
use Rattle.std.proofs.Common.{◌≡◌, ℕ, Bool, true, false, List, [], ◌∷◌, ◌++◌, Option, None, Some, length, drop, refl, sym, ◌∙◌, ap, subst, if◌then◌else◌, ◌&&◌, ◌||◌, ◌==◌, arith, eq-eqb, ◌<◌, ◌≤◌, slice_index_or, take, ◌-◌, not, min}
use Rattle.std.proofs.lemmas.Bool.{eqb-true}
use Rattle.std.proofs.lemmas.List.{append-nil, append_assoc, length-drop, drop_min}
use Rattle.std.proofs.Math.Seq.{drop-append_seam, take-length}
use Rattle.sgml_syntax.specs.declared.syntax.Syntax.{Syntax}
use Rattle.sgml_delim.specs.declared.delim.Delim.{Delim}
use Rattle.sgml_delim.specs.declared.delim.Delim.TheVariants as d
use Rattle.sgml_delim.specs.declared.delim.Mode.{Mode}
use Rattle.sgml_delim.specs.declared.delim.Need.{Need}
use Rattle.sgml_delim.specs.declared.delim.Need.TheVariants.{Nothing, NameStart, NameStartOrTagc, NameStartOrDigit, AfterMdo, Mdc, Dso}
use Rattle.sgml_delim.specs.declared.delim.Verdict.{Verdict}
use Rattle.sgml_delim.specs.declared.delim.Verdict.TheVariants.{Holds, Fails, Undecided}
use Rattle.sgml_delim.specs.declared.delim.Recognised.{Recognised}
use Rattle.sgml_delim.specs.declared.delim.Recognised.TheVariants.{Found, Plain, NeedMore}
use Rattle.sgml_delim.specs.Tables.{string, begins, allowed, follows, need, in_force, stands, delims, first_that, is_nothing, is_after_mdo, differs, first_bytes, is_among, begins_plain}
use Rattle.sgml_delim.specs.Answers.{MayFollow, IsUndecided, Decides, EndsInside, DecidesPrefix, undecided, Differs, Answers, is_first, answer}

-- Where nothing more comes a test fails, and with one continuation it holds.
pub decides-end : (ended : Bool) (test : List ℕ → Bool) (bytes w : List ℕ)
    → test bytes ≡ false → test (bytes ++ w) ≡ true → Decides ended test bytes (undecided ended)
decides-end true test bytes w not met =
    λ rest h. ap (λ r. test (bytes ++ r)) (h refl) ∙ ap test (append-nil bytes) ∙ not
decides-end false test bytes w not met = record {
  goes_on = refl;
  holds = (w, met);
  fails = ([], ap test (append-nil bytes) ∙ not);
}

pub prefix-end : (ended : Bool) (s : ℕ) (ss : List ℕ) → DecidesPrefix ended (s ∷ ss) [] (undecided ended)
prefix-end true s ss = λ rest h. ap (λ r. begins (s ∷ ss) r) (h refl)
prefix-end false s ss = record { goes_on = refl; first = s; more = ss; is = refl }

begins-cons : (s b : ℕ) (ss bs : List ℕ) → s ≡ b → begins (s ∷ ss) (b ∷ bs) ≡ begins ss bs
begins-cons s b ss bs e = ap (λ t. t && begins ss bs) (eq-eqb s b e)

pub prefix-step : (ended : Bool) (s b : ℕ) (ss bs : List ℕ) (v : Verdict) → s ≡ b
    → DecidesPrefix ended ss bs v → DecidesPrefix ended (s ∷ ss) (b ∷ bs) v
prefix-step ended s b ss bs Holds e (more, is) =
    (more, ap (λ x. x ∷ bs) (sym e) ∙ ap (λ r. s ∷ r) is)
prefix-step ended s b ss bs Fails e fails = λ rest h. begins-cons s b ss (bs ++ rest) e ∙ fails rest h
prefix-step ended s b ss bs Undecided e i = record {
  goes_on = i.goes_on;
  first = i.first;
  more = i.more;
  is = ap (λ x. x ∷ ss) e ∙ ap (λ r. b ∷ r) i.is;
}

-- Each need has a text that meets it.
witness : Need → List ℕ
witness Nothing = []
witness NameStart = 97 ∷ []
witness NameStartOrTagc = 97 ∷ []
witness NameStartOrDigit = 97 ∷ []
witness AfterMdo = 97 ∷ []
witness Mdc = 62 ∷ []
witness Dso = 91 ∷ []

witness-follows : (s : Syntax) (n : Need) → follows s n (witness n) ≡ true
unfolding witness
witness-follows s Nothing = refl
witness-follows s NameStart = refl
witness-follows s NameStartOrTagc = refl
witness-follows s NameStartOrDigit = refl
witness-follows s AfterMdo = refl
witness-follows s Mdc = refl
witness-follows s Dso = refl

nothing-empty : (s : Syntax) (n : Need) → is_nothing n ≡ false → follows s n [] ≡ false
nothing-empty s Nothing e = cc
nothing-empty s NameStart e = refl
nothing-empty s NameStartOrTagc e = refl
nothing-empty s NameStartOrDigit e = refl
nothing-empty s AfterMdo e = refl
nothing-empty s Mdc e = refl
nothing-empty s Dso e = refl

pub follows-end : (ended : Bool) (s : Syntax) (n : Need) → is_nothing n ≡ false
    → Decides ended (follows s n) [] (undecided ended)
follows-end ended s n e =
    decides-end ended (follows s n) [] (witness n) (nothing-empty s n e) (witness-follows s n)

-- a first minus after which the second is missing
pub minus-end : (ended : Bool) (s : Syntax) → allowed s AfterMdo 45 ≡ false
    → Decides ended (follows s AfterMdo) (45 ∷ []) (undecided ended)
minus-end ended s e =
    decides-end ended (follows s AfterMdo) (45 ∷ []) (45 ∷ [])
    (ap (λ t. t || false) e) (ap (λ t. t || true) e)

and-false : (a : Bool) → (a && false) ≡ false
and-false true = refl
and-false false = refl

pub begins-self : (s more : List ℕ) → begins s (s ++ more) ≡ true
begins-self [] more = refl
begins-self (x ∷ s) more = ap (λ t. t && begins s (s ++ more)) (eq-eqb x x refl) ∙ begins-self s more

pub begins-short : (bytes : List ℕ) (x : ℕ) (more : List ℕ) → begins (bytes ++ (x ∷ more)) bytes ≡ false
begins-short [] x more = refl
begins-short (b ∷ bytes) x more = ap (λ t. t && begins (bytes ++ (x ∷ more)) bytes) (eq-eqb b b refl) ∙ begins-short bytes x more

pub stands-unforced : (s : Syntax) (m : Mode) (net : Bool) (x : Delim) (bytes : List ℕ)
    → in_force s m net x ≡ false → stands s m net x bytes ≡ false
unfolding stands
stands-unforced s m net x bytes e =
    ap (λ t. t && begins (string x) bytes && follows s (need m x) (drop (length (string x)) bytes)) e

pub stands-unlike : (s : Syntax) (m : Mode) (net : Bool) (x : Delim) (bytes : List ℕ)
    → begins (string x) bytes ≡ false → stands s m net x bytes ≡ false
unfolding stands
stands-unlike s m net x bytes e =
    ap (λ t. in_force s m net x && t && follows s (need m x) (drop (length (string x)) bytes)) e
    ∙ ap (λ t. t && follows s (need m x) (drop (length (string x)) bytes)) (and-false (in_force s m net x))

pub stands-like : (s : Syntax) (m : Mode) (net : Bool) (x : Delim) (more : List ℕ)
    → in_force s m net x ≡ true → stands s m net x (string x ++ more) ≡ follows s (need m x) more
unfolding stands
stands-like s m net x more e =
    ap (λ t. t && begins (string x) (string x ++ more) && follows s (need m x) (drop (length (string x)) (string x ++ more))) e
    ∙ ap (λ t. t && follows s (need m x) (drop (length (string x)) (string x ++ more))) (begins-self (string x) more)
    ∙ ap (λ t. follows s (need m x) t) (drop-append_seam (string x) more)

-- The string begins here and isn't whole.
pub stands-inside : (ended : Bool) (s : Syntax) (m : Mode) (net : Bool) (x : Delim) (bytes : List ℕ)
    → in_force s m net x ≡ true → EndsInside ended (string x) bytes → IsUndecided ended (stands s m net x) bytes
stands-inside ended s m net x bytes force i = record {
  goes_on = i.goes_on;
  holds = (
    (i.first ∷ i.more) ++ witness (need m x),
    ap (stands s m net x) (sym (append_assoc bytes (i.first ∷ i.more) (witness (need m x))) ∙ ap (λ t. t ++ witness (need m x)) (sym i.is))
        ∙ stands-like s m net x (witness (need m x)) force
        ∙ witness-follows s (need m x),
  );
  fails = (
    [],
    ap (stands s m net x) (append-nil bytes)
        ∙ stands-unlike s m net x bytes (ap (λ t. begins t bytes) i.is ∙ begins-short bytes i.first i.more),
  );
}

like-rest : (s : Syntax) (m : Mode) (net : Bool) (x : Delim) (bytes more rest : List ℕ)
    → in_force s m net x ≡ true → bytes ≡ string x ++ more
    → stands s m net x (bytes ++ rest) ≡ follows s (need m x) (more ++ rest)
like-rest s m net x bytes more rest force is =
    ap (stands s m net x) (ap (λ t. t ++ rest) is ∙ append_assoc (string x) more rest)
    ∙ stands-like s m net x (more ++ rest) force

-- The string is there, and what follows decides.
decides-more : (ended : Bool) (s : Syntax) (m : Mode) (net : Bool) (x : Delim) (bytes more : List ℕ) (v : Verdict)
    → in_force s m net x ≡ true → bytes ≡ string x ++ more
    → Decides ended (follows s (need m x)) more v → Decides ended (stands s m net x) bytes v
decides-more ended s m net x bytes more Holds force is d =
    λ rest h. like-rest s m net x bytes more rest force is ∙ d rest h
decides-more ended s m net x bytes more Fails force is d =
    λ rest h. like-rest s m net x bytes more rest force is ∙ d rest h
decides-more ended s m net x bytes more Undecided force is d = record {
  goes_on = d.goes_on;
  holds = (d.holds.0, like-rest s m net x bytes more d.holds.0 force is ∙ d.holds.1);
  fails = (d.fails.0, like-rest s m net x bytes more d.fails.0 force is ∙ d.fails.1);
}

pub decides-after : (ended : Bool) (s : Syntax) (m : Mode) (net : Bool) (x : Delim) (bytes : List ℕ) (v : Verdict)
    → in_force s m net x ≡ true → (more : List ℕ) × (bytes ≡ string x ++ more)
    → Decides ended (follows s (need m x)) (drop (length (string x)) bytes) v → Decides ended (stands s m net x) bytes v
decides-after ended s m net x bytes v force (more, is) d =
    decides-more ended s m net x bytes more v force is
    (subst (λ r. Decides ended (follows s (need m x)) r v) (ap (drop (length (string x))) is ∙ drop-append_seam (string x) more) d)

-- The first of a list stands.
pub first-holds : (s : Syntax) (m : Mode) (net : Bool) (x : Delim) (xs : List Delim) (bytes : List ℕ)
    → stands s m net x bytes ≡ true → is_first s m net (x ∷ xs) bytes ≡ Some x
first-holds s m net x xs bytes e = ap (λ t. if t then Some x else is_first s m net xs bytes) e

pub first-fails : (s : Syntax) (m : Mode) (net : Bool) (x : Delim) (xs : List Delim) (bytes : List ℕ)
    → stands s m net x bytes ≡ false → is_first s m net (x ∷ xs) bytes ≡ is_first s m net xs bytes
first-fails s m net x xs bytes e = ap (λ t. if t then Some x else is_first s m net xs bytes) e

pub nil-of : {A : Type 0} (xs : List A) → length xs < 1 → xs ≡ []
nil-of [] h = refl
nil-of (x ∷ xs) h = absurd (omega arith)

pub head-drop : {A : Type 0} (xs : List A) (d : A) → 1 ≤ length xs → xs ≡ slice_index_or xs 0 d ∷ drop 1 xs
head-drop [] d h = absurd (omega arith)
head-drop (x ∷ xs) d h = refl

pub prefix-end-of : (ended : Bool) (string bytes : List ℕ) → 1 ≤ length string → length bytes < 1
    → DecidesPrefix ended string bytes (undecided ended)
prefix-end-of ended [] bytes l h = absurd (omega arith)
prefix-end-of ended (s ∷ ss) [] l h = prefix-end ended s ss
prefix-end-of ended (s ∷ ss) (b ∷ bs) l h = absurd (omega arith)

-- One more of the list, which fails.
answers-along : (ended : Bool) (f g : List ℕ → Option Delim) (bytes : List ℕ) (r : Recognised)
    → ((rest : List ℕ) → MayFollow ended rest → f (bytes ++ rest) ≡ g (bytes ++ rest))
    → Answers ended g bytes r → Answers ended f bytes r
answers-along ended f g bytes (Found x n) same a = (a.0, λ rest h. same rest h ∙ a.1 rest h)
answers-along ended f g bytes Plain same a = λ rest h. same rest h ∙ a rest h
answers-along ended f g bytes NeedMore same a = record {
  goes_on = a.goes_on;
  one = a.one;
  other = a.other;
  differ = λ e. a.differ
      (sym (same a.one (λ t. absurd (cc-false a.goes_on t))) ∙ e ∙ same a.other (λ t. absurd (cc-false a.goes_on t)));
}
  where
    cc-false : {b : Bool} → b ≡ false → b ≡ true → ⊥
    cc-false p q = cc

pub answers-next : (ended : Bool) (s : Syntax) (m : Mode) (net : Bool) (x : Delim) (xs : List Delim) (bytes : List ℕ) (r : Recognised)
    → ((rest : List ℕ) → MayFollow ended rest → stands s m net x (bytes ++ rest) ≡ false)
    → Answers ended (is_first s m net xs) bytes r → Answers ended (is_first s m net (x ∷ xs)) bytes r
answers-next ended s m net x xs bytes r not =
    answers-along ended (is_first s m net (x ∷ xs)) (is_first s m net xs) bytes r
    (λ rest h. first-fails s m net x xs (bytes ++ rest) (not rest h))

pub some-is : (x y : Delim) → Some y ≡ Some x → y ≡ x
some-is x y e = ap (λ o. some_or o) e
  where
    some_or : Option Delim → Delim
    some_or (Some z) = z
    some_or None = x

first-stands-step : (test : Delim → Bool) (x y : Delim) (b : Bool) (r : Option Delim) → test y ≡ b
    → (r ≡ Some x → test x ≡ true) → (if b then Some y else r) ≡ Some x → test x ≡ true
first-stands-step test x y true r e more h = ap test (sym (some-is x y h)) ∙ e
first-stands-step test x y false r e more h = more h

none-some : (y : Delim) (o : Option Delim) → o ≡ None → o ≡ Some y → ⊥
none-some y o d e = cc

pub first-stands : (test : Delim → Bool) (x : Delim) (xs : List Delim) → first_that test xs ≡ Some x → test x ≡ true
first-stands test x [] e = absurd (none-some x (first_that test []) refl e)
first-stands test x (y ∷ ys) e =
    first-stands-step test x y (test y) (first_that test ys) refl (λ h. first-stands test x ys h) e

pub first-undecided : (ended : Bool) (s : Syntax) (m : Mode) (net : Bool) (x : Delim) (xs : List Delim) (bytes : List ℕ)
    → IsUndecided ended (stands s m net x) bytes → Differs ended (is_first s m net (x ∷ xs)) bytes
first-undecided ended s m net x xs bytes u = record {
  goes_on = u.goes_on;
  one = u.holds.0;
  other = u.fails.0;
  differ = λ e. not-true-and-false
      (first-stands (λ y. stands s m net y (bytes ++ u.fails.0)) x (x ∷ xs)
      (sym e ∙ first-holds s m net x xs (bytes ++ u.holds.0) u.holds.1))
      u.fails.1;
}
  where
    not-true-and-false : {b : Bool} → b ≡ true → b ≡ false → ⊥
    not-true-and-false p q = cc

pub follows-end-of : (ended : Bool) (s : Syntax) (n : Need) (bytes : List ℕ) → (n ≡ Nothing → ⊥) → length bytes < 1
    → Decides ended (follows s n) bytes (undecided ended)
follows-end-of ended s Nothing bytes e h = absurd (e refl)
follows-end-of ended s NameStart [] e h = follows-end ended s NameStart refl
follows-end-of ended s NameStartOrTagc [] e h = follows-end ended s NameStartOrTagc refl
follows-end-of ended s NameStartOrDigit [] e h = follows-end ended s NameStartOrDigit refl
follows-end-of ended s AfterMdo [] e h = follows-end ended s AfterMdo refl
follows-end-of ended s Mdc [] e h = follows-end ended s Mdc refl
follows-end-of ended s Dso [] e h = follows-end ended s Dso refl
follows-end-of ended s n (b ∷ bytes) e h = absurd (omega arith)

pub true-false : false ≡ true → ⊥
true-false e = cc

pub minus-end-of : (ended : Bool) (s : Syntax) (n : Need) (bytes : List ℕ) → is_after_mdo n ≡ true
    → 1 ≤ length bytes → length bytes < 2 → slice_index_or bytes 0 0 ≡ 45 → allowed s n (slice_index_or bytes 0 0) ≡ false
    → Decides ended (follows s n) bytes (undecided ended)
minus-end-of ended s AfterMdo [] e l h is not = absurd (omega arith)
minus-end-of ended s AfterMdo (b ∷ []) e l h is not =
    subst (λ x. Decides ended (follows s AfterMdo) (x ∷ []) (undecided ended)) (sym is)
    (minus-end ended s (ap (allowed s AfterMdo) (sym is) ∙ not))
minus-end-of ended s AfterMdo (b ∷ c ∷ bytes) e l h is not = absurd (omega arith)
minus-end-of ended s Nothing bytes e l h is not = absurd (true-false e)
minus-end-of ended s NameStart bytes e l h is not = absurd (true-false e)
minus-end-of ended s NameStartOrTagc bytes e l h is not = absurd (true-false e)
minus-end-of ended s NameStartOrDigit bytes e l h is not = absurd (true-false e)
minus-end-of ended s Mdc bytes e l h is not = absurd (true-false e)
minus-end-of ended s Dso bytes e l h is not = absurd (true-false e)

pub rest-of : {A : Type 0} (k : ℕ) (xs : List A) → take (length xs - k) (drop k xs) ≡ drop k xs
rest-of k xs = ap (λ n. take n (drop k xs)) (sym (length-drop k xs)) ∙ take-length (drop k xs)

-- the rest of a text from a place, which may lie past it
pub rest-from : (at m : ℕ) (text : List ℕ) → m ≡ min at (length text) → take (length text - m) (drop m text) ≡ drop at text
rest-from at m text e = rest-of m text ∙ ap (λ k. drop k text) e ∙ drop_min at text

pub and-right : (a b : Bool) → (a && b) ≡ true → b ≡ true
and-right true b e = e
and-right false b e = absurd (true-false e)

pub and-left : (a b : Bool) → (a && b) ≡ true → a ≡ true
and-left true b e = refl
and-left false b e = absurd (true-false e)

begins-length : (s bytes : List ℕ) → begins s bytes ≡ true → length s ≤ length bytes
begins-length [] bytes e = omega arith
begins-length (x ∷ s) [] e = absurd (true-false e)
begins-length (x ∷ s) (b ∷ bytes) e =
    let h : length s ≤ length bytes = begins-length s bytes (and-right (x == b) (begins s bytes) e) in
    omega arith

pub stands-length : (s : Syntax) (m : Mode) (net : Bool) (x : Delim) (bytes : List ℕ)
    → stands s m net x bytes ≡ true → length (string x) ≤ length bytes
unfolding stands
stands-length s m net x bytes e =
    let f = in_force s m net x in
    let g = begins (string x) bytes in
    begins-length (string x) bytes
    (and-right f g (and-left (f && g) (follows s (need m x) (drop (length (string x)) bytes)) e))

-- A delimiter that was found lies in the text.
pub found-length : (s : Syntax) (m : Mode) (net ended : Bool) (bytes : List ℕ) (x : Delim) (n : ℕ)
    → Answers ended (answer s m net) bytes (Found x n) → length (string x) ≤ length bytes
found-length s m net ended bytes x n a =
    stands-length s m net x bytes
    (first-stands (λ y. stands s m net y bytes) x (delims m)
    (ap (answer s m net) (sym (append-nil bytes)) ∙ a.1 [] (λ t. refl)))

-- A text that begins with no delimiter of a list.
pub first-none : (s : Syntax) (m : Mode) (net : Bool) (x : Delim) (xs : List Delim) (bytes : List ℕ)
    → stands s m net x bytes ≡ false → is_first s m net xs bytes ≡ None → is_first s m net (x ∷ xs) bytes ≡ None
first-none s m net x xs bytes e h = first-fails s m net x xs bytes e ∙ h

pub begins-other : (c b : ℕ) (cs bs : List ℕ) → (c == b) ≡ false → begins (c ∷ cs) (b ∷ bs) ≡ false
begins-other c b cs bs e = ap (λ t. t && begins cs bs) e

-- None of these delimiters stands.
abbrev pub NoneStand : Syntax → Mode → Bool → List ℕ → List Delim → Type 0
NoneStand s m net bytes [] = Unit {0}
NoneStand s m net bytes (x ∷ xs) = (stands s m net x bytes ≡ false) × NoneStand s m net bytes xs

pub none-stand : (s : Syntax) (m : Mode) (net : Bool) (bytes : List ℕ) (xs : List Delim) → NoneStand s m net bytes xs
    → is_first s m net xs bytes ≡ None
none-stand s m net bytes [] h = refl
none-stand s m net bytes (x ∷ xs) h = first-none s m net x xs bytes h.0 (none-stand s m net bytes xs h.1)

begins-differs : (string bytes : List ℕ) → differs string bytes ≡ true → begins string bytes ≡ false
begins-differs string [] e = absurd (true-false e)
begins-differs [] (b ∷ bytes) e = absurd (true-false e)
begins-differs (s ∷ string) (b ∷ bytes) e = not-begins (s == b) e
  where
    not-begins : (t : Bool) → not t ≡ true → (t && begins string bytes) ≡ false
    not-begins true f = absurd (true-false f)
    not-begins false f = refl

pub differs-stays : (string bytes rest : List ℕ) → differs string bytes ≡ true → differs string (bytes ++ rest) ≡ true
differs-stays string [] rest e = absurd (true-false e)
differs-stays [] (b ∷ bytes) rest e = absurd (true-false e)
differs-stays (s ∷ string) (b ∷ bytes) rest e = e

pub differs-fails : (s : Syntax) (m : Mode) (net : Bool) (x : Delim) (bytes rest : List ℕ)
    → differs (string x) bytes ≡ true → stands s m net x (bytes ++ rest) ≡ false
differs-fails s m net x bytes rest e =
    stands-unlike s m net x (bytes ++ rest) (begins-differs (string x) (bytes ++ rest) (differs-stays (string x) bytes rest e))

apart : (b s : ℕ) (ss : List ℕ) → is_among s ss ≡ true → is_among b ss ≡ false → (s == b) ≡ false
apart b s ss has lacks = by_test (s == b) refl
  where
    by_test : (t : Bool) → (s == b) ≡ t → t ≡ false
    by_test false e = refl
    by_test true e = absurd (true-false (sym lacks ∙ ap (λ x. is_among x ss) (sym (eqb-true s b e)) ∙ has))

pub plain-differs : (x : Delim) (bytes : List ℕ) → begins_plain bytes ≡ true → differs (string x) bytes ≡ true
plain-differs x [] e = absurd (true-false e)
plain-differs x (b ∷ bytes) e = of (lacks (is_among b first_bytes) e) x
  where
    lacks : (t : Bool) → not t ≡ true → t ≡ false
    lacks true f = absurd (true-false f)
    lacks false f = refl

    one : (s : ℕ) → is_among s first_bytes ≡ true → is_among b first_bytes ≡ false → not (s == b) ≡ true
    one s has f = ap not (apart b s first_bytes has f)

    of : is_among b first_bytes ≡ false → (y : Delim) → differs (string y) (b ∷ bytes) ≡ true
    of f d.And = one 38 refl f
    of f d.Com = one 45 refl f
    of f d.Cro = one 38 refl f
    of f d.Dsc = one 93 refl f
    of f d.Dso = one 91 refl f
    of f d.Ero = one 38 refl f
    of f d.Etago = one 60 refl f
    of f d.Grpc = one 41 refl f
    of f d.Grpo = one 40 refl f
    of f d.Lit = one 34 refl f
    of f d.Lita = one 39 refl f
    of f d.Mdc = one 62 refl f
    of f d.Mdo = one 60 refl f
    of f d.Minus = one 45 refl f
    of f d.Msc = one 93 refl f
    of f d.Net = one 47 refl f
    of f d.Opt = one 63 refl f
    of f d.Or = one 124 refl f
    of f d.Pero = one 37 refl f
    of f d.Pic = one 62 refl f
    of f d.Pio = one 60 refl f
    of f d.Plus = one 43 refl f
    of f d.Re = one 13 refl f
    of f d.Refc = one 59 refl f
    of f d.Rep = one 42 refl f
    of f d.Rni = one 35 refl f
    of f d.Seq = one 44 refl f
    of f d.Stago = one 60 refl f
    of f d.Tagc = one 62 refl f
    of f d.Vi = one 61 refl f

pub plain-none : (s : Syntax) (m : Mode) (net : Bool) (xs : List Delim) (bytes rest : List ℕ)
    → begins_plain bytes ≡ true → is_first s m net xs (bytes ++ rest) ≡ None
plain-none s m net [] bytes rest e = refl
plain-none s m net (x ∷ xs) bytes rest e =
    first-none s m net x xs (bytes ++ rest)
    (differs-fails s m net x bytes rest (plain-differs x bytes e))
    (plain-none s m net xs bytes rest e)
