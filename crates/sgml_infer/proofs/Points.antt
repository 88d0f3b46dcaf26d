-- What is known of the open elements after starts were left out.
use Rattle.std.proofs.Common.{◌≡◌, ℕ, zero, suc, ◌+◌, ◌-◌, ◌<◌, ◌==◌, Bool, true, false, not, ◌||◌, List, [], ◌∷◌, ◌++◌, Some, None, map, reverse, length, take, refl, sym, ap, ◌∙◌, subst, arith, All}
use Rattle.std.specs.List.{list_any, slice_get}
use Rattle.std.proofs.lemmas.List.{map-append, reverse-append, take_all, length-reverse}
use Rattle.std.proofs.lemmas.Bool.Decides.{nat_tests}
use Rattle.std.proofs.lemmas.List.Folds.{list_any-append}
use Rattle.std.proofs.lemmas.List.Elements.{All-head, All-tail, All-nil, All-cons}
use Rattle.std.proofs.lemmas.Option.{slice_get_within}
use Rattle.sgml_automaton.specs.declared.state.ModelState.{ModelState}
use Rattle.sgml_attr.proofs.Getting.{take-get}
use Rattle.sgml_dtd_elements.specs.Types.{ElementType}
use Rattle.sgml_dtd_elements.specs.Laws.{AreDistinct}
use Rattle.sgml_dtd.specs.Doctypes.{Doctype}
use Rattle.sgml_theory_reading.specs.Names.{Name}
use Rattle.sgml_theory_reading.specs.Types.{type_of, model_of, content_of}
use Rattle.sgml_theory_reading.specs.Pieces.{Piece}
use Rattle.sgml_theory_reading.specs.Facets.{Token, token, effect, declares, is_start, is_omitted_start}
use Rattle.sgml_theory_reading.specs.Context.{Context, context_after, begun_level, levels_with}
use Rattle.sgml_theory_reading.specs.Context as reading
use Rattle.sgml_theory_reading.specs.Omission.{omitted_start, depth, is_token_in, is_included, is_excluded_in, is_excluded}
use Rattle.sgml_theory_reading.specs.Runs.{context_after_run}
use Rattle.sgml_infer.specs.Tables.{name_at, type_at, IsNumber}
use Rattle.sgml_infer.specs.declared.level.Level.{Level}
use Rattle.sgml_infer.specs.declared.standing.Standing.{Standing}
use Rattle.sgml_infer.specs.Trees.{left_at, level_of, levels_of, taking, HasRoom, IsFresh, IsLevel}
use Rattle.sgml_infer.specs.Seen.{started, context_at, seen_with, seen, IsLastFresh, IsStanding, IsInner}
use Rattle.sgml_infer.proofs.Declared.{said-of}
use Rattle.sgml_infer.proofs.Contents.{start-position}

-- ONE START

taking-is : (n : Name) (ls : List reading.Level) → levels_with (omitted_start n).kind ls ≡ taking (Some n) ls
unfolding token
taking-is n [] = refl
taking-is n (l ∷ ls) = refl

abbrev pub after_start : Name → Context → Context
after_start n c = record { doctype = c.doctype; levels = begun_level c.doctype n false ∷ taking (Some n) c.levels; begun = true; inferred = true }

pub start-after : (n : Name) (c : Context) → context_after (omitted_start n) c ≡ after_start n c
unfolding context_after effect is_start is_omitted_start declares
start-after n c = λ i. record { doctype = c.doctype; levels = begun_level c.doctype n false ∷ taking-is n c.levels i; begun = true; inferred = true }

-- A RUN OF THEM

pub run-append : (c : Context) (os ps : List Piece) → context_after_run c (os ++ ps) ≡ context_after_run (context_after_run c os) ps
run-append c [] ps = refl
run-append c (o ∷ os) ps = run-append (context_after o c) os ps

pub run-doctype : (t : Doctype) (ns : List ℕ) (c : Context) → (context_after_run c (started t ns)).doctype ≡ c.doctype
run-doctype t [] c = refl
run-doctype t (n ∷ ns) c = run-doctype t ns (context_after (omitted_start (name_at t n)) c) ∙ ap (λ (k : Context). k.doctype) (start-after (name_at t n) c)

or-true : (b : Bool) → (b || true) ≡ true
or-true true = refl
or-true false = refl

or-false : (b : Bool) → (b || false) ≡ b
or-false true = refl
or-false false = refl

not-zero : (n : ℕ) → (suc n == 0) ≡ false
not-zero n = grind (arith, nat_tests)

length-mapped : {A B : Type 0} (f : A → B) (xs : List A) → length (map f xs) ≡ length xs
length-mapped f [] = refl
length-mapped f (x ∷ xs) = ap suc (length-mapped f xs)

pub run-begun : (t : Doctype) (ns : List ℕ) (c : Context) → (context_after_run c (started t ns)).begun ≡ (c.begun || not (length ns == 0))
run-begun t [] c = sym (or-false c.begun)
run-begun t (n ∷ ns) c =
    run-begun t ns (context_after (omitted_start (name_at t n)) c)
    ∙ (ap (λ (k : Context). k.begun || not (length ns == 0)) (start-after (name_at t n) c) ∙ sym (ap (λ b. c.begun || not b) (not-zero (length ns)) ∙ or-true c.begun))

pub run-inferred : (t : Doctype) (ns : List ℕ) (c : Context) → (context_after_run c (started t ns)).inferred ≡ (c.inferred || not (length ns == 0))
run-inferred t [] c = sym (or-false c.inferred)
run-inferred t (n ∷ ns) c =
    run-inferred t ns (context_after (omitted_start (name_at t n)) c)
    ∙ (ap (λ (k : Context). k.inferred || not (length ns == 0)) (start-after (name_at t n) c) ∙ sym (ap (λ b. c.inferred || not b) (not-zero (length ns)) ∙ or-true c.inferred))

length-taking : (k : Token) (ls : List reading.Level) → length (taking k ls) ≡ length ls
length-taking k [] = refl
length-taking k (l ∷ ls) = refl

pub run-depth : (t : Doctype) (ns : List ℕ) (c : Context) → depth (context_after_run c (started t ns)) ≡ depth c + length ns
run-depth t [] c = omega arith
run-depth t (n ∷ ns) c =
    let e : depth (context_after (omitted_start (name_at t n)) c) ≡ suc (length c.levels) =
    ap (λ (k : Context). length k.levels) (start-after (name_at t n) c) ∙ ap suc (length-taking (Some (name_at t n)) c.levels) in
    let f = run-depth t ns (context_after (omitted_start (name_at t n)) c) in
    omega (arith, e, f)

any-taking : (f : Name → Bool) (k : Token) (ls : List reading.Level) → list_any (λ (l : reading.Level). f l.element) (taking k ls) ≡ list_any (λ (l : reading.Level). f l.element) ls
any-taking f k [] = refl
any-taking f k (l ∷ ls) = refl

turned : (a b c : Bool) → (a || (b || c)) ≡ ((b || a) || c)
turned a b c = grind arith

-- some open element passes a test of its type
pub run-any : (t : Doctype) (f : Name → Bool) (ns : List ℕ) (c : Context) →
    list_any (λ (l : reading.Level). f l.element) (context_after_run c (started t ns)).levels ≡ (list_any (λ n. f (name_at t n)) ns || list_any (λ (l : reading.Level). f l.element) c.levels)
run-any t f [] c = refl
run-any t f (n ∷ ns) c =
    run-any t f ns (context_after (omitted_start (name_at t n)) c)
    ∙ (ap (λ (k : Context). list_any (λ m. f (name_at t m)) ns || list_any (λ (l : reading.Level). f l.element) k.levels) (start-after (name_at t n) c)
    ∙ (ap (λ b. list_any (λ m. f (name_at t m)) ns || (f (name_at t n) || b)) (any-taking f (Some (name_at t n)) c.levels)
    ∙ turned (list_any (λ m. f (name_at t m)) ns) (f (name_at t n)) (list_any (λ (l : reading.Level). f l.element) c.levels)))

pub any-reversed : {A B : Type 0} (f : A → B) (p : B → Bool) (xs : List A) → list_any p (reverse (map f xs)) ≡ list_any (λ x. p (f x)) xs
any-reversed f p [] = refl
any-reversed f p (x ∷ xs) =
    ap (list_any p) (reverse-append (f x ∷ []) (map f xs))
    ∙ (list_any-append p (reverse (map f xs)) (f x ∷ [])
    ∙ (ap (λ b. b || (p (f x) || false)) (any-reversed f p xs) ∙ swapped (list_any (λ y. p (f y)) xs) (p (f x))))
  where
    swapped : (a b : Bool) → (a || (b || false)) ≡ (b || a)
    swapped a b = grind arith

any-same : {A : Type 0} (P : A → Type 0) (p q : A → Bool) → ((x : A) → P x → p x ≡ q x) → (xs : List A) → All P xs → list_any p xs ≡ list_any q xs
any-same P p q h [] a = refl
any-same P p q h (x ∷ xs) a = λ i. h x (All-head P x xs a) i || any-same P p q h xs (All-tail P x xs a) i

module _ (s : Standing) (w : IsStanding s) where
  abbrev t : Doctype
  t = s.dtd.now

  pub seen-doctype : (seen s).doctype ≡ t
  seen-doctype = run-doctype t s.starts.now (context_at t s.levels.now s.begun)

  any-seen : (f : ElementType → Bool) → (list_any (λ n. f (type_at t n)) s.starts.now || list_any (λ (l : Level). f (type_at t l.element)) s.levels.now)
      ≡ list_any (λ (l : reading.Level). f (type_of t l.element)) (seen s).levels
  any-seen f = sym
      (run-any t (λ n. f (type_of t n)) s.starts.now (context_at t s.levels.now s.begun)
      ∙ (λ i. any-same (IsNumber t) (λ n. f (type_of t (name_at t n))) (λ n. f (type_at t n)) (λ n h. ap f (said-of t n w.distinct h)) s.starts.now w.starts i
      || (any-reversed (level_of t) (λ (l : reading.Level). f (type_of t l.element)) s.levels.now
      ∙ any-same (IsLevel t) (λ (l : Level). f (type_of t (name_at t l.element))) (λ (l : Level). f (type_at t l.element)) (λ l h. ap f (said-of t l.element w.distinct h.number)) s.levels.now w.levels) i))

  pub excluded-seen : (k : Token) → (list_any (λ n. is_token_in k (type_at t n).body.excluded) s.starts.now || list_any (λ (l : Level). is_token_in k (type_at t l.element).body.excluded) s.levels.now) ≡ is_excluded (seen s) k
  excluded-seen k = any-seen (λ e. is_token_in k e.body.excluded) ∙ ap (λ (d : Doctype). is_excluded_in d (seen s).levels k) (sym seen-doctype)

  pub included-seen : (k : Token) → (list_any (λ n. is_token_in k (type_at t n).body.included) s.starts.now || list_any (λ (l : Level). is_token_in k (type_at t l.element).body.included) s.levels.now) ≡ is_included t (seen s).levels k
  included-seen k = any-seen (λ e. is_token_in k e.body.included)

-- THE INNERMOST ELEMENT

pub last-of : {A : Type 0} (xs : List A) (x : A) → slice_get xs (length xs - 1) ≡ Some x → xs ≡ take (length xs - 1) xs ++ x ∷ []
last-of xs x h =
    let k = slice_get_within xs (length xs - 1) x h in
    let e : length xs - 1 + 1 ≡ length xs = omega arith in
    sym (take_all (length xs - 1 + 1) xs (omega arith)) ∙ take-get xs (length xs - 1) x h

pub none-last : {A : Type 0} (xs : List A) → slice_get xs (length xs - 1) ≡ None → xs ≡ []
none-last [] h = refl
none-last (x ∷ xs) h = absurd (there (x ∷ xs) (length (x ∷ xs) - 1) h (omega arith))
  where
    there : {A : Type 0} (ys : List A) (i : ℕ) → slice_get ys i ≡ None → i < length ys → ⊥
    there [] i e l = omega arith
    there (y ∷ ys) zero e l = cc
    there (y ∷ ys) (suc i) e l = there ys i e (omega arith)

pub innermost : (t : Doctype) (ls : List Level) (l : Level) → levels_of t (ls ++ l ∷ []) ≡ level_of t l ∷ levels_of t ls
innermost t ls l = ap reverse (map-append (level_of t) ls (l ∷ [])) ∙ reverse-append (map (level_of t) ls) (level_of t l ∷ [])

-- where no start is inferred
pub none-fresh : (t : Doctype) (s : ModelState) → IsLastFresh t [] s
none-fresh t s [] n h = cc
none-fresh t s (m ∷ rest) n h = cc

inner-start-at : (t : Doctype) (ls : List Level) (b : Bool) (ns : List ℕ) (n : ℕ) (s : ModelState) → AreDistinct t.elements → IsNumber t n → HasRoom t s → IsFresh t n s → IsInner t n 0 s (seen_with t ls b (ns ++ n ∷ []))
inner-start-at t ls b ns n s d k r f =
    let c = seen_with t ls b ns in
    let e : seen_with t ls b (ns ++ n ∷ []) ≡ after_start (name_at t n) c =
    ap (context_after_run (context_at t ls b)) (map-append (λ m. omitted_start (name_at t m)) ns (n ∷ []))
    ∙ (run-append (context_at t ls b) (started t ns) (omitted_start (name_at t n) ∷ []) ∙ start-after (name_at t n) c) in
    let g : c.doctype ≡ t = run-doctype t ns (context_at t ls b) in
    let m : model_of (content_of (type_of c.doctype (name_at t n))) ≡ left_at t n s =
    ap (λ (x : Doctype). model_of (content_of (type_of x (name_at t n)))) g ∙ (ap (λ (x : ElementType). model_of (content_of x)) (said-of t n d k) ∙ sym f.start) in
    record {
      number = k;
      state = f.state;
      position = start-position (content_of (type_at t n)) s f.start;
      room = r;
      doctype = ap (λ (x : Context). x.doctype) e ∙ g;
      slash = false;
      outer = taking (Some (name_at t n)) c.levels;
      levels = ap (λ (x : Context). x.levels) e ∙ (λ i. record { element = name_at t n; left = m i; slash = false } ∷ taking (Some (name_at t n)) c.levels);
    }

pub inner-start : (s : Standing) → IsStanding s → (n : ℕ) → slice_get s.starts.now (length s.starts.now - 1) ≡ Some n → IsInner s.dtd.now n 0 s.fresh.now (seen s)
inner-start s w n h =
    let e = last-of s.starts.now n h in
    let rest = take (length s.starts.now - 1) s.starts.now in
    let k : IsNumber s.dtd.now n = last-number rest (subst (All (IsNumber s.dtd.now)) e w.starts) in
    subst (λ ns. IsInner s.dtd.now n 0 s.fresh.now (seen_with s.dtd.now s.levels.now s.begun ns)) (sym e)
    (inner-start-at s.dtd.now s.levels.now s.begun rest n s.fresh.now w.distinct k w.room (w.fresh rest n e))
  where
    last-number : (xs : List ℕ) → All (IsNumber s.dtd.now) (xs ++ n ∷ []) → IsNumber s.dtd.now n
    last-number [] a = All-head (IsNumber s.dtd.now) n [] a
    last-number (x ∷ xs) a = last-number xs (All-tail (IsNumber s.dtd.now) x (xs ++ n ∷ []) a)

pub last-level : (t : Doctype) (l : Level) (xs : List Level) → All (IsLevel t) (xs ++ l ∷ []) → IsLevel t l
last-level t l [] a = All-head (IsLevel t) l [] a
last-level t l (x ∷ xs) a = last-level t l xs (All-tail (IsLevel t) x (xs ++ l ∷ []) a)

pub inner-level : (s : Standing) → IsStanding s → (l : Level) → slice_get s.starts.now (length s.starts.now - 1) ≡ None → slice_get s.levels.now (length s.levels.now - 1) ≡ Some l →
    IsInner s.dtd.now l.element l.position l.state (seen s)
inner-level s w l h g =
    let e = last-of s.levels.now l g in
    let rest = take (length s.levels.now - 1) s.levels.now in
    let m = last-level s.dtd.now l rest (subst (All (IsLevel s.dtd.now)) e w.levels) in
    let f = none-last s.starts.now h in
    subst (λ ns. IsInner s.dtd.now l.element l.position l.state (seen_with s.dtd.now s.levels.now s.begun ns)) (sym f)
    (record {
      number = m.number;
      state = m.state;
      position = m.position;
      room = m.room;
      doctype = refl;
      slash = l.slash;
      outer = levels_of s.dtd.now rest;
      levels = ap (levels_of s.dtd.now) e ∙ innermost s.dtd.now rest l;
    })

pub length-levels : (t : Doctype) (ls : List Level) → length (levels_of t ls) ≡ length ls
length-levels t ls = length-reverse (map (level_of t) ls) ∙ length-mapped (level_of t) ls

pub front-levels : (t : Doctype) (l : Level) (xs : List Level) → All (IsLevel t) (xs ++ l ∷ []) → All (IsLevel t) xs
front-levels t l [] a = All-nil (IsLevel t)
front-levels t l (x ∷ xs) a = All-cons (IsLevel t) x xs (All-head (IsLevel t) x (xs ++ l ∷ []) a) (front-levels t l xs (All-tail (IsLevel t) x (xs ++ l ∷ []) a))
