-- The steps of a walk.
use Rattle.std.specs.Prelude.{nat_lt, bytes_eq}
use Rattle.std.proofs.Common.{◌≡◌, ℕ, zero, suc, ◌+◌, ◌-◌, ◌<◌, ◌≤◌, Bool, true, false, not, ◌&&◌, IsTrue, inl, inr, List, [], ◌∷◌, ◌++◌, Option, Some, None, map, reverse, length, take, drop, append_assoc, refl, sym, ap, ◌∙◌, subst, arith}
use Rattle.std.specs.List.{slice_get}
use Rattle.std.proofs.lemmas.List.{map-append, reverse-append, take_all}
use Rattle.sgml_automaton.specs.declared.state.ModelState.{ModelState}
use Rattle.sgml_dtd.specs.Doctypes.{Doctype}
use Rattle.sgml_theory_reading.specs.Names.{Name}
use Rattle.sgml_theory_reading.specs.Types.{content_of}
use Rattle.sgml_theory_reading.specs.Pieces.{Piece, Kind, Start, End, Char, Finish, How, Tag, Short, Slash, Net, Omitted, Specification}
use Rattle.sgml_theory_reading.specs.Facets.{Token, token}
use Rattle.sgml_theory_reading.specs.Context.{Context, context_after}
use Rattle.sgml_theory_reading.specs.Context as reading
use Rattle.sgml_theory_reading.specs.Omission.{omitted_end, omitted_start, EndMayStand, StartMayStand, MayStand, NoneMayStand, innermost_is, leaves, leaves_as, is_outer, counted, inside_of_first, inside_of_ended, ended_by, misfits, allowed, depth}
use Rattle.sgml_theory_reading.specs.Runs.{LongestRunFrom, context_after_run}
use Rattle.sgml_theory_reading.specs.Characters.{is_void}
use Rattle.sgml_infer.specs.Tables.{name_at, type_at}
use Rattle.sgml_infer.specs.declared.level.Level.{Level}
use Rattle.sgml_infer.specs.declared.visible.Visible.{Visible}
use Rattle.sgml_infer.specs.declared.visible.Visible.TheVariants as visible
use Rattle.sgml_infer.specs.Trees.{level_of, levels_of, IsFresh}
use Rattle.sgml_infer.specs.declared.fitting.Fit.{Fit}
use Rattle.sgml_infer.specs.declared.standing.Standing.{Standing}
use Rattle.sgml_infer.specs.Seen.{one_less, started, ended, ending, context_at, seen, seen_with, kept, left_ends, SomeEndMayStand, BeginLongestRun, IsLastFresh}
use Rattle.sgml_infer.specs.Visibles.{kind_of, kind_in, is_content, IsFit}
use Rattle.sgml_infer.proofs.Numbers.{same-bytes}
use Rattle.sgml_infer.proofs.Points.{innermost, run-append, run-doctype, run-depth, length-levels}
use Rattle.sgml_infer.proofs.Links.{split-last}
use Rattle.sgml_infer.proofs.Growing.{seen-more, levels-ended, end-closes, end-written}

append-nil : {A : Type 0} (xs : List A) → xs ++ [] ≡ xs
append-nil [] = refl
append-nil (x ∷ xs) = ap (λ ys. x ∷ ys) (append-nil xs)

start-inside : (n : Name) (ss : List Specification) (how : How) (p o : Bool) (c e : Context) → one_less (inside_of_ended c (Start n ss how p o)) ≡ inside_of_ended e (Start n ss how p o)
unfolding inside_of_ended
start-inside n ss how p o c e = refl

char-inside : (c e : Context) → one_less (inside_of_ended c (Char 0)) ≡ inside_of_ended e (Char 0)
unfolding inside_of_ended
char-inside c e = refl

finish-inside : (c e : Context) → one_less (inside_of_ended c Finish) ≡ inside_of_ended e Finish
unfolding inside_of_ended
finish-inside c e = refl

drop-all : (xs : List Level) → drop (length xs) xs ≡ []
drop-all [] = refl
drop-all (x ∷ xs) = drop-all xs

-- where all of them stay, none ends
pub none-ending : (ls : List Level) (k : ℕ) → k ≡ length ls → ending ls k ≡ []
none-ending ls k e = ap (λ (xs : List Level). map (λ (l : Level). l.element) (reverse xs)) (ap (λ (m : ℕ). drop m ls) e ∙ drop-all ls)

-- ENDS

drop-at : (xs : List Level) (i : ℕ) (l : Level) → slice_get xs i ≡ Some l → drop i xs ≡ l ∷ drop (suc i) xs
drop-at [] zero l h = cc
drop-at [] (suc i) l h = cc
drop-at (x ∷ xs) zero l h = let e : x ≡ l = cc in ap (λ y. y ∷ xs) e
drop-at (x ∷ xs) (suc i) l h = drop-at xs i l h

-- one element more ends
ending-more : (ls : List Level) (k : ℕ) (l : Level) → 0 < k → slice_get ls (k - 1) ≡ Some l → ending ls (k - 1) ≡ ending ls k ++ l.element ∷ []
ending-more ls k l p h =
    let e : suc (k - 1) ≡ k = omega arith in
    let d : drop (k - 1) ls ≡ l ∷ drop k ls = drop-at ls (k - 1) l h ∙ ap (λ (m : ℕ). l ∷ drop m ls) e in
    ap (λ (xs : List Level). map (λ (x : Level). x.element) (reverse xs)) d
    ∙ (ap (map (λ (x : Level). x.element)) (reverse-append (l ∷ []) (drop k ls))
    ∙ map-append (λ (x : Level). x.element) (reverse (drop k ls)) (l ∷ []))

ended-more : (t : Doctype) (ls : List Level) (k : ℕ) (l : Level) → 0 < k → slice_get ls (k - 1) ≡ Some l → ended t (ending ls (k - 1)) ≡ ended t (ending ls k) ++ omitted_end (name_at t l.element) ∷ []
ended-more t ls k l p h =
    ap (ended t) (ending-more ls k l p h) ∙ map-append (λ n. omitted_end (name_at t n)) (ending ls k) (l.element ∷ [])

one-ends : (t : Doctype) (ls : List Level) (b : Bool) (k : ℕ) → 0 < k → k ≤ length ls → (start : Context) → context_after_run start (ended t (ending ls k)) ≡ context_at t (take k ls) b →
    context_after_run start (ended t (ending ls (k - 1))) ≡ context_at t (take (k - 1) ls) b
one-ends t ls b k p h start e =
    let s = split-last ls k p h in
    let n = name_at t s.0.element in
    ap (context_after_run start) (ended-more t ls k s.0 p s.2)
    ∙ (run-append start (ended t (ending ls k)) (omitted_end n ∷ [])
    ∙ (ap (context_after (omitted_end n)) e
    ∙ (end-closes n Omitted (context_at t (take k ls) b) (end-written n Omitted)
    ∙ (λ i. record { doctype = t; levels = sym (levels-ended t ls k p h) i; begun = b; inferred = false }))))

-- all but the first so many have ended
pub ends-are : (t : Doctype) (ls : List Level) (b : Bool) (d k : ℕ) → k + d ≡ length ls → context_after_run (context_at t ls b) (ended t (ending ls k)) ≡ context_at t (take k ls) b
ends-are t ls b zero k h =
    let e : k ≡ length ls = omega (arith, h) in
    let f : drop k ls ≡ [] = ap (λ (m : ℕ). drop m ls) e ∙ drop-all ls in
    ap (λ (xs : List Level). context_after_run (context_at t ls b) (ended t (map (λ (x : Level). x.element) (reverse xs)))) f
    ∙ ap (λ (xs : List Level). context_at t xs b) (sym (take_all k ls (omega (arith, e))))
ends-are t ls b (suc d) k h =
    let e : k + 1 - 1 ≡ k = omega arith in
    subst (λ (m : ℕ). context_after_run (context_at t ls b) (ended t (ending ls m)) ≡ context_at t (take m ls) b) e
    (one-ends t ls b (k + 1) (omega arith) (omega (arith, h)) (context_at t ls b) (ends-are t ls b d (k + 1) (omega (arith, h))))

module _ (t : Doctype) (ls : List Level) (b : Bool) (x : Kind) (k : ℕ) (within : k ≤ length ls) (n : Name) (m : EndMayStand (context_at t (take k ls) b) n x) where
  pub some-stays : 0 < k
  some-stays = has-place k m.of_innermost
    where
      has-place : (j : ℕ) → IsTrue (innermost_is (levels_of t (take j ls)) n) → 0 < j
      has-place zero h = absurd (none ls h)
        where
          none : (xs : List Level) → IsTrue (innermost_is (levels_of t (take 0 xs)) n) → ⊥
          none [] h = cc
          none (x ∷ xs) h = cc
      has-place (suc j) h = omega arith

  abbrev split : (l : Level) × (take k ls ≡ take (k - 1) ls ++ l ∷ []) × (slice_get ls (k - 1) ≡ Some l)
  split = split-last ls k some-stays within

  abbrev last-piece : Piece
  last-piece = omitted_end (name_at t split.0.element)

  pub levels-are : levels_of t (take k ls) ≡ level_of t split.0 ∷ levels_of t (take (k - 1) ls)
  levels-are = ap (levels_of t) split.1 ∙ innermost t (take (k - 1) ls) split.0

  named : name_at t split.0.element ≡ n
  named = same-bytes (name_at t split.0.element) n (subst (λ (ks : List reading.Level). IsTrue (innermost_is ks n)) levels-are m.of_innermost)

  stands : MayStand (context_at t (take k ls) b) last-piece x
  stands = inl (name_at t split.0.element, refl, subst (λ (j : Name). EndMayStand (context_at t (take k ls) b) j x) (sym named) m)

  after : context_after last-piece (context_at t (take k ls) b) ≡ context_at t (take (k - 1) ls) b
  after =
      end-closes (name_at t split.0.element) Omitted (context_at t (take k ls) b) (end-written (name_at t split.0.element) Omitted)
      ∙ (λ i. record { doctype = t; levels = sym (levels-ended t ls k some-stays within) i; begun = b; inferred = false })

  pub ends-run : (start : Context) → ((rest : List Piece) → LongestRunFrom (context_at t (take k ls) b) x rest → LongestRunFrom start x (ended t (ending ls k) ++ rest)) →
      (rest : List Piece) → LongestRunFrom (context_at t (take (k - 1) ls) b) x rest → LongestRunFrom start x (ended t (ending ls (k - 1)) ++ rest)
  ends-run start run rest r =
      subst (λ (ps : List Piece). LongestRunFrom start x ps)
      (sym (ap (λ (ps : List Piece). ps ++ rest) (ended-more t ls k split.0 some-stays split.2) ∙ append_assoc (ended t (ending ls k)) (last-piece ∷ []) rest))
      (run (last-piece ∷ rest) (stands, subst (λ (c : Context). LongestRunFrom c x rest) (sym after) r))

  pub ends-context : (start : Context) → context_after_run start (ended t (ending ls k)) ≡ context_at t (take k ls) b →
      context_after_run start (ended t (ending ls (k - 1))) ≡ context_at t (take (k - 1) ls) b
  ends-context start e = one-ends t ls b k some-stays within start e

-- where the element that is ended stands further out, one element less stands inside it
less-inside : (test : reading.Level → Bool) (l : reading.Level) (ls : List reading.Level) → IsTrue (is_outer (inside_of_first test (l ∷ ls))) → one_less (inside_of_first test (l ∷ ls)) ≡ inside_of_first test ls
less-inside test l ls h = less-counted (test l) (inside_of_first test ls) h
  where
    less-counted : (b : Bool) (o : Option ℕ) → IsTrue (is_outer (counted b o)) → one_less (counted b o) ≡ o
    less-counted true o h = cc
    less-counted false None h = refl
    less-counted false (Some n) h = let e : suc n - 1 ≡ n = omega arith in ap Some e

outer-of-end : (s : Context) (n : Name) (how : How) → leaves s (End n how) ≡ true → IsTrue (is_outer (inside_of_ended s (End n how)))
unfolding leaves token
outer-of-end s n how h = h

end-inside : (n : Name) (how : How) (c e : Context) (l : reading.Level) → c.levels ≡ l ∷ e.levels → IsTrue (is_outer (inside_of_ended c (End n how))) → one_less (inside_of_ended c (End n how)) ≡ inside_of_ended e (End n how)
unfolding inside_of_ended
end-inside n how c e l p h =
    ap (λ (ls : List reading.Level). one_less (ended_by n how ls)) p ∙ for-each-way how (subst (λ (ls : List reading.Level). IsTrue (is_outer (ended_by n how ls))) p h)
  where
    for-each-way : (how : How) → IsTrue (is_outer (ended_by n how (l ∷ e.levels))) → one_less (ended_by n how (l ∷ e.levels)) ≡ ended_by n how e.levels
    for-each-way Tag h = less-inside (λ (j : reading.Level). bytes_eq n j.element) l e.levels h
    for-each-way Short h = less-inside (λ (j : reading.Level). true) l e.levels h
    for-each-way Slash h = less-inside (λ (j : reading.Level). bytes_eq n j.element) l e.levels h
    for-each-way Net h = less-inside (λ (j : reading.Level). j.slash) l e.levels h
    for-each-way Omitted h = less-inside (λ (j : reading.Level). bytes_eq n j.element) l e.levels h

none-inside : (t : Doctype) (v : Visible) (c e : Context) (l : reading.Level) → c.levels ≡ l ∷ e.levels → leaves c (kind_of t v) ≡ true → one_less (inside_of_ended c (kind_of t v)) ≡ inside_of_ended e (kind_of t v)
none-inside t (visible.Start i) c e l p h = start-inside (name_at t i) [] Tag true (is_void (content_of (type_at t i))) c e
none-inside t visible.Chars c e l p h = char-inside c e
none-inside t (visible.EndTag i) c e l p h = end-inside (name_at t i) Tag c e l p (outer-of-end c (name_at t i) Tag h)
none-inside t visible.EndCurrent c e l p h = end-inside [] Short c e l p (outer-of-end c [] Short h)
none-inside t visible.Net c e l p h = end-inside [] Net c e l p (outer-of-end c [] Net h)
none-inside t visible.EndDocument c e l p h = finish-inside c e

pub ends-inside : (t : Doctype) (ls : List Level) (b : Bool) (v : Visible) (k : ℕ) (within : k ≤ length ls) (n : Name) (m : EndMayStand (context_at t (take k ls) b) n (kind_of t v)) (inside : Option ℕ) →
    inside ≡ inside_of_ended (context_at t (take k ls) b) (kind_of t v) → one_less inside ≡ inside_of_ended (context_at t (take (k - 1) ls) b) (kind_of t v)
ends-inside t ls b v k within n m inside e =
    ap one_less e ∙ none-inside t v (context_at t (take k ls) b) (context_at t (take (k - 1) ls) b) (level_of t (split-last ls k (some-stays t ls b (kind_of t v) k within n m) within).0)
    (levels-are t ls b (kind_of t v) k within n m) m.before

-- A POINT WHERE NO START IS INFERRED

pub kept-all : (s : Standing) → s.starts.now ≡ [] → seen s ≡ kept s (length s.levels.now)
kept-all s h =
    ap (λ (ns : List ℕ). seen_with s.dtd.now s.levels.now s.begun ns) h
    ∙ ap (λ (xs : List Level). context_at s.dtd.now xs s.begun) (sym (take_all (length s.levels.now) s.levels.now (omega arith)))

none-ended : (s : Standing) → left_ends s (length s.levels.now) ≡ []
none-ended s = ap (λ (xs : List Level). ended s.dtd.now (map (λ (l : Level). l.element) (reverse xs))) (drop-all s.levels.now)

-- before any of them has ended
pub ends-begin-run : (s : Standing) → s.starts.now ≡ [] → (x : Kind) → BeginLongestRun (seen s) x (left_ends s (length s.levels.now)) (kept s (length s.levels.now))
ends-begin-run s h x rest r =
    subst (λ (ps : List Piece). LongestRunFrom (seen s) x (ps ++ rest)) (sym (none-ended s))
    (subst (λ (c : Context). LongestRunFrom c x rest) (sym (kept-all s h)) r)

pub ends-begin-context : (s : Standing) → s.starts.now ≡ [] → context_after_run (seen s) (left_ends s (length s.levels.now)) ≡ kept s (length s.levels.now)
ends-begin-context s h = ap (context_after_run (seen s)) (none-ended s) ∙ kept-all s h

-- what is said of the elements that are kept is said of the whole
module _ (s front : Standing) (k : ℕ) (v : Visible) (d : front.dtd.now ≡ s.dtd.now) (e : seen front ≡ kept s k) where
  pub end-kept : SomeEndMayStand (seen front) (kind_in front v) → SomeEndMayStand (kept s k) (kind_in s v)
  end-kept m =
      subst (λ (t : Doctype). SomeEndMayStand (kept s k) (kind_of t v)) d
      (subst (λ (c : Context). SomeEndMayStand c (kind_in front v)) e m)

  pub fit-kept : (f : Fit) → IsFit (seen front) (kind_in front v) f → IsFit (kept s k) (kind_in s v) f
  fit-kept f m =
      subst (λ (t : Doctype). IsFit (kept s k) (kind_of t v) f) d
      (subst (λ (c : Context). IsFit c (kind_in front v) f) e m)

-- STARTS

misfit-token : (s : Context) (o : Option Token) → IsTrue (misfits s o) → (k : Token) × (o ≡ Some k)
misfit-token s None h = cc
misfit-token s (Some k) h = (k, refl)

no-end-as : (a c : Bool) → (not a && (c && not true)) ≡ true → ⊥
no-end-as true true h = cc
no-end-as true false h = cc
no-end-as false true h = cc
no-end-as false false h = cc

-- an element isn't left for what it was begun for
no-end-inferred : (s : Context) (x : Kind) (k : Token) → token x ≡ Some k → s.inferred ≡ true → (n : Name) → EndMayStand s n x → ⊥
unfolding leaves
no-end-inferred s x k h i n m =
    let e : leaves_as s x (Some k) ≡ true = ap (leaves_as s x) (sym h) ∙ m.before in
    no-end-as (allowed s k) (nat_lt 1 (depth s)) (ap (λ c. not (allowed s k) && (nat_lt 1 (depth s) && not c)) (sym i) ∙ e)

content-token : (t : Doctype) (v : Visible) (k : Token) → token (kind_of t v) ≡ Some k → is_content v ≡ true
unfolding token
content-token t (visible.Start i) k h = refl
content-token t visible.Chars k h = refl
content-token t (visible.EndTag i) k h = cc
content-token t visible.EndCurrent k h = cc
content-token t visible.Net k h = cc
content-token t visible.EndDocument k h = cc

last-same : (xs ys : List ℕ) (m n : ℕ) → xs ++ m ∷ [] ≡ ys ++ n ∷ [] → m ≡ n
last-same xs ys m n h = cc (same-ends)
  where
    flip : (zs : List ℕ) (k : ℕ) → reverse (zs ++ k ∷ []) ≡ k ∷ reverse zs
    flip zs k = reverse-append zs (k ∷ [])

    same-ends : m ∷ reverse xs ≡ n ∷ reverse ys
    same-ends = sym (flip xs m) ∙ (ap reverse h ∙ flip ys n)

module _ (t : Doctype) (ls : List Level) (b : Bool) (v : Visible) (ns : List ℕ) (n : ℕ) (m : StartMayStand (seen_with t ls b ns) (name_at t n) (kind_of t v)) where
  abbrev c : Context
  c = seen_with t ls b ns

  abbrev start-piece : Piece
  start-piece = omitted_start (name_at t n)

  after-is : context_after start-piece c ≡ seen_with t ls b (ns ++ n ∷ [])
  after-is = sym (ap (context_after_run (context_at t ls b)) (map-append (λ j. omitted_start (name_at t j)) ns (n ∷ [])) ∙ run-append (context_at t ls b) (started t ns) (start-piece ∷ []))

  pub starts-run : ((rest : List Piece) → LongestRunFrom c (kind_of t v) rest → LongestRunFrom (context_at t ls b) (kind_of t v) (started t ns ++ rest)) →
      (all : List ℕ) → all ≡ ns ++ n ∷ [] →
      (rest : List Piece) → LongestRunFrom (seen_with t ls b all) (kind_of t v) rest → LongestRunFrom (context_at t ls b) (kind_of t v) (started t all ++ rest)
  starts-run run all e rest r =
      subst (λ (ps : List Piece). LongestRunFrom (context_at t ls b) (kind_of t v) ps)
      (sym (ap (λ (js : List ℕ). started t js ++ rest) e ∙ (ap (λ (ps : List Piece). ps ++ rest) (map-append (λ j. omitted_start (name_at t j)) ns (n ∷ [])) ∙ append_assoc (started t ns) (start-piece ∷ []) rest)))
      (run (start-piece ∷ rest) (inr (name_at t n, refl, m), subst (λ (k : Context). LongestRunFrom k (kind_of t v) rest) (sym after-is) (subst (λ (js : List ℕ). LongestRunFrom (seen_with t ls b js) (kind_of t v) rest) e r)))

  content-of : (k : Token) × (token (kind_of t v) ≡ Some k)
  content-of = misfit-token c (token (kind_of t v)) m.before

  pub starts-none : (all : List ℕ) → all ≡ ns ++ n ∷ [] → (j : Name) → EndMayStand (seen_with t ls b all) j (kind_of t v) → ⊥
  starts-none all e j q =
      no-end-inferred (seen_with t ls b all) (kind_of t v) content-of.0 content-of.1 (ap (λ (k : Context). k.inferred) (ap (seen_with t ls b) e ∙ seen-more t ls b ns n)) j q

  pub starts-room : length ls + length ns < t.syntax.quantities.taglvl
  starts-room =
      let e : depth c < t.syntax.quantities.taglvl = subst (λ (d : Doctype). depth c < d.syntax.quantities.taglvl) (run-doctype t ns (context_at t ls b)) m.room in
      let f = run-depth t ns (context_at t ls b) in
      let g = length-levels t ls in
      omega (arith, e, f, g)

  pub starts-content : {A : Type 0} → is_content v ≡ false → A
  starts-content h = let e : true ≡ false = sym (content-token t v content-of.0 content-of.1) ∙ h in absurd (cc)

pub starts-fresh : (t : Doctype) (ns all : List ℕ) (n : ℕ) (s : ModelState) → all ≡ ns ++ n ∷ [] → IsFresh t n s → IsLastFresh t all s
starts-fresh t ns all n s e f rest k h = subst (λ (j : ℕ). IsFresh t j s) (last-same ns rest n k (sym e ∙ h)) f

pub starts-whole : (t : Doctype) (ls : List Level) (b : Bool) (x : Kind) (ns : List ℕ) →
    ((rest : List Piece) → LongestRunFrom (seen_with t ls b ns) x rest → LongestRunFrom (context_at t ls b) x (started t ns ++ rest)) →
    ((n : Name) → EndMayStand (seen_with t ls b ns) n x → ⊥) → ((n : Name) → StartMayStand (seen_with t ls b ns) n x → ⊥) →
    LongestRunFrom (context_at t ls b) x (started t ns)
starts-whole t ls b x ns run e f =
    subst (λ (ps : List Piece). LongestRunFrom (context_at t ls b) x ps) (append-nil (started t ns)) (run [] none)
  where
    none : NoneMayStand (seen_with t ls b ns) x
    none o (inl m) = e m.0 m.2
    none o (inr m) = f m.0 m.2

-- none may stand after a longest run
pub none-after : (c : Context) (x : Kind) (os : List Piece) → LongestRunFrom c x os → NoneMayStand (context_after_run c os) x
none-after c x [] r = r
none-after c x (o ∷ os) r = none-after (context_after o c) x os r.1
