-- The longest run of omitted pieces is there, and there is one.
use Rattle.std.specs.Prelude.{◌≡◌, ℕ, zero, suc, ◌+◌, ◌≤◌, ◌<◌, Bool, true, false, not, ◌&&◌, ◌⊎◌, nat_lt, bytes_eq, IsTrue, IsFalse, Option, Some, None, is_some, List, [], ◌∷◌, length}
use Rattle.std.proofs.Common.{refl, sym, ap, ◌∙◌, arith, inl, inr, subst}
use Rattle.std.proofs.lemmas.Bool.{both_ways}
use Rattle.std.proofs.lemmas.Slice.Eq.{bytes_eq-Decides}
use Rattle.std.proofs.lemmas.Bool.Decides.{nat_tests}
use Rattle.sgml_dtd.specs.model.Term.{required}
use Rattle.sgml_dtd.specs.Doctypes.{Doctype}
use Rattle.sgml_theory_reading.specs.Names.{Name}
use Rattle.sgml_theory_reading.specs.Types.{type_of, content_of, is_declared, has_declared_content, has_required}
use Rattle.sgml_theory_reading.specs.Pieces.{Piece, Kind, History}
use Rattle.sgml_theory_reading.specs.Facets.{Token, token, is_omitted_start, effect, declares}
use Rattle.sgml_theory_reading.specs.Nest.{without_first}
use Rattle.sgml_theory_reading.specs.Context.{Level, Context, context, context_after, levels_with}
use Rattle.sgml_theory_reading.specs.Omission.{EndMayStand, StartMayStand, MayStand, NoneMayStand, omitted_end, omitted_start, innermost_is, finished, leaves, leaves_as, misfits, is_excluded, left_of, depth, allowed}
use Rattle.sgml_theory_reading.specs.Runs.{LongestRun, LongestRunFrom, context_after_run, after_run, bound_of, run_bound}
use Rattle.sgml_theory_reading.proofs.Contexts.{context-step}

pub same-name : (m n : Name) → IsTrue (bytes_eq m n) → m ≡ n
same-name m n e = (bytes_eq-Decides m n).0 e

innermost-one : (ls : List Level) (m n : Name) → IsTrue (innermost_is ls m) → IsTrue (innermost_is ls n) → m ≡ n
innermost-one [] m n p q = cc
innermost-one (l ∷ ls) m n p q = sym (same-name l.element m p) ∙ same-name l.element n q

-- AT MOST ONE OMITTED PIECE MAY STAND AT ANY POINT
pub one-may-stand : (s : Context) (x : Kind) (o q : Piece) → MayStand s o x → MayStand s q x → o ≡ q
one-may-stand s x o q (inl a) (inl b) = a.1 ∙ ap omitted_end (innermost-one s.levels a.0 b.0 a.2.of_innermost b.2.of_innermost) ∙ sym b.1
one-may-stand s x o q (inl a) (inr b) = absurd (both_ways (finished s) b.2.is_unfinished a.2.is_finished)
one-may-stand s x o q (inr a) (inl b) = absurd (both_ways (finished s) a.2.is_unfinished b.2.is_finished)
one-may-stand s x o q (inr a) (inr b) =
    let e : Some a.0 ≡ Some b.0 = sym a.2.is_required ∙ b.2.is_required in
    let f : a.0 ≡ b.0 = cc in
    a.1 ∙ ap omitted_start f ∙ sym b.1

-- THE LONGEST RUN IS UNIQUE
pub one-run : (h : History) (x : Kind) (os qs : List Piece) → LongestRun h x os → LongestRun h x qs → os ≡ qs
one-run h x [] [] a b = refl
one-run h x [] (q ∷ qs) a b = absurd (a q b.0)
one-run h x (o ∷ os) [] a b = absurd (b o a.0)
one-run h x (o ∷ os) (q ∷ qs) a b =
    let e : o ≡ q = one-may-stand (context h) x o q a.0 b.0 in
    let r : LongestRun (o ∷ h) x qs = subst (λ (p : Piece). LongestRun (p ∷ h) x qs) (sym e) b.1 in
    λ i. e i ∷ one-run (o ∷ h) x os qs a.1 r i

-- A test with its answer.
abbrev Tells : Type 0 → Type 0
Tells P = P ⊎ (¬ P)

is-true : (b : Bool) → Tells (IsTrue b)
is-true true = inl refl
is-true false = inr (λ e. cc)

is-false : (b : Bool) → Tells (IsFalse b)
is-false false = inl refl
is-false true = inr (λ e. cc)

is-below : (m n : ℕ) → Tells (m < n)
is-below m n = grind (arith, nat_tests)

end-tells : (s : Context) (n : Name) (x : Kind) → Tells (EndMayStand s n x)
end-tells s n x = go (is-true s.doctype.syntax.omittag) (is-true (innermost_is s.levels n)) (is-true (finished s)) (is-true (type_of s.doctype n).omits.end) (is-true (leaves s x))
  where
    go : Tells (IsTrue s.doctype.syntax.omittag) → Tells (IsTrue (innermost_is s.levels n)) → Tells (IsTrue (finished s)) → Tells (IsTrue (type_of s.doctype n).omits.end) → Tells (IsTrue (leaves s x)) → Tells (EndMayStand s n x)
    go (inl a) (inl b) (inl c) (inl d) (inl e) = inl (record { omits = a; of_innermost = b; is_finished = c; has_o = d; before = e })
    go (inr a) b c d e = inr (λ m. a m.omits)
    go a (inr b) c d e = inr (λ m. b m.of_innermost)
    go a b (inr c) d e = inr (λ m. c m.is_finished)
    go a b c (inr d) e = inr (λ m. d m.has_o)
    go a b c d (inr e) = inr (λ m. e m.before)

innermost-tells : (s : Context) (x : Kind) → Tells ((n : Name) × EndMayStand s n x)
innermost-tells s x = go s.levels refl
  where
    go : (ls : List Level) → s.levels ≡ ls → Tells ((n : Name) × EndMayStand s n x)
    go [] e = inr (λ m. let t : IsTrue (innermost_is [] m.0) = subst (λ (ls : List Level). IsTrue (innermost_is ls m.0)) e m.1.of_innermost in cc)
    go (l ∷ ls) e = at_first (end-tells s l.element x)
      where
        at_first : Tells (EndMayStand s l.element x) → Tells ((n : Name) × EndMayStand s n x)
        at_first (inl m) = inl (l.element, m)
        at_first (inr never) = inr (λ m.
            let t : IsTrue (innermost_is (l ∷ ls) m.0) = subst (λ (ks : List Level). IsTrue (innermost_is ks m.0)) e m.1.of_innermost in
            never (subst (λ (n : Name). EndMayStand s n x) (sym (same-name l.element m.0 t)) m.1))

start-tells : (s : Context) (n : Name) (x : Kind) → required (left_of s) ≡ Some n → Tells (StartMayStand s n x)
start-tells s n x r = go (is-true s.doctype.syntax.omittag) (is-true (misfits s (token x))) (is-false (finished s)) (is-true (is_declared s.doctype n)) (is-false (is_excluded s (Some n))) (is-true (type_of s.doctype n).omits.start) (is-false (has_required s.doctype n)) (is-false (has_declared_content (content_of (type_of s.doctype n)))) (is-below (depth s) s.doctype.syntax.quantities.taglvl)
  where
    go : Tells (IsTrue s.doctype.syntax.omittag) → Tells (IsTrue (misfits s (token x))) → Tells (IsFalse (finished s)) → Tells (IsTrue (is_declared s.doctype n)) → Tells (IsFalse (is_excluded s (Some n))) → Tells (IsTrue (type_of s.doctype n).omits.start) → Tells (IsFalse (has_required s.doctype n)) → Tells (IsFalse (has_declared_content (content_of (type_of s.doctype n)))) → Tells (depth s < s.doctype.syntax.quantities.taglvl) → Tells (StartMayStand s n x)
    go (inl a) (inl b) (inl c) (inl d) (inl e) (inl f) (inl g) (inl h) (inl i) = inl (record { omits = a; before = b; is_unfinished = c; is_required = r; declared = d; not_excluded = e; has_o = f; no_required_attribute = g; no_declared_content = h; room = i })
    go (inr a) b c d e f g h i = inr (λ m. a m.omits)
    go a (inr b) c d e f g h i = inr (λ m. b m.before)
    go a b (inr c) d e f g h i = inr (λ m. c m.is_unfinished)
    go a b c (inr d) e f g h i = inr (λ m. d m.declared)
    go a b c d (inr e) f g h i = inr (λ m. e m.not_excluded)
    go a b c d e (inr f) g h i = inr (λ m. f m.has_o)
    go a b c d e f (inr g) h i = inr (λ m. g m.no_required_attribute)
    go a b c d e f g (inr h) i = inr (λ m. h m.no_declared_content)
    go a b c d e f g h (inr i) = inr (λ m. i m.room)

required-tells : (s : Context) (x : Kind) → Tells ((n : Name) × StartMayStand s n x)
required-tells s x = go (required (left_of s)) refl
  where
    go : (o : Option Name) → required (left_of s) ≡ o → Tells ((n : Name) × StartMayStand s n x)
    go None e = inr (λ m. let t : Some m.0 ≡ None = sym m.1.is_required ∙ e in cc)
    go (Some n) e = at_it (start-tells s n x e)
      where
        at_it : Tells (StartMayStand s n x) → Tells ((n : Name) × StartMayStand s n x)
        at_it (inl m) = inl (n, m)
        at_it (inr never) = inr (λ m.
            let t : Some m.0 ≡ Some n = sym m.1.is_required ∙ e in
            let u : m.0 ≡ n = cc in
            never (subst (λ (k : Name). StartMayStand s k x) u m.1))

pub some-may-stand : (s : Context) (x : Kind) → ((o : Piece) × MayStand s o x) ⊎ NoneMayStand s x
some-may-stand s x = go (innermost-tells s x) (required-tells s x)
  where
    neither : ¬ ((n : Name) × EndMayStand s n x) → ¬ ((n : Name) × StartMayStand s n x) → (o : Piece) → ¬ MayStand s o x
    neither a b o (inl m) = a (m.0, m.2)
    neither a b o (inr m) = b (m.0, m.2)

    go : Tells ((n : Name) × EndMayStand s n x) → Tells ((n : Name) × StartMayStand s n x) → ((o : Piece) × MayStand s o x) ⊎ NoneMayStand s x
    go (inl m) b = inl (omitted_end m.0, inl (m.0, refl, m.1))
    go (inr a) (inl m) = inl (omitted_start m.0, inr (m.0, refl, m.1))
    go (inr a) (inr b) = inr (neither a b)

bound-end : (c i j : Bool) (t u d e : ℕ) → (c && i) ≡ false → j ≡ false → u ≡ t → e + 1 ≡ d → bound_of c j u e < bound_of c i t d
unfolding bound_of
bound-end c i j t u d e a b p q = grind arith

bound-start : (c i j : Bool) (t u d e : ℕ) → c ≡ true → j ≡ true → u ≡ t → e ≡ d + 1 → d < t → bound_of c j u e < bound_of c i t d
unfolding bound_of
bound-start c i j t u d e a b p q r = grind arith

length-levels_with : (kind : Kind) (ls : List Level) → length (levels_with kind ls) ≡ length ls
length-levels_with kind [] = refl
length-levels_with kind (l ∷ ls) = refl

after-end-depth : (n : Name) (s : Context) → IsTrue (innermost_is s.levels n) → depth (context_after (omitted_end n) s) + 1 ≡ depth s
unfolding context_after effect
after-end-depth n s e = go s.levels e
  where
    go : (ls : List Level) → IsTrue (innermost_is ls n) → length (without_first ls) + 1 ≡ length ls
    go [] e = absurd (cc)
    go (l ∷ ls) e = omega arith

after-end-inferred : (n : Name) (s : Context) → (context_after (omitted_end n) s).inferred ≡ false
unfolding context_after is_omitted_start
after-end-inferred n s = refl

after-start-depth : (n : Name) (s : Context) → depth (context_after (omitted_start n) s) ≡ depth s + 1
unfolding context_after effect
after-start-depth n s = ap suc (length-levels_with (omitted_start n).kind s.levels) ∙ (omega arith)

after-start-inferred : (n : Name) (s : Context) → (context_after (omitted_start n) s).inferred ≡ true
unfolding context_after is_omitted_start
after-start-inferred n s = refl

after-end-doctype : (n : Name) (s : Context) → (context_after (omitted_end n) s).doctype ≡ s.doctype
unfolding context_after declares
after-end-doctype n s = refl

after-start-doctype : (n : Name) (s : Context) → (context_after (omitted_start n) s).doctype ≡ s.doctype
unfolding context_after declares
after-start-doctype n s = refl

not-inferred : (a b c : Bool) → IsTrue (not a && (b && not c)) → c ≡ false
not-inferred a b c e = grind arith

-- an end that is left out before content isn't that of an element that was begun for it
end-not-inferred : (s : Context) (n : Name) (x : Kind) → EndMayStand s n x → (is_some (token x) && s.inferred) ≡ false
unfolding leaves
end-not-inferred s n x m = go (token x) m.before
  where
    go : (o : Option Token) → IsTrue (leaves_as s x o) → (is_some o && s.inferred) ≡ false
    go None e = refl
    go (Some k) e = not-inferred (allowed s k) (nat_lt 1 (depth s)) s.inferred e

after-end-bound : (s : Context) (n : Name) (x : Kind) → EndMayStand s n x → run_bound (context_after (omitted_end n) s) x < run_bound s x
after-end-bound s n x m =
    bound-end (is_some (token x)) s.inferred _ _ _ _ _ (end-not-inferred s n x m) (after-end-inferred n s) (ap (λ (d : Doctype). d.syntax.quantities.taglvl) (after-end-doctype n s)) (after-end-depth n s m.of_innermost)

misfit-content : (s : Context) (o : Option Token) → IsTrue (misfits s o) → is_some o ≡ true
misfit-content s None e = absurd (cc)
misfit-content s (Some k) e = refl

after-start-bound : (s : Context) (n : Name) (x : Kind) → StartMayStand s n x → run_bound (context_after (omitted_start n) s) x < run_bound s x
after-start-bound s n x m =
    bound-start (is_some (token x)) s.inferred _ _ _ _ _ (misfit-content s (token x) m.before) (after-start-inferred n s) (ap (λ (d : Doctype). d.syntax.quantities.taglvl) (after-start-doctype n s)) (after-start-depth n s) m.room

pub after-bound : (s : Context) (o : Piece) (x : Kind) → MayStand s o x → run_bound (context_after o s) x < run_bound s x
after-bound s o x (inl m) = subst (λ (p : Piece). run_bound (context_after p s) x < run_bound s x) (sym m.1) (after-end-bound s m.0 x m.2)
after-bound s o x (inr m) = subst (λ (p : Piece). run_bound (context_after p s) x < run_bound s x) (sym m.1) (after-start-bound s m.0 x m.2)

abbrev RunIn : ℕ → History → Kind → Type 0
RunIn n h x = (os : List Piece) × LongestRun h x os × (length os ≤ n)

extended : (n : ℕ) (h : History) (x : Kind) → run_bound (context h) x ≤ suc n → ((o : Piece) → run_bound (context (o ∷ h)) x ≤ n → RunIn n (o ∷ h) x) → ((o : Piece) × MayStand (context h) o x) ⊎ NoneMayStand (context h) x → RunIn (suc n) h x
extended n h x b rest (inr none) = ([], none, omega arith)
extended n h x b rest (inl m) =
    let c : run_bound (context_after m.0 (context h)) x < run_bound (context h) x = after-bound (context h) m.0 x m.1 in
    let e : run_bound (context (m.0 ∷ h)) x ≡ run_bound (context_after m.0 (context h)) x = ap (λ (s : Context). run_bound s x) (context-step m.0 h) in
    let r : RunIn n (m.0 ∷ h) x = rest m.0 (omega arith) in
    (m.0 ∷ r.0, (m.1, r.1), suc-le r.2)
  where
    suc-le : {k n : ℕ} → k ≤ n → suc k ≤ suc n
    suc-le h = omega arith

run-in : (n : ℕ) (h : History) (x : Kind) → run_bound (context h) x ≤ n → RunIn n h x
run-in zero h x b = go (some-may-stand (context h) x)
  where
    go : ((o : Piece) × MayStand (context h) o x) ⊎ NoneMayStand (context h) x → RunIn zero h x
    go (inr none) = ([], none, omega arith)
    go (inl m) = absurd (let c : run_bound (context_after m.0 (context h)) x < run_bound (context h) x = after-bound (context h) m.0 x m.1 in omega arith)
run-in (suc n) h x b = extended n h x b (λ o c. run-in n (o ∷ h) x c) (some-may-stand (context h) x)

-- THE LONGEST RUN IS THERE
pub longest-run : (h : History) (x : Kind) → (os : List Piece) × LongestRun h x os × (length os ≤ run_bound (context h) x)
longest-run h x = run-in (run_bound (context h) x) h x (omega arith)

bound-within : (content inferred : Bool) (taglvl depth : ℕ) → bound_of content inferred taglvl depth ≤ depth + taglvl + 1
unfolding bound_of
bound-within true true taglvl depth = omega arith
bound-within true false taglvl depth = omega arith
bound-within false inferred taglvl depth = omega arith

pub run-bounded : (h : History) (x : Kind) (os : List Piece) → LongestRun h x os → length os ≤ depth (context h) + (context h).doctype.syntax.quantities.taglvl + 1
run-bounded h x os r =
    let there = longest-run h x in
    let same : there.0 ≡ os = one-run h x there.0 os there.1 r in
    let short : length os ≤ run_bound (context h) x = subst (λ (ps : List Piece). length ps ≤ run_bound (context h) x) same there.2 in
    let within = bound-within (is_some (token x)) (context h).inferred (context h).doctype.syntax.quantities.taglvl (depth (context h)) in
    omega arith

-- it is a matter of the state alone
pub run-by-context : (h k : History) (x : Kind) (os : List Piece) → context h ≡ context k → LongestRun h x os → LongestRun k x os
run-by-context h k x [] e r = subst (λ (s : Context). NoneMayStand s x) e r
run-by-context h k x (o ∷ os) e r =
    let f : context (o ∷ h) ≡ context (o ∷ k) = context-step o h ∙ (ap (context_after o) e ∙ sym (context-step o k)) in
    (subst (λ (s : Context). MayStand s o x) e r.0, run-by-context (o ∷ h) (o ∷ k) x os f r.1)

pub context-after_run : (h k : History) (os : List Piece) → context h ≡ context k → context (after_run h os) ≡ context (after_run k os)
context-after_run h k [] e = e
context-after_run h k (o ∷ os) e = context-after_run (o ∷ h) (o ∷ k) os (context-step o h ∙ (ap (context_after o) e ∙ sym (context-step o k)))

-- from the context that stands for a history
pub run-of-history : (h : History) (c : Context) (x : Kind) (os : List Piece) → context h ≡ c → LongestRunFrom c x os → LongestRun h x os
run-of-history h c x [] e r = subst (λ (k : Context). NoneMayStand k x) (sym e) r
run-of-history h c x (o ∷ os) e r =
    (subst (λ (k : Context). MayStand k o x) (sym e) r.0, run-of-history (o ∷ h) (context_after o c) x os (context-step o h ∙ ap (context_after o) e) r.1)

pub context-of-history : (h : History) (c : Context) (os : List Piece) → context h ≡ c → context (after_run h os) ≡ context_after_run c os
context-of-history h c [] e = e
context-of-history h c (o ∷ os) e = context-of-history (o ∷ h) (context_after o c) os (context-step o h ∙ ap (context_after o) e)
