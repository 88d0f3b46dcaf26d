-- The run that is found is the longest run.
use Rattle.std.specs.Prelude.{◌≡◌, ℕ, zero, suc, ◌≤◌, ◌<◌, Bool, true, false, not, ◌↔◌, cond, nat_lt, IsTrue, Option, Some, None, List, [], ◌∷◌}
use Rattle.std.specs.Option.{option_or}
use Rattle.std.proofs.Common.{refl, sym, ap, ◌∙◌, arith, inl, inr, subst}
use Rattle.std.proofs.lemmas.Bool.{and_parts, and_from, cond-true}
use Rattle.std.proofs.lemmas.Bool.Decides.{nat_tests}
use Rattle.std.proofs.lemmas.Slice.Eq.{bytes_eq-Decides}
use Rattle.sgml_dtd.specs.model.Term.{required}
use Rattle.sgml_theory_reading.specs.Names.{Name}
use Rattle.sgml_theory_reading.specs.Types.{type_of, content_of, is_declared, has_declared_content, has_required}
use Rattle.sgml_theory_reading.specs.Pieces.{Piece, Kind, History}
use Rattle.sgml_theory_reading.specs.Facets.{token}
use Rattle.sgml_theory_reading.specs.Context.{Level, Context, context, context_after}
use Rattle.sgml_theory_reading.specs.Omission.{EndMayStand, StartMayStand, MayStand, NoneMayStand, left_of, is_excluded, finished, misfits, innermost_is, omitted_end, omitted_start}
use Rattle.sgml_theory_reading.specs.Runs.{LongestRun, LongestRunFrom, run_bound}
use Rattle.sgml_theory_reading.specs.Walk.{end_is_due, end_due, start_is_due, start_due, next_omitted, run_going_on, run_up_to, longest_run}
use Rattle.sgml_theory_reading.proofs.Runs.{same-name, after-bound, run-of-history}

is-not : (b : Bool) → not b ≡ true → b ≡ false
is-not true e = absurd (cc)
is-not false e = refl

not-is : (b : Bool) → b ≡ false → not b ≡ true
not-is b e = ap not e

below : (m n : ℕ) → nat_lt m n ≡ true → m < n
below m n e = grind (arith, nat_tests)

below-true : (m n : ℕ) → m < n → nat_lt m n ≡ true
below-true m n e = grind (arith, nat_tests)

some-of : {A : Type 0} (b : Bool) (a o : A) → cond b (Some a) None ≡ Some o → (b ≡ true) × (o ≡ a)
some-of true a o e = (refl, let f : o ≡ a = cc in f)
some-of false a o e = absurd (cc)

end-parts : (s : Context) (n : Name) (x : Kind) → IsTrue (innermost_is s.levels n) → end_is_due s n x ≡ true → EndMayStand s n x
end-parts s n x at e =
    let a = and_parts s.doctype.syntax.omittag _ e in
    let b = and_parts (finished s) _ a.1 in
    let c = and_parts (type_of s.doctype n).omits.end _ b.1 in
    record { omits = a.0; of_innermost = at; is_finished = b.0; has_o = c.0; before = c.1 }

parts-end : (s : Context) (n : Name) (x : Kind) → EndMayStand s n x → end_is_due s n x ≡ true
parts-end s n x m = and_from _ _ m.omits (and_from _ _ m.is_finished (and_from _ _ m.has_o m.before))

start-parts : (s : Context) (n : Name) (x : Kind) → required (left_of s) ≡ Some n → start_is_due s n x ≡ true → StartMayStand s n x
start-parts s n x r e =
    let a = and_parts s.doctype.syntax.omittag _ e in
    let b = and_parts (misfits s (token x)) _ a.1 in
    let c = and_parts (not (finished s)) _ b.1 in
    let d = and_parts (is_declared s.doctype n) _ c.1 in
    let f = and_parts (not (is_excluded s (Some n))) _ d.1 in
    let g = and_parts (type_of s.doctype n).omits.start _ f.1 in
    let h = and_parts (not (has_required s.doctype n)) _ g.1 in
    let i = and_parts (not (has_declared_content (content_of (type_of s.doctype n)))) _ h.1 in
    record {
      omits = a.0;
      before = b.0;
      is_unfinished = is-not _ c.0;
      is_required = r;
      declared = d.0;
      not_excluded = is-not _ f.0;
      has_o = g.0;
      no_required_attribute = is-not _ h.0;
      no_declared_content = is-not _ i.0;
      room = below _ _ i.1;
    }

parts-start : (s : Context) (n : Name) (x : Kind) → StartMayStand s n x → start_is_due s n x ≡ true
parts-start s n x m =
    and_from _ _ m.omits (and_from _ _ m.before (and_from _ _ (not-is _ m.is_unfinished) (and_from _ _ m.declared
    (and_from _ _ (not-is _ m.not_excluded) (and_from _ _ m.has_o (and_from _ _ (not-is _ m.no_required_attribute)
    (and_from _ _ (not-is _ m.no_declared_content) (below-true _ _ m.room))))))))

-- an end that is due may stand
end-stands : (s : Context) (x : Kind) (o : Piece) (ls : List Level) → s.levels ≡ ls → end_due s ls x ≡ Some o → MayStand s o x
end-stands s x o [] e f = absurd (cc)
end-stands s x o (l ∷ ls) e f =
    let p = some-of (end_is_due s l.element x) (omitted_end l.element) o f in
    let at : IsTrue (innermost_is s.levels l.element) = ap (λ (ks : List Level). innermost_is ks l.element) e ∙ (bytes_eq-Decides l.element l.element).1 refl in
    inl (l.element, p.1, end-parts s l.element x at p.0)

start-stands : (s : Context) (x : Kind) (o : Piece) (r : Option Name) → required (left_of s) ≡ r → start_due s r x ≡ Some o → MayStand s o x
start-stands s x o None e f = absurd (cc)
start-stands s x o (Some n) e f =
    let p = some-of (start_is_due s n x) (omitted_start n) o f in
    inr (n, p.1, start-parts s n x e p.0)

one-of : (s : Context) (x : Kind) (o : Piece) (a b : Option Piece) → end_due s s.levels x ≡ a → start_due s (required (left_of s)) x ≡ b → option_or a b ≡ Some o → MayStand s o x
one-of s x o (Some q) b e f g = end-stands s x o s.levels refl (e ∙ g)
one-of s x o None b e f g = start-stands s x o (required (left_of s)) refl (f ∙ g)

pub found-stands : (s : Context) (x : Kind) (o : Piece) → next_omitted s x ≡ Some o → MayStand s o x
unfolding next_omitted
found-stands s x o e = one-of s x o (end_due s s.levels x) (start_due s (required (left_of s)) x) refl refl e

-- what may stand is found
end-found : (s : Context) (x : Kind) (n : Name) (ls : List Level) → s.levels ≡ ls → EndMayStand s n x → end_due s ls x ≡ Some (omitted_end n)
end-found s x n [] e m =
    absurd (let f : IsTrue (innermost_is [] n) = subst (λ (ks : List Level). IsTrue (innermost_is ks n)) e m.of_innermost in cc)
end-found s x n (l ∷ ls) e m =
    let f : IsTrue (innermost_is (l ∷ ls) n) = subst (λ (ks : List Level). IsTrue (innermost_is ks n)) e m.of_innermost in
    let g : l.element ≡ n = same-name l.element n f in
    let h : end_is_due s l.element x ≡ true = ap (λ (k : Name). end_is_due s k x) g ∙ parts-end s n x m in
    cond-true _ _ _ h ∙ ap (λ (k : Name). Some (omitted_end k)) g

no-end : (s : Context) (x : Kind) (ls : List Level) → finished s ≡ false → end_due s ls x ≡ None
no-end s x [] f = refl
no-end s x (l ∷ ls) f = go (end_is_due s l.element x) refl
  where
    go : (b : Bool) → end_is_due s l.element x ≡ b → cond (end_is_due s l.element x) (Some (omitted_end l.element)) None ≡ None
    go true e =
        let a = and_parts s.doctype.syntax.omittag _ e in
        let c = and_parts (finished s) _ a.1 in
        absurd (let z : true ≡ false = sym c.0 ∙ f in cc)
    go false e = ap (λ (b : Bool). cond b (Some (omitted_end l.element)) None) e

start-found : (s : Context) (x : Kind) (n : Name) → StartMayStand s n x → option_or (end_due s s.levels x) (start_due s (required (left_of s)) x) ≡ Some (omitted_start n)
start-found s x n m =
    let a : end_due s s.levels x ≡ None = no-end s x s.levels m.is_unfinished in
    let b : start_due s (required (left_of s)) x ≡ Some (omitted_start n) =
    ap (λ (r : Option Name). start_due s r x) m.is_required ∙ cond-true _ _ _ (parts-start s n x m) in
    λ i. option_or (a i) (b i)

pub stands-found : (s : Context) (x : Kind) (o : Piece) → MayStand s o x → next_omitted s x ≡ Some o
unfolding next_omitted
stands-found s x o (inl m) =
    ap (λ (a : Option Piece). option_or a (start_due s (required (left_of s)) x)) (end-found s x m.0 s.levels refl m.2) ∙ ap (λ (p : Piece). Some p) (sym m.1)
stands-found s x o (inr m) = start-found s x m.0 m.2 ∙ ap (λ (p : Piece). Some p) (sym m.1)

none-found : (s : Context) (x : Kind) → next_omitted s x ≡ None → NoneMayStand s x
none-found s x e = λ o m. let f : Some o ≡ None = sym (stands-found s x o m) ∙ e in absurd (cc)

go-on : (n : ℕ) (s : Context) (x : Kind) → run_bound s x ≤ suc n → ((o : Piece) → run_bound (context_after o s) x ≤ n → LongestRunFrom (context_after o s) x (run_up_to n (context_after o s) x)) → (r : Option Piece) → next_omitted s x ≡ r → LongestRunFrom s x (run_going_on (next_omitted s x) (λ o. run_up_to n (context_after o s) x))
go-on n s x b rest None e =
    subst (λ (r : Option Piece). LongestRunFrom s x (run_going_on r (λ o. run_up_to n (context_after o s) x))) (sym e) (none-found s x e)
go-on n s x b rest (Some o) e =
    let c : run_bound (context_after o s) x < run_bound s x = after-bound s o x (found-stands s x o e) in
    subst (λ (r : Option Piece). LongestRunFrom s x (run_going_on r (λ o. run_up_to n (context_after o s) x))) (sym e)
    (found-stands s x o e, rest o (omega arith))

up-to-longest : (n : ℕ) (s : Context) (x : Kind) → run_bound s x ≤ n → LongestRunFrom s x (run_up_to n s x)
up-to-longest zero s x b = go (next_omitted s x) refl
  where
    go : (r : Option Piece) → next_omitted s x ≡ r → NoneMayStand s x
    go None e = none-found s x e
    go (Some o) e = absurd (let c : run_bound (context_after o s) x < run_bound s x = after-bound s o x (found-stands s x o e) in omega arith)
up-to-longest (suc n) s x b =
    go-on n s x b (λ o c. up-to-longest n (context_after o s) x c) (next_omitted s x) refl

pub found-longest : (h : History) (x : Kind) → LongestRun h x (longest_run (context h) x)
found-longest h x = run-of-history h (context h) x (longest_run (context h) x) refl (up-to-longest (run_bound (context h) x) (context h) x (omega arith))

pub found-is : (s : Context) (x : Kind) (o : Piece) → (next_omitted s x ≡ Some o) ↔ MayStand s o x
found-is s x o = (found-stands s x o, stands-found s x o)
