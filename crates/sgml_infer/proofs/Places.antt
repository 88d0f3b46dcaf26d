-- The places of the open elements.
use Rattle.std.proofs.Common.{◌≡◌, ℕ, ◌+◌, ◌-◌, ◌<◌, ◌≤◌, Bool, false, List, [], ◌∷◌, ◌++◌, length, take, sym, ap, ◌∙◌, subst, arith, All}
use Rattle.std.specs.List.{slice_set, slice_index_or}
use Rattle.std.proofs.lemmas.List.{take_more_set, take_more}
use Rattle.std.proofs.lemmas.List.Elements.{All-push}
use Rattle.sgml_automaton.specs.declared.state.ModelState.{ModelState}
use Rattle.sgml_dtd_elements.specs.Types.{ElementType}
use Rattle.sgml_dtd_elements.specs.Laws.{AreDistinct}
use Rattle.sgml_dtd.specs.Doctypes.{Doctype}
use Rattle.sgml_theory_reading.specs.Types.{type_of, model_of, content_of}
use Rattle.sgml_theory_reading.specs.Context.{begun_level}
use Rattle.sgml_infer.specs.Tables.{name_at, type_at, IsNumber}
use Rattle.sgml_infer.specs.declared.level.Level.{Level}
use Rattle.sgml_infer.specs.Trees.{left_at, levels_of, IsStateIn, IsPosition, HasRoom, IsFresh, IsLevel}
use Rattle.sgml_infer.proofs.Declared.{said-of}
use Rattle.sgml_infer.proofs.Contents.{start-position}
use Rattle.sgml_infer.proofs.Points.{innermost, last-level, front-levels}

abbrev pub begun-at : ℕ → ModelState → ℕ → Bool → Level
begun-at i s k n = record { element = i; state = s; position = 0; slash = false; within_net = n; excepted = k }

pub begun-level : (t : Doctype) (ls : List Level) (n i : ℕ) (s : ModelState) (k : ℕ) (w : Bool) → AreDistinct t.elements → IsNumber t i → n < length ls → IsFresh t i s →
    levels_of t (take (n + 1) (slice_set ls n (begun-at i s k w))) ≡ begun_level t (name_at t i) false ∷ levels_of t (take n ls)
begun-level t ls n i s j w d k h f =
    ap (levels_of t) (take_more_set ls n (begun-at i s j w) h)
    ∙ (innermost t (take n ls) (begun-at i s j w)
    ∙ (λ z. record { element = name_at t i; left = m z; slash = false } ∷ levels_of t (take n ls)))
  where
    m : left_at t i s ≡ model_of (content_of (type_of t (name_at t i)))
    m = f.start ∙ sym (ap (λ (x : ElementType). model_of (content_of x)) (said-of t i d k))

pub begun-levels : (t : Doctype) (ls : List Level) (n i : ℕ) (s : ModelState) (j : ℕ) (w : Bool) → IsNumber t i → n < length ls → IsFresh t i s → HasRoom t s → All (IsLevel t) (take n ls) →
    All (IsLevel t) (take (n + 1) (slice_set ls n (begun-at i s j w)))
begun-levels t ls n i s j w k h f r a =
    subst (All (IsLevel t)) (sym (take_more_set ls n (begun-at i s j w) h))
    (All-push (IsLevel t) (take n ls) (begun-at i s j w) a (record { number = k; state = f.state; position = start-position (content_of (type_at t i)) s f.start; room = r }))

abbrev pub taken-at : Level → ModelState → ℕ → Level
taken-at l s q = record { element = l.element; state = s; position = q; slash = l.slash; within_net = l.within_net; excepted = l.excepted }

pub taken-levels : (t : Doctype) (ls : List Level) (n : ℕ) (d : Level) (s : ModelState) (q : ℕ) → 0 < n → n ≤ length ls → All (IsLevel t) (take n ls) →
    IsStateIn (content_of (type_at t (slice_index_or ls (n - 1) d).element)) s → IsPosition t (slice_index_or ls (n - 1) d).element q s → HasRoom t s →
    All (IsLevel t) (take n (slice_set ls (n - 1) (taken-at (slice_index_or ls (n - 1) d) s q)))
taken-levels t ls n d s q p h a k u r =
    let e : n - 1 + 1 ≡ n = omega arith in
    let l = slice_index_or ls (n - 1) d in
    let split : take n ls ≡ take (n - 1) ls ++ l ∷ [] = ap (λ (m : ℕ). take m ls) (sym e) ∙ take_more ls (n - 1) d (omega arith) in
    let b : All (IsLevel t) (take (n - 1) ls ++ l ∷ []) = subst (All (IsLevel t)) split a in
    let m : IsLevel t l = last-level t l (take (n - 1) ls) b in
    subst (All (IsLevel t)) (sym (ap (λ (m : ℕ). take m (slice_set ls (n - 1) (taken-at l s q))) (sym e) ∙ take_more_set ls (n - 1) (taken-at l s q) (omega arith)))
    (All-push (IsLevel t) (take (n - 1) ls) (taken-at l s q) (front-levels t l (take (n - 1) ls) b) (record { number = m.number; state = k; position = u; room = r }))
