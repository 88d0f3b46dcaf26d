-- The table of reasons has no gap.
use Rattle.std.specs.Prelude.{◌≡◌, ℕ, zero, suc, ◌<◌, Bool, true, false, not, ◌&&◌, ◌||◌, ◌⊎◌, ◌↔◌, ◌==◌, cond, IsTrue, Option, Some, None, is_some, List, [], ◌∷◌}
use Rattle.std.proofs.Common.{refl, ap, ◌∙◌, inl, inr, subst}
use Rattle.std.proofs.lemmas.Slice.Eq.{bytes_eq-Decides}
use Rattle.std.proofs.lemmas.Bool.{and_parts, and_from, or_parts, eqb-true, eq-eqb, leb-false, lt-leb, not-false, cond-true}
use Rattle.sgml_dtd.specs.text.declared.reason.Reason.{Reason}
use Rattle.sgml_dtd.specs.text.declared.reason.Reason.TheVariants.{TagLevel}
use Rattle.sgml_theory_reading.specs.Names.{Name}
use Rattle.sgml_theory_reading.specs.Pieces.{Kind, End, Finish, How}
use Rattle.sgml_theory_reading.specs.Facets.{Token, token, is_start}
use Rattle.sgml_theory_reading.specs.Context.{Level, Context}
use Rattle.sgml_theory_reading.specs.Omission.{NoneMayStand, omitted_end, allowed, finished, depth, inside_of_ended, leaves, innermost_is, is_outer}
use Rattle.sgml_theory_reading.specs.Reasons.{row, reason, reason_by_token, content_reason, content_refusal, end_reason, end_refusal, finish_reason, finish_refusal, content_may_stand, is_full, is_after_document_element, end_is_omissible, end_is_omissible_in, is_innermost, Stands}

row-none : (b : Bool) (r : Reason) (rest : Option Reason) → row b r rest ≡ None → (b ≡ false) × (rest ≡ None)
unfolding row
row-none true r rest e = absurd (cc)
row-none false r rest e = (refl, e)

chosen : (b : Bool) (rest : Option Reason) → cond b None rest ≡ None → (b ≡ true) ⊎ (rest ≡ None)
chosen true rest e = inl refl
chosen false rest e = inr e

room-below : (t : Bool) (s : Context) → not (t && is_full s) ≡ true → IsTrue t → depth s < s.doctype.syntax.quantities.taglvl
room-below t s e f = go t (is_full s) e f refl
  where
    go : (t full : Bool) → not (t && full) ≡ true → t ≡ true → is_full s ≡ full → depth s < s.doctype.syntax.quantities.taglvl
    go true true e f g = absurd (cc)
    go true false e f g = leb-false s.doctype.syntax.quantities.taglvl (depth s) g
    go false full e f g = absurd (cc)

refused-content : (s : Context) (k : Token) → content_refusal s k ≡ None → ⊥
unfolding content_refusal
refused-content s k n =
    let z : Some TagLevel ≡ None = (row-none _ _ _ (row-none _ _ _ (row-none _ _ _ (row-none _ _ _ (row-none _ _ _ (row-none _ _ _ (row-none _ _ _ (row-none _ _ _ (row-none _ _ _ n).1).1).1).1).1).1).1).1).1 in cc z

content-stands : (s : Context) (x : Kind) (k : Token) → content_reason s k (is_start x) ≡ None → Stands s x (Some k)
content-stands s x k e = go (chosen (content_may_stand s k (is_start x)) (content_refusal s k) e)
  where
    go : (content_may_stand s k (is_start x) ≡ true) ⊎ (content_refusal s k ≡ None) → Stands s x (Some k)
    go (inl m) = let p = and_parts (allowed s k) _ m in (p.0, room-below (is_start x) s p.1)
    go (inr n) = absurd (refused-content s k n)

room-above : (t : Bool) (s : Context) → (IsTrue t → depth s < s.doctype.syntax.quantities.taglvl) → not (t && is_full s) ≡ true
room-above false s h = refl
room-above true s h = ap not (lt-leb s.doctype.syntax.quantities.taglvl (depth s) (h refl))

stands-content : (s : Context) (x : Kind) (k : Token) → Stands s x (Some k) → content_reason s k (is_start x) ≡ None
stands-content s x k h = cond-true _ None (content_refusal s k) (and_from (allowed s k) _ h.0 (room-above (is_start x) s h.1))

-- the end of the innermost element may stand before what leaves it
end-stands : (s : Context) (x : Kind) → NoneMayStand s x → IsTrue (leaves s x) → IsTrue (finished s) → IsTrue (end_is_omissible s) → ⊥
end-stands s x none l f o = go s.levels refl
  where
    go : (ls : List Level) → s.levels ≡ ls → ⊥
    go [] e = let q : IsTrue (end_is_omissible_in s []) = subst (λ (ks : List Level). IsTrue (end_is_omissible_in s ks)) e o in cc
    go (l' ∷ ls) e =
        let q : IsTrue (end_is_omissible_in s (l' ∷ ls)) = subst (λ (ks : List Level). IsTrue (end_is_omissible_in s ks)) e o in
        let p = and_parts s.doctype.syntax.omittag _ q in
        none (omitted_end l'.element) (inl (
          l'.element,
          refl,
          record {
            omits = p.0;
            of_innermost = ap (λ (ks : List Level). innermost_is ks l'.element) e ∙ (bytes_eq-Decides l'.element l'.element).1 refl;
            is_finished = f;
            has_o = p.1;
            before = l;
          },
        ))

end-rows : (s : Context) (inside : Option ℕ) → end_refusal s inside ≡ None → (is_some inside ≡ true) × (finished s ≡ true) × (end_is_omissible s ≡ true)
unfolding end_refusal
end-rows s inside r =
    let a = row-none (not (is_some inside)) _ _ r in
    let b = row-none (not (finished s) || not s.begun) _ _ a.1 in
    let c = row-none (not (end_is_omissible s)) _ _ b.1 in
    (not-false _ a.0, not-false _ (or_parts _ _ b.0).0, not-false _ c.0)

finish-rows : (s : Context) → finish_refusal s ≡ None → (finished s ≡ true) × (end_is_omissible s ≡ true)
unfolding finish_refusal
finish-rows s r =
    let b = row-none (not (finished s) || not s.begun) _ _ r in
    let c = row-none (not (end_is_omissible s)) _ _ b.1 in
    (not-false _ (or_parts _ _ b.0).0, not-false _ c.0)

leaves-end : (s : Context) (n : Name) (how : How) (m : ℕ) → inside_of_ended s (End n how) ≡ Some (suc m) → IsTrue (leaves s (End n how))
unfolding leaves token
leaves-end s n how m e = ap is_outer e

leaves-finish : (s : Context) → IsTrue (leaves s Finish)
unfolding leaves token
leaves-finish s = refl

end-stands-at : (s : Context) (n : Name) (how : How) (inside : Option ℕ) → inside_of_ended s (End n how) ≡ inside → NoneMayStand s (End n how) → end_reason s inside ≡ None → (inside ≡ Some 0) × IsTrue (finished s)
end-stands-at s n how None e none r = let a = end-rows s None r in absurd (let z : false ≡ true = a.0 in cc)
end-stands-at s n how (Some zero) e none r = (refl, go (chosen (finished s) (end_refusal s (Some zero)) r))
  where
    go : (finished s ≡ true) ⊎ (end_refusal s (Some zero) ≡ None) → IsTrue (finished s)
    go (inl f) = f
    go (inr w) = (end-rows s (Some zero) w).1
end-stands-at s n how (Some (suc m)) e none r =
    let a = end-rows s (Some (suc m)) r in
    absurd (end-stands s (End n how) none (leaves-end s n how m e) a.1 a.2)

finish-stands-at : (s : Context) → NoneMayStand s Finish → finish_reason s ≡ None → (depth s ≡ 0) × IsTrue s.begun
finish-stands-at s none r = go (chosen (is_after_document_element s) (finish_refusal s) r)
  where
    go : (is_after_document_element s ≡ true) ⊎ (finish_refusal s ≡ None) → (depth s ≡ 0) × IsTrue s.begun
    go (inl a) = let p = and_parts (depth s == 0) _ a in (eqb-true (depth s) 0 p.0, p.1)
    go (inr w) = let a = finish-rows s w in absurd (end-stands s Finish none (leaves-finish s) a.0 a.1)

-- THE TABLE HAS NO GAP: after the longest run no row holds exactly where the piece may stand
reason-stands : (s : Context) (x : Kind) (o : Option Token) → NoneMayStand s x → reason_by_token s x o ≡ None → Stands s x o
reason-stands s x (Some k) none r = content-stands s x k r
reason-stands s (End n how) None none r = end-stands-at s n how (inside_of_ended s (End n how)) refl none r
reason-stands s Finish None none r = finish-stands-at s none r
reason-stands s _ None none r = tt

stands-reason : (s : Context) (x : Kind) (o : Option Token) → Stands s x o → reason_by_token s x o ≡ None
stands-reason s x (Some k) h = stands-content s x k h
stands-reason s (End n how) None h =
    cond-true _ None (end_refusal s (inside_of_ended s (End n how))) (and_from (is_innermost (inside_of_ended s (End n how))) (finished s) (ap is_innermost h.0) h.1)
stands-reason s Finish None h =
    cond-true _ None (finish_refusal s) (and_from (depth s == 0) s.begun (eq-eqb (depth s) 0 h.0) h.1)
stands-reason s _ None h = refl

pub reason-exact : (s : Context) (x : Kind) → NoneMayStand s x → (reason s x ≡ None) ↔ Stands s x (token x)
unfolding reason
reason-exact s x none = (reason-stands s x (token x) none, stands-reason s x (token x))
