-- Where a visible piece may stand as it comes.
use Rattle.std.specs.Prelude.{nat_lt, MatchBool, if◌then◌else◌}
use Rattle.std.proofs.Common.{◌≡◌, ℕ, zero, suc, Bool, true, false, not, ◌&&◌, inl, inr, Option, Some, None, refl, sym, ap, ◌∙◌, subst}
use Rattle.sgml_dtd.specs.Doctypes.{Doctype}
use Rattle.sgml_theory_reading.specs.Names.{Name}
use Rattle.sgml_theory_reading.specs.Pieces.{Kind, Char, End, How}
use Rattle.sgml_theory_reading.specs.Facets.{Token, token, is_start}
use Rattle.sgml_theory_reading.specs.Context.{Context}
use Rattle.sgml_theory_reading.specs.Omission.{NoneMayStand, leaves, leaves_as, misfits, allowed, finished, depth, is_outer, inside_of_ended}
use Rattle.sgml_theory_reading.specs.Reasons.{reason, reason_by_token, content_refusal, end_refusal, is_full, is_innermost}
use Rattle.sgml_infer.specs.Tables.{name_at}
use Rattle.sgml_infer.specs.declared.visible.Visible.{Visible}
use Rattle.sgml_infer.specs.declared.visible.Visible.TheVariants as visible
use Rattle.sgml_infer.specs.Seen.{IsUnopposed}
use Rattle.sgml_infer.specs.Visibles.{kind_of}

not-both : (b : Bool) → b ≡ true → b ≡ false → ⊥
not-both b p q = let z : true ≡ false = sym p ∙ q in absurd (cc)

not-false : (b : Bool) → not b ≡ false → b ≡ true
not-false true h = refl
not-false false h = cc

innermost-not-outer : (o : Option ℕ) → is_innermost o ≡ true → is_outer o ≡ false
innermost-not-outer None h = cc
innermost-not-outer (Some zero) h = refl
innermost-not-outer (Some (suc n)) h = cc

both-true : (a b : Bool) → (a && b) ≡ true → (a ≡ true) × (b ≡ true)
both-true true b h = (refl, h)
both-true false b h = cc

none-stands : (s : Context) (x : Kind) → leaves s x ≡ false → misfits s (token x) ≡ false → NoneMayStand s x
none-stands s x l m o (inl h) = not-both (leaves s x) h.2.before l
none-stands s x l m o (inr h) = not-both (misfits s (token x)) h.2.before m

by-content : (s : Context) (x : Kind) (k : Token) → token x ≡ Some k → misfits s (token x) ≡ false → (is_start x && is_full s) ≡ false → IsUnopposed s x
unfolding leaves reason
by-content s x k e m f =
    let g : not (allowed s k) ≡ false = ap (misfits s) (sym e) ∙ m in
    let a : allowed s k ≡ true = not-false (allowed s k) g in
    record {
      none = none-stands s x (ap (leaves_as s x) e ∙ ap (λ b. b && (nat_lt 1 (depth s) && not s.inferred)) g) m;
      no_reason = ap (reason_by_token s x) e ∙ (λ i. if a i && not (f i) then None else content_refusal s k);
    }

by-end : (s : Context) (n : Name) (how : How) (o : Option ℕ) → o ≡ inside_of_ended s (End n how) → is_innermost o ≡ true → finished s ≡ true → IsUnopposed s (End n how)
unfolding leaves reason token
by-end s n how o e h f =
    let g : is_innermost (inside_of_ended s (End n how)) ≡ true = ap is_innermost (sym e) ∙ h in
    record {
      none = none-stands s (End n how) (innermost-not-outer (inside_of_ended s (End n how)) g) refl;
      no_reason = λ i. if g i && f i then None else end_refusal s (inside_of_ended s (End n how));
    }

-- content that is allowed, where there is room for a start
content-stands : (s : Context) (x : Kind) (k : Token) → token x ≡ Some k → (misfit full : Bool) → misfit ≡ misfits s (token x) → full ≡ (is_start x && is_full s) → (r : Bool) → r ≡ (not misfit && not full) →
    MatchBool r (IsUnopposed s x) (Unit {0})
content-stands s x k e true full m f true h = cc
content-stands s x k e false true m f true h = cc
content-stands s x k e false false m f true h = by-content s x k e (sym m) (sym f)
content-stands s x k e misfit full m f false h = tt

and-true : (b : Bool) → b ≡ (b && true)
and-true true = refl
and-true false = refl

pub start-stands : (t : Doctype) (s : Context) (v : Visible) (i : ℕ) → v ≡ visible.Start i → (misfit full : Bool) → misfit ≡ false → misfit ≡ misfits s (token (kind_of t v)) → full ≡ is_full s →
    MatchBool (not full) (IsUnopposed s (kind_of t v)) (Unit {0})
unfolding token is_start
start-stands t s v i e misfit full z m f =
    subst (λ (u : Visible). MatchBool (not full) (IsUnopposed s (kind_of t u)) (Unit {0})) (sym e)
    (content-stands s (kind_of t (visible.Start i)) (Some (name_at t i)) refl misfit full (m ∙ ap (λ (u : Visible). misfits s (token (kind_of t u))) e) f (not full) (sym (ap (λ b. not b && not full) z)))

pub chars-stand : (t : Doctype) (s : Context) (v : Visible) → v ≡ visible.Chars → (misfit : Bool) → misfit ≡ misfits s (token (kind_of t v)) →
    MatchBool (not misfit) (IsUnopposed s (kind_of t v)) (Unit {0})
unfolding token is_start
chars-stand t s v e misfit m =
    subst (λ (u : Visible). MatchBool (not misfit) (IsUnopposed s (kind_of t u)) (Unit {0})) (sym e)
    (content-stands s (Char 0) None refl misfit false (m ∙ ap (λ (u : Visible). misfits s (token (kind_of t u))) e) refl (not misfit) (and-true (not misfit)))

-- the end of the innermost element, which is finished
end-stands : (s : Context) (n : Name) (how : How) (o : Option ℕ) → o ≡ inside_of_ended s (End n how) → (r : Bool) → r ≡ (is_innermost o && finished s) →
    MatchBool r (IsUnopposed s (End n how)) (Unit {0})
end-stands s n how o e true h = let b = both-true (is_innermost o) (finished s) (sym h) in by-end s n how o e b.0 b.1
end-stands s n how o e false h = tt

pub tag-stands : (t : Doctype) (s : Context) (v u : Visible) (n : Name) (how : How) → v ≡ u → kind_of t u ≡ End n how → (o : Option ℕ) → o ≡ inside_of_ended s (kind_of t u) → (r : Bool) → r ≡ (is_innermost o && finished s) →
    MatchBool r (IsUnopposed s (kind_of t v)) (Unit {0})
tag-stands t s v u n how e k o i r h =
    subst (λ (w : Kind). MatchBool r (IsUnopposed s w) (Unit {0})) (sym (ap (kind_of t) e ∙ k))
    (end-stands s n how o (i ∙ ap (inside_of_ended s) k) r h)
