-- Where pieces stand with no tag left out before them.
use Rattle.std.specs.Prelude.{◌≡◌, Bool, true, false, not, ◌&&◌, nat_lt, Option, Some, None, List, [], ◌∷◌, length}
use Rattle.std.proofs.Common.{refl, sym, ap, ◌∙◌, inl, inr, subst}
use Rattle.sgml_theory_worked.specs.theory_reading.Names.{Name}
use Rattle.sgml_theory_worked.specs.theory_reading.Pieces.{Kind, End, Finish, Tag}
use Rattle.sgml_theory_worked.specs.theory_reading.Facets.{Token, token}
use Rattle.sgml_theory_worked.specs.theory_reading.Context.{Level, Context}
use Rattle.sgml_theory_worked.specs.theory_reading.Omission.{NoneMayStand, depth, finished, leaves, leaves_as, misfits, is_outer, inside_of_ended, innermost_is}
use Rattle.sgml_theory_worked.specs.theory_reading.Reasons.{reason, Stands}
use Rattle.sgml_theory_worked.proofs.theory_reading.Table.{reason-exact}
use Rattle.sgml_theory_written.proofs.Plain.{inside_of}

-- no tag may be left out before it, and it is refused for no reason
pub record Alone (s : Context) (x : Kind) : Type 0 where
  pub none_omitted : NoneMayStand s x
  pub no_reason : reason s x ≡ None

true-false : {P : Type 0} → true ≡ false → P
true-false e = absurd (cc)

-- what leaves nothing and misfits nowhere needs no omitted tag
nothing-omitted : (s : Context) (x : Kind) → leaves s x ≡ false → misfits s (token x) ≡ false → NoneMayStand s x
nothing-omitted s x l m o (inl a) = true-false (sym a.2.before ∙ l)
nothing-omitted s x l m o (inr a) = true-false (sym a.2.before ∙ m)

stood : (s : Context) (x : Kind) → NoneMayStand s x → Stands s x (token x) → Alone s x
stood s x none h = record { none_omitted = none; no_reason = (reason-exact s x none).1 h }

pub content-alone : (s : Context) (x : Kind) (k : Token) → token x ≡ Some k → Stands s x (Some k) → Alone s x
unfolding leaves
content-alone s x k t h =
    let l : leaves s x ≡ false = ap (leaves_as s x) t ∙ ap (λ b. not b && (nat_lt 1 (depth s) && not s.inferred)) h.0 in
    let m : misfits s (token x) ≡ false = ap (misfits s) t ∙ ap not h.0 in
    stood s x (nothing-omitted s x l m) (subst (λ (o : Option Token). Stands s x o) (sym t) h)

-- a piece that is no content and ends nothing
quiet : (s : Context) (x : Kind) → token x ≡ None → leaves_as s x None ≡ false → Stands s x None → Alone s x
unfolding leaves
quiet s x t f h =
    let l : leaves s x ≡ false = ap (leaves_as s x) t ∙ f in
    stood s x (nothing-omitted s x l (ap (misfits s) t)) (subst (λ (o : Option Token). Stands s x o) (sym t) h)

no-token : (n : Name) → token (End n Tag) ≡ None
unfolding token
no-token n = refl

-- the end-tag of the innermost element, where that is finished
pub end-alone : (s : Context) (n : Name) → inside_of n s ≡ Some 0 → finished s ≡ true → Alone s (End n Tag)
unfolding inside_of inside_of_ended
end-alone s n e f = quiet s (End n Tag) (no-token n) (ap is_outer e) (e, f)

no-innermost : (ls : List Level) (n : Name) → length ls ≡ 0 → innermost_is ls n ≡ false
no-innermost [] n e = refl
no-innermost (l ∷ ls) n e = absurd (cc)

none-before-finish : (s : Context) → depth s ≡ 0 → NoneMayStand s Finish
unfolding token
none-before-finish s e o (inl a) = true-false (sym a.2.of_innermost ∙ no-innermost s.levels a.0 e)
none-before-finish s e o (inr a) = true-false (sym a.2.before)

finish-token : token Finish ≡ None
unfolding token
finish-token = refl

pub finish-alone : (s : Context) → Stands s Finish None → Alone s Finish
finish-alone s h =
    stood s Finish (none-before-finish s h.0) (subst (λ (o : Option Token). Stands s Finish o) (sym finish-token) h)

-- a piece other than an end-tag stands alone where it may stand
unfoldable pub is_end : Kind → Bool
is_end (End n how) = true
is_end x = false

pub alone : (s : Context) (x : Kind) (o : Option Token) → token x ≡ o → is_end x ≡ false → Stands s x o → Alone s x
unfolding is_end
alone s x (Some k) t e h = content-alone s x k t h
alone s (End n how) None t e h = absurd (cc)
alone s Finish None t e h = finish-alone s h
alone s x None t e h = quiet s x t refl tt
