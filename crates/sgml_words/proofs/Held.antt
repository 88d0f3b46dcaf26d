-- What `clap` holds between two words.
use Rattle.std.proofs.Common.{◌≡◌, ◌∙◌, ◌⊎◌, inl, inr, Bool, true, false, cond, refl, sym, ap, List, [], ◌∷◌, ◌++◌, map, codes, Option, Some, None, true≢false}
use Rattle.clap.specs.Walk.{Held, Text, settled}
use Rattle.clap.specs.Kinds.{Kinds}
use Rattle.clap.specs.Faults.{settle_fault}
use Rattle.sgml_words.specs.Words.{Use, as_file}
use Rattle.sgml_words.specs.Uses.{has, kept}
use Rattle.sgml_words.specs.Clap.{row_of}
use Rattle.sgml_words.proofs.Rules.{Known, rules}
use Rattle.sgml_words.proofs.Rows.{added, conflict, use_fault_is}

-- ---- what is held between two words

abbrev pub pending_of : Option Use → Option (Text × List Text)
pending_of None = None
pending_of (Some u) = Some (u.0, u.1 ∷ [])

abbrev pub with_use : Option Use → List Use → List Use
with_use None us = us
with_use (Some u) us = u ∷ us

abbrev pub all : List Use → Option Use → List Use
all seen None = seen
all seen (Some u) = seen ++ u ∷ []

abbrev pub IsKnown : Option Use → Type 0
IsKnown None = Unit {0}
IsKnown (Some u) = Known u.0

abbrev pub held : List Use → Option (Text × List Text) → Held
held seen pending = record { rows = map row_of seen; pending = pending; skip = 0 }

abbrev pub NonEmpty : Kinds → Type 0
NonEmpty ks = ks ≡ [] → ⊥

-- the pending use is refused, or is kept
pub record Fails (seen : List Use) (p : Option Use) : Type 0 where
  pub fault : NonEmpty (settle_fault rules false (held seen (pending_of p)))
  pub none : (us : List Use) → kept seen (with_use p us) ≡ None

pub record Goes (seen : List Use) (p : Option Use) : Type 0 where
  pub fault : settle_fault rules false (held seen (pending_of p)) ≡ []
  pub is : settled rules (held seen (pending_of p)) ≡ held (all seen p) None
  pub same : (us : List Use) → kept seen (with_use p us) ≡ kept (all seen p) us

pub conflict_fails : (b : Bool) → b ≡ true → NonEmpty (conflict b)
unfolding conflict
conflict_fails true e none = cc
conflict_fails false e none = absurd (true≢false (sym e))

pub settle_known : (seen : List Use) (u : Use) → Known u.0
    → settle_fault rules false (held seen (pending_of (Some u))) ≡ conflict (has u.0 seen)
settle_known seen u k = rw (k.3) (use_fault_is u.0 k.0 k.1 k.2 u.1 seen)

pub settled_known : (seen : List Use) (u : Use) → Known u.0 → has u.0 seen ≡ false
    → settled rules (held seen (pending_of (Some u))) ≡ held (seen ++ u ∷ []) None
settled_known seen u k e =
    rw (k.3) (ap (λ rows. record { rows = rows; pending = None; skip = 0 }) (added u.0 u.1 seen e))

pub settle_use : (seen : List Use) (u : Use) → Known u.0 → (b : Bool) → has u.0 seen ≡ b
    → Fails seen (Some u) ⊎ Goes seen (Some u)
unfolding conflict
settle_use seen u k true e = inl (record {
  fault = λ none. conflict_fails (has u.0 seen) e (sym (settle_known seen u k) ∙ none);
  none = λ us. ap (λ b. cond b None (kept (seen ++ u ∷ []) us)) e;
})
settle_use seen u k false e = inr (record {
  fault = settle_known seen u k ∙ ap conflict e;
  is = settled_known seen u k e;
  same = λ us. ap (λ b. cond b None (kept (seen ++ u ∷ []) us)) e;
})

pub settling : (seen : List Use) (p : Option Use) → IsKnown p → Fails seen p ⊎ Goes seen p
settling seen None k = inr (record { fault = refl; is = refl; same = λ us. refl })
settling seen (Some u) k = settle_use seen u k (has u.0 seen) refl

-- a FILE is there, so that a further one is refused
pub blocked_by : (seen : List Use) (w : Text) (us : List Use) → has (codes "FILE") seen ≡ true
    → kept seen (as_file w ∷ us) ≡ None
blocked_by seen w us e = ap (λ b. cond b None (kept (seen ++ as_file w ∷ []) us)) e

pub blocked_use : (seen : List Use) (u : Use) (w : Text) (us : List Use) (b : Bool) → has u.0 seen ≡ b
    → has (codes "FILE") (seen ++ u ∷ []) ≡ true
    → kept seen (u ∷ as_file w ∷ us) ≡ None
blocked_use seen u w us true e filed = ap (λ b. cond b None (kept (seen ++ u ∷ []) (as_file w ∷ us))) e
blocked_use seen u w us false e filed =
    ap (λ b. cond b None (kept (seen ++ u ∷ []) (as_file w ∷ us))) e ∙ blocked_by (seen ++ u ∷ []) w us filed

pub blocked : (seen : List Use) (p : Option Use) (w : Text) (us : List Use) → has (codes "FILE") (all seen p) ≡ true
    → kept seen (with_use p (as_file w ∷ us)) ≡ None
blocked seen None w us e = blocked_by seen w us e
blocked seen (Some u) w us e = blocked_use seen u w us (has u.0 seen) refl e
