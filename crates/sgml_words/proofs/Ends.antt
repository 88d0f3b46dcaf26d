-- A walk of `clap` over words, and where no word is left.
use Rattle.std.proofs.Common.{◌≡◌, ◌∙◌, ◌||◌, ℕ, Bool, true, false, not, cond, refl, sym, ap, ap₂, subst, List, [], ◌∷◌, ◌++◌, map, codes, Option, Some, None, bytes_eq, fold, ⊎_elim}
use Rattle.clap.specs.Walk.{Held, Row, Text, Walk, Waiting, walked, settled, finished, has_row, with_default}
use Rattle.clap.specs.Takes.{is_given}
use Rattle.clap.specs.Kinds.{Kinds, or_else}
use Rattle.clap.specs.Faults.{turn_fault, walk_fault, settle_fault, defaults_fault, check_fault}
use Rattle.clap.specs.declared.error.kind.ErrorKind.TheVariants.{MissingRequiredArgument}
use Rattle.sgml_words.specs.Words.{Use, option_names}
use Rattle.sgml_words.specs.Uses.{has, kept}
use Rattle.sgml_words.specs.Clap.{row_of}
use Rattle.sgml_words.proofs.Rules.{file_rule, option_rule, rules, top}
use Rattle.sgml_words.proofs.Truth.{or_true}
use Rattle.sgml_words.proofs.Held.{IsKnown, NonEmpty, all, held, pending_of, settling, with_use}

-- ---- the walk

abbrev pub position : Bool → ℕ
position false = 1
position true = 2

abbrev pub at : List Use → Option (Text × List Text) → Waiting → Bool → Bool → Walk
at seen pending waiting filed is_trailing = record {
  held = held seen pending;
  waiting = waiting;
  position = position filed;
  is_trailing = is_trailing;
  stopped = None;
}

-- a FILE was met
abbrev pub IsFiled : Bool → List Use → Type 0
IsFiled true us = has (codes "FILE") us ≡ true
IsFiled false us = Unit {0}

abbrev pub after : Walk → List Text → Walk
after w words = fold (walked rules []) w words

-- after the last word
abbrev pub end_fault : Held → Kinds
end_fault h =
    or_else (settle_fault rules false h)
    (or_else (defaults_fault (settled rules h).rows rules) (check_fault top (finished rules h) false))

abbrev pub rest_fault : Walk → List Text → Kinds
rest_fault w words = or_else (walk_fault top [] w words) (end_fault (after w words).held)

-- the walk from w over the words comes to these uses, or to a fault
abbrev pub Comes : Kinds → List Row → Option (List Use) → Type 0
Comes ks rows None = NonEmpty ks
Comes ks rows (Some us) = (ks ≡ []) × (rows ≡ map row_of us)

pub record Walks (w : Walk) (words : List Text) (uses : Option (List Use)) : Type 0 where
  pub comes : Comes (rest_fault w words) (finished rules (after w words).held) uses

pub first_nonempty : (a b : Kinds) → NonEmpty a → NonEmpty (or_else a b)
first_nonempty [] b h = absurd (h refl)
first_nonempty (k ∷ ks) b h = h

pub second_nonempty : (a b : Kinds) → NonEmpty b → NonEmpty (or_else a b)
second_nonempty [] b h = h
second_nonempty (k ∷ ks) b h = λ e. cc

-- the word is refused
pub stops : (w : Walk) (word : Text) (words : List Text) (uses : Option (List Use))
    → NonEmpty (turn_fault top [] w word) → uses ≡ None → Walks w (word ∷ words) uses
unfolding walk_fault
stops w word words uses fault none =
    subst (λ u. Walks w (word ∷ words) u) (sym none) (record {
      comes = first_nonempty _ (end_fault (after w (word ∷ words)).held)
          (first_nonempty _ (walk_fault top [] (walked rules [] w word) words) fault);
    })

-- the word is passed
pub passes : (w then_ : Walk) (word : Text) (words : List Text) (uses : Option (List Use))
    → turn_fault top [] w word ≡ [] → walked rules [] w word ≡ then_
    → Walks then_ words uses → Walks w (word ∷ words) uses
unfolding walk_fault
passes w then_ word words uses none is h =
    let same : Walks (walked rules [] w word) words uses = subst (λ v. Walks v words uses) (sym is) h in
    record { comes = rw none same.comes }

-- ---- after the last word

pub cond_same : {A : Type 0} (b : Bool) (x : A) → cond b x x ≡ x
cond_same true x = refl
cond_same false x = refl

pub no_defaults : (names : List Text) (rows : List Row)
    → defaults_fault rows (map option_rule names ++ file_rule ∷ []) ≡ []
unfolding defaults_fault
no_defaults [] rows = rw (or_true (has_row (codes "FILE") rows)) refl
no_defaults (n ∷ names) rows = rw (or_true (has_row n rows)) (no_defaults names (with_default rows (option_rule n)))

pub same_rows : (names : List Text) (rows : List Row)
    → fold with_default rows (map option_rule names ++ file_rule ∷ []) ≡ rows
same_rows [] rows = cond_same (has_row (codes "FILE") rows) rows
same_rows (n ∷ names) rows =
    ap (λ rs. fold with_default rs (map option_rule names ++ file_rule ∷ [])) (cond_same (has_row n rows) rows)
    ∙ same_rows names rows

pub given_step : (id : Text) (u : Use) (us : List Use) (b : Bool) → bytes_eq u.0 id ≡ b
    → is_given id (map row_of us) ≡ has id us → is_given id (map row_of (u ∷ us)) ≡ has id (u ∷ us)
given_step id u us true e ih = rw e refl
given_step id u us false e ih = rw e ih

pub given_rows : (id : Text) (us : List Use) → is_given id (map row_of us) ≡ has id us
given_rows id [] = refl
given_rows id (u ∷ us) = given_step id u us (bytes_eq u.0 id) refl (given_rows id us)

unfoldable pub missing : Bool → Kinds
missing b = cond (not b || false) (MissingRequiredArgument ∷ []) []

pub check_is : (us : List Use) → check_fault top (map row_of us) false ≡ missing (has (codes "FILE") us)
unfolding missing
check_is us = ap (λ b. cond (not b || false) (MissingRequiredArgument ∷ []) []) (given_rows (codes "FILE") us)

pub end_held : (us : List Use) → end_fault (held us None) ≡ missing (has (codes "FILE") us)
end_held us =
    let rows : fold with_default (map row_of us) rules ≡ map row_of us = same_rows option_names (map row_of us) in
    ap₂ (λ (ks : Kinds) (rs : List Row). or_else ks (check_fault top rs false)) (no_defaults option_names (map row_of us)) rows
    ∙ check_is us

pub ended : (us : List Use) (b : Bool) → has (codes "FILE") us ≡ b
    → Comes (end_fault (held us None)) (finished rules (held us None)) (kept us [])
unfolding missing
ended us true e =
    rw e (end_held us ∙ ap missing e, same_rows option_names (map row_of us))
ended us false e =
    let bad : NonEmpty (missing (has (codes "FILE") us)) =
    λ none. let h : MissingRequiredArgument ∷ [] ≡ [] = sym (ap missing e) ∙ none in cc in
    rw e (λ none. bad (sym (end_held us) ∙ none))

pub settled_end : (h : Held) (us : List Use) → settle_fault rules false h ≡ [] → settled rules h ≡ held us None
    → end_fault h ≡ end_fault (held us None)
settled_end h us none is =
    ap (λ ks. or_else ks (or_else (defaults_fault (settled rules h).rows rules)
    (check_fault top (finished rules h) false))) none
    ∙ ap (λ (g : Held). or_else (defaults_fault g.rows rules) (check_fault top (fold with_default g.rows rules) false)) is

-- no word is left
pub ends : (seen : List Use) (p : Option Use) (waiting : Waiting) (filed is_trailing : Bool) → IsKnown p
    → Walks (at seen (pending_of p) waiting filed is_trailing) [] (kept seen (with_use p []))
unfolding walk_fault
ends seen p waiting filed is_trailing known = ⊎_elim
    (λ f. record {
      comes =
          subst (λ uses. Comes (end_fault (held seen (pending_of p))) (finished rules (held seen (pending_of p))) uses)
          (sym (f.none []))
          (first_nonempty _ _ f.fault);
    })
    (λ g. let e = settled_end (held seen (pending_of p)) (all seen p) g.fault g.is in
    let rows : finished rules (held seen (pending_of p)) ≡ finished rules (held (all seen p) None) =
    ap (λ (h : Held). fold with_default h.rows rules) g.is in
    record { comes = rw (e, rows, g.same []) (ended (all seen p) (has (codes "FILE") (all seen p)) refl) })
    (settling seen p known)
