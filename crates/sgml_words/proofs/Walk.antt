-- What `clap` makes of all words, against the uses of `specs/Uses.antt`.
use Rattle.std.proofs.Common.{◌≡◌, ◌∙◌, ◌||◌, ◌⊎◌, inl, inr, ℕ, suc, Bool, true, false, cond, refl, sym, ap, ap₂, subst, arith, List, [], ◌∷◌, ◌++◌, map, codes, Option, Some, None, option_and_then, is_some, bytes_eq, ⊎_elim, slice_get, chars, IsUtf8, All}
use Rattle.clap.specs.Lexer.{long_of, short_of}
use Rattle.clap.specs.Walk.{Held, Text, Walk, Waiting, idle, option, walked, walk, nothing_held, next}
use Rattle.clap.specs.Simple.{built, entered, matches_of}
use Rattle.clap.specs.Kinds.{Kinds}
use Rattle.clap.specs.Faults.{walk_fault, fault_of, level_fault, entered_fault}
use Rattle.clap.specs.declared.error.kind.ErrorKind.TheVariants.{UnknownArgument}
use Rattle.sgml_words.specs.Words.{Use, is_option, dashes, may_stand, as_file}
use Rattle.sgml_words.specs.Uses.{uses_of, has, kept, given, preceded_by, uses_long}
use Rattle.sgml_words.specs.Clap.{command}
use Rattle.sgml_words.proofs.Rules.{Known, known_file, known_option, rules, top}
use Rattle.sgml_words.proofs.Truth.{or_true}
use Rattle.sgml_words.proofs.Rows.{conflict, has_append}
use Rattle.sgml_words.proofs.Held.{Fails, Goes, IsKnown, NonEmpty, all, blocked, conflict_fails, held, pending_of, settling, with_use}
use Rattle.sgml_words.proofs.Ends.{Comes, IsFiled, Walks, at, ends, first_nonempty, passes, position, rest_fault, stops}
use Rattle.sgml_words.proofs.Sorts.{Sort, closes, long, plain, short, sort_of}
use Rattle.sgml_words.proofs.Turns.{alone_faults, alone_met, due_fails, due_held, here_fault, joined_faults, joined_met, long_fails, next_turn, next_walk, plain_faults, plain_met, refuses, settled_reacted, settled_use, short_faults, unknown_faults, value_fails, value_strays, value_turn, value_walk}

-- ---- uses, in whatever context

pub none_each : (f : List Use → Option (List Use)) (o : Option (List Use)) → ((us : List Use) → f us ≡ None)
    → option_and_then f o ≡ None
none_each f None h = refl
none_each f (Some us) h = h us

pub same_each : (f g : List Use → Option (List Use)) (o : Option (List Use)) → ((us : List Use) → f us ≡ g us)
    → option_and_then f o ≡ option_and_then g o
same_each f g None h = refl
same_each f g (Some us) h = h us

pub each_preceded : (f : List Use → Option (List Use)) (u : Use) (o : Option (List Use))
    → option_and_then f (preceded_by u o) ≡ option_and_then (λ us. f (u ∷ us)) o
each_preceded f u None = refl
each_preceded f u (Some us) = refl

-- ---- after `--`

pub filed_grows : (us vs : List Use) → has (codes "FILE") us ≡ true → has (codes "FILE") (us ++ vs) ≡ true
filed_grows us vs e = has_append (codes "FILE") us vs ∙ ap (λ b. b || has (codes "FILE") vs) e

pub file_files : (us : List Use) (w : Text) → has (codes "FILE") (us ++ as_file w ∷ []) ≡ true
file_files us w = has_append (codes "FILE") us (as_file w ∷ []) ∙ or_true (has (codes "FILE") us)

pub trailing_step : (w : Text) (ws : List Text) (seen : List Use) (p : Option Use) (waiting : Waiting)
    → Fails seen p ⊎ Goes seen p
    → Walks (at (all seen p) (Some (codes "FILE", w ∷ [])) idle true true) ws (kept (all seen p) (as_file w ∷ map as_file ws))
    → Walks (at seen (pending_of p) waiting false true) (w ∷ ws) (kept seen (with_use p (as_file w ∷ map as_file ws)))
trailing_step w ws seen p waiting (inl f) later =
    stops (at seen (pending_of p) waiting false true) w ws (kept seen (with_use p (as_file w ∷ map as_file ws)))
    (value_fails seen (pending_of p) waiting true w refl f.fault) (f.none (as_file w ∷ map as_file ws))
trailing_step w ws seen p waiting (inr g) later =
    passes (at seen (pending_of p) waiting false true)
    (at (all seen p) (Some (codes "FILE", w ∷ [])) idle true true) w ws
    (kept seen (with_use p (as_file w ∷ map as_file ws)))
    (value_turn seen (pending_of p) waiting true w refl refl g.fault)
    (value_walk seen (pending_of p) waiting true w (all seen p) refl g.is)
    (subst (λ uses. Walks (at (all seen p) (Some (codes "FILE", w ∷ [])) idle true true) ws uses)
    (sym (g.same (as_file w ∷ map as_file ws))) later)

pub trailing_claim : (words : List Text) (seen : List Use) (p : Option Use) (waiting : Waiting) (filed : Bool)
    → IsKnown p → IsFiled filed (all seen p)
    → Walks (at seen (pending_of p) waiting filed true) words (kept seen (with_use p (map as_file words)))
trailing_claim [] seen p waiting filed known is_filed = ends seen p waiting filed true known
trailing_claim (w ∷ ws) seen p waiting true known is_filed =
    stops (at seen (pending_of p) waiting true true) w ws (kept seen (with_use p (as_file w ∷ map as_file ws)))
    (value_strays seen (pending_of p) waiting true w refl) (blocked seen p w (map as_file ws) is_filed)
trailing_claim (w ∷ ws) seen p waiting false known is_filed =
    trailing_step w ws seen p waiting (settling seen p known)
    (trailing_claim ws (all seen p) (Some (as_file w)) idle true known_file (file_files (all seen p) w))

-- after an option without its value
pub doomed : (words : List Text) (seen : List Use) (name : Text) (waiting : Waiting) (filed : Bool) → Known name
    → Walks (at seen (Some (name, [])) waiting filed true) words None
unfolding walk_fault
doomed [] seen name waiting filed k = record { comes = first_nonempty _ _ (due_fails seen name k) }
doomed (w ∷ ws) seen name waiting true k =
    stops (at seen (Some (name, [])) waiting true true) w ws None
    (value_strays seen (Some (name, [])) waiting true w refl) refl
doomed (w ∷ ws) seen name waiting false k =
    stops (at seen (Some (name, [])) waiting false true) w ws None
    (value_fails seen (Some (name, [])) waiting true w refl (due_fails seen name k)) refl

-- ---- the whole walk

abbrev pub IdleUses : List Use → Option Use → List Text → Option (List Use)
IdleUses seen p words = option_and_then (λ us. kept seen (with_use p us)) (uses_of None words)

abbrev pub DueUses : List Use → Text → List Text → Option (List Use)
DueUses seen name words = option_and_then (λ us. kept seen us) (uses_of (Some name) words)

pub record Claims (words : List Text) : Type 0 where
  pub idles : (seen : List Use) (p : Option Use) (filed : Bool) → IsKnown p → IsFiled filed (all seen p)
      → Walks (at seen (pending_of p) idle filed false) words (IdleUses seen p words)
  pub dues : (seen : List Use) (name : Text) (filed : Bool) → Known name → IsFiled filed seen
      → Walks (at seen (Some (name, [])) (option name) filed false) words (DueUses seen name words)

pub filed_more : (filed : Bool) (us vs : List Use) → IsFiled filed us → IsFiled filed (us ++ vs)
filed_more true us vs e = filed_grows us vs e
filed_more false us vs e = tt

-- to these uses, by another name
pub becomes : (w : Walk) (words : List Text) (uses other : Option (List Use)) → uses ≡ other → Walks w words other
    → Walks w words uses
becomes w words uses other e h = subst (λ u. Walks w words u) (sym e) h

abbrev pub idle_at : List Use → Option Use → Bool → Walk
idle_at seen p filed = at seen (pending_of p) idle filed false

abbrev pub due_at : List Use → Text → Bool → Walk
due_at seen name filed = at seen (Some (name, [])) (option name) filed false

pub dashes_idle : (seen : List Use) (p : Option Use) (filed : Bool)
    → walked rules [] (idle_at seen p filed) dashes ≡ at seen (pending_of p) idle filed true
unfolding walked
dashes_idle seen p filed = refl

pub dashes_due : (seen : List Use) (name : Text) (filed : Bool)
    → walked rules [] (due_at seen name filed) dashes ≡ at seen (Some (name, [])) (option name) filed true
unfolding walked
dashes_due seen name filed = refl

-- ---- a word where nothing waits

module _ (w : Text) (ws : List Text) (later : Claims ws) where
  pub idle_closes : (seen : List Use) (p : Option Use) (filed : Bool) → IsKnown p → IsFiled filed (all seen p)
      → w ≡ dashes
      → Walks (idle_at seen p filed) (w ∷ ws) (IdleUses seen p (w ∷ ws))
  idle_closes seen p filed known is_filed e =
      subst (λ x. Walks (idle_at seen p filed) (x ∷ ws) (IdleUses seen p (x ∷ ws))) (sym e)
      (passes (idle_at seen p filed) (at seen (pending_of p) idle filed true) dashes ws
      (kept seen (with_use p (map as_file ws))) refl (dashes_idle seen p filed)
      (trailing_claim ws seen p idle filed known is_filed))

  pub long_uses : (seen : List Use) (p : Option Use) (name : Text) (given : Option Text) → bytes_eq w dashes ≡ false
      → long_of w ≡ Some (name, given)
      → IdleUses seen p (w ∷ ws) ≡ option_and_then (λ us. kept seen (with_use p us)) (uses_long name given (uses_of None ws) (uses_of (Some name) ws))
  long_uses seen p name given d l = rw (d, l) refl

  pub unknown_uses : (name : Text) (given : Option Text) (a b : Option (List Use)) → is_option name ≡ false
      → uses_long name given a b ≡ None
  unknown_uses name None a b o = rw o refl
  unknown_uses name (Some v) a b o = rw o refl

  pub idle_unknown : (seen : List Use) (p : Option Use) (filed : Bool) (name : Text) (given : Option Text)
      → bytes_eq w dashes ≡ false → long_of w ≡ Some (name, given)
      → is_option name ≡ false → Walks (idle_at seen p filed) (w ∷ ws) (IdleUses seen p (w ∷ ws))
  idle_unknown seen p filed name given d l o =
      let bad : NonEmpty (here_fault idle w (held seen (pending_of p))) =
      λ none. let stray : UnknownArgument ∷ [] ≡ [] =
      sym (unknown_faults idle w name given (held seen (pending_of p)) d l o) ∙ none in cc in
      stops (idle_at seen p filed) w ws (IdleUses seen p (w ∷ ws)) (refuses seen (pending_of p) idle filed w bad)
      (long_uses seen p name given d l
      ∙ ap (option_and_then (λ us. kept seen (with_use p us)))
      (unknown_uses name given (uses_of None ws) (uses_of (Some name) ws) o))

  pub alone_uses : (seen : List Use) (p : Option Use) (name : Text) → bytes_eq w dashes ≡ false
      → long_of w ≡ Some (name, None) → is_option name ≡ true
      → IdleUses seen p (w ∷ ws) ≡ option_and_then (λ us. kept seen (with_use p us)) (uses_of (Some name) ws)
  alone_uses seen p name d l o = long_uses seen p name None d l ∙ rw o refl

  pub idle_alone : (seen : List Use) (p : Option Use) (filed : Bool) (name : Text) → IsFiled filed (all seen p)
      → bytes_eq w dashes ≡ false → long_of w ≡ Some (name, None)
      → is_option name ≡ true → Fails seen p ⊎ Goes seen p
      → Walks (idle_at seen p filed) (w ∷ ws) (IdleUses seen p (w ∷ ws))
  idle_alone seen p filed name is_filed d l o (inl f) =
      stops (idle_at seen p filed) w ws (IdleUses seen p (w ∷ ws))
      (refuses seen (pending_of p) idle filed w
      (long_fails idle w name None (held seen (pending_of p)) d l true o f.fault))
      (alone_uses seen p name d l o ∙ none_each (λ us. kept seen (with_use p us)) (uses_of (Some name) ws) f.none)
  idle_alone seen p filed name is_filed d l o (inr g) =
      let here : Held = held seen (pending_of p) in
      let step =
      alone_met idle (position filed) w name here d l o
      ∙ ap (λ (h : Held). (record h { pending = Some (name, []) }, next (option name))) g.is in
      passes (idle_at seen p filed) (due_at (all seen p) name filed) w ws (IdleUses seen p (w ∷ ws))
      (next_turn seen (pending_of p) idle filed w (held (all seen p) (Some (name, []))) (option name)
      (alone_faults idle w name here d l o ∙ g.fault) step)
      (next_walk seen (pending_of p) idle filed w (held (all seen p) (Some (name, []))) (option name) step)
      (becomes (due_at (all seen p) name filed) ws (IdleUses seen p (w ∷ ws)) (DueUses (all seen p) name ws)
      (alone_uses seen p name d l o
      ∙ same_each (λ us. kept seen (with_use p us)) (λ us. kept (all seen p) us) (uses_of (Some name) ws) g.same)
      (later.dues (all seen p) name filed (known_option name o) is_filed))

  pub joined_uses : (seen : List Use) (p : Option Use) (name v : Text) → bytes_eq w dashes ≡ false
      → long_of w ≡ Some (name, Some v) → is_option name ≡ true
      → IdleUses seen p (w ∷ ws) ≡ option_and_then (λ us. kept seen (with_use p ((name, v) ∷ us))) (uses_of None ws)
  joined_uses seen p name v d l o =
      long_uses seen p name (Some v) d l
      ∙ rw o (each_preceded (λ us. kept seen (with_use p us)) (name, v) (uses_of None ws))

  pub idle_joined : (seen : List Use) (p : Option Use) (filed : Bool) (name v : Text) → IsFiled filed (all seen p)
      → bytes_eq w dashes ≡ false → long_of w ≡ Some (name, Some v)
      → is_option name ≡ true → Goes seen p → (b : Bool) → has name (all seen p) ≡ b
      → Walks (idle_at seen p filed) (w ∷ ws) (IdleUses seen p (w ∷ ws))
  unfolding conflict
  idle_joined seen p filed name v is_filed d l o g true e =
      let here : Held = held seen (pending_of p) in
      let fault = joined_faults idle w name v here d l o ∙ settled_use here (all seen p) name v g.fault g.is in
      stops (idle_at seen p filed) w ws (IdleUses seen p (w ∷ ws))
      (refuses seen (pending_of p) idle filed w (λ none. conflict_fails (has name (all seen p)) e (sym fault ∙ none)))
      (joined_uses seen p name v d l o
      ∙ none_each (λ us. kept seen (with_use p ((name, v) ∷ us))) (uses_of None ws)
      (λ us. g.same ((name, v) ∷ us) ∙ ap (λ b. cond b None (kept (all seen p ++ (name, v) ∷ []) us)) e))
  idle_joined seen p filed name v is_filed d l o g false e =
      let here : Held = held seen (pending_of p) in
      let grown : List Use = all seen p ++ (name, v) ∷ [] in
      let fault =
      joined_faults idle w name v here d l o ∙ settled_use here (all seen p) name v g.fault g.is ∙ ap conflict e in
      let step =
      joined_met idle (position filed) w name v here d l o
      ∙ ap (λ (h : Held). (h, next idle)) (settled_reacted here (all seen p) name v g.is refl e) in
      passes (idle_at seen p filed) (idle_at grown None filed) w ws (IdleUses seen p (w ∷ ws))
      (next_turn seen (pending_of p) idle filed w (held grown None) idle fault step)
      (next_walk seen (pending_of p) idle filed w (held grown None) idle step)
      (becomes (idle_at grown None filed) ws (IdleUses seen p (w ∷ ws)) (IdleUses grown None ws)
      (joined_uses seen p name v d l o
      ∙ same_each (λ us. kept seen (with_use p ((name, v) ∷ us))) (λ us. kept grown us) (uses_of None ws)
      (λ us. g.same ((name, v) ∷ us) ∙ ap (λ b. cond b None (kept grown us)) e))
      (later.idles grown None filed tt (filed_more filed (all seen p) ((name, v) ∷ []) is_filed)))

  pub idle_long : (seen : List Use) (p : Option Use) (filed : Bool) → IsKnown p → IsFiled filed (all seen p)
      → (name : Text) (given : Option Text)
      → bytes_eq w dashes ≡ false → long_of w ≡ Some (name, given) → (b : Bool) → is_option name ≡ b
      → Walks (idle_at seen p filed) (w ∷ ws) (IdleUses seen p (w ∷ ws))
  idle_long seen p filed known is_filed name given d l false o = idle_unknown seen p filed name given d l o
  idle_long seen p filed known is_filed name None d l true o =
      idle_alone seen p filed name is_filed d l o (settling seen p known)
  idle_long seen p filed known is_filed name (Some v) d l true o = ⊎_elim
      (λ f. stops (idle_at seen p filed) w ws (IdleUses seen p (w ∷ ws))
      (refuses seen (pending_of p) idle filed w
      (long_fails idle w name (Some v) (held seen (pending_of p)) d l true o f.fault))
      (joined_uses seen p name v d l o
      ∙ none_each (λ us. kept seen (with_use p ((name, v) ∷ us))) (uses_of None ws) (λ us. f.none ((name, v) ∷ us))))
      (λ g. idle_joined seen p filed name v is_filed d l o g (has name (all seen p)) refl)
      (settling seen p known)

  pub short_bad : (waiting : Waiting) (flag b : ℕ) (bs : Text) (h : Held) → bytes_eq w dashes ≡ false → long_of w ≡ None
      → short_of w ≡ Some (b ∷ bs)
      → slice_get (chars (b ∷ bs)) 0 ≡ Some flag → h.skip ≡ 0 → NonEmpty (here_fault waiting w h)
  short_bad waiting flag b bs h d l s f zero =
      λ none. let stray : UnknownArgument ∷ [] ≡ [] = sym (short_faults waiting w flag b bs h d l s f zero) ∙ none in cc

  pub idle_short : (seen : List Use) (p : Option Use) (filed : Bool) (flag b : ℕ) (bs : Text)
      → bytes_eq w dashes ≡ false → long_of w ≡ None → short_of w ≡ Some (b ∷ bs)
      → slice_get (chars (b ∷ bs)) 0 ≡ Some flag → may_stand w ≡ false
      → Walks (idle_at seen p filed) (w ∷ ws) (IdleUses seen p (w ∷ ws))
  idle_short seen p filed flag b bs d l s f m =
      stops (idle_at seen p filed) w ws (IdleUses seen p (w ∷ ws))
      (refuses seen (pending_of p) idle filed w (short_bad idle flag b bs (held seen (pending_of p)) d l s f refl))
      (rw (d, l, m) refl)

  pub plain_uses : (seen : List Use) (p : Option Use) → bytes_eq w dashes ≡ false → long_of w ≡ None
      → may_stand w ≡ true
      → IdleUses seen p (w ∷ ws) ≡ option_and_then (λ us. kept seen (with_use p (as_file w ∷ us))) (uses_of None ws)
  plain_uses seen p d l m = rw (d, l, m) (each_preceded (λ us. kept seen (with_use p us)) (as_file w) (uses_of None ws))

  pub idle_plain : (seen : List Use) (p : Option Use) (filed : Bool) → IsFiled filed (all seen p)
      → bytes_eq w dashes ≡ false → long_of w ≡ None → short_of w ≡ None
      → may_stand w ≡ true → Fails seen p ⊎ Goes seen p
      → Walks (idle_at seen p filed) (w ∷ ws) (IdleUses seen p (w ∷ ws))
  idle_plain seen p true is_filed d l s m how =
      stops (idle_at seen p true) w ws (IdleUses seen p (w ∷ ws))
      (value_strays seen (pending_of p) idle false w (plain_met idle 2 w (held seen (pending_of p)) d l s))
      (plain_uses seen p d l m
      ∙ none_each (λ us. kept seen (with_use p (as_file w ∷ us))) (uses_of None ws)
      (λ us. blocked seen p w us is_filed))
  idle_plain seen p false is_filed d l s m (inl f) =
      stops (idle_at seen p false) w ws (IdleUses seen p (w ∷ ws))
      (value_fails seen (pending_of p) idle false w (plain_met idle 1 w (held seen (pending_of p)) d l s) f.fault)
      (plain_uses seen p d l m
      ∙ none_each (λ us. kept seen (with_use p (as_file w ∷ us))) (uses_of None ws) (λ us. f.none (as_file w ∷ us)))
  idle_plain seen p false is_filed d l s m (inr g) =
      let step = plain_met idle 1 w (held seen (pending_of p)) d l s in
      passes (idle_at seen p false) (idle_at (all seen p) (Some (as_file w)) true) w ws (IdleUses seen p (w ∷ ws))
      (value_turn seen (pending_of p) idle false w step (plain_faults idle w (held seen (pending_of p)) d l s) g.fault)
      (value_walk seen (pending_of p) idle false w (all seen p) step g.is)
      (becomes (idle_at (all seen p) (Some (as_file w)) true) ws (IdleUses seen p (w ∷ ws))
      (IdleUses (all seen p) (Some (as_file w)) ws)
      (plain_uses seen p d l m
      ∙ same_each (λ us. kept seen (with_use p (as_file w ∷ us))) (λ us. kept (all seen p) (as_file w ∷ us))
      (uses_of None ws) (λ us. g.same (as_file w ∷ us)))
      (later.idles (all seen p) (Some (as_file w)) true known_file (file_files (all seen p) w)))

  pub idle_word : Sort w → (seen : List Use) (p : Option Use) (filed : Bool) → IsKnown p → IsFiled filed (all seen p)
      → Walks (idle_at seen p filed) (w ∷ ws) (IdleUses seen p (w ∷ ws))
  idle_word (closes e) seen p filed known is_filed = idle_closes seen p filed known is_filed e
  idle_word (long name given d l m) seen p filed known is_filed =
      idle_long seen p filed known is_filed name given d l (is_option name) refl
  idle_word (short flag b bs d l s f m) seen p filed known is_filed = idle_short seen p filed flag b bs d l s f m
  idle_word (plain d l s m) seen p filed known is_filed =
      idle_plain seen p filed is_filed d l s m (settling seen p known)

  -- ---- a word where an option waits for its value

  pub refused_uses : (seen : List Use) (name : Text) → may_stand w ≡ false → DueUses seen name (w ∷ ws) ≡ None
  refused_uses seen name m = rw m refl

  pub due_word : Sort w → (seen : List Use) (name : Text) (filed : Bool) → Known name → IsFiled filed seen
      → Walks (due_at seen name filed) (w ∷ ws) (DueUses seen name (w ∷ ws))
  due_word (closes e) seen name filed known is_filed =
      subst (λ x. Walks (due_at seen name filed) (x ∷ ws) (DueUses seen name (x ∷ ws))) (sym e)
      (passes (due_at seen name filed) (at seen (Some (name, [])) (option name) filed true) dashes ws None refl
      (dashes_due seen name filed)
      (doomed ws seen name (option name) filed known))
  due_word (long other given d l m) seen name filed known is_filed =
      stops (due_at seen name filed) w ws (DueUses seen name (w ∷ ws))
      (refuses seen (Some (name, [])) (option name) filed w
      (long_fails (option name) w other given (held seen (Some (name, []))) d l (is_option other) refl
      (due_fails seen name known)))
      (refused_uses seen name m)
  due_word (short flag b bs d l s f m) seen name filed known is_filed =
      stops (due_at seen name filed) w ws (DueUses seen name (w ∷ ws))
      (refuses seen (Some (name, [])) (option name) filed w
      (short_bad (option name) flag b bs (held seen (Some (name, []))) d l s f refl))
      (refused_uses seen name m)
  due_word (plain d l s m) seen name filed known is_filed =
      let here : Held = held seen (Some (name, [])) in
      let step = plain_met (option name) (position filed) w here d l s ∙ due_held seen name w known in
      passes (due_at seen name filed) (idle_at seen (Some (name, w)) filed) w ws (DueUses seen name (w ∷ ws))
      (next_turn seen (Some (name, [])) (option name) filed w (held seen (Some (name, w ∷ []))) idle
      (plain_faults (option name) w here d l s) step)
      (next_walk seen (Some (name, [])) (option name) filed w (held seen (Some (name, w ∷ []))) idle step)
      (becomes (idle_at seen (Some (name, w)) filed) ws (DueUses seen name (w ∷ ws)) (IdleUses seen (Some (name, w)) ws)
      (rw m (each_preceded (λ us. kept seen us) (name, w) (uses_of None ws)))
      (later.idles seen (Some (name, w)) filed known (filed_more filed seen ((name, w) ∷ []) is_filed)))

pub claims : (words : List Text) → All IsUtf8 words → Claims words
unfolding walk_fault
claims [] utf8 = record {
  idles = λ seen p filed known is_filed. ends seen p idle filed false known;
  dues = λ seen name filed known is_filed. record { comes = first_nonempty _ _ (due_fails seen name known) };
}
claims (w ∷ ws) utf8 =
    let later = claims ws (λ k d lt. utf8 (suc k) d (omega (arith, lt))) in
    let first : IsUtf8 w = utf8 0 [] (omega arith) in
    record {
      idles = idle_word w ws later (sort_of w first);
      dues = due_word w ws later (sort_of w first);
    }

-- from the first word on
pub walks : (words : List Text) → All IsUtf8 words → Walks (idle_at [] None false) words (given words)
walks words utf8 = (claims words utf8).idles [] None false tt tt

-- ---- the command

pub entered_none : (stop : Option (Text × List Text)) → is_some (entered (built command) stop) ≡ false
entered_none None = refl
entered_none (Some p) = refl

pub below_none : (stop : Option (Text × List Text)) → entered_fault (built command) stop ≡ []
below_none None = refl
below_none (Some p) = refl

pub fault_is : (words : List Text) → fault_of command words ≡ rest_fault (idle_at [] None false) words
fault_is words =
    let stop = (walk top.rules [] nothing_held words).stopped in
    ap₂ (λ (b : Bool) (ks : Kinds). level_fault top [] nothing_held words b ks) (entered_none stop) (below_none stop)

-- what `clap` finds in the words, or that it refuses them
pub found : (words : List Text) → All IsUtf8 words
    → Comes (fault_of command words) (matches_of command words) (given words)
found words utf8 = rw (fault_is words) (walks words utf8).comes
