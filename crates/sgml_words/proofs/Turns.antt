-- What `clap` makes of one word.
use Rattle.std.proofs.Common.{◌≡◌, ◌∙◌, ℕ, Bool, true, false, refl, sym, ap, ap₂, List, [], ◌∷◌, ◌++◌, codes, Option, Some, None, bytes_eq, slice_get, chars}
use Rattle.std.proofs.lemmas.Slice.Eq.{bytes_eq-Decides}
use Rattle.clap.specs.Lexer.{long_of, short_of}
use Rattle.clap.specs.Walk.{Held, Text, Waiting, idle, option, walked, settled, reacted, arg_by_long, subcommand_met, positional, word_met, Step, next, value, long_word, plain_word, after_step, is_pending, to_positional, pushed, used}
use Rattle.clap.specs.Kinds.{Kinds, or_else}
use Rattle.clap.specs.Faults.{turn_fault, settle_fault, use_fault, word_fault, long_fault, step_fault, flags_fault}
use Rattle.clap.specs.declared.error.kind.ErrorKind.TheVariants.{UnknownArgument, InvalidValue}
use Rattle.sgml_words.specs.Words.{Use, is_option, dashes}
use Rattle.sgml_words.specs.Uses.{has, given}
use Rattle.sgml_words.proofs.Truth.{and_false}
use Rattle.sgml_words.proofs.Rules.{Known, file_rule, long_option, no_long, option_rule, rules, top}
use Rattle.sgml_words.proofs.Rows.{added, conflict, use_fault_is}
use Rattle.sgml_words.proofs.Held.{NonEmpty, held}
use Rattle.sgml_words.proofs.Ends.{at, first_nonempty, position, second_nonempty}

-- ---- one word

pub no_subcommand : (waiting : Waiting) (w : Text) → subcommand_met [] waiting w ≡ None
no_subcommand idle w = refl
no_subcommand (option n) w = refl
no_subcommand positional w = refl

-- what a word that isn't after `--` may do wrong, and what it comes to
abbrev pub here_fault : Waiting → Text → Held → Kinds
here_fault waiting w h = word_fault top [] false waiting w h

abbrev pub met : Waiting → ℕ → Text → Held → Held × Step
met waiting place w h = word_met rules [] false waiting place w h

pub long_faults : (waiting : Waiting) (w name : Text) (given : Option Text) (h : Held) → bytes_eq w dashes ≡ false
    → long_of w ≡ Some (name, given)
    → here_fault waiting w h ≡ long_fault rules false (arg_by_long rules name) given h
long_faults waiting w name given h d l = rw (no_subcommand waiting w, d, l) refl

pub long_met_is : (waiting : Waiting) (place : ℕ) (w name : Text) (given : Option Text) (h : Held)
    → bytes_eq w dashes ≡ false → long_of w ≡ Some (name, given)
    → met waiting place w h ≡ long_word rules waiting w name given h
long_met_is waiting place w name given h d l = rw (no_subcommand waiting w, d, l) refl

pub short_faults : (waiting : Waiting) (w : Text) (flag b : ℕ) (bs : Text) (h : Held) → bytes_eq w dashes ≡ false
    → long_of w ≡ None → short_of w ≡ Some (b ∷ bs)
    → slice_get (chars (b ∷ bs)) 0 ≡ Some flag → h.skip ≡ 0 → here_fault waiting w h ≡ UnknownArgument ∷ []
unfolding flags_fault
short_faults waiting w flag b bs h d l s f zero = rw (no_subcommand waiting w, d, l, s, zero, f) refl

pub plain_faults : (waiting : Waiting) (w : Text) (h : Held) → bytes_eq w dashes ≡ false → long_of w ≡ None
    → short_of w ≡ None → here_fault waiting w h ≡ []
plain_faults waiting w h d l s = rw (no_subcommand waiting w, d, l, s) refl

pub plain_met : (waiting : Waiting) (place : ℕ) (w : Text) (h : Held) → bytes_eq w dashes ≡ false → long_of w ≡ None
    → short_of w ≡ None
    → met waiting place w h ≡ plain_word rules waiting w h
plain_met waiting place w h d l s = rw (no_subcommand waiting w, d, l, s) refl

module _ (seen : List Use) (pending : Option (Text × List Text)) (waiting : Waiting) (filed : Bool) (w : Text) where
  pub here : Held
  here = held seen pending

  pub refuses : NonEmpty (word_fault top [] false waiting w (held seen pending))
      → NonEmpty (turn_fault top [] (at seen pending waiting filed false) w)
  refuses fault = first_nonempty _ _ fault

  pub next_turn : (h : Held) (later : Waiting) → here_fault waiting w (held seen pending) ≡ []
      → met waiting (position filed) w (held seen pending) ≡ (h, next later)
      → turn_fault top [] (at seen pending waiting filed false) w ≡ []
  next_turn h later none is =
      ap₂ (λ (ks : Kinds) (m : Held × Step). or_else ks (step_fault top (position filed) m.0 m.1)) none is

  pub next_walk : (h : Held) (later : Waiting) → met waiting (position filed) w (held seen pending) ≡ (h, next later)
      → walked rules [] (at seen pending waiting filed false) w ≡ record (at seen pending waiting filed false) { held = h; waiting = later }
  unfolding walked
  next_walk h later is = ap (λ (m : Held × Step). after_step rules w (at seen pending waiting filed false) m.0 m.1) is

-- the word after `--`, or one that nothing waits for
abbrev pub IsValue : List Use → Option (Text × List Text) → Waiting → Bool → Bool → Text → Type 0
IsValue seen pending waiting filed is_trailing w =
    word_met rules [] is_trailing waiting (position filed) w (held seen pending) ≡ (held seen pending, value)

pub value_strays : (seen : List Use) (pending : Option (Text × List Text)) (waiting : Waiting) (t : Bool) (w : Text)
    → IsValue seen pending waiting true t w
    → NonEmpty (turn_fault top [] (at seen pending waiting true t) w)
value_strays seen pending waiting t w is =
    second_nonempty (word_fault top [] t waiting w (held seen pending)) _
    (λ none. let stray : UnknownArgument ∷ [] ≡ [] = ap (λ (m : Held × Step). step_fault top 2 m.0 m.1) (sym is)
    ∙ none in cc)

pub file_step : (seen : List Use) (pending : Option (Text × List Text))
    → step_fault top 1 (held seen pending) value ≡ settle_fault rules false (held seen pending)
file_step seen pending = rw (and_false (is_pending file_rule pending)) refl

pub value_fails : (seen : List Use) (pending : Option (Text × List Text)) (waiting : Waiting) (t : Bool) (w : Text)
    → IsValue seen pending waiting false t w
    → NonEmpty (settle_fault rules false (held seen pending))
    → NonEmpty (turn_fault top [] (at seen pending waiting false t) w)
value_fails seen pending waiting t w is fault =
    second_nonempty (word_fault top [] t waiting w (held seen pending)) _
    (λ none. fault (sym (file_step seen pending) ∙ ap (λ (m : Held × Step). step_fault top 1 m.0 m.1) (sym is) ∙ none))

pub value_turn : (seen : List Use) (pending : Option (Text × List Text)) (waiting : Waiting) (t : Bool) (w : Text)
    → IsValue seen pending waiting false t w
    → word_fault top [] t waiting w (held seen pending) ≡ [] → settle_fault rules false (held seen pending) ≡ []
    → turn_fault top [] (at seen pending waiting false t) w ≡ []
value_turn seen pending waiting t w is here fault =
    ap₂ (λ (ks : Kinds) (m : Held × Step). or_else ks (step_fault top 1 m.0 m.1)) here is ∙ file_step seen pending
    ∙ fault

pub filed_walk : (seen : List Use) (pending : Option (Text × List Text)) (waiting : Waiting) (t : Bool) (w : Text) (us : List Use)
    → settled rules (held seen pending) ≡ held us None
    → to_positional rules (Some file_rule) w (at seen pending waiting false t) (held seen pending) ≡ at us (Some (codes "FILE", w ∷ [])) idle true t
filed_walk seen pending waiting true w us is =
    rw (and_false (is_pending file_rule pending)) (ap (λ (h : Held). record {
      held = pushed (codes "FILE") w h;
      waiting = idle;
      position = 2;
      is_trailing = true;
      stopped = None;
    }) is)
filed_walk seen pending waiting false w us is =
    rw (and_false (is_pending file_rule pending)) (ap (λ (h : Held). record {
      held = pushed (codes "FILE") w h;
      waiting = idle;
      position = 2;
      is_trailing = false;
      stopped = None;
    }) is)

pub value_walk : (seen : List Use) (pending : Option (Text × List Text)) (waiting : Waiting) (t : Bool) (w : Text) (us : List Use)
    → IsValue seen pending waiting false t w
    → settled rules (held seen pending) ≡ held us None
    → walked rules [] (at seen pending waiting false t) w ≡ at us (Some (codes "FILE", w ∷ [])) idle true t
unfolding walked
value_walk seen pending waiting t w us is settles =
    ap (λ (m : Held × Step). after_step rules w (at seen pending waiting false t) m.0 m.1) is
    ∙ filed_walk seen pending waiting t w us settles

-- ---- options

-- an option with its value in the same word, from what is settled
pub joined_met : (waiting : Waiting) (place : ℕ) (w name v : Text) (h : Held) → bytes_eq w dashes ≡ false
    → long_of w ≡ Some (name, Some v) → is_option name ≡ true
    → met waiting place w h ≡ (reacted rules (option_rule name) (v ∷ []) h, next idle)
joined_met waiting place w name v h d l o =
    long_met_is waiting place w name (Some v) h d l ∙ rw (long_option name o) refl

pub alone_met : (waiting : Waiting) (place : ℕ) (w name : Text) (h : Held) → bytes_eq w dashes ≡ false
    → long_of w ≡ Some (name, None) → is_option name ≡ true
    → met waiting place w h ≡ (record (settled rules h) { pending = Some (name, []) }, next (option name))
alone_met waiting place w name h d l o = long_met_is waiting place w name None h d l ∙ rw (long_option name o) refl

pub unknown_faults : (waiting : Waiting) (w name : Text) (given : Option Text) (h : Held) → bytes_eq w dashes ≡ false
    → long_of w ≡ Some (name, given) → is_option name ≡ false
    → here_fault waiting w h ≡ UnknownArgument ∷ []
unknown_faults waiting w name given h d l o = long_faults waiting w name given h d l ∙ rw (no_long name o) refl

pub joined_faults : (waiting : Waiting) (w name v : Text) (h : Held) → bytes_eq w dashes ≡ false
    → long_of w ≡ Some (name, Some v) → is_option name ≡ true
    → here_fault waiting w h ≡ or_else (settle_fault rules false h) (use_fault false (option_rule name) (v ∷ []) (settled rules h).rows)
joined_faults waiting w name v h d l o = long_faults waiting w name (Some v) h d l ∙ rw (long_option name o) refl

pub alone_faults : (waiting : Waiting) (w name : Text) (h : Held) → bytes_eq w dashes ≡ false
    → long_of w ≡ Some (name, None) → is_option name ≡ true
    → here_fault waiting w h ≡ settle_fault rules false h
alone_faults waiting w name h d l o = long_faults waiting w name None h d l ∙ rw (long_option name o) refl

-- an option is refused where what waits is
pub long_fails : (waiting : Waiting) (w name : Text) (given : Option Text) (h : Held) → bytes_eq w dashes ≡ false
    → long_of w ≡ Some (name, given) → (b : Bool) → is_option name ≡ b
    → NonEmpty (settle_fault rules false h) → NonEmpty (here_fault waiting w h)
long_fails waiting w name given h d l false o fault =
    λ none. let stray : UnknownArgument ∷ [] ≡ [] = sym (unknown_faults waiting w name given h d l o) ∙ none in cc
long_fails waiting w name None h d l true o fault = λ none. fault (sym (alone_faults waiting w name h d l o) ∙ none)
long_fails waiting w name (Some v) h d l true o fault =
    λ none. first_nonempty _ (use_fault false (option_rule name) (v ∷ []) (settled rules h).rows) fault
    (sym (joined_faults waiting w name v h d l o) ∙ none)

-- where what waits is settled
pub settled_use : (h : Held) (us : List Use) (name v : Text) → settle_fault rules false h ≡ []
    → settled rules h ≡ held us None
    → or_else (settle_fault rules false h) (use_fault false (option_rule name) (v ∷ []) (settled rules h).rows) ≡ conflict (has name us)
settled_use h us name v none is =
    ap₂ (λ (ks : Kinds) (g : Held). or_else ks (use_fault false (option_rule name) (v ∷ []) g.rows)) none is
    ∙ use_fault_is name (Some name) None false v us

pub settled_reacted : (h : Held) (us : List Use) (name v : Text) → settled rules h ≡ held us None → h.skip ≡ 0
    → has name us ≡ false
    → reacted rules (option_rule name) (v ∷ []) h ≡ held (us ++ (name, v) ∷ []) None
settled_reacted h us name v is zero new =
    ap₂ (λ (g : Held) (n : ℕ). record { rows = used (option_rule name) (v ∷ []) g.rows; pending = None; skip = n }) is zero
    ∙ ap (λ rows. record { rows = rows; pending = None; skip = 0 }) (added name v us new)

-- the value of the option that waits
pub due_held : (seen : List Use) (name w : Text) → Known name
    → plain_word rules (option name) w (held seen (Some (name, []))) ≡ (held seen (Some (name, w ∷ [])), next idle)
due_held seen name w k = rw (k.3, (bytes_eq-Decides name name).1 refl) refl

pub due_fault : (seen : List Use) (name : Text) → Known name
    → settle_fault rules false (held seen (Some (name, []))) ≡ InvalidValue ∷ []
due_fault seen name k = rw (k.3) refl

pub due_fails : (seen : List Use) (name : Text) → Known name
    → NonEmpty (settle_fault rules false (held seen (Some (name, []))))
due_fails seen name k = λ none. let bad : InvalidValue ∷ [] ≡ [] = sym (due_fault seen name k) ∙ none in cc
