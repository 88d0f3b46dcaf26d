-- The grammar of the words, against the function.
use Rattle.std.proofs.Common.{◌≡◌, ◌∙◌, ◌<◌, ◌||◌, ◌&&◌, ◌+◌, ◌==◌, ℕ, Bool, true, false, not, cond, refl, sym, ap, ap₂, subst, arith, List, [], ◌∷◌, ◌++◌, map, length, Option, Some, None, true≢false, bytes_eq, eqb-true, get_or, take, drop, append_assoc, length-append}
use Rattle.std.specs.Option.{unwrap_or}
use Rattle.std.proofs.lemmas.List.Sums.{prefix_len_stops, split_at_first}
use Rattle.std.proofs.lemmas.List.{drop_at, take_all, take_at}
use Rattle.std.proofs.lemmas.Slice.Eq.{bytes_eq-Decides}
use Rattle.std.specs.List.{list_all, list_any, before_first, after_first, position_or_len}
use Rattle.clap.specs.Lexer.{long_of, name_and_value}
use Rattle.sgml_words.specs.Words.{Text, Use, as_file, dashes, is_option, may_stand, option_names}
use Rattle.sgml_words.specs.Uses.{preceded_by, uses_of}
use Rattle.sgml_words.specs.Says.{Says, nothing, apart, joined, file, closed}
use Rattle.sgml_words.proofs.Truth.{both, not_false, not_true, or_false, or_true}

-- ---- the spellings of options

pub record Spelled (name : Text) : Type 0 where
  pub alone : long_of (dashes ++ name) ≡ Some (name, None)
  pub alone_open : bytes_eq (dashes ++ name) dashes ≡ false
  pub value : (v : Text) → long_of (dashes ++ (name ++ 61 ∷ v)) ≡ Some (name, Some v)
  pub value_open : (v : Text) → bytes_eq (dashes ++ (name ++ 61 ∷ v)) dashes ≡ false

abbrev is_equals : ℕ → Bool
is_equals x = x == 61

found_place : (x : ℕ) (xs : List ℕ) (b : Bool) → is_equals x ≡ b → (list_any is_equals (x ∷ xs)) ≡ true
    → (list_any is_equals xs ≡ true → position_or_len is_equals xs < length xs)
    → position_or_len is_equals (x ∷ xs) < length (x ∷ xs)
found_place x xs true e any ih = rw e (omega arith)
found_place x xs false e any ih =
    let more : position_or_len is_equals xs < length xs = ih (sym (ap (λ b. b || list_any is_equals xs) e) ∙ any) in
    rw e (omega (arith, more))

place : (xs : List ℕ) → list_any is_equals xs ≡ true → position_or_len is_equals xs < length xs
place [] any = absurd (true≢false (sym any))
place (x ∷ xs) any = found_place x xs (is_equals x) refl any (place xs)

no_place_step : (x : ℕ) (xs : List ℕ) (b : Bool) → is_equals x ≡ b → (list_any is_equals (x ∷ xs)) ≡ false
    → (list_any is_equals xs ≡ false → position_or_len is_equals xs ≡ length xs)
    → position_or_len is_equals (x ∷ xs) ≡ length (x ∷ xs)
no_place_step x xs true e any ih = absurd (true≢false (sym (ap (λ b. b || list_any is_equals xs) e) ∙ any))
no_place_step x xs false e any ih =
    let more : position_or_len is_equals xs ≡ length xs = ih (sym (ap (λ b. b || list_any is_equals xs) e) ∙ any) in
    rw e (omega (arith, more))

no_place : (xs : List ℕ) → list_any is_equals xs ≡ false → position_or_len is_equals xs ≡ length xs
no_place [] any = refl
no_place (x ∷ xs) any = no_place_step x xs (is_equals x) refl any (no_place xs)

-- before a first `=`
place_after : (name v : List ℕ) → list_any is_equals name ≡ false
    → position_or_len is_equals (name ++ 61 ∷ v) ≡ length name
place_after [] v none = refl
place_after (x ∷ xs) v none =
    let parts = or_false (is_equals x) (list_any is_equals xs) none in
    let more : position_or_len is_equals (xs ++ 61 ∷ v) ≡ length xs = place_after xs v parts.1 in
    rw parts.0 (omega (arith, more))

any_after : (name v : List ℕ) → list_any is_equals (name ++ 61 ∷ v) ≡ true
any_after [] v = refl
any_after (x ∷ xs) v = ap (λ b. is_equals x || b) (any_after xs v) ∙ or_true (is_equals x)

whole : (l : List ℕ) → list_any is_equals l ≡ false → before_first is_equals l ≡ l
whole l none = ap (λ n. take n l) (no_place l none) ∙ take_all (length l) l (omega arith)

before_value : (name v : List ℕ) → list_any is_equals name ≡ false → before_first is_equals (name ++ 61 ∷ v) ≡ name
before_value name v none =
    take_at name (61 ∷ v) (position_or_len is_equals (name ++ 61 ∷ v)) (sym (place_after name v none))

after_value : (name v : List ℕ) → list_any is_equals name ≡ false → after_first is_equals (name ++ 61 ∷ v) ≡ v
after_value name v none =
    let place : position_or_len is_equals (name ++ 61 ∷ v) ≡ length name = place_after name v none in
    ap (drop (position_or_len is_equals (name ++ 61 ∷ v) + 1)) (sym (append_assoc name (61 ∷ []) v))
    ∙ drop_at (name ++ 61 ∷ []) v (position_or_len is_equals (name ++ 61 ∷ v) + 1)
    (length-append name (61 ∷ []) ∙ ap (λ n. n + 1) (sym place))

-- a name isn't empty and has no `=`
is_name : Text → Bool
is_name [] = false
is_name (b ∷ bs) = not (list_any is_equals (b ∷ bs))

name_spelled : (name : Text) → is_name name ≡ true → Spelled name
unfolding is_name
name_spelled [] e = absurd (true≢false (sym e))
name_spelled (b ∷ bs) e =
    let none : list_any is_equals (b ∷ bs) ≡ false = not_true (list_any is_equals (b ∷ bs)) e in
    record {
      alone = rw none (ap (λ (t : Text). Some (t, None)) (whole (b ∷ bs) none));
      alone_open = refl;
      value = λ v. rw (any_after (b ∷ bs) v) (ap₂ (λ (t u : Text). Some (t, Some u)) (before_value (b ∷ bs) v none) (after_value (b ∷ bs) v none));
      value_open = λ v. refl;
    }

name_step : (n : Text) (ns : List Text) (name : Text) (b : Bool) → bytes_eq n name ≡ b
    → (is_name n && list_all is_name ns) ≡ true → list_any (λ m. bytes_eq m name) (n ∷ ns) ≡ true
    → (list_all is_name ns ≡ true → list_any (λ m. bytes_eq m name) ns ≡ true → is_name name ≡ true)
    → is_name name ≡ true
name_step n ns name true e all any rest =
    ap is_name (sym ((bytes_eq-Decides n name).0 e)) ∙ (both (is_name n) (list_all is_name ns) all).0
name_step n ns name false e all any rest =
    rest (both (is_name n) (list_all is_name ns) all).1
    (sym (ap (λ b. b || list_any (λ m. bytes_eq m name) ns) e) ∙ any)

name_among : (ns : List Text) (name : Text) → list_all is_name ns ≡ true → list_any (λ m. bytes_eq m name) ns ≡ true
    → is_name name ≡ true
name_among [] name all any = absurd (true≢false (sym any))
name_among (n ∷ ns) name all any = name_step n ns name (bytes_eq n name) refl all any (name_among ns name)

names_are_names : list_all is_name option_names ≡ true
unfolding is_name
names_are_names = refl

spelled : (name : Text) → is_option name ≡ true → Spelled name
spelled name o = name_spelled name (name_among option_names name names_are_names o)

-- ---- a FILE

pub record Plain (w : Text) : Type 0 where
  pub open_ : bytes_eq w dashes ≡ false
  pub short : long_of w ≡ None

lone_word : (b : ℕ) (t : Bool) → (b == 45) ≡ t → Plain (b ∷ [])
lone_word b true e = rw (eqb-true b 45 e) (record { open_ = refl; short = refl })
lone_word b false e = record { open_ = rw e refl; short = rw e refl }

plain_word : (w : Text) → may_stand w ≡ true → Plain w
plain_word [] m = record { open_ = refl; short = refl }
plain_word (b ∷ []) m = lone_word b (b == 45) refl
plain_word (b ∷ c ∷ bs) m =
    let e = not_true (b == 45) m in
    record { open_ = rw e refl; short = rw e refl }

-- ---- from the grammar to the function

pub says_uses : (words : List Text) (uses : List Use) → Says words uses → uses_of None words ≡ Some uses
says_uses _ _ nothing = refl
says_uses _ _ (apart name v words uses o m says) =
    let s = spelled name o in
    rw (s.alone_open, s.alone, o, m, says_uses words uses says) refl
says_uses _ _ (joined name v words uses o says) =
    let s = spelled name o in
    let open_ = s.value_open v in
    let value = s.value v in
    rw (open_, value, o, says_uses words uses says) refl
says_uses _ _ (file word words uses m says) =
    let p = plain_word word m in
    rw (p.open_, p.short, m, says_uses words uses says) refl
says_uses _ _ (closed words) = refl

-- ---- from the function to the grammar

-- the text of a name, and of a value after it
abbrev spelling : Text → Option Text → Text
spelling name None = name
spelling name (Some v) = name ++ 61 ∷ v

spelled_by : (l : Text) (b : Bool) → list_any is_equals l ≡ b → l ≡ spelling (name_and_value l).0 (name_and_value l).1
spelled_by l true e =
    let lt = place l e in
    let stop = prefix_len_stops (λ x. not (is_equals x)) l 0 lt in
    let is : get_or l (position_or_len is_equals l) 0 ≡ 61 =
    eqb-true _ 61 (not_false (is_equals (get_or l (position_or_len is_equals l) 0)) stop) in
    rw e (split_at_first is_equals l 0 lt ∙ ap (λ x. before_first is_equals l ++ x ∷ after_first is_equals l) is)
spelled_by l false e = rw e (sym (whole l e))

-- what a word is, by its spelling
data Form (w : Text) : Type 0 where
  closes : w ≡ dashes → Form w
  long : (name : Text) (given : Option Text) → bytes_eq w dashes ≡ false → long_of w ≡ Some (name, given)
      → w ≡ dashes ++ spelling name given → Form w
  other : bytes_eq w dashes ≡ false → long_of w ≡ None → Form w

form_two : (c : ℕ) (bs : Text) (t : Bool) → (c == 45) ≡ t → Form (45 ∷ c ∷ bs)
form_two c bs false e = other (rw e refl) (rw e refl)
form_two c [] true e = closes (rw (eqb-true c 45 e) refl)
form_two c (d ∷ bs) true e =
    rw (eqb-true c 45 e) (long (name_and_value (d ∷ bs)).0 (name_and_value (d ∷ bs)).1 refl refl
    (ap (λ l. 45 ∷ 45 ∷ l) (spelled_by (d ∷ bs) (list_any is_equals (d ∷ bs)) refl)))

form_one : (b c : ℕ) (bs : Text) (t : Bool) → (b == 45) ≡ t → Form (b ∷ c ∷ bs)
form_one b c bs false e = other (rw e refl) (rw e refl)
form_one b c bs true e = subst (λ x. Form (x ∷ c ∷ bs)) (sym (eqb-true b 45 e)) (form_two c bs (c == 45) refl)

form_lone : (b : ℕ) (t : Bool) → (b == 45) ≡ t → Form (b ∷ [])
form_lone b true e = rw (eqb-true b 45 e) (other refl refl)
form_lone b false e = other (rw e refl) (rw e refl)

form : (w : Text) → Form w
form [] = other refl refl
form (b ∷ []) = form_lone b (b == 45) refl
form (b ∷ c ∷ bs) = form_one b c bs (b == 45) refl

says_at : (words by : List Text) (uses same : List Use) → words ≡ by → uses ≡ same → Says by same → Says words uses
says_at words by uses same a b h = rw (a, b) h

-- the uses of the words after the value of the option that waits
record Due (name : Text) (words : List Text) (uses : List Use) : Type 0 where
  v : Text
  rest : List Text
  more : List Use
  words_are : words ≡ v ∷ rest
  uses_are : uses ≡ (name, v) ∷ more
  stands : may_stand v ≡ true
  says : Says rest more

record Sound (words : List Text) : Type 0 where
  idle : (uses : List Use) → uses_of None words ≡ Some uses → Says words uses
  due : (name : Text) (uses : List Use) → uses_of (Some name) words ≡ Some uses → Due name words uses

record Preceded (u : Use) (o : Option (List Use)) (uses : List Use) : Type 0 where
  more : List Use
  rest : o ≡ Some more
  is : uses ≡ u ∷ more

preceded : (u : Use) (o : Option (List Use)) (uses : List Use) → preceded_by u o ≡ Some uses → Preceded u o uses
preceded u None uses e = cc
preceded u (Some us) uses e =
    record { more = us; rest = refl; is = sym (ap (λ (x : Option (List Use)). unwrap_or x []) e) }

if_true : {A : Type 0} (b : Bool) (o : Option A) (x : A) → cond b o None ≡ Some x → (b ≡ true) × (o ≡ Some x)
if_true true o x e = (refl, e)
if_true false o x e = cc

module _ (w : Text) (ws : List Text) (later : Sound ws) where
  idle_long : (name : Text) (given : Option Text) (uses : List Use) → bytes_eq w dashes ≡ false
      → long_of w ≡ Some (name, given) → w ≡ dashes ++ spelling name given
      → uses_of None (w ∷ ws) ≡ Some uses → Says (w ∷ ws) uses
  idle_long name None uses d l by e =
      let step : cond (is_option name) (uses_of (Some name) ws) None ≡ Some uses = rw (d, l) at e in
      let both = if_true (is_option name) (uses_of (Some name) ws) uses step in
      let due = later.due name uses both.1 in
      let one : Says ((dashes ++ name) ∷ due.v ∷ due.rest) ((name, due.v) ∷ due.more) =
      apart name due.v due.rest due.more both.0 due.stands due.says in
      says_at (w ∷ ws) ((dashes ++ name) ∷ due.v ∷ due.rest) uses ((name, due.v) ∷ due.more)
      (ap₂ (λ (x : Text) (xs : List Text). x ∷ xs) by due.words_are) due.uses_are one
  idle_long name (Some v) uses d l by e =
      let step : cond (is_option name) (preceded_by (name, v) (uses_of None ws)) None ≡ Some uses = rw (d, l) at e in
      let both = if_true (is_option name) (preceded_by (name, v) (uses_of None ws)) uses step in
      let p = preceded (name, v) (uses_of None ws) uses both.1 in
      let one : Says ((dashes ++ (name ++ 61 ∷ v)) ∷ ws) ((name, v) ∷ p.more) =
      joined name v ws p.more both.0 (later.idle p.more p.rest) in
      says_at (w ∷ ws) ((dashes ++ (name ++ 61 ∷ v)) ∷ ws) uses ((name, v) ∷ p.more) (ap (λ x. x ∷ ws) by) p.is one

  idle_word : Form w → (uses : List Use) → uses_of None (w ∷ ws) ≡ Some uses → Says (w ∷ ws) uses
  idle_word (closes is) uses e =
      let step : Some (map as_file ws) ≡ Some uses = rw is at e in
      let uses_are : uses ≡ map as_file ws = sym (ap (λ (x : Option (List Use)). unwrap_or x []) step) in
      says_at (w ∷ ws) (dashes ∷ ws) uses (map as_file ws) (ap (λ x. x ∷ ws) is) uses_are (closed ws)
  idle_word (long name given d l by) uses e = idle_long name given uses d l by e
  idle_word (other d l) uses e =
      let step : cond (may_stand w) (preceded_by (as_file w) (uses_of None ws)) None ≡ Some uses = rw (d, l) at e in
      let both = if_true (may_stand w) (preceded_by (as_file w) (uses_of None ws)) uses step in
      let p = preceded (as_file w) (uses_of None ws) uses both.1 in
      says_at (w ∷ ws) (w ∷ ws) uses (as_file w ∷ p.more) refl p.is (file w ws p.more both.0 (later.idle p.more p.rest))

  due_word : (name : Text) (uses : List Use) → uses_of (Some name) (w ∷ ws) ≡ Some uses → Due name (w ∷ ws) uses
  due_word name uses e =
      let both = if_true (may_stand w) (preceded_by (name, w) (uses_of None ws)) uses e in
      let p = preceded (name, w) (uses_of None ws) uses both.1 in
      record { v = w; rest = ws; more = p.more; words_are = refl; uses_are = p.is; stands = both.0; says = later.idle p.more p.rest }

sound : (words : List Text) → Sound words
sound [] = record {
  idle = λ uses e. says_at [] [] uses [] refl (sym (ap (λ (x : Option (List Use)). unwrap_or x []) e)) nothing;
  due = λ name uses e. cc;
}
sound (w ∷ ws) =
    let later = sound ws in
    record { idle = idle_word w ws later (form w); due = due_word w ws later }

pub uses_say : (words : List Text) (uses : List Use) → uses_of None words ≡ Some uses → Says words uses
uses_say words uses e = (sound words).idle uses e
