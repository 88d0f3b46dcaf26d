-- The outline of a group is that of the terms that are read.
use Rattle.std.proofs.Common.{◌≡◌, ℕ, suc, ◌+◌, ◌<◌, ◌≤◌, max, Bool, true, false, ◌&&◌, List, [], ◌∷◌, ◌++◌, map, length, take, get_or, Option, Some, None, refl, sym, ap, ◌∙◌, subst, cond, arith, option_map}
use Rattle.std.specs.Prelude.{is_some, not}
use Rattle.sgml_model.specs.Term.{Term, name, pcdata, Terms}
use Rattle.sgml_model.specs.View.{terms}
use Rattle.sgml_model.specs.Limits.{count, widest, widest_of, total, total_of, level, level_of}
use Rattle.sgml_model.specs.Group.{Connector, in_order, one_of, all_of, Mark, once, some_times, any_times, Sign, begin, finish, text, word, by, mark, IsBadAt}
use Rattle.sgml_model.specs.Reading.{Open, State, agrees, group_of, marked, is_some_open, state, step, start, run, whole}
use Rattle.sgml_model.specs.Outline.{Begun, Outline, outline, judge, link, shut, nothing, closed, innermost, is_some_begun}
use Rattle.sgml_model.specs.Reads.{AreSizes}
use Rattle.sgml_model.proofs.Grammar.{run_more, bad_at, bad_end, take_all}

abbrev pub begun_of : Open → Begun
begun_of o = record { connector = o.connector; members = length o.members }

abbrev pub widest_in : Option Term → ℕ
widest_in None = 0
widest_in (Some x) = widest x

abbrev pub widest_among : List Open → ℕ
widest_among [] = 0
widest_among (o ∷ os) = max (widest_of (terms o.members)) (widest_among os)

abbrev pub total_in : Option Term → ℕ
total_in None = 0
total_in (Some x) = total x

abbrev pub total_among : List Open → ℕ
total_among [] = 0
total_among (o ∷ os) = (length o.members + total_of (terms o.members)) + total_among os

abbrev pub level_in : ℕ → Option Term → ℕ
level_in depth None = 0
level_in depth (Some x) = depth + level x

abbrev pub level_among : List Open → ℕ
level_among [] = 0
level_among (o ∷ os) = max (suc (length os) + level_of (terms o.members)) (level_among os)

-- what is left of a state without its terms
abbrev pub erase : State → Outline
erase s = outline (map begun_of s.open_groups) (is_some s.item) s.markable
    (max (widest_in s.item) (widest_among s.open_groups))
    (total_in s.item + total_among s.open_groups)
    (max (level_in (length s.open_groups) s.item) (level_among s.open_groups))

outline_same : (os : List Begun) (i m : Bool) (w w' t t' l l' : ℕ) → w ≡ w' → t ≡ t' → l ≡ l' → outline os i m w t l ≡ outline os i m w' t' l'
outline_same os i m w w' t t' l l' p q r = ap (λ a. outline os i m a t l) p ∙ ap (λ a. outline os i m w' a l) q ∙ ap (λ a. outline os i m w' t' a) r

pub count_one : (ms : List Term) (x : Term) → count (terms (ms ++ x ∷ [])) ≡ suc (length ms)
count_one [] x = refl
count_one (m ∷ ms) x = ap suc (count_one ms x)

widest_one : (ms : List Term) (x : Term) → widest_of (terms (ms ++ x ∷ [])) ≡ max (widest_of (terms ms)) (widest x)
widest_one [] x = omega arith
widest_one (m ∷ ms) x = let e = widest_one ms x in omega (arith, e)

pub total_one : (ms : List Term) (x : Term) → total_of (terms (ms ++ x ∷ [])) ≡ total_of (terms ms) + total x
total_one [] x = omega arith
total_one (m ∷ ms) x = let e = total_one ms x in omega (arith, e)

level_one : (ms : List Term) (x : Term) → level_of (terms (ms ++ x ∷ [])) ≡ max (level_of (terms ms)) (level x)
level_one [] x = omega arith
level_one (m ∷ ms) x = let e = level_one ms x in omega (arith, e)

widest_group : (k : Option Connector) (ms : Terms) → widest (group_of k ms) ≡ max (count ms) (widest_of ms)
widest_group None ms = refl
widest_group (Some in_order) ms = refl
widest_group (Some one_of) ms = refl
widest_group (Some all_of) ms = refl

pub total_group : (k : Option Connector) (ms : Terms) → total (group_of k ms) ≡ count ms + total_of ms
total_group None ms = refl
total_group (Some in_order) ms = refl
total_group (Some one_of) ms = refl
total_group (Some all_of) ms = refl

level_group : (k : Option Connector) (ms : Terms) → level (group_of k ms) ≡ suc (level_of ms)
level_group None ms = refl
level_group (Some in_order) ms = refl
level_group (Some one_of) ms = refl
level_group (Some all_of) ms = refl

widest_mark : (m : Mark) (x : Term) → widest (marked m x) ≡ widest x
widest_mark once x = refl
widest_mark some_times x = refl
widest_mark any_times x = refl

pub total_mark : (m : Mark) (x : Term) → total (marked m x) ≡ total x
total_mark once x = refl
total_mark some_times x = refl
total_mark any_times x = refl

level_mark : (m : Mark) (x : Term) → level (marked m x) ≡ level x
level_mark once x = refl
level_mark some_times x = refl
level_mark any_times x = refl

depth_map : (os : List Open) → length (map begun_of os) ≡ length os
depth_map [] = refl
depth_map (o ∷ os) = ap suc (depth_map os)

pub length_one : (ms : List Term) (x : Term) → length (ms ++ x ∷ []) ≡ suc (length ms)
length_one [] x = refl
length_one (m ∷ ms) x = ap suc (length_one ms x)

begun_one : (c : Connector) (ms : List Term) (x : Term) →
    ◌≡◌ {A = Begun} (record { connector = Some c; members = suc (length ms) }) (record { connector = Some c; members = length (ms ++ x ∷ []) })
begun_one c ms x = ap (λ n. record { connector = Some c; members = n }) (sym (length_one ms x))

begins : (os : List Open) (b : Bool) (n : ℕ) → judge (erase (state os None b n)) begin ≡ Some (erase (state (record { connector = None; members = [] } ∷ os) None false n))
begins os b n =
    let d = depth_map os in
    ap Some (outline_same (map begun_of (record { connector = None; members = [] } ∷ os)) false false
    (max 0 (widest_among os)) (max 0 (max 0 (widest_among os)))
    (0 + total_among os) (0 + ((0 + 0) + total_among os))
    (max (max 0 (level_among os)) (suc (length (map begun_of os)))) (max 0 (max (suc (length os) + 0) (level_among os)))
    (omega arith) (omega arith) (omega (arith, d)))

holds : (o : Open) (os : List Open) (m : Bool) (x : Term) → widest x ≡ 0 → total x ≡ 0 → level x ≡ 0 → (b : Bool) (n n' : ℕ) →
    ◌≡◌ {A = Option Outline}
    (Some (outline (map begun_of (o ∷ os)) true m (max 0 (widest_among (o ∷ os))) (0 + total_among (o ∷ os)) (max 0 (level_among (o ∷ os)))))
    (Some (erase (state (o ∷ os) (Some x) m n')))
holds o os m x w t l b n n' =
    ap Some (outline_same (map begun_of (o ∷ os)) true m
    (max 0 (widest_among (o ∷ os))) (max (widest x) (widest_among (o ∷ os)))
    (0 + total_among (o ∷ os)) (total x + total_among (o ∷ os))
    (max 0 (level_among (o ∷ os))) (max (length (o ∷ os) + level x) (level_among (o ∷ os)))
    (omega (arith, w)) (omega (arith, t)) (omega (arith, l)))

links : (o : Open) (os : List Open) (x : Term) (c : Connector) (b : Bool) (n : ℕ) →
    ◌≡◌ {A = Outline}
    (outline (record { connector = Some c; members = suc (length o.members) } ∷ map begun_of os) false false
    (max (widest x) (widest_among (o ∷ os))) (suc (total x + total_among (o ∷ os))) (max (length (o ∷ os) + level x) (level_among (o ∷ os))))
    (erase (state (record { connector = Some c; members = o.members ++ x ∷ [] } ∷ os) None false n))
links o os x c b n =
    let w = widest_one o.members x in
    let t = total_one o.members x in
    let l = level_one o.members x in
    let k = length_one o.members x in
    ap (λ g. outline (g ∷ map begun_of os) false false (max (widest x) (widest_among (o ∷ os))) (suc (total x + total_among (o ∷ os))) (max (length (o ∷ os) + level x) (level_among (o ∷ os)))) (begun_one c o.members x)
    ∙ outline_same (record { connector = Some c; members = length (o.members ++ x ∷ []) } ∷ map begun_of os) false false
    (max (widest x) (max (widest_of (terms o.members)) (widest_among os))) (max 0 (max (widest_of (terms (o.members ++ x ∷ []))) (widest_among os)))
    (suc (total x + ((length o.members + total_of (terms o.members)) + total_among os))) (0 + ((length (o.members ++ x ∷ []) + total_of (terms (o.members ++ x ∷ []))) + total_among os))
    (max (suc (length os) + level x) (max (suc (length os) + level_of (terms o.members)) (level_among os))) (max 0 (max (suc (length os) + level_of (terms (o.members ++ x ∷ []))) (level_among os)))
    (omega (arith, w)) (omega (arith, t, k)) (omega (arith, l))

shuts : (o : Open) (os : List Open) (x : Term) (n : ℕ) →
    ◌≡◌ {A = Outline}
    (outline (map begun_of os) true true (max (max (widest x) (widest_among (o ∷ os))) (suc (length o.members))) (suc (total x + total_among (o ∷ os))) (max (length (o ∷ os) + level x) (level_among (o ∷ os))))
    (erase (state os (Some (group_of o.connector (terms (o.members ++ x ∷ [])))) true n))
shuts o os x n =
    let w = widest_one o.members x in
    let t = total_one o.members x in
    let l = level_one o.members x in
    let k = count_one o.members x in
    let gw = widest_group o.connector (terms (o.members ++ x ∷ [])) in
    let gt = total_group o.connector (terms (o.members ++ x ∷ [])) in
    let gl = level_group o.connector (terms (o.members ++ x ∷ [])) in
    outline_same (map begun_of os) true true
    (max (max (widest x) (max (widest_of (terms o.members)) (widest_among os))) (suc (length o.members))) (max (widest (group_of o.connector (terms (o.members ++ x ∷ [])))) (widest_among os))
    (suc (total x + ((length o.members + total_of (terms o.members)) + total_among os))) (total (group_of o.connector (terms (o.members ++ x ∷ []))) + total_among os)
    (max (suc (length os) + level x) (max (suc (length os) + level_of (terms o.members)) (level_among os))) (max (length os + level (group_of o.connector (terms (o.members ++ x ∷ [])))) (level_among os))
    (omega (arith, w, k, gw)) (omega (arith, t, k, gt)) (omega (arith, l, gl))

marks : (os : List Open) (x : Term) (m : Mark) (n : ℕ) →
    ◌≡◌ {A = Outline}
    (outline (map begun_of os) true false (max (widest x) (widest_among os)) (total x + total_among os) (max (length os + level x) (level_among os)))
    (erase (state os (Some (marked m x)) false n))
marks os x m n =
    outline_same (map begun_of os) true false
    (max (widest x) (widest_among os)) (max (widest (marked m x)) (widest_among os))
    (total x + total_among os) (total (marked m x) + total_among os)
    (max (length os + level x) (level_among os)) (max (length os + level (marked m x)) (level_among os))
    (ap (λ a. max a (widest_among os)) (sym (widest_mark m x)))
    (ap (λ a. a + total_among os) (sym (total_mark m x)))
    (ap (λ a. max (length os + a) (level_among os)) (sym (level_mark m x)))

link_cond : (b : Bool) (o o' : Outline) (s : State) → o ≡ erase s → cond b (Some o) None ≡ option_map erase (cond b (Some s) None)
link_cond true o o' s e = ap Some e
link_cond false o o' s e = refl

-- a step of the outline is that of the reading
pub judges : (os : List Open) (i : Option Term) (b : Bool) (n : ℕ) (w : Sign) → judge (erase (state os i b n)) w ≡ option_map erase (step (state os i b n) w)
judges os None b n begin = begins os b n
judges os (Some x) b n begin = refl
judges [] None b n text = refl
judges (o ∷ os) None b n text = holds o os false (pcdata n) refl refl refl b n (suc n)
judges [] (Some x) b n text = refl
judges (o ∷ os) (Some x) b n text = refl
judges [] None b n (word k) = refl
judges (o ∷ os) None b n (word k) = holds o os true (name n k) refl refl refl b n (suc n)
judges [] (Some x) b n (word k) = refl
judges (o ∷ os) (Some x) b n (word k) = refl
judges [] i b n (by c) = refl
judges (o ∷ os) None b n (by c) = refl
judges (o ∷ os) (Some x) b n (by c) =
    link_cond (agrees o.connector c)
    (outline (record { connector = Some c; members = suc (length o.members) } ∷ map begun_of os) false false (max (widest x) (widest_among (o ∷ os))) (suc (total x + total_among (o ∷ os))) (max (length (o ∷ os) + level x) (level_among (o ∷ os))))
    (erase (state os None b n))
    (state (record { connector = Some c; members = o.members ++ x ∷ [] } ∷ os) None false n)
    (links o os x c b n)
judges [] i b n finish = refl
judges (o ∷ os) None b n finish = refl
judges (o ∷ os) (Some x) b n finish = ap Some (shuts o os x n)
judges os None true n (mark m) = refl
judges os None false n (mark m) = refl
judges os (Some x) false n (mark m) = refl
judges os (Some x) true n (mark m) = ap Some (marks os x m n)

-- a token adds at most one member
total_cond : (b : Bool) (o o' : Outline) (t : ℕ) → o.total ≤ t → cond b (Some o) None ≡ Some o' → o'.total ≤ t
total_cond true o o' t h e = let same : o ≡ o' = cc in subst (λ (v : Outline). v.total ≤ t) same h
total_cond false o o' t h e = cc

total_link : (os : List Begun) (s o' : Outline) (c : Connector) → link os s c ≡ Some o' → o'.total ≤ suc s.total
total_link [] s o' c e = cc
total_link (o ∷ os) s o' c e = total_cond (s.item && agrees o.connector c) (outline (record { connector = Some c; members = suc o.members } ∷ os) false false s.widest (suc s.total) s.level) o' (suc s.total) (omega arith) e

total_shut : (os : List Begun) (s o' : Outline) → shut os s ≡ Some o' → o'.total ≤ suc s.total
total_shut [] s o' e = cc
total_shut (o ∷ os) s o' e = total_cond s.item (outline os true true (max s.widest (suc o.members)) (suc s.total) s.level) o' (suc s.total) (omega arith) e

total_begin : (b : Bool) (o o' : Outline) (t : ℕ) → o.total ≤ t → cond b None (Some o) ≡ Some o' → o'.total ≤ t
total_begin false o o' t h e = let same : o ≡ o' = cc in subst (λ (v : Outline). v.total ≤ t) same h
total_begin true o o' t h e = cc

pub total_step : (s o' : Outline) (w : Sign) → judge s w ≡ Some o' → o'.total ≤ suc s.total
total_step s o' begin e = total_begin s.item (outline (record { connector = None; members = 0 } ∷ s.open_groups) false false s.widest s.total (max s.level (suc (length s.open_groups)))) o' (suc s.total) (omega arith) e
total_step s o' finish e = total_shut s.open_groups s o' e
total_step s o' text e = total_cond (not s.item && is_some_begun s.open_groups) (outline s.open_groups true false s.widest s.total s.level) o' (suc s.total) (omega arith) e
total_step s o' (word n) e = total_cond (not s.item && is_some_begun s.open_groups) (outline s.open_groups true true s.widest s.total s.level) o' (suc s.total) (omega arith) e
total_step s o' (by c) e = total_link s.open_groups s o' c e
total_step s o' (mark m) e = total_cond (s.item && s.markable) (outline s.open_groups true false s.widest s.total s.level) o' (suc s.total) (omega arith) e

pub innermost_total : (s : State) → innermost (erase s).open_groups ≤ (erase s).total
innermost_total s = go s.open_groups
  where
    go : (os : List Open) → innermost (map begun_of os) ≤ total_in s.item + total_among os
    go [] = omega arith
    go (o ∷ os) = omega arith

-- what the judging knows of the tokens before a place
pub record IsJudged (tokens : List Sign) (at : ℕ) (o : Outline) : Type 0 where
  pub of : State
  pub read : run start (take at tokens) ≡ Some of
  pub erased : o ≡ erase of
  pub few : o.total ≤ at

pub judged_start : (tokens : List Sign) → IsJudged tokens 0 nothing
unfolding run
judged_start tokens = record { of = start; read = refl; erased = refl; few = omega arith }

pub judged_small : (tokens : List Sign) (at : ℕ) (o : Outline) → IsJudged tokens at o → innermost o.open_groups ≤ at
judged_small tokens at o j = let h = subst (λ (v : Outline). innermost v.open_groups ≤ v.total) (sym j.erased) (innermost_total j.of) in let k = j.few in omega arith

step_of : (s : State) (w : Sign) → judge (erase s) w ≡ option_map erase (step s w)
step_of s w = judges s.open_groups s.item s.markable s.number w

map_none : {A B : Type 0} (f : A → B) (a : Option A) → option_map f a ≡ None → a ≡ None
map_none f None h = refl
map_none f (Some x) h = cc

map_some : {A B : Type 0} (f : A → B) (a : Option A) (y : B) → option_map f a ≡ Some y → (x : A) × (a ≡ Some x) × (y ≡ f x)
map_some f None y h = cc
map_some f (Some x) y h = (x, refl, cc)

-- one token more is read
pub judged_more : (tokens : List Sign) (at : ℕ) (o o' : Outline) (w : Sign) → at < length tokens → w ≡ get_or tokens at w → IsJudged tokens at o →
    judge o w ≡ Some o' → IsJudged tokens (at + 1) o'
judged_more tokens at o o' w l is j e =
    let p = map_some erase (step j.of w) o' (sym (step_of j.of w) ∙ ap (λ v. judge v w) (sym j.erased) ∙ e) in
    let t = total_step o o' w e in let k = j.few in
    record { of = p.0; read = run_more tokens at w j.of l is j.read ∙ p.1; erased = p.2; few = omega arith }

-- or none goes on
pub judged_bad : (tokens : List Sign) (at : ℕ) (o : Outline) (w : Sign) → at < length tokens → w ≡ get_or tokens at w → IsJudged tokens at o →
    judge o w ≡ None → IsBadAt tokens at
judged_bad tokens at o w l is j e =
    let n = map_none erase (step j.of w) (sym (step_of j.of w) ∙ ap (λ v. judge v w) (sym j.erased) ∙ e) in
    bad_at tokens at j.of l j.read (run_more tokens at w j.of l is j.read ∙ n)

judged_all : (tokens : List Sign) (at : ℕ) (o : Outline) → length tokens ≤ at → (j : IsJudged tokens at o) → run start tokens ≡ Some j.of
judged_all tokens at o l j = ap (run start) (sym (take_all tokens at l)) ∙ j.read

closed_erase : (s : State) → closed (erase s) ≡ is_some (whole s)
closed_erase s = go s.open_groups s.item
  where
    go : (os : List Open) (i : Option Term) → (is_some i && not (is_some_begun (map begun_of os))) ≡ is_some (cond (is_some_open os) None i)
    go [] None = refl
    go [] (Some x) = refl
    go (o ∷ os) None = refl
    go (o ∷ os) (Some x) = refl

none_of : {A : Type 0} (o : Option A) → is_some o ≡ false → o ≡ None
none_of None h = refl
none_of (Some x) h = cc

some_of : {A : Type 0} (o : Option A) → is_some o ≡ true → (x : A) × (o ≡ Some x)
some_of None h = cc
some_of (Some x) h = (x, refl)

-- the end comes too early
pub judged_short : (tokens : List Sign) (at : ℕ) (o : Outline) → length tokens ≤ at → IsJudged tokens at o → closed o ≡ false → IsBadAt tokens (length tokens)
judged_short tokens at o l j e =
    bad_end tokens j.of (judged_all tokens at o l j) (none_of (whole j.of) (sym (closed_erase j.of) ∙ ap closed (sym j.erased) ∙ e))

-- or the group is whole
pub judged_whole : (tokens : List Sign) (at : ℕ) (o : Outline) → length tokens ≤ at → IsJudged tokens at o → closed o ≡ true → AreSizes tokens o.widest o.total o.level
judged_whole tokens at o l j e =
    let p = some_of (whole j.of) (sym (closed_erase j.of) ∙ ap closed (sym j.erased) ∙ e) in
    let z = sizes j.of.open_groups j.of.item p.0 p.1 in (
      p.0,
      (j.of, judged_all tokens at o l j, p.1),
      z.0 ∙ ap (λ (v : Outline). v.widest) (sym j.erased),
      z.1 ∙ ap (λ (v : Outline). v.total) (sym j.erased),
      z.2 ∙ ap (λ (v : Outline). v.level) (sym j.erased),
    )
  where
    sizes : (os : List Open) (i : Option Term) (x : Term) → cond (is_some_open os) None i ≡ Some x →
        (widest x ≡ max (widest_in i) (widest_among os)) × (total x ≡ total_in i + total_among os) × (level x ≡ max (level_in (length os) i) (level_among os))
    sizes [] None x h = cc
    sizes [] (Some y) x h = let same : y ≡ x = cc in
        subst (λ v. (widest v ≡ max (widest y) 0) × (total v ≡ total y + 0) × (level v ≡ max (0 + level y) 0)) same (omega arith, omega arith, omega arith)
    sizes (o ∷ os) i x h = cc
