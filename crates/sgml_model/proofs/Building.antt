-- A group that was judged can be built.
use Rattle.std.proofs.Common.{◌≡◌, ℕ, suc, ◌+◌, ◌^◌, ◌<◌, ◌≤◌, Bool, true, false, ◌&&◌, List, [], ◌∷◌, ◌++◌, length, take, drop, get_or, Option, Some, None, refl, sym, ap, ◌∙◌, subst, cond, arith, option_map}
use Rattle.std.proofs.lemmas.List.{take-append-drop}
use Rattle.std.specs.Prelude.{option_and_then, is_none, is_some, ◌==◌}
use Rattle.std.specs.Option.{IsSome}
use Rattle.sgml_model.specs.Term.{Term, name, pcdata}
use Rattle.sgml_model.specs.View.{terms}
use Rattle.sgml_model.specs.Limits.{total, level, passed, first_passed}
use Rattle.sgml_model.specs.Group.{Connector, Mark, Sign, begin, finish, text, word, by, mark, Spells, IsBadAt}
use Rattle.sgml_model.specs.Reading.{Open, State, agrees, group_of, marked, is_some_open, state, step, connect, close, put, start, run, whole, reading}
use Rattle.sgml_model.specs.Reads.{IsReadAs, AreSizes, IsBuildable}
use Rattle.sgml_model.specs.declared.token.GroupLimits.{GroupLimits}
use Rattle.sgml_model.proofs.Grammar.{run-append, run_more, some_is, is_whole}
use Rattle.sgml_model.proofs.Judging.{total_in, total_among, total_one, total_group, total_mark, count_one, length_one}

abbrev pending : List Open → Option Term → ℕ
pending [] i = 0
pending (o ∷ os) None = 0
pending (o ∷ os) (Some x) = 1

-- the members read so far, with the item that will be one
abbrev room_of : List Open → Option Term → ℕ
room_of os i = (total_in i + total_among os) + pending os i

-- numbers grow by no more than members do
record Grows (s s' : State) : Type 0 where
  number : s.number ≤ s'.number
  room : room_of s.open_groups s.item + s'.number ≤ room_of s'.open_groups s'.item + s.number

grows_same : (s s' t : State) → Some t ≡ Some s' → Grows s t → Grows s s'
grows_same s s' t e g = let same : t ≡ s' = cc in subst (Grows s) same g

grows_cond : (b : Bool) (s s' t : State) → cond b (Some t) None ≡ Some s' → Grows s t → Grows s s'
grows_cond true s s' t e g = grows_same s s' t e g
grows_cond false s s' t e g = cc

grows_put : (os : List Open) (i : Option Term) (b m : Bool) (n : ℕ) (x : Term) (s' : State) → total x ≡ 0 → put (state os i b n) x m ≡ Some s' → Grows (state os i b n) s'
grows_put [] None b m n x s' z e = cc
grows_put [] (Some y) b m n x s' z e = cc
grows_put (o ∷ os) (Some y) b m n x s' z e = cc
grows_put (o ∷ os) None b m n x s' z e =
    grows_same (state (o ∷ os) None b n) s' (state (o ∷ os) (Some x) m (suc n)) e (record { number = omega arith; room = omega (arith, z) })

grows_close : (os : List Open) (i : Option Term) (b : Bool) (n : ℕ) (s' : State) → close os i n ≡ Some s' → Grows (state os i b n) s'
grows_close [] i b n s' e = cc
grows_close (o ∷ os) None b n s' e = cc
grows_close (o ∷ os) (Some x) b n s' e =
    grows_same (state (o ∷ os) (Some x) b n) s' (state os (Some (group_of o.connector (terms (o.members ++ x ∷ [])))) true n) e (go os)
  where
    go : (os : List Open) → Grows (state (o ∷ os) (Some x) b n) (state os (Some (group_of o.connector (terms (o.members ++ x ∷ [])))) true n)
    go [] =
        let t = total_one o.members x in let k = count_one o.members x in let g = total_group o.connector (terms (o.members ++ x ∷ [])) in
        record { number = omega arith; room = omega (arith, t, k, g) }
    go (p ∷ ps) =
        let t = total_one o.members x in let k = count_one o.members x in let g = total_group o.connector (terms (o.members ++ x ∷ [])) in
        record { number = omega arith; room = omega (arith, t, k, g) }

grows_connect : (os : List Open) (i : Option Term) (b : Bool) (n : ℕ) (c : Connector) (s' : State) → connect os i n c ≡ Some s' → Grows (state os i b n) s'
grows_connect [] i b n c s' e = cc
grows_connect (o ∷ os) None b n c s' e = cc
grows_connect (o ∷ os) (Some x) b n c s' e =
    let t = total_one o.members x in let k = length_one o.members x in
    grows_cond (agrees o.connector c) (state (o ∷ os) (Some x) b n) s' (state (record { connector = Some c; members = o.members ++ x ∷ [] } ∷ os) None false n) e
    (record { number = omega arith; room = omega (arith, t, k) })

grows_mark : (os : List Open) (x : Term) (b : Bool) (n : ℕ) (m : Mark) → Grows (state os (Some x) b n) (state os (Some (marked m x)) false n)
grows_mark [] x b n m = let t = total_mark m x in record { number = omega arith; room = omega (arith, t) }
grows_mark (o ∷ os) x b n m = let t = total_mark m x in record { number = omega arith; room = omega (arith, t) }

grows_step : (os : List Open) (i : Option Term) (b : Bool) (n : ℕ) (w : Sign) (s' : State) → step (state os i b n) w ≡ Some s' → Grows (state os i b n) s'
grows_step os None b n begin s' e =
    grows_same (state os None b n) s' (state (record { connector = None; members = [] } ∷ os) None false n) e (go os)
  where
    go : (os : List Open) → Grows (state os None b n) (state (record { connector = None; members = [] } ∷ os) None false n)
    go [] = record { number = omega arith; room = omega arith }
    go (o ∷ os) = record { number = omega arith; room = omega arith }
grows_step os (Some x) b n begin s' e = cc
grows_step os i b n text s' e = grows_put os i b false n (pcdata n) s' refl e
grows_step os i b n (word k) s' e = grows_put os i b true n (name n k) s' refl e
grows_step os i b n (by c) s' e = grows_connect os i b n c s' e
grows_step os i b n finish s' e = grows_close os i b n s' e
grows_step os None true n (mark m) s' e = cc
grows_step os None false n (mark m) s' e = cc
grows_step os (Some x) false n (mark m) s' e = cc
grows_step os (Some x) true n (mark m) s' e = grows_same (state os (Some x) true n) s' (state os (Some (marked m x)) false n) e (grows_mark os x true n m)

grows_none : (s : State) → Grows s s
grows_none s = record { number = omega arith; room = omega arith }

grows_both : (s t u : State) → Grows s t → Grows t u → Grows s u
grows_both s t u g h =
    let a = g.number in let b = h.number in let c = g.room in let d = h.room in
    record { number = omega (arith, a, b); room = omega (arith, a, b, c, d) }

grows_run : (ts : List Sign) (s s' : State) → run s ts ≡ Some s' → Grows s s'
unfolding run
grows_run [] s s' e = grows_same s s' s e (grows_none s)
grows_run (w ∷ ts) s s' e = go (step s w) refl (λ t. grows_run ts t s') e
  where
    go : (o : Option State) → step s w ≡ o → ((t : State) → run t ts ≡ Some s' → Grows t s') → option_and_then (λ t. run t ts) o ≡ Some s' → Grows s s'
    go None h f k = cc
    go (Some t) h f k = grows_both s t s' (grows_step s.open_groups s.item s.markable s.number w t h) (f t k)

-- before the end the reading goes on
pub goes_on : (ts : List Sign) (i : ℕ) (w : Sign) (s e : State) → i < length ts → w ≡ get_or ts i w → run start (take i ts) ≡ Some s → run start ts ≡ Some e →
    (t : State) × (step s w ≡ Some t) × (run t (drop (i + 1) ts) ≡ Some e)
goes_on ts i w s e l is h k =
    go (step s w) refl
    (ap (option_and_then (λ t. run t (drop (i + 1) ts))) (sym (run_more ts i w s l is h)) ∙ sym (run-append start (take (i + 1) ts) (drop (i + 1) ts)) ∙ ap (run start) (take-append-drop (i + 1) ts) ∙ k)
  where
    go : (o : Option State) → step s w ≡ o → option_and_then (λ t. run t (drop (i + 1) ts)) o ≡ Some e → (t : State) × (step s w ≡ Some t) × (run t (drop (i + 1) ts) ≡ Some e)
    go None h k = cc
    go (Some t) h k = (t, h, k)

whole_room : (os : List Open) (i : Option Term) (x : Term) → cond (is_some_open os) None i ≡ Some x → room_of os i ≡ total x
whole_room [] None x h = cc
whole_room [] (Some y) x h = let same : y ≡ x = cc in subst (λ v. room_of [] (Some y) ≡ total v) same (omega arith)
whole_room (o ∷ os) i x h = cc

-- and its numbers are few
pub number_small : (ts : List Sign) (i : ℕ) (w : Sign) (s t e : State) (x : Term) → i < length ts → w ≡ get_or ts i w → run start (take i ts) ≡ Some s →
    step s w ≡ Some t → run t (drop (i + 1) ts) ≡ Some e → whole e ≡ Some x → t.number ≤ total x
number_small ts i w s t e x l is h k r v =
    let a = grows_run (take (i + 1) ts) start t (run_more ts i w s l is h ∙ k) in
    let b = grows_run (drop (i + 1) ts) t e r in
    let c = whole_room e.open_groups e.item x v in
    let d = a.room in let f = b.room in let g = b.number in
    omega (arith, c, d, f, g)

-- a token that is read where groups are open has a number
pub put_small : (s : State) (x : Term) (m : Bool) → ((t : State) → put s x m ≡ Some t → t.number < 2 ^ 32) → is_none s.item ≡ true → is_some_open s.open_groups ≡ true → s.number + 1 < 2 ^ 32
put_small s x m f h k =
    let e : put s x m ≡ Some (state s.open_groups (Some x) m (suc s.number)) =
    ap (λ b. cond (b && is_some_open s.open_groups) (Some (state s.open_groups (Some x) m (suc s.number))) None) h
    ∙ ap (λ b. cond b (Some (state s.open_groups (Some x) m (suc s.number))) None) k in
    let n = f (state s.open_groups (Some x) m (suc s.number)) e in
    omega (arith, n)

-- each step of a group that was judged can be taken
pub some_step : (ts : List Sign) (i : ℕ) (w : Sign) (s : State) → i < length ts → w ≡ get_or ts i w → run start (take i ts) ≡ Some s → IsBuildable ts → (t : State) × (step s w ≡ Some t)
some_step ts i w s l is h b = let g = goes_on ts i w s b.1.0 l is h b.1.1 in (g.0, g.1)

pub small_step : (ts : List Sign) (i : ℕ) (w : Sign) (s : State) → i < length ts → w ≡ get_or ts i w → run start (take i ts) ≡ Some s → IsBuildable ts →
    (t : State) → step s w ≡ Some t → t.number < 2 ^ 32
small_step ts i w s l is h b t k =
    let g = goes_on ts i w s b.1.0 l is h b.1.1 in
    let same : g.0 ≡ t = some_is g.0 t (sym g.1 ∙ k) in
    let r : run t (drop (i + 1) ts) ≡ Some b.1.0 = subst (λ v. run v (drop (i + 1) ts) ≡ Some b.1.0) same g.2 in
    let n = number_small ts i w s t b.1.0 b.0 l is h k r b.1.2 in
    let z = b.2 in
    omega (arith, n, z)

-- at the end the group is whole
pub ends_whole : (ts : List Sign) (s : State) → run start ts ≡ Some s → IsBuildable ts → (x : Term) × (whole s ≡ Some x)
ends_whole ts s h b = let same : b.1.0 ≡ s = some_is b.1.0 s (sym b.1.1 ∙ h) in (b.0, subst (λ v. whole v ≡ Some b.0) same b.1.2)

pub mapped_some : {A B : Type 0} (f : A → B) (o : Option A) (y : B) → option_map f o ≡ Some y → IsSome o
mapped_some f None y h = cc
mapped_some f (Some x) y h = refl

pub none_mapped : {A B : Type 0} (f : A → B) (o : Option A) → is_some o ≡ false → is_none (option_map f o) ≡ true
none_mapped f None h = refl
none_mapped f (Some x) h = cc

-- a token after which the group goes on
pub gone_on : (more : Bool) (s t : State) (o : Option State) → cond more (Some s) None ≡ o → o ≡ Some t → s ≡ t
gone_on true s t o h k = some_is s t (h ∙ k)
gone_on false s t o h k = absurd (never (h ∙ k))
  where
    never : None ≡ Some t → ⊥
    never e = cc

pub some_left : (os : List Open) → (length os == 0) ≡ false → is_some_open os ≡ true
some_left [] h = cc
some_left (o ∷ os) h = refl

pub read_spells : (ts : List Sign) (x : Term) → IsReadAs ts x → Spells ts x
read_spells ts x r = is_whole ts r.0 x r.1 r.2

-- a group is read as one term
pub read_once : (ts : List Sign) (x y : Term) → IsReadAs ts x → IsReadAs ts y → x ≡ y
read_once ts x y r s =
    let same : r.0 ≡ s.0 = some_is r.0 s.0 (sym r.1 ∙ s.1) in
    some_is x y (sym r.2 ∙ ap whole same ∙ s.2)

pub read_reading : (ts : List Sign) (x : Term) → IsReadAs ts x → reading ts ≡ Some x
read_reading ts x r = ap (option_and_then whole) r.1 ∙ r.2

reading_read : (ts : List Sign) (x : Term) → reading ts ≡ Some x → IsReadAs ts x
reading_read ts x h = go (run start ts) refl h
  where
    go : (o : Option State) → run start ts ≡ o → option_and_then whole o ≡ Some x → IsReadAs ts x
    go None e h = cc
    go (Some s) e h = (s, e, h)

-- tokens that are no group have no reading
pub bad_reading : (ts : List Sign) (at : ℕ) → IsBadAt ts at → reading ts ≡ None
bad_reading ts at b = go (reading ts) refl
  where
    go : (o : Option Term) → reading ts ≡ o → reading ts ≡ None
    go None e = e
    go (Some x) e = absurd (b.short x (read_spells ts x (reading_read ts x e)))

pub with_reading : (ts : List Sign) (at : ℕ) → IsBadAt ts at → IsBadAt ts at × (reading ts ≡ None)
with_reading ts at b = (b, bad_reading ts at b)

pub sized_passed : (limits : GroupLimits) (ts : List Sign) {w t l : ℕ} → (z : AreSizes ts w t l) → passed limits z.0 ≡ first_passed limits w t l
sized_passed limits ts {w = w} {t = t} {l = l} z =
    ap (λ a. first_passed limits a (total z.0) (level z.0)) z.2 ∙ ap (λ a. first_passed limits w a (level z.0)) z.3 ∙ ap (λ a. first_passed limits w t a) z.4
