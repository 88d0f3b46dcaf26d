-- The reading accepts the spellings of groups, and nothing else.
use Rattle.std.proofs.Common.{◌≡◌, ℕ, suc, ◌+◌, ◌<◌, ◌≤◌, Bool, true, false, ◌&&◌, zero, List, [], ◌∷◌, ◌++◌, length, take, drop, get_or, Option, Some, None, refl, sym, ap, ◌∙◌, subst, cond, append_assoc, arith}
use Rattle.std.proofs.lemmas.List.{take-append-drop, take_more}
use Rattle.std.proofs.lemmas.Option.{none-some}
use Rattle.std.specs.Prelude.{option_and_then, option_map, is_none}
use Rattle.sgml_model.specs.Term.{Term, empty, name, pcdata, seq, or, and, opt, plus, rep, member, round, Terms, none, more}
use Rattle.sgml_model.specs.View.{terms}
use Rattle.sgml_model.specs.Group.{Connector, in_order, one_of, all_of, Mark, once, some_times, any_times, Sign, begin, finish, text, word, by, mark, spelling, listing, IsBare, IsItem, AreItems, HasGroup, Numbered, AllNumbered, IsModel, AreModels, Spells, IsFront, IsBadAt}
use Rattle.sgml_model.specs.Reading.{Open, State, same_connector, agrees, group_of, marked, is_some_open, state, put, connect, close, step, start, run, whole, reading}

append_nil : {A : Type 0} (xs : List A) → xs ++ [] ≡ xs
append_nil [] = refl
append_nil (x ∷ xs) = ap (λ l. x ∷ l) (append_nil xs)

chained : {A B C : Type 0} (o : Option A) (f : A → Option C) (g : A → Option B) (h : B → Option C) → ((t : A) → f t ≡ option_and_then h (g t)) → option_and_then f o ≡ option_and_then h (option_and_then g o)
chained None f g h e = refl
chained (Some t) f g h e = e t

pub run-append : (s : State) (xs ys : List Sign) → run s (xs ++ ys) ≡ option_and_then (λ t. run t ys) (run s xs)
unfolding run
run-append s [] ys = refl
run-append s (x ∷ xs) ys = chained (step s x) (λ t. run t (xs ++ ys)) (λ t. run t xs) (λ t. run t ys) (λ t. run-append t xs ys)

abbrev bare : Term → Bool
bare (name k n) = true
bare (seq ms) = true
bare (or ms) = true
bare (and ms) = true
bare _ = false

bare_is : (x : Term) → IsBare x → bare x ≡ true
bare_is (name k n) h = refl
bare_is (seq ms) h = refl
bare_is (or ms) h = refl
bare_is (and ms) h = refl
bare_is _ h = absurd h

abbrev Grouped : List Open → Term → Type 0
Grouped [] x = HasGroup x
Grouped (o ∷ os) x = Unit {0}

grouped_bare : (os : List Open) (x y : Term) → (HasGroup x → HasGroup y) → Grouped os x → Grouped os y
grouped_bare [] x y f g = f g
grouped_bare (o ∷ os) x y f g = g

same_self : (c : Connector) → same_connector c c ≡ true
same_self in_order = refl
same_self one_of = refl
same_self all_of = refl

abbrev IsSome_of : Terms → Type 0
IsSome_of none = ⊥
IsSome_of (more m ms) = Unit {0}

-- an item is read, from any state that waits for one
abbrev Accepts : List Open → ℕ → Term → Type 0
Accepts os a x = (y : Term) × (z : ℕ) × ((rest : List Sign) → run (state os None false a) (spelling x ++ rest) ≡ run (state os (Some y) (bare x) z) rest)

-- the members of a group and its end are read
abbrev Closes : Open → List Open → ℕ → List Sign → Type 0
Closes o os a signs = (y : Term) × (z : ℕ) × ((rest : List Sign) → run (state (o ∷ os) None false a) (signs ++ finish ∷ rest) ≡ run (state os (Some y) true z) rest)

marked_read : (os : List Open) (a : ℕ) (x : Term) (m : Mark) → IsBare x → Accepts os a x →
    (y : Term) × (z : ℕ) × ((rest : List Sign) → run (state os None false a) ((spelling x ++ mark m ∷ []) ++ rest) ≡ run (state os (Some y) false z) rest)
unfolding run
marked_read os a x m b h = (
  marked m h.0,
  h.1,
  λ rest.
      ap (run (state os None false a)) (append_assoc (spelling x) (mark m ∷ []) rest)
      ∙ h.2 (mark m ∷ rest)
      ∙ ap (λ v. run (state os (Some h.0) v h.1) (mark m ∷ rest)) (bare_is x b),
)

group_read : (os : List Open) (a : ℕ) (signs : List Sign) → Closes (record { connector = None; members = [] }) os a signs →
    (y : Term) × (z : ℕ) × ((rest : List Sign) → run (state os None false a) ((begin ∷ (signs ++ finish ∷ [])) ++ rest) ≡ run (state os (Some y) true z) rest)
unfolding run
group_read os a signs h = (
  h.0,
  h.1,
  λ rest.
      ap (run (state (record { connector = None; members = [] } ∷ os) None false a)) (append_assoc signs (finish ∷ []) rest) ∙ h.2 rest,
)

one_read : (o : Open) (os : List Open) (a : ℕ) (m : Term) → Accepts (o ∷ os) a m → Closes o os a (spelling m)
unfolding run
one_read o os a m h = (group_of o.connector (terms (o.members ++ h.0 ∷ [])), h.1, λ rest. h.2 (finish ∷ rest))

more_read : (c : Connector) (o : Open) (os : List Open) (a : ℕ) (m : Term) (signs : List Sign) → agrees o.connector c ≡ true → (h : Accepts (o ∷ os) a m) →
    Closes (record { connector = Some c; members = o.members ++ h.0 ∷ [] }) os h.1 signs → Closes o os a (spelling m ++ by c ∷ signs)
unfolding run
more_read c o os a m signs g h k = (
  k.0,
  k.1,
  λ rest.
      ap (run (state (o ∷ os) None false a)) (append_assoc (spelling m) (by c ∷ signs) (finish ∷ rest))
      ∙ h.2 (by c ∷ (signs ++ finish ∷ rest))
      ∙ ap (λ b. option_and_then (λ t. run t (signs ++ finish ∷ rest)) (cond b (Some (state (record { connector = Some c; members = o.members ++ h.0 ∷ [] } ∷ os) None false h.1)) None)) g
      ∙ k.2 rest,
)

name_read : (os : List Open) (a : ℕ) (k : ℕ) (n : List ℕ) → Grouped os (name k n) → Accepts os a (name k n)
unfolding run
name_read [] a k n g = absurd g
name_read (o ∷ os) a k n g = (name a n, suc a, λ rest. refl)

text_read : (os : List Open) (a : ℕ) (k : ℕ) → Grouped os (pcdata k) → Accepts os a (pcdata k)
unfolding run
text_read [] a k g = absurd g
text_read (o ∷ os) a k g = (pcdata a, suc a, λ rest. refl)

mutual
  item_read : (x : Term) → IsItem x → (os : List Open) (a : ℕ) → Grouped os x → Accepts os a x
  item_read empty i os a g = absurd i
  item_read (name k n) i os a g = name_read os a k n g
  item_read (pcdata k) i os a g = text_read os a k g
  item_read (seq none) i os a g = absurd i
  item_read (seq (more m ms)) i os a g = group_read os a (listing in_order (more m ms)) (listing_read (more m ms) in_order i (record { connector = None; members = [] }) os a refl tt)
  item_read (or none) i os a g = absurd i
  item_read (or (more m none)) i os a g = absurd i
  item_read (or (more m (more n ms))) i os a g = group_read os a (listing one_of (more m (more n ms))) (listing_read (more m (more n ms)) one_of (i.0, (i.1, i.2)) (record { connector = None; members = [] }) os a refl tt)
  item_read (and none) i os a g = absurd i
  item_read (and (more m none)) i os a g = absurd i
  item_read (and (more m (more n ms))) i os a g = group_read os a (listing all_of (more m (more n ms))) (listing_read (more m (more n ms)) all_of (i.0, (i.1, i.2)) (record { connector = None; members = [] }) os a refl tt)
  item_read (opt m) i os a g = marked_read os a m once i.0 (item_read m i.1 os a (grouped_bare os (opt m) m (λ x. x) g))
  item_read (plus m) i os a g = marked_read os a m some_times i.0 (item_read m i.1 os a (grouped_bare os (plus m) m (λ x. x) g))
  item_read (rep m) i os a g = marked_read os a m any_times i.0 (item_read m i.1 os a (grouped_bare os (rep m) m (λ x. x) g))
  item_read (member r left) i os a g = absurd i
  item_read (round r m) i os a g = absurd i

  listing_read : (ms : Terms) (c : Connector) → AreItems ms → (o : Open) (os : List Open) (a : ℕ) → agrees o.connector c ≡ true → IsSome_of ms → Closes o os a (listing c ms)
  listing_read none c i o os a g s = absurd s
  listing_read (more m none) c i o os a g s = one_read o os a m (item_read m i.0 (o ∷ os) a tt)
  listing_read (more m (more n ms)) c i o os a g s =
      let h = item_read m i.0 (o ∷ os) a tt in
      more_read c o os a m (listing c (more n ms)) g h
      (listing_read (more n ms) c i.1 (record { connector = Some c; members = o.members ++ h.0 ∷ [] }) os h.1 (same_self c) tt)

-- a group is read whole
pub group_is_read : (x : Term) → IsItem x → HasGroup x → (y : Term) × (z : ℕ) × (run start (spelling x) ≡ Some (state [] (Some y) (bare x) z))
unfolding run
group_is_read x i g = let h = item_read x i [] 0 g in (h.0, h.1, ap (run start) (sym (append_nil (spelling x))) ∙ h.2 [])

-- what was read so far

between : Option Connector → List Term → List Sign
between c [] = []
between None (x ∷ xs) = []
between (Some c) (x ∷ xs) = spelling x ++ by c ∷ between (Some c) xs

abbrev front_of : Open → List Sign
front_of o = begin ∷ between o.connector o.members

abbrev fronts : List Open → List Sign
fronts [] = []
fronts (o ∷ os) = fronts os ++ front_of o

abbrev tail_of : Option Term → List Sign
tail_of None = []
tail_of (Some x) = spelling x

abbrev AreMembers : Option Connector → List Term → Type 0
AreMembers None ms = ms ≡ []
AreMembers (Some c) [] = ⊥
AreMembers (Some c) (m ∷ ms) = AreItems (terms (m ∷ ms))

abbrev AreOpen : List Open → ℕ → Type 0
AreOpen [] z = z ≡ 0
AreOpen (o ∷ os) z = AreMembers o.connector o.members × (y : ℕ) × AreOpen os y × AllNumbered (terms o.members) y z

abbrev IsLast : List Open → Option Term → Bool → ℕ → Type 0
IsLast os None b z = (b ≡ false) × AreOpen os z
IsLast os (Some x) b z = IsItem x × (b ≡ true → IsBare x) × Grouped os x × (y : ℕ) × AreOpen os y × Numbered x y z

-- the state that these tokens lead to
record Good (os : List Open) (i : Option Term) (b : Bool) (z : ℕ) (ts : List Sign) : Type 0 where
  last : IsLast os i b z
  spelled : ts ≡ fronts os ++ tail_of i

abbrev GoodState : State → List Sign → Type 0
GoodState s ts = Good s.open_groups s.item s.markable s.number ts

pub some_is : {A : Type 0} (x y : A) → ◌≡◌ {A = Option A} (Some x) (Some y) → x ≡ y
some_is x y h = cc

to : (s s' : State) (ts : List Sign) → Some s ≡ Some s' → GoodState s ts → GoodState s' ts
to s s' ts h g = subst (λ u. GoodState u ts) (some_is s s' h) g

terms_one : (ms : List Term) (x : Term) → AreItems (terms ms) → IsItem x → AreItems (terms (ms ++ x ∷ []))
terms_one [] x i j = (j, tt)
terms_one (m ∷ ms) x i j = (i.0, terms_one ms x i.1 j)

numbered_one : (ms : List Term) (x : Term) (a y z : ℕ) → AllNumbered (terms ms) a y → Numbered x y z → AllNumbered (terms (ms ++ x ∷ [])) a z
numbered_one [] x a y z n k = (z, subst (λ b. Numbered x b z) (sym n) k, refl)
numbered_one (m ∷ ms) x a y z n k = (n.0, n.1, numbered_one ms x n.0 y z n.2 k)

between_one : (c : Connector) (ms : List Term) (x : Term) → between (Some c) (ms ++ x ∷ []) ≡ between (Some c) ms ++ (spelling x ++ by c ∷ [])
unfolding between
between_one c [] x = refl
between_one c (m ∷ ms) x = ap (λ l. spelling m ++ by c ∷ l) (between_one c ms x) ∙ sym (append_assoc (spelling m) (by c ∷ between (Some c) ms) (spelling x ++ by c ∷ []))

listing_one : (c : Connector) (ms : List Term) (x : Term) → listing c (terms (ms ++ x ∷ [])) ≡ between (Some c) ms ++ spelling x
unfolding between
listing_one c [] x = refl
listing_one c (m ∷ []) x = sym (append_assoc (spelling m) (by c ∷ []) (spelling x))
listing_one c (m ∷ n ∷ ms) x =
    ap (λ l. spelling m ++ by c ∷ l) (listing_one c (n ∷ ms) x) ∙ sym (append_assoc (spelling m) (by c ∷ between (Some c) (n ∷ ms)) (spelling x))

-- a group that ends with x
group_spelled : (k : Option Connector) (ms : List Term) (x : Term) → AreMembers k ms → spelling (group_of k (terms (ms ++ x ∷ []))) ≡ (begin ∷ between k ms) ++ (spelling x ++ finish ∷ [])
unfolding between
group_spelled None [] x h = refl
group_spelled None (m ∷ ms) x h = cc
group_spelled (Some in_order) ms x h = ap (λ l. begin ∷ (l ++ finish ∷ [])) (listing_one in_order ms x) ∙ ap (λ l. begin ∷ l) (append_assoc (between (Some in_order) ms) (spelling x) (finish ∷ []))
group_spelled (Some one_of) ms x h = ap (λ l. begin ∷ (l ++ finish ∷ [])) (listing_one one_of ms x) ∙ ap (λ l. begin ∷ l) (append_assoc (between (Some one_of) ms) (spelling x) (finish ∷ []))
group_spelled (Some all_of) ms x h = ap (λ l. begin ∷ (l ++ finish ∷ [])) (listing_one all_of ms x) ∙ ap (λ l. begin ∷ l) (append_assoc (between (Some all_of) ms) (spelling x) (finish ∷ []))

two_items : (m : Term) (ms : List Term) (x : Term) → AreItems (terms (m ∷ ms)) → IsItem x → IsItem (or (terms ((m ∷ ms) ++ x ∷ []))) × IsItem (and (terms ((m ∷ ms) ++ x ∷ [])))
two_items m [] x i j = ((i.0, j, tt), (i.0, j, tt))
two_items m (n ∷ ms) x i j = let k = terms_one ms x i.1.1 j in ((i.0, i.1.0, k), (i.0, i.1.0, k))

group_item : (k : Option Connector) (ms : List Term) (x : Term) → AreMembers k ms → IsItem x → IsItem (group_of k (terms (ms ++ x ∷ [])))
group_item None [] x h j = (j, tt)
group_item None (m ∷ ms) x h j = cc
group_item (Some c) [] x h j = absurd h
group_item (Some in_order) (m ∷ ms) x h j = (h.0, terms_one ms x h.1 j)
group_item (Some one_of) (m ∷ ms) x h j = (two_items m ms x h j).0
group_item (Some all_of) (m ∷ ms) x h j = (two_items m ms x h j).1

group_bare : (k : Option Connector) (ts : Terms) → IsBare (group_of k ts)
group_bare None ts = tt
group_bare (Some in_order) ts = tt
group_bare (Some one_of) ts = tt
group_bare (Some all_of) ts = tt

group_has : (os : List Open) (k : Option Connector) (ts : Terms) → Grouped os (group_of k ts)
group_has [] None ts = tt
group_has [] (Some in_order) ts = tt
group_has [] (Some one_of) ts = tt
group_has [] (Some all_of) ts = tt
group_has (o ∷ os) k ts = tt

group_numbered : (k : Option Connector) (ts : Terms) (a z : ℕ) → AllNumbered ts a z → Numbered (group_of k ts) a z
group_numbered None ts a z n = n
group_numbered (Some in_order) ts a z n = n
group_numbered (Some one_of) ts a z n = n
group_numbered (Some all_of) ts a z n = n

agree_is : (d c : Connector) → same_connector d c ≡ true → d ≡ c
agree_is in_order in_order h = refl
agree_is in_order one_of h = cc
agree_is in_order all_of h = cc
agree_is one_of in_order h = cc
agree_is one_of one_of h = refl
agree_is one_of all_of h = cc
agree_is all_of in_order h = cc
agree_is all_of one_of h = cc
agree_is all_of all_of h = refl

-- behind a connector
members_on : (k : Option Connector) (c : Connector) (ms : List Term) (x : Term) → agrees k c ≡ true → AreMembers k ms → IsItem x → AreMembers (Some c) (ms ++ x ∷ [])
members_on None c [] x g h j = (j, tt)
members_on None c (m ∷ ms) x g h j = cc
members_on (Some d) c [] x g h j = absurd h
members_on (Some d) c (m ∷ ms) x g h j = (h.0, terms_one ms x h.1 j)

front_on : (k : Option Connector) (c : Connector) (ms : List Term) (x : Term) → agrees k c ≡ true → AreMembers k ms → between (Some c) (ms ++ x ∷ []) ≡ between k ms ++ (spelling x ++ by c ∷ [])
unfolding between
front_on None c [] x g h = refl
front_on None c (m ∷ ms) x g h = cc
front_on (Some d) c ms x g h = subst (λ e. between (Some c) (ms ++ x ∷ []) ≡ between (Some e) ms ++ (spelling x ++ by c ∷ [])) (sym (agree_is d c g)) (between_one c ms x)

cond_some : {A : Type 0} (b : Bool) (x y : A) → cond b (Some x) None ≡ Some y → (b ≡ true) × (x ≡ y)
cond_some true x y h = (refl, cc)
cond_some false x y h = cc

mark_item : (m : Mark) (x : Term) → IsItem x → IsBare x → IsItem (marked m x)
mark_item once x i b = (b, i)
mark_item some_times x i b = (b, i)
mark_item any_times x i b = (b, i)

mark_spelled : (m : Mark) (x : Term) → spelling (marked m x) ≡ spelling x ++ mark m ∷ []
mark_spelled once x = refl
mark_spelled some_times x = refl
mark_spelled any_times x = refl

mark_numbered : (m : Mark) (x : Term) (a z : ℕ) → Numbered x a z → Numbered (marked m x) a z
mark_numbered once x a z n = n
mark_numbered some_times x a z n = n
mark_numbered any_times x a z n = n

mark_has : (os : List Open) (m : Mark) (x : Term) → Grouped os x → Grouped os (marked m x)
mark_has [] once x g = g
mark_has [] some_times x g = g
mark_has [] any_times x g = g
mark_has (o ∷ os) m x g = g

begun_spelled : (os : List Open) (ts : List Sign) → ts ≡ fronts os → ts ++ begin ∷ [] ≡ (fronts os ++ (begin ∷ between None [])) ++ []
unfolding between
begun_spelled os ts e = ap (λ l. l ++ begin ∷ []) e ∙ sym (append_nil (fronts os ++ begin ∷ []))

connected : (o : Open) (os : List Open) (x : Term) (c : Connector) (ts : List Sign) → agrees o.connector c ≡ true → AreMembers o.connector o.members → ts ≡ (fronts os ++ front_of o) ++ spelling x →
    ts ++ by c ∷ [] ≡ (fronts os ++ (begin ∷ between (Some c) (o.members ++ x ∷ []))) ++ []
connected o os x c ts g v e =
    ap (λ l. l ++ by c ∷ []) e ∙ append_assoc (fronts os ++ front_of o) (spelling x) (by c ∷ [])
    ∙ append_assoc (fronts os) (front_of o) (spelling x ++ by c ∷ [])
    ∙ ap (λ l. fronts os ++ (begin ∷ l)) (sym (front_on o.connector c o.members x g v))
    ∙ sym (append_nil (fronts os ++ (begin ∷ between (Some c) (o.members ++ x ∷ []))))

closed : (o : Open) (os : List Open) (x : Term) (ts : List Sign) → AreMembers o.connector o.members → ts ≡ (fronts os ++ front_of o) ++ spelling x →
    ts ++ finish ∷ [] ≡ fronts os ++ spelling (group_of o.connector (terms (o.members ++ x ∷ [])))
closed o os x ts v e =
    ap (λ l. l ++ finish ∷ []) e ∙ append_assoc (fronts os ++ front_of o) (spelling x) (finish ∷ [])
    ∙ append_assoc (fronts os) (front_of o) (spelling x ++ finish ∷ [])
    ∙ ap (λ l. fronts os ++ l) (sym (group_spelled o.connector o.members x v))

module _ (os : List Open) (b : Bool) (z : ℕ) (ts : List Sign) where
  put_good : (x : Term) (mk : Bool) (s' : State) (w : Sign) (i : Option Term) → Good os i b z ts → put (state os i b z) x mk ≡ Some s' → IsItem x → (mk ≡ true → IsBare x) → spelling x ≡ w ∷ [] → Numbered x z (suc z) → GoodState s' (ts ++ w ∷ [])
  put_good x mk s' w i g h j k e n = go os i g h
    where
      go : (os : List Open) (i : Option Term) → Good os i b z ts → put (state os i b z) x mk ≡ Some s' → GoodState s' (ts ++ w ∷ [])
      go [] None g h = cc
      go [] (Some y) g h = cc
      go (o ∷ os) (Some y) g h = cc
      go (o ∷ os) None g h = to (state (o ∷ os) (Some x) mk (suc z)) s' (ts ++ w ∷ []) h (record {
        last = (j, k, tt, z, g.last.1, n);
        spelled = ap (λ l. l ++ w ∷ []) (g.spelled ∙ append_nil (fronts (o ∷ os))) ∙ ap (λ l. fronts (o ∷ os) ++ l) (sym e);
      })

step_good : (os : List Open) (i : Option Term) (b : Bool) (z : ℕ) (ts : List Sign) (w : Sign) (s' : State) → Good os i b z ts → step (state os i b z) w ≡ Some s' → GoodState s' (ts ++ w ∷ [])
step_good os None b z ts begin s' g h = to (state (record { connector = None; members = [] } ∷ os) None false z) s' (ts ++ begin ∷ []) h (record {
  last = (refl, (refl, z, g.last.1, refl));
  spelled = begun_spelled os ts (g.spelled ∙ append_nil (fronts os));
})
step_good os (Some x) b z ts begin s' g h = cc
step_good os i b z ts (word n) s' g h = put_good os b z ts (name z n) true s' (word n) i g h tt (λ e. tt) refl (refl, refl)
step_good os i b z ts text s' g h = put_good os b z ts (pcdata z) false s' text i g h tt (λ e. cc) refl (refl, refl)
step_good [] i b z ts (by c) s' g h = cc
step_good (o ∷ os) None b z ts (by c) s' g h = cc
step_good (o ∷ os) (Some x) b z ts (by c) s' g h =
    let p = cond_some (agrees o.connector c) (state (record { connector = Some c; members = o.members ++ x ∷ [] } ∷ os) None false z) s' h in
    let l = g.last in
    subst (λ u. GoodState u (ts ++ by c ∷ [])) p.1 (record {
      last = (refl, (members_on o.connector c o.members x p.0 l.4.0 l.0, l.4.1, l.4.2, numbered_one o.members x l.4.1 l.3 z l.4.3 l.5));
      spelled = connected o os x c ts p.0 l.4.0 g.spelled;
    })
step_good [] i b z ts finish s' g h = cc
step_good (o ∷ os) None b z ts finish s' g h = cc
step_good (o ∷ os) (Some x) b z ts finish s' g h =
    let l = g.last in let y = group_of o.connector (terms (o.members ++ x ∷ [])) in
    to (state os (Some y) true z) s' (ts ++ finish ∷ []) h (record {
      last = (
        group_item o.connector o.members x l.4.0 l.0,
        λ e. group_bare o.connector (terms (o.members ++ x ∷ [])),
        group_has os o.connector (terms (o.members ++ x ∷ [])),
        l.4.1,
        l.4.2,
        group_numbered o.connector (terms (o.members ++ x ∷ [])) l.4.1 z (numbered_one o.members x l.4.1 l.3 z l.4.3 l.5),
      );
      spelled = closed o os x ts l.4.0 g.spelled;
    })
step_good os i false z ts (mark m) s' g h = cc
step_good os None true z ts (mark m) s' g h = cc
step_good os (Some x) true z ts (mark m) s' g h =
    let l = g.last in
    to (state os (Some (marked m x)) false z) s' (ts ++ mark m ∷ []) h (record {
      last = (mark_item m x l.0 (l.1 refl), λ e. cc, mark_has os m x l.2, l.3, l.4, mark_numbered m x l.3 z l.5);
      spelled = ap (λ k. k ++ mark m ∷ []) g.spelled ∙ append_assoc (fronts os) (spelling x) (mark m ∷ []) ∙ ap (λ k. fronts os ++ k) (sym (mark_spelled m x));
    })

-- a run keeps the state good
run_good : (xs : List Sign) (s s' : State) (ts : List Sign) → GoodState s ts → run s xs ≡ Some s' → GoodState s' (ts ++ xs)
unfolding run
run_good [] s s' ts g h = subst (λ l. GoodState s' l) (sym (append_nil ts)) (to s s' ts h g)
run_good (x ∷ xs) s s' ts g h = go (step s x) refl (λ t. run_good xs t s' (ts ++ x ∷ [])) h
  where
    go : (o : Option State) → step s x ≡ o → ((t : State) → GoodState t (ts ++ x ∷ []) → run t xs ≡ Some s' → GoodState s' ((ts ++ x ∷ []) ++ xs)) →
        option_and_then (λ t. run t xs) o ≡ Some s' → GoodState s' (ts ++ x ∷ xs)
    go None e f k = cc
    go (Some t) e f k = subst (λ l. GoodState s' l) (append_assoc ts (x ∷ []) xs) (f t (step_good s.open_groups s.item s.markable s.number ts x t g e) k)

start_good : GoodState start []
start_good = record { last = (refl, refl); spelled = refl }

-- the open groups can be closed behind an item
close_all : (os : List Open) (z : ℕ) → AreOpen os z → (x : Term) → IsItem x → Grouped os x → IsFront (fronts os ++ spelling x)
close_all [] z v x i g = record { of = x; rest = []; item = i; group = g; spelled = sym (append_nil (spelling x)) }
close_all (o ∷ os) z v x i g =
    let f = close_all os v.1 v.2 (group_of o.connector (terms (o.members ++ x ∷ []))) (group_item o.connector o.members x v.0 i) (group_has os o.connector (terms (o.members ++ x ∷ []))) in
    let e = closed o os x ((fronts os ++ front_of o) ++ spelling x) v.0 refl in
    record {
      of = f.of;
      rest = finish ∷ f.rest;
      item = f.item;
      group = f.group;
      spelled =
          f.spelled ∙ ap (λ l. l ++ f.rest) (sym e) ∙ append_assoc ((fronts os ++ front_of o) ++ spelling x) (finish ∷ []) f.rest;
    }

good_front : (os : List Open) (i : Option Term) (b : Bool) (z : ℕ) (ts : List Sign) → Good os i b z ts → IsFront ts
good_front os (Some x) b z ts g = subst IsFront (sym g.spelled) (close_all os g.last.3 g.last.4 x g.last.0 g.last.2)
good_front [] None b z ts g = subst IsFront (sym g.spelled) (record { of = seq (more (name 0 []) none); rest = spelling (seq (more (name 0 []) none)); item = (tt, tt); group = tt; spelled = refl })
good_front (o ∷ os) None b z ts g =
    let f = close_all (o ∷ os) z g.last.1 (name 0 []) tt tt in
    subst IsFront (sym (g.spelled ∙ append_nil (fronts (o ∷ os))))
    (record { of = f.of; rest = word [] ∷ f.rest; item = f.item; group = f.group; spelled = f.spelled ∙ append_assoc (fronts (o ∷ os)) (word [] ∷ []) f.rest })

-- what was read is the start of a group
pub is_front : (ts : List Sign) (s : State) → run start ts ≡ Some s → IsFront ts
is_front ts s h = let g = run_good ts start s [] start_good h in good_front s.open_groups s.item s.markable s.number ts g

-- what was read whole is spelled so
pub is_whole : (ts : List Sign) (s : State) (x : Term) → run start ts ≡ Some s → whole s ≡ Some x → Spells ts x
is_whole ts s x h w = go s.open_groups s.item (run_good ts start s [] start_good h) w
  where
    go : (os : List Open) (i : Option Term) → Good os i s.markable s.number ts → cond (is_some_open os) None i ≡ Some x → Spells ts x
    go (o ∷ os) i g w = cc
    go [] None g w = cc
    go [] (Some y) g w = subst (λ v. Spells ts v) (some_is y x w)
        (let e = g.last.4 in record { item = g.last.0; group = g.last.2; spelled = sym g.spelled; numbered = (s.number, subst (λ a. Numbered y a s.number) e g.last.5) })

front_reads : (ts : List Sign) → IsFront ts → (s : State) × (run start ts ≡ Some s)
front_reads ts f =
    let h = group_is_read f.of f.item f.group in
    go (run start ts) refl (sym (run-append start ts f.rest) ∙ ap (run start) (sym f.spelled) ∙ h.2)
  where
    go : (o : Option State) → run start ts ≡ o → {v : State} → option_and_then (λ t. run t f.rest) o ≡ Some v → (s : State) × (run start ts ≡ Some s)
    go None e k = cc
    go (Some s) e k = (s, e)

pub take_all : {A : Type 0} (xs : List A) (n : ℕ) → length xs ≤ n → take n xs ≡ xs
take_all [] zero h = refl
take_all [] (suc n) h = refl
take_all (x ∷ xs) zero h = absurd (omega arith)
take_all (x ∷ xs) (suc n) h = ap (λ l. x ∷ l) (take_all xs n (omega arith))

-- a token that can't be read
pub bad_at : (ts : List Sign) (at : ℕ) (s : State) → at < length ts → run start (take at ts) ≡ Some s → run start (take (at + 1) ts) ≡ None → IsBadAt ts at
bad_at ts at s w h k = record {
  within = omega arith;
  front = is_front (take at ts) s h;
  stops = λ _ f. let r = front_reads (take (at + 1) ts) f in let e = r.1 in cc;
  short = λ x p. let g = front_reads (take (at + 1) ts) (record { of = x; rest = drop (at + 1) ts; item = p.item; group = p.group; spelled = p.spelled ∙ sym (take-append-drop (at + 1) ts) }) in let e = g.1 in cc;
}

-- the end comes too early
pub bad_end : (ts : List Sign) (s : State) → run start ts ≡ Some s → whole s ≡ None → IsBadAt ts (length ts)
bad_end ts s h w =
    let all : take (length ts) ts ≡ ts = take_all ts (length ts) (omega arith) in
    record {
      within = omega arith;
      front = subst IsFront (sym all) (is_front ts s h);
      stops = λ l. absurd (omega arith);
      short = λ x p. let r = group_is_read x p.item p.group in
          let e : Some s ≡ Some (state [] (Some r.0) (bare x) r.1) = sym h ∙ ap (run start) (sym p.spelled) ∙ r.2 in
          let f : whole s ≡ Some r.0 = ap whole (some_is s (state [] (Some r.0) (bare x) r.1) e) in cc;
    }

-- numbers go up by one at most
number_cond : (b : Bool) (s s' : State) (n : ℕ) → s.number ≤ suc n → cond b (Some s) None ≡ Some s' → s'.number ≤ suc n
number_cond true s s' n h e = subst (λ (u : State). u.number ≤ suc n) (some_is s s' e) h
number_cond false s s' n h e = cc

pub number_step : (s s' : State) (w : Sign) → step s w ≡ Some s' → s'.number ≤ suc s.number
number_step s s' begin e = number_cond (is_none s.item) (state (record { connector = None; members = [] } ∷ s.open_groups) None false s.number) s' s.number (omega arith) e
number_step s s' finish e = go s.open_groups s.item e
  where
    go : (os : List Open) (i : Option Term) → close os i s.number ≡ Some s' → s'.number ≤ suc s.number
    go [] i e = cc
    go (o ∷ os) None e = cc
    go (o ∷ os) (Some x) e = number_cond true (state os (Some (group_of o.connector (terms (o.members ++ x ∷ [])))) true s.number) s' s.number (omega arith) e
number_step s s' text e = number_cond (is_none s.item && is_some_open s.open_groups) (state s.open_groups (Some (pcdata s.number)) false (suc s.number)) s' s.number (omega arith) e
number_step s s' (word n) e = number_cond (is_none s.item && is_some_open s.open_groups) (state s.open_groups (Some (name s.number n)) true (suc s.number)) s' s.number (omega arith) e
number_step s s' (by c) e = go s.open_groups s.item e
  where
    go : (os : List Open) (i : Option Term) → connect os i s.number c ≡ Some s' → s'.number ≤ suc s.number
    go [] i e = cc
    go (o ∷ os) None e = cc
    go (o ∷ os) (Some x) e = number_cond (agrees o.connector c) (state (record { connector = Some c; members = o.members ++ x ∷ [] } ∷ os) None false s.number) s' s.number (omega arith) e
number_step s s' (mark m) e = go s.markable s.item e
  where
    go : (b : Bool) (i : Option Term) → cond b (option_map (λ x. state s.open_groups (Some (marked m x)) false s.number) i) None ≡ Some s' → s'.number ≤ suc s.number
    go false i e = cc
    go true None e = cc
    go true (Some x) e = number_cond true (state s.open_groups (Some (marked m x)) false s.number) s' s.number (omega arith) e

-- one token more
pub run_more : (ts : List Sign) (i : ℕ) (w : Sign) (s : State) → i < length ts → w ≡ get_or ts i w → run start (take i ts) ≡ Some s → run start (take (i + 1) ts) ≡ step s w
unfolding run
run_more ts i w s l is h =
    ap (run start) (take_more ts i w l) ∙ run-append start (take i ts) (get_or ts i w ∷ []) ∙ ap (option_and_then (λ t. run t (get_or ts i w ∷ []))) h
    ∙ option_same (step s (get_or ts i w)) ∙ ap (step s) (sym is)
  where
    option_same : (o : Option State) → option_and_then (λ t. Some t) o ≡ o
    option_same None = refl
    option_same (Some t) = refl

-- a group that is spelled is a model
mutual
  item_model : (x : Term) → IsItem x → IsModel x
  item_model empty i = i
  item_model (name k n) i = i
  item_model (pcdata k) i = i
  item_model (seq none) i = i
  item_model (seq (more m ms)) i = items_models (more m ms) i
  item_model (or none) i = i
  item_model (or (more m none)) i = absurd i
  item_model (or (more m (more n ms))) i = items_models (more m (more n ms)) (i.0, (i.1, i.2))
  item_model (and none) i = i
  item_model (and (more m none)) i = absurd i
  item_model (and (more m (more n ms))) i = let p = items_models (more m (more n ms)) (i.0, (i.1, i.2)) in (p.0, p.1.0, p.1.1)
  item_model (opt m) i = item_model m i.1
  item_model (plus m) i = item_model m i.1
  item_model (rep m) i = item_model m i.1
  item_model (member r left) i = i
  item_model (round r m) i = i

  items_models : (ms : Terms) → AreItems ms → AreModels ms
  items_models none i = i
  items_models (more m ms) i = (item_model m i.0, items_models ms i.1)

pub spells_model : (ts : List Sign) (x : Term) → Spells ts x → IsModel x
spells_model ts x s = item_model x s.item

-- what is read is spelled by the tokens, and is a content model
pub read_spelled : (ts : List Sign) (x : Term) → reading ts ≡ Some x → Spells ts x × IsModel x
read_spelled ts x h = let s = spelled_by (run start ts) refl h in (s, spells_model ts x s)
  where
    spelled_by : (o : Option State) → run start ts ≡ o → option_and_then whole o ≡ Some x → Spells ts x
    spelled_by None e g = absurd (none-some x g)
    spelled_by (Some s) e g = is_whole ts s x e g
