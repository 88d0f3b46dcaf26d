-- The tables of a model say what can follow each of its tokens.
use Rattle.std.proofs.lemmas.Bool.Decides.{Decides-eqb}
use Rattle.std.specs.Prelude.{option_and_then}
use Rattle.std.specs.Option.{option_or}
use Rattle.std.proofs.Common.{◌≡◌, ℕ, suc, ◌<◌, ◌≤◌, Bool, true, false, cond, nat_eq, ◌⊎◌, inl, inr, List, length, Option, Some, None, refl, sym, ap, ◌∙◌, subst, arith}
use Rattle.sgml_model.specs.Term.{Term, empty, name, pcdata, seq, or, and, opt, plus, rep, member, round, Terms, none, more, done}
use Rattle.sgml_model.specs.Group.{IsModel, AreModels, Numbered, AllNumbered}
use Rattle.sgml_automaton.specs.declared.plan.Place.{Place}
use Rattle.sgml_automaton.specs.declared.plan.Run.{Run}
use Rattle.sgml_automaton.specs.Position.{next_by, next_in_order, next_of_some}
use Rattle.sgml_automaton.specs.Plan.{Tables, within, find, begins, begins_of, exit, running, opened, next_run, beyond, again, planned, planned_in_order, planned_some}
use Rattle.sgml_automaton.proofs.Places.{span, span_one}
use Rattle.sgml_automaton.proofs.Keeping.{by_cases, within_again, within_join, Keeps, keeps_self, keeps_on, keeps_lead, keeps_running, keeps_opened, keeps_told, told_finds}

-- the first number
mutual
  pub begins_is : (x : Term) (a z : ℕ) → IsModel x → Numbered x a z → begins x ≡ a
  begins_is empty a z i n = absurd i
  begins_is (name k l) a z i n = n.0
  begins_is (pcdata k) a z i n = n.0
  begins_is (seq none) a z i n = absurd i
  begins_is (seq (more m ms)) a z i n = begins_is m a n.0 i.0 n.1
  begins_is (or none) a z i n = absurd i
  begins_is (or (more m ms)) a z i n = begins_is m a n.0 i.0 n.1
  begins_is (and none) a z i n = absurd i
  begins_is (and (more m none)) a z i n = absurd i
  begins_is (and (more m (more p ms))) a z i n = begins_is m a n.0 i.0 n.1
  begins_is (opt m) a z i n = begins_is m a z i n
  begins_is (plus m) a z i n = begins_is m a z i n
  begins_is (rep m) a z i n = begins_is m a z i n
  begins_is (member r left) a z i n = absurd i
  begins_is (round r m) a z i n = absurd i

pub begins_of_is : (ms : Terms) (a z : ℕ) → AreModels ms → AllNumbered ms a z → begins_of ms z ≡ a
begins_of_is none a z i n = sym n
begins_of_is (more m ms) a z i n = begins_is m a n.0 i.0 n.1

pub and_then_gives : {X Y : Type 0} (f : X → Option Y) (o : Option X) (y : Y) → option_and_then f o ≡ Some y → (x : X) × (o ≡ Some x) × (f x ≡ Some y)
and_then_gives f None y h = cc
and_then_gives f (Some x) y h = (x, refl, h)

-- ranges that are apart
abbrev Apart : ℕ → ℕ → ℕ → ℕ → Type 0
Apart a z b e = (e ≤ a) ⊎ (z ≤ b)

apart_first : {a c z b e : ℕ} → c ≤ z → Apart a z b e → Apart a c b e
apart_first h (inl p) = inl p
apart_first h (inr p) = inr (omega arith)

apart_rest : {a c z b e : ℕ} → a ≤ c → Apart a z b e → Apart c z b e
apart_rest h (inl p) = inl (omega arith)
apart_rest h (inr p) = inr p

apart_one : (k a z b e : ℕ) → k ≡ a → z ≡ suc a → Apart a z b e → (e ≤ k) ⊎ (suc k ≤ b)
apart_one k a z b e p q (inl h) = inl (omega arith)
apart_one k a z b e p q (inr h) = inr (omega arith)

pub keeps_if : (h : Bool) (ms : Terms) (g : Run) (t : Tables) (b e : ℕ) → Keeps t (cond {A = Run × Tables} h (g, t) (opened ms t)).1 b e
keeps_if true ms g t b e = keeps_self t b e
keeps_if false ms g t b e = keeps_opened ms t b e

pub keeps_next : (m : Term) (ms : Terms) (g : Run) (t : Tables) (b e : ℕ) → Keeps t (next_run m ms g t).1 b e
keeps_next m ms g t b e = keeps_if (done m) ms g t b e

pub keeps_beyond : (ms : Terms) (g : Run) (z : ℕ) (c : Place) (t : Tables) (b e : ℕ) → Keeps t (beyond ms g z c t).1 b e
keeps_beyond none g z c t b e = keeps_self t b e
keeps_beyond (more m ms) g z c t b e = keeps_lead t (exit g.scope (begins m) z (cond g.done c.exit None)) b e

-- a member and those behind it are planned
pub record Parts (m : Term) (ms : Terms) (c : ℕ) (z : ℕ) (g h : Run) (p q : Place) (t t' : Tables) : Type 0 where
  pub mid : Tables
  pub first : planned m c g.scope p t ≡ Some mid
  pub rest : planned_in_order ms h z q mid ≡ Some t'

pub parts : (m : Term) (ms : Terms) (c z : ℕ) (g h : Run) (p q : Place) (t t' : Tables) → begins_of ms z ≡ c →
    option_and_then (λ u. planned_in_order ms h z q u) (planned m (begins_of ms z) g.scope p t) ≡ Some t' → Parts m ms c z g h p q t t'
parts m ms c z g h p q t t' e i =
    let d = and_then_gives (λ u. planned_in_order ms h z q u) (planned m (begins_of ms z) g.scope p t) t' i in
    record { mid = d.0; first = subst (λ v. planned m v g.scope p t ≡ Some d.0) e d.1; rest = d.2 }

pub record Sides (m : Term) (ms : Terms) (c : ℕ) (z f : ℕ) (q : Place) (t t' : Tables) : Type 0 where
  pub mid : Tables
  pub first : planned m c f q t ≡ Some mid
  pub rest : planned_some ms z f q mid ≡ Some t'

pub sides : (m : Term) (ms : Terms) (c z f : ℕ) (q : Place) (t t' : Tables) → begins_of ms z ≡ c →
    option_and_then (λ u. planned_some ms z f q u) (planned m (begins_of ms z) f q t) ≡ Some t' → Sides m ms c z f q t t'
sides m ms c z f q t t' e i =
    let d = and_then_gives (λ u. planned_some ms z f q u) (planned m (begins_of ms z) f q t) t' i in
    record { mid = d.0; first = subst (λ v. planned m v f q t ≡ Some d.0) e d.1; rest = d.2 }

-- other tokens are known as before
mutual
  pub keeps_one : (x : Term) (a z f : ℕ) (c : Place) (t t' : Tables) → IsModel x → Numbered x a z → planned x z f c t ≡ Some t' → (b e : ℕ) → Apart a z b e → Keeps t t' b e
  keeps_one empty a z f c t t' i n h b e p = absurd i
  keeps_one (name k l) a z f c t t' i n h b e p = keeps_told k (Some l) f c t t' h b e (apart_one k a z b e n.0 n.1 p)
  keeps_one (pcdata k) a z f c t t' i n h b e p =
      keeps_on (keeps_lead t (exit f k z c.exit) b e) (keeps_told k None f (again f k z c t).0 (again f k z c t).1 t' h b e (apart_one k a z b e n.0 n.1 p))
  keeps_one (seq none) a z f c t t' i n h b e p = absurd i
  keeps_one (seq (more m ms)) a z f c t t' i n h b e p =
      keeps_on (keeps_running (more m ms) f t b e) (keeps_order (more m ms) a z (running (more m ms) f t).0 c (running (more m ms) f t).1 t' i n h b e p)
  keeps_one (or none) a z f c t t' i n h b e p = absurd i
  keeps_one (or (more m ms)) a z f c t t' i n h b e p = keeps_some (more m ms) a z f c t t' i n h b e p
  keeps_one (and ms) a z f c t t' i n h b e p = cc
  keeps_one (opt m) a z f c t t' i n h b e p = keeps_one m a z f c t t' i n h b e p
  keeps_one (plus m) a z f c t t' i n h b e p =
      keeps_on (keeps_lead t (exit f (begins m) z c.exit) b e) (keeps_one m a z f (again f (begins m) z c t).0 (again f (begins m) z c t).1 t' i n h b e p)
  keeps_one (rep m) a z f c t t' i n h b e p =
      keeps_on (keeps_lead t (exit f (begins m) z c.exit) b e) (keeps_one m a z f (again f (begins m) z c t).0 (again f (begins m) z c t).1 t' i n h b e p)
  keeps_one (member r left) a z f c t t' i n h b e p = absurd i
  keeps_one (round r m) a z f c t t' i n h b e p = absurd i

  pub keeps_order : (ms : Terms) (a z : ℕ) (g : Run) (c : Place) (t t' : Tables) → AreModels ms → AllNumbered ms a z → planned_in_order ms g z c t ≡ Some t' → (b e : ℕ) → Apart a z b e → Keeps t t' b e
  keeps_order none a z g c t t' i n h b e p = let q : t ≡ t' = cc in subst (λ u. Keeps t u b e) q (keeps_self t b e)
  keeps_order (more m ms) a z g c t t' i n h b e p =
      let r = next_run m ms g t in let s = beyond ms r.0 z c r.1 in
      let d = parts m ms n.0 z g r.0 s.0 c s.1 t' (begins_of_is ms n.0 z i.1 n.2) h in
      keeps_on (keeps_next m ms g t b e) (keeps_on (keeps_beyond ms r.0 z c r.1 b e)
      (keeps_on (keeps_one m a n.0 g.scope s.0 s.1 d.mid i.0 n.1 d.first b e (apart_first (span ms n.0 z n.2) p))
      (keeps_order ms n.0 z r.0 c d.mid t' i.1 n.2 d.rest b e (apart_rest (span_one m a n.0 n.1) p))))

  pub keeps_some : (ms : Terms) (a z f : ℕ) (c : Place) (t t' : Tables) → AreModels ms → AllNumbered ms a z → planned_some ms z f c t ≡ Some t' → (b e : ℕ) → Apart a z b e → Keeps t t' b e
  keeps_some none a z f c t t' i n h b e p = let q : t ≡ t' = cc in subst (λ u. Keeps t u b e) q (keeps_self t b e)
  keeps_some (more m ms) a z f c t t' i n h b e p =
      let d = sides m ms n.0 z f c t t' (begins_of_is ms n.0 z i.1 n.2) h in
      keeps_on (keeps_one m a n.0 f c t d.mid i.0 n.1 d.first b e (apart_first (span ms n.0 z n.2) p))
      (keeps_some ms n.0 z f c d.mid t' i.1 n.2 d.rest b e (apart_rest (span_one m a n.0 n.1) p))

-- no token from a on is in a scope yet
abbrev pub Clear : ℕ → ℕ → Tables → Type 0
Clear a z t = (g : ℕ) (l : Option (List ℕ)) → within a z (find t.scopes g l) ≡ None

pub clear_part : (a z b e : ℕ) (t : Tables) → a ≤ b → e ≤ z → Clear a z t → Clear b e t
clear_part a z b e t h k c g l = sym (within_again a z b e (find t.scopes g l) h k) ∙ ap (within b e) (c g l)

pub clear_keeps : (a z : ℕ) (t u : Tables) → Clear a z t → Keeps t u a z → Clear a z u
clear_keeps a z t u c k g l = k.finds g l ∙ c g l

-- a token's range
one_range : (k a z : ℕ) (o : Option ℕ) → k ≡ a → z ≡ suc a → within a z o ≡ within k (suc k) o
one_range k a z o p q = ap (λ i. within i z o) (sym p) ∙ ap (λ i. within k i o) (q ∙ ap suc (sym p))

one_clear : (k a z : ℕ) (t : Tables) → k ≡ a → z ≡ suc a → Clear a z t → Clear k (suc k) t
one_clear k a z t p q c g l = sym (one_range k a z (find t.scopes g l) p q) ∙ c g l

cond_none : (b : Bool) → cond {A = Option ℕ} b None None ≡ None
cond_none true = refl
cond_none false = refl

-- two parts of a scope
joined : (b : Bool) (x y : Option ℕ) → option_or (cond b x None) (cond b y None) ≡ cond b (option_or x y) None
joined true x y = refl
joined false x y = refl

alone : (b : Bool) (x : Option ℕ) → option_or (cond b x None) None ≡ cond b (option_or x None) None
alone true x = refl
alone false x = refl

not_eq : (q n : ℕ) → q < n → nat_eq q n ≡ false
not_eq q n h = by_cases (nat_eq q n) (λ e. let is : q ≡ n = (Decides-eqb q n).0 e in absurd (omega arith)) (λ e. e)

joined_next : (d : Bool) (q : ℕ) (ms : Terms) (g : Run) (t : Tables) (x y : Option ℕ) → q < length t.scopes →
    option_or (cond (nat_eq q g.scope) x None) (cond (nat_eq q (cond {A = Run × Tables} d (g, t) (opened ms t)).0.scope) y None)
    ≡ cond (nat_eq q g.scope) (option_or x (cond d y None)) None
joined_next true q ms g t x y h = joined (nat_eq q g.scope) x y
joined_next false q ms g t x y h =
    ap (λ v. option_or (cond (nat_eq q g.scope) x None) (cond v y None)) (not_eq q (length t.scopes) h) ∙ alone (nat_eq q g.scope) x

-- a member's scope, and the tables in which its parts are planned
pub next_clear : (a z : ℕ) (m : Term) (ms : Terms) (g : Run) (p : Place) (t : Tables) → Clear a z t → Clear a z (beyond ms (next_run m ms g t).0 z p (next_run m ms g t).1).1
next_clear a z m ms g p t k =
    let r = next_run m ms g t in
    clear_keeps a z r.1 (beyond ms r.0 z p r.1).1 (clear_keeps a z t r.1 k (keeps_next m ms g t a z)) (keeps_beyond ms r.0 z p r.1 a z)

pub next_scopes : (m : Term) (ms : Terms) (g : Run) (z : ℕ) (p : Place) (t : Tables) → length t.scopes ≤ length (beyond ms (next_run m ms g t).0 z p (next_run m ms g t).1).1.scopes
next_scopes m ms g z p t =
    let r = next_run m ms g t in
    let j = (keeps_next m ms g t 0 0).more_scopes in let k = (keeps_beyond ms r.0 z p r.1 0 0).more_scopes in omega arith

-- the scope of a term has just the tokens that can come first in it
mutual
  pub firsts_one : (x : Term) (a z f : ℕ) (c : Place) (t t' : Tables) → IsModel x → Numbered x a z → Clear a z t → planned x z f c t ≡ Some t' →
      (q : ℕ) → q < length t.scopes → (l : Option (List ℕ)) → within a z (find t'.scopes q l) ≡ cond (nat_eq q f) (next_by x l) None
  firsts_one empty a z f c t t' i n k h q s l = absurd i
  firsts_one (name j w) a z f c t t' i n k h q s l =
      one_range j a z (find t'.scopes q l) n.0 n.1 ∙ told_finds j (Some w) f c t t' h q l (one_clear j a z t n.0 n.1 k q l)
  firsts_one (pcdata j) a z f c t t' i n k h q s l =
      one_range j a z (find t'.scopes q l) n.0 n.1 ∙ told_finds j None f (again f j z c t).0 (again f j z c t).1 t' h q l (one_clear j a z t n.0 n.1 k q l)
  firsts_one (seq none) a z f c t t' i n k h q s l = absurd i
  firsts_one (seq (more m ms)) a z f c t t' i n k h q s l =
      let r = keeps_running (more m ms) f t a z in
      firsts_order (more m ms) a z (running (more m ms) f t).0 c (running (more m ms) f t).1 t' i n (clear_keeps a z t (running (more m ms) f t).1 k r) h q (omega (arith, r.more_scopes)) l
  firsts_one (or none) a z f c t t' i n k h q s l = absurd i
  firsts_one (or (more m ms)) a z f c t t' i n k h q s l = firsts_some (more m ms) a z f c t t' i n k h q s l
  firsts_one (and ms) a z f c t t' i n k h q s l = cc
  firsts_one (opt m) a z f c t t' i n k h q s l = firsts_one m a z f c t t' i n k h q s l
  firsts_one (plus m) a z f c t t' i n k h q s l = firsts_one m a z f (again f (begins m) z c t).0 (again f (begins m) z c t).1 t' i n k h q s l
  firsts_one (rep m) a z f c t t' i n k h q s l = firsts_one m a z f (again f (begins m) z c t).0 (again f (begins m) z c t).1 t' i n k h q s l
  firsts_one (member r left) a z f c t t' i n k h q s l = absurd i
  firsts_one (round r m) a z f c t t' i n k h q s l = absurd i

  pub firsts_order : (ms : Terms) (a z : ℕ) (g : Run) (c : Place) (t t' : Tables) → AreModels ms → AllNumbered ms a z → Clear a z t → planned_in_order ms g z c t ≡ Some t' →
      (q : ℕ) → q < length t.scopes → (l : Option (List ℕ)) → within a z (find t'.scopes q l) ≡ cond (nat_eq q g.scope) (next_in_order ms l) None
  firsts_order none a z g c t t' i n k h q s l =
      let e : t ≡ t' = cc in
      ap (λ (u : Tables). within a z (find u.scopes q l)) (sym e) ∙ k q l ∙ sym (cond_none (nat_eq q g.scope))
  firsts_order (more m ms) a z g c t t' i n k h q s l =
      let r = next_run m ms g t in let b = beyond ms r.0 z c r.1 in
      let d = parts m ms n.0 z g r.0 b.0 c b.1 t' (begins_of_is ms n.0 z i.1 n.2) h in
      let low = span_one m a n.0 n.1 in let high = span ms n.0 z n.2 in
      let clear = next_clear a z m ms g c t k in
      let more_scopes = next_scopes m ms g z c t in
      let one = keeps_one m a n.0 g.scope b.0 b.1 d.mid i.0 n.1 d.first n.0 z (inr (omega arith)) in
      let others = keeps_order ms n.0 z r.0 c d.mid t' i.1 n.2 d.rest a n.0 (inl (omega arith)) in
      let left = others.finds q l ∙ firsts_one m a n.0 g.scope b.0 b.1 d.mid i.0 n.1 (clear_part a z a n.0 b.1 (omega arith) high clear) d.first q (omega arith) l in
      let right = firsts_order ms n.0 z r.0 c d.mid t' i.1 n.2 (clear_keeps n.0 z b.1 d.mid (clear_part a z n.0 z b.1 low (omega arith) clear) one) d.rest q
      (let w = one.more_scopes in omega arith) l in
      within_join a n.0 z (find t'.scopes q l) low high
      ∙ ap (λ o. option_or o (within n.0 z (find t'.scopes q l))) left
      ∙ ap (option_or (cond (nat_eq q g.scope) (next_by m l) None)) right
      ∙ joined_next (done m) q ms g t (next_by m l) (next_in_order ms l) s

  pub firsts_some : (ms : Terms) (a z f : ℕ) (c : Place) (t t' : Tables) → AreModels ms → AllNumbered ms a z → Clear a z t → planned_some ms z f c t ≡ Some t' →
      (q : ℕ) → q < length t.scopes → (l : Option (List ℕ)) → within a z (find t'.scopes q l) ≡ cond (nat_eq q f) (next_of_some ms l) None
  firsts_some none a z f c t t' i n k h q s l =
      let e : t ≡ t' = cc in
      ap (λ (u : Tables). within a z (find u.scopes q l)) (sym e) ∙ k q l ∙ sym (cond_none (nat_eq q f))
  firsts_some (more m ms) a z f c t t' i n k h q s l =
      let d = sides m ms n.0 z f c t t' (begins_of_is ms n.0 z i.1 n.2) h in
      let low = span_one m a n.0 n.1 in let high = span ms n.0 z n.2 in
      let one = keeps_one m a n.0 f c t d.mid i.0 n.1 d.first n.0 z (inr (omega arith)) in
      let others = keeps_some ms n.0 z f c d.mid t' i.1 n.2 d.rest a n.0 (inl (omega arith)) in
      let left = others.finds q l ∙ firsts_one m a n.0 f c t d.mid i.0 n.1 (clear_part a z a n.0 t (omega arith) high k) d.first q s l in
      let right = firsts_some ms n.0 z f c d.mid t' i.1 n.2 (clear_keeps n.0 z t d.mid (clear_part a z n.0 z t low (omega arith) k) one) d.rest q
      (let w = one.more_scopes in omega arith) l in
      within_join a n.0 z (find t'.scopes q l) low high
      ∙ ap (λ o. option_or o (within n.0 z (find t'.scopes q l))) left
      ∙ ap (option_or (cond (nat_eq q f) (next_by m l) None)) right
      ∙ joined (nat_eq q f) (next_by m l) (next_of_some ms l)
