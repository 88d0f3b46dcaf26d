-- The exits behind a token give what can follow it.
use Rattle.std.proofs.lemmas.Bool.Decides.{Decides-eqb}
use Rattle.std.specs.Prelude.{◌&&◌, ◌||◌, option_and_then, slice_get}
use Rattle.std.specs.Option.{option_or}
use Rattle.std.proofs.Common.{◌≡◌, ℕ, zero, suc, ◌+◌, ◌<◌, ◌≤◌, Bool, true, false, cond, nat_eq, inl, inr, List, [], ◌∷◌, ◌++◌, length, length-append, Option, Some, None, refl, sym, ap, ◌∙◌, subst, arith}
use Rattle.sgml_model.specs.Term.{Term, empty, name, pcdata, seq, or, and, opt, plus, rep, member, round, Terms, none, more, done, all_done, required, first_required, unless_done}
use Rattle.sgml_model.specs.Group.{IsModel, AreModels, Numbered, AllNumbered}
use Rattle.sgml_automaton.specs.declared.plan.Scope.{Scope}
use Rattle.sgml_automaton.specs.declared.plan.Exit.{Exit}
use Rattle.sgml_automaton.specs.declared.plan.Place.{Place}
use Rattle.sgml_automaton.specs.declared.plan.Run.{Run}
use Rattle.sgml_automaton.specs.Position.{Bits, room, at, at_order, at_some, has, has_some, next_by, next_in_order}
use Rattle.sgml_automaton.specs.Plan.{Tables, tables, within, find, hit, chase, hit_or, named, begins, place, exit, leading, naming, running, opened, next_run, beyond, again, planned, planned_in_order, planned_some, no_tokens}
use Rattle.sgml_automaton.proofs.Places.{span, span_one, cond_yes, cond_no}
use Rattle.sgml_automaton.proofs.Keeping.{by_cases, get_last, Keeps, keeps_on, keeps_part, keeps_running, keeps_told, told_place}
use Rattle.sgml_automaton.proofs.Planned.{begins_is, begins_of_is, parts, sides, keeps_next, keeps_beyond, keeps_one, keeps_order, keeps_some, Clear, clear_part, clear_keeps, next_clear, firsts_one, firsts_order}

-- the exits from one on, each with a lower index than the one before it
abbrev pub Chain : List Exit → ℕ → Option ℕ → List Exit → Type 0
Chain es n at [] = at ≡ None
Chain es n at (x ∷ xs) = (i : ℕ) × (at ≡ Some i) × (i < n) × (slice_get es i ≡ Some x) × Chain es i x.next xs

pub chain_up : (es : List Exit) (n m : ℕ) (at : Option ℕ) (xs : List Exit) → n ≤ m → Chain es n at xs → Chain es m at xs
chain_up es n m at [] h c = c
chain_up es n m at (x ∷ xs) h c = let p = c.2 in (c.0, c.1, omega arith, c.3, c.4)

-- the first that gives a token of the name
abbrev pub first_of : List Scope → List Exit → Option (List ℕ) → Option ℕ
first_of ss [] l = None
first_of ss (x ∷ xs) l = option_or (hit ss x l) (first_of ss xs l)

pub chased : (ss : List Scope) (es : List Exit) (n d : ℕ) (at : Option ℕ) (xs : List Exit) (l : Option (List ℕ)) → Chain es n at xs → n ≤ d → chase d ss es at l ≡ first_of ss xs l
chased ss es n zero at [] l c h = refl
chased ss es n (suc d) at [] l c h = ap (λ o. hit_or ss (option_and_then (slice_get es) o) l (λ i. chase d ss es i l)) c
chased ss es n zero at (x ∷ xs) l c h = let p = c.2 in absurd (omega arith)
chased ss es n (suc d) at (x ∷ xs) l c h =
    let p = c.2 in
    ap (λ o. hit_or ss (option_and_then (slice_get es) o) l (λ i. chase d ss es i l)) c.1
    ∙ ap (λ o. hit_or ss o l (λ i. chase d ss es i l)) c.3
    ∙ ap (option_or (hit ss x l)) (chased ss es c.0 d x.next xs l c.4 (omega arith))

-- the place of the token k says what the term r, which is left after it, and the place behind the whole say
pub record Tells (u : Tables) (k : ℕ) (r : Term) (c : Place) (n m : ℕ) : Type 0 where
  pub p : Place
  pub is : slice_get u.places k ≡ Some p
  pub finished : p.finished ≡ (done r && c.finished)
  pub needed : named u.names p.needed ≡ unless_done (done r) (required r) (named u.names c.needed)
  pub leads : (cs : List Exit) → Chain u.exits n c.exit cs →
      (ls : List Exit) × Chain u.exits m p.exit ls × ((l : Option (List ℕ)) → first_of u.scopes ls l ≡ option_or (next_by r l) (cond (done r) (first_of u.scopes cs l) None))

tells_from : {u : Tables} {k : ℕ} {r : Term} {c : Place} (n n' m m' : ℕ) → n' ≤ n → m ≤ m' → Tells u k r c n m → Tells u k r c n' m'
tells_from {u} {k} {r} {c} n n' m m' h i d = record {
  p = d.p;
  is = d.is;
  finished = d.finished;
  needed = d.needed;
  leads = λ cs x. let q = d.leads cs (chain_up u.exits n' n c.exit cs h x) in (q.0, chain_up u.exits m m' d.p.exit q.0 i q.1, q.2);
}

-- the members of a run are these
record Good (ms : Terms) (g : Run) (t : Tables) : Type 0 where
  is_done : g.done ≡ all_done ms
  is_needed : (ns : List (List ℕ)) → ((i : ℕ) (x : List ℕ) → slice_get t.names i ≡ Some x → slice_get ns i ≡ Some x) → named ns g.needed ≡ first_required ms
  scope_in : g.scope < length t.scopes

good_keeps : (ms : Terms) (g : Run) (t u : Tables) (b e : ℕ) → Good ms g t → Keeps t u b e → Good ms g u
good_keeps ms g t u b e d k = record {
  is_done = d.is_done;
  is_needed = λ ns h. d.is_needed ns (λ i x q. h i x (k.names i x q));
  scope_in = let p = d.scope_in in let q = k.more_scopes in omega arith;
}

pub naming_is : (o : Option (List ℕ)) (t : Tables) (ns : List (List ℕ)) → ((i : ℕ) (x : List ℕ) → slice_get (naming o t).1.names i ≡ Some x → slice_get ns i ≡ Some x) → named ns (naming o t).0 ≡ o
naming_is None t ns h = refl
naming_is (Some n) t ns h = h (length t.names) n (get_last t.names n)

good_running : (ms : Terms) (f : ℕ) (t : Tables) → f < length t.scopes → Good ms (running ms f t).0 (running ms f t).1
good_running ms f t h = record {
  is_done = refl;
  is_needed = λ ns q. naming_is (first_required ms) t ns q;
  scope_in = let k = (keeps_running ms f t 0 0).more_scopes in omega arith;
}

good_opened : (ms : Terms) (t : Tables) → Good ms (opened ms t).0 (opened ms t).1
good_opened ms t =
    good_running ms (length t.scopes) (tables (t.scopes ++ no_tokens ∷ []) t.exits t.places t.names) (let q = length-append t.scopes (no_tokens ∷ []) in omega arith)

good_next : (m : Term) (ms : Terms) (g : Run) (t : Tables) → Good (more m ms) g t → Good ms (next_run m ms g t).0 (next_run m ms g t).1
good_next m ms g t d = of_done (done m) refl
  where
    of_done : (b : Bool) → done m ≡ b → Good ms (cond {A = Run × Tables} b (g, t) (opened ms t)).0 (cond {A = Run × Tables} b (g, t) (opened ms t)).1
    of_done true e = record {
      is_done = d.is_done ∙ ap (λ v. v && all_done ms) e;
      is_needed = λ ns h. d.is_needed ns h ∙ ap (λ v. unless_done v (required m) (first_required ms)) e;
      scope_in = d.scope_in;
    }
    of_done false e = good_opened ms t

-- laws of the parts
mix : (d : Bool) (x h y : Option ℕ) → option_or x (cond d (option_or h y) None) ≡ option_or (option_or x (cond d h None)) (cond d y None)
mix true None h y = refl
mix true (Some x) h y = refl
mix false None h y = refl
mix false (Some x) h y = refl

fin_in : (d v c : Bool) → (d && (v && c)) ≡ ((d && v) && c)
fin_in true v c = refl
fin_in false v c = refl

need_in : (d v : Bool) (x y w : Option (List ℕ)) → unless_done d x (cond v w y) ≡ unless_done (d && v) (unless_done d x y) w
need_in true true x y w = refl
need_in true false x y w = refl
need_in false v x y w = refl

lead_in : (d v : Bool) (x h y : Option ℕ) → option_or x (cond d (option_or h (cond v y None)) None) ≡ option_or (option_or x (cond d h None)) (cond (d && v) y None)
lead_in true true None h y = refl
lead_in true true (Some x) h y = refl
lead_in true false None None y = refl
lead_in true false None (Some h) y = refl
lead_in true false (Some x) h y = refl
lead_in false v None h y = refl
lead_in false v (Some x) h y = refl

fin_last : (d c : Bool) → (d && c) ≡ ((d && true) && c)
fin_last true c = refl
fin_last false c = refl

need_last : (d : Bool) (x w : Option (List ℕ)) → unless_done d x w ≡ unless_done (d && true) (unless_done d x None) w
need_last true x w = refl
need_last false x w = refl

lead_last : (d : Bool) (x y : Option ℕ) → option_or x (cond d y None) ≡ option_or (option_or x (cond d None None)) (cond (d && true) y None)
lead_last true None y = refl
lead_last true (Some x) y = refl
lead_last false None y = refl
lead_last false (Some x) y = refl

named_if : (v : Bool) (ns : List (List ℕ)) (a b : Option ℕ) → named ns (cond v a b) ≡ cond v (named ns a) (named ns b)
named_if true ns a b = refl
named_if false ns a b = refl

chain_if : (v : Bool) (es : List Exit) (n : ℕ) (at : Option ℕ) (cs : List Exit) → Chain es n at cs → Chain es n (cond v at None) (cond v cs [])
chain_if true es n at cs c = c
chain_if false es n at cs c = refl

first_if : (v : Bool) (ss : List Scope) (cs : List Exit) (l : Option (List ℕ)) → first_of ss (cond v cs []) l ≡ cond v (first_of ss cs l) None
first_if true ss cs l = refl
first_if false ss cs l = refl

-- behind a round
tells_round : (u : Tables) (k : ℕ) (r m : Term) (c : Place) (e : Exit) (n j w : ℕ) → n ≤ j → j < w → e.next ≡ c.exit → slice_get u.exits j ≡ Some e →
    ((l : Option (List ℕ)) → hit u.scopes e l ≡ next_by m l) → (v : ℕ) →
    Tells u k r (place (Some j) c.finished c.needed) w v → Tells u k (round r m) c n v
tells_round u k r m c e n j w a b f g h v d = record {
  p = d.p;
  is = d.is;
  finished = d.finished;
  needed = d.needed;
  leads = λ cs x.
      let q = d.leads (e ∷ cs) (j, refl, b, g, subst (λ o. Chain u.exits j o cs) (sym f) (chain_up u.exits n j c.exit cs a x)) in (
        q.0,
        q.1,
        λ l. q.2 l ∙ ap (λ o. option_or (next_by r l) (cond (done r) (option_or o (first_of u.scopes cs l)) None)) (h l)
            ∙ mix (done r) (next_by r l) (next_by m l) (first_of u.scopes cs l),
      );
}

-- behind the last member of a sequence
tells_last : (u : Tables) (k : ℕ) (r : Term) (c : Place) (n v : ℕ) → Tells u k r c n v → Tells u k (seq (more r none)) c n v
tells_last u k r c n v d = record {
  p = d.p;
  is = d.is;
  finished = d.finished ∙ fin_last (done r) c.finished;
  needed = d.needed ∙ need_last (done r) (required r) (named u.names c.needed);
  leads = λ cs x. let q = d.leads cs x in (q.0, q.1, λ l. q.2 l ∙ lead_last (done r) (next_by r l) (first_of u.scopes cs l));
}

-- behind another one
tells_before : (u : Tables) (k : ℕ) (r : Term) (ms : Terms) (c : Place) (h : Run) (e : Exit) (n j w v : ℕ) → n ≤ j → j < w → e.next ≡ cond h.done c.exit None → slice_get u.exits j ≡ Some e →
    ((l : Option (List ℕ)) → hit u.scopes e l ≡ next_in_order ms l) → h.done ≡ all_done ms → named u.names h.needed ≡ first_required ms →
    Tells u k r (place (Some j) (h.done && c.finished) (cond h.done c.needed h.needed)) w v → Tells u k (seq (more r ms)) c n v
tells_before u k r ms c h e n j w v a b f g i s o d = record {
  p = d.p;
  is = d.is;
  finished = d.finished ∙ fin_in (done r) h.done c.finished ∙ ap (λ y. (done r && y) && c.finished) s;
  needed = d.needed ∙ ap (unless_done (done r) (required r)) (named_if h.done u.names c.needed h.needed)
      ∙ need_in (done r) h.done (required r) (named u.names h.needed) (named u.names c.needed)
      ∙ ap (λ y. unless_done (done r && y) (unless_done (done r) (required r) (named u.names h.needed)) (named u.names c.needed)) s
      ∙ ap (λ y. unless_done (done r && all_done ms) (unless_done (done r) (required r) y) (named u.names c.needed)) o;
  leads = λ cs x.
      let q = d.leads (e ∷ cond h.done cs [])
      (j, refl, b, g, subst (λ y. Chain u.exits j y (cond h.done cs [])) (sym f) (chain_if h.done u.exits j c.exit cs (chain_up u.exits n j c.exit cs a x))) in (
        q.0,
        q.1,
        λ l. q.2 l
            ∙ ap (λ y. option_or (next_by r l) (cond (done r) (option_or y (first_of u.scopes (cond h.done cs []) l)) None)) (i l)
            ∙ ap (λ y. option_or (next_by r l) (cond (done r) (option_or (next_in_order ms l) y) None)) (first_if h.done u.scopes cs l)
            ∙ lead_in (done r) h.done (next_by r l) (next_in_order ms l) (first_of u.scopes cs l)
            ∙ ap (λ y. option_or (option_or (next_by r l) (cond (done r) (next_in_order ms l) None)) (cond (done r && y) (first_of u.scopes cs l) None)) s,
      );
}

-- the token's number is that of its term
same_number : (j k : ℕ) → nat_eq j k ≡ true → j ≡ k
same_number j k h = (Decides-eqb j k).0 h

-- the tokens of a scope, as they are seen later
pub later : (x : Term) (a z f : ℕ) (c : Place) (t t' u : Tables) → IsModel x → Numbered x a z → Clear a z t → f < length t.scopes → planned x z f c t ≡ Some t' →
    Keeps t' u a z → (l : Option (List ℕ)) → within a z (find u.scopes f l) ≡ next_by x l
later x a z f c t t' u i n q s h k l =
    k.finds f l ∙ firsts_one x a z f c t t' i n q h f s l ∙ ap (λ v. cond v (next_by x l) None) ((Decides-eqb f f).1 refl)

later_order : (ms : Terms) (a z : ℕ) (g : Run) (c : Place) (t t' u : Tables) → AreModels ms → AllNumbered ms a z → Clear a z t → g.scope < length t.scopes → planned_in_order ms g z c t ≡ Some t' →
    Keeps t' u a z → (l : Option (List ℕ)) → within a z (find u.scopes g.scope l) ≡ next_in_order ms l
later_order ms a z g c t t' u i n q s h k l =
    k.finds g.scope l ∙ firsts_order ms a z g c t t' i n q h g.scope s l ∙ ap (λ v. cond v (next_in_order ms l) None) ((Decides-eqb g.scope g.scope).1 refl)

has_rest : (h v : Bool) → (h || v) ≡ true → h ≡ false → v ≡ true
has_rest true v e f = cc
has_rest false v e f = e

-- what is told of one token
told_one : (j k a z : ℕ) (r : Term) (u t' : Tables) (p : Place) → j ≡ k → j ≡ a → z ≡ suc a → Keeps t' u a z → slice_get t'.places j ≡ Some p → slice_get u.places k ≡ Some p
told_one j k a z r u t' p e f g h q = h.places k (omega arith) (omega arith) ∙ ap (slice_get t'.places) (sym e) ∙ q

-- a member of a sequence, before these
tells_here : (ms : Terms) (y z : ℕ) (h : Run) (c : Place) (n w : ℕ) (t mid u : Tables) (r : Term) (k : ℕ) → AreModels ms → AllNumbered ms y z → n ≤ length t.exits → Good ms h t → length mid.exits ≤ w →
    Keeps (beyond ms h z c t).1 u y y → ((l : Option (List ℕ)) → within y z (find u.scopes h.scope l) ≡ next_in_order ms l) →
    Tells u k r (beyond ms h z c t).0 (length (beyond ms h z c t).1.exits) (length mid.exits) → Tells u k (seq (more r ms)) c n w
tells_here none y z h c n w t mid u r k i v a g b q f d =
    tells_from (length t.exits) n (length mid.exits) w a b (tells_last u k r c (length t.exits) (length mid.exits) d)
tells_here (more m ms) y z h c n w t mid u r k i v a g b q f d =
    let x = exit h.scope (begins m) z (cond h.done c.exit None) in
    tells_from n n (length mid.exits) w (omega arith) b
    (tells_before u k r (more m ms) c h x n (length t.exits) (length (leading t x).exits) (length mid.exits) a (let l = length-append t.exits (x ∷ []) in omega arith) refl
    (q.exits (length t.exits) x (get_last t.exits x))
    (λ l. ap (λ j. within j z (find u.scopes h.scope l)) (begins_is m y v.0 i.0 v.1) ∙ f l)
    g.is_done (g.is_needed u.names (λ j o e. q.names j o e)) d)

-- within a group that can come again
tells_again : (m : Term) (a z f : ℕ) (c : Place) (t t' : Tables) → IsModel m → Numbered m a z → Clear a z t → f < length t.scopes →
    planned m z f (again f (begins m) z c t).0 (again f (begins m) z c t).1 ≡ Some t' →
    (k o : ℕ) (b : Bits) → has m k ≡ true → (u : Tables) → Keeps t' u a z →
    Tells u k (at m o k b) (again f (begins m) z c t).0 (length (again f (begins m) z c t).1.exits) (length t'.exits) →
    Tells u k (round (at m o k b) m) c (length t.exits) (length t'.exits)
tells_again m a z f c t t' i n q s h k o b e u w d =
    let x = exit f (begins m) z c.exit in let p = again f (begins m) z c t in
    let grown = keeps_one m a z f p.0 p.1 t' i n h 0 0 (inl (omega arith)) in
    let got : slice_get u.exits (length t.exits) ≡ Some x = w.exits (length t.exits) x (grown.exits (length t.exits) x (get_last t.exits x)) in
    tells_round u k (at m o k b) m c x (length t.exits) (length t.exits) (length p.1.exits) (omega arith) (let y = length-append t.exits (x ∷ []) in omega arith) refl got
    (λ l. ap (λ y. within y z (find u.scopes f l)) (begins_is m a z i n) ∙ later m a z f p.0 p.1 t' u i n q s h w l) (length t'.exits) d

mutual
  pub tells_one : (x : Term) (a z f : ℕ) (c : Place) (t t' : Tables) → IsModel x → Numbered x a z → Clear a z t → f < length t.scopes → planned x z f c t ≡ Some t' →
      (k o : ℕ) (b : Bits) → has x k ≡ true → (u : Tables) → Keeps t' u a z → Tells u k (at x o k b) c (length t.exits) (length t'.exits)
  tells_one empty a z f c t t' i n q s h k o b e u w = absurd i
  tells_one (name j y) a z f c t t' i n q s h k o b e u w = record {
    p = c;
    is = told_one j k a z empty u t' c (same_number j k e) n.0 n.1 w (told_place j (Some y) f c t t' h);
    finished = refl;
    needed = refl;
    leads = λ cs x. (cs, chain_up u.exits (length t.exits) (length t'.exits) c.exit cs (keeps_told j (Some y) f c t t' h 0 0 (inl (omega arith))).more_exits x, λ l. refl);
  }
  tells_one (pcdata j) a z f c t t' i n q s h k o b e u w =
      let p = again f j z c t in
      let grown = keeps_told j None f p.0 p.1 t' h 0 0 (inl (omega arith)) in
      let got : slice_get u.exits (length t.exits) ≡ Some (exit f j z c.exit) =
      w.exits (length t.exits) (exit f j z c.exit) (grown.exits (length t.exits) (exit f j z c.exit) (get_last t.exits (exit f j z c.exit))) in
      record {
        p = p.0;
        is = told_one j k a z (pcdata j) u t' p.0 (same_number j k e) n.0 n.1 w (told_place j None f p.0 p.1 t' h);
        finished = refl;
        needed = refl;
        leads = λ cs x. (
          exit f j z c.exit ∷ cs,
          (length t.exits, refl, (let y = grown.more_exits in let y' = length-append t.exits (exit f j z c.exit ∷ []) in omega arith), got, x),
          λ l. ap (λ y. option_or y (first_of u.scopes cs l))
              (ap (λ y. within y z (find u.scopes f l)) n.0 ∙ later (pcdata j) a z f c t t' u i n q s h w l),
        );
      }
  tells_one (seq none) a z f c t t' i n q s h k o b e u w = absurd i
  tells_one (seq (more m ms)) a z f c t t' i n q s h k o b e u w =
      let r = running (more m ms) f t in let g = keeps_running (more m ms) f t a z in
      tells_from (length r.1.exits) (length t.exits) (length t'.exits) (length t'.exits) g.more_exits (omega arith)
      (tells_order (more m ms) a z r.0 c r.1 t' i n (clear_keeps a z t r.1 q g) (good_running (more m ms) f t s) h k o b e u w)
  tells_one (or none) a z f c t t' i n q s h k o b e u w = absurd i
  tells_one (or (more m ms)) a z f c t t' i n q s h k o b e u w = tells_some (more m ms) a z f c t t' i n q s h k o b e u w
  tells_one (and ms) a z f c t t' i n q s h k o b e u w = cc
  tells_one (opt m) a z f c t t' i n q s h k o b e u w = tells_one m a z f c t t' i n q s h k o b e u w
  tells_one (plus m) a z f c t t' i n q s h k o b e u w = tells_again m a z f c t t' i n q s h k o b e u w
      (tells_one m a z f (again f (begins m) z c t).0 (again f (begins m) z c t).1 t' i n q s h k o b e u w)
  tells_one (rep m) a z f c t t' i n q s h k o b e u w = tells_again m a z f c t t' i n q s h k o b e u w
      (tells_one m a z f (again f (begins m) z c t).0 (again f (begins m) z c t).1 t' i n q s h k o b e u w)
  tells_one (member r left) a z f c t t' i n q s h k o b e u w = absurd i
  tells_one (round r m) a z f c t t' i n q s h k o b e u w = absurd i

  tells_order : (ms : Terms) (a z : ℕ) (g : Run) (c : Place) (t t' : Tables) → AreModels ms → AllNumbered ms a z → Clear a z t → Good ms g t → planned_in_order ms g z c t ≡ Some t' →
      (k o : ℕ) (b : Bits) → has_some ms k ≡ true → (u : Tables) → Keeps t' u a z → Tells u k (at_order ms o k b) c (length t.exits) (length t'.exits)
  tells_order none a z g c t t' i n q s h k o b e u w = cc
  tells_order (more m ms) a z g c t t' i n q s h k o b e u w =
      let r = next_run m ms g t in let p = beyond ms r.0 z c r.1 in
      let d = parts m ms n.0 z g r.0 p.0 c p.1 t' (begins_of_is ms n.0 z i.1 n.2) h in
      let low = span_one m a n.0 n.1 in let high = span ms n.0 z n.2 in
      let first = keeps_next m ms g t a z in let second = keeps_beyond ms r.0 z c r.1 a z in
      let one = keeps_one m a n.0 g.scope p.0 p.1 d.mid i.0 n.1 d.first n.0 z (inr (omega arith)) in
      let others = keeps_order ms n.0 z r.0 c d.mid t' i.1 n.2 d.rest a n.0 (inl (omega arith)) in
      let clear = next_clear a z m ms g c t q in
      let good = good_next m ms g t s in
      let good_later = good_keeps ms r.0 p.1 d.mid n.0 z (good_keeps ms r.0 r.1 p.1 a z good second) one in
      let clear_later = clear_keeps n.0 z p.1 d.mid (clear_part a z n.0 z p.1 low (omega arith) clear) one in
      let to_end = keeps_part n.0 n.0 low high w in
      let behind = keeps_order ms n.0 z r.0 c d.mid t' i.1 n.2 d.rest n.0 n.0 (inl (omega arith)) in
      let kept = keeps_on (keeps_one m a n.0 g.scope p.0 p.1 d.mid i.0 n.1 d.first n.0 n.0 (inr (omega arith))) (keeps_on behind to_end) in
      by_cases (has m k)
      (λ y. subst (λ x. Tells u k x c (length t.exits) (length t'.exits)) (sym (cond_yes (has m k) (seq (more (at m o k b) ms)) (at_order ms (o + room m) k b) y))
      (tells_here ms n.0 z r.0 c (length t.exits) (length t'.exits) r.1 d.mid u (at m o k b) k i.1 n.2 first.more_exits good behind.more_exits kept
      (later_order ms n.0 z r.0 c d.mid t' u i.1 n.2 clear_later good_later.scope_in d.rest (keeps_part n.0 z low (omega arith) w))
      (tells_one m a n.0 g.scope p.0 p.1 d.mid i.0 n.1 (clear_part a z a n.0 p.1 (omega arith) high clear) (let v = s.scope_in in let v' = first.more_scopes in let v'' = second.more_scopes in omega arith)
      d.first k o b y u (keeps_on others (keeps_part a n.0 (omega arith) high w)))))
      (λ y. subst (λ x. Tells u k x c (length t.exits) (length t'.exits)) (sym (cond_no (has m k) (seq (more (at m o k b) ms)) (at_order ms (o + room m) k b) y))
      (tells_from (length d.mid.exits) (length t.exits) (length t'.exits) (length t'.exits) (let v = first.more_exits in let v' = second.more_exits in let v'' = one.more_exits in omega arith) (omega arith)
      (tells_order ms n.0 z r.0 c d.mid t' i.1 n.2 clear_later good_later d.rest k (o + room m) b (has_rest (has m k) (has_some ms k) e y) u (keeps_part n.0 z low (omega arith) w))))

  tells_some : (ms : Terms) (a z f : ℕ) (c : Place) (t t' : Tables) → AreModels ms → AllNumbered ms a z → Clear a z t → f < length t.scopes → planned_some ms z f c t ≡ Some t' →
      (k o : ℕ) (b : Bits) → has_some ms k ≡ true → (u : Tables) → Keeps t' u a z → Tells u k (at_some ms o k b) c (length t.exits) (length t'.exits)
  tells_some none a z f c t t' i n q s h k o b e u w = cc
  tells_some (more m ms) a z f c t t' i n q s h k o b e u w =
      let d = sides m ms n.0 z f c t t' (begins_of_is ms n.0 z i.1 n.2) h in
      let low = span_one m a n.0 n.1 in let high = span ms n.0 z n.2 in
      let one = keeps_one m a n.0 f c t d.mid i.0 n.1 d.first n.0 z (inr (omega arith)) in
      let others = keeps_some ms n.0 z f c d.mid t' i.1 n.2 d.rest a n.0 (inl (omega arith)) in
      by_cases (has m k)
      (λ y. subst (λ x. Tells u k x c (length t.exits) (length t'.exits)) (sym (cond_yes (has m k) (at m o k b) (at_some ms (o + room m) k b) y))
      (tells_from (length t.exits) (length t.exits) (length d.mid.exits) (length t'.exits) (omega arith) others.more_exits
      (tells_one m a n.0 f c t d.mid i.0 n.1 (clear_part a z a n.0 t (omega arith) high q) s d.first k o b y u (keeps_on others (keeps_part a n.0 (omega arith) high w)))))
      (λ y. subst (λ x. Tells u k x c (length t.exits) (length t'.exits)) (sym (cond_no (has m k) (at m o k b) (at_some ms (o + room m) k b) y))
      (tells_from (length d.mid.exits) (length t.exits) (length t'.exits) (length t'.exits) one.more_exits (omega arith)
      (tells_some ms n.0 z f c d.mid t' i.1 n.2 (clear_keeps n.0 z t d.mid (clear_part a z n.0 z t low (omega arith) q) one) (let v = one.more_scopes in omega arith) d.rest k (o + room m) b (has_rest (has m k) (has_some ms k) e y)
      u (keeps_part n.0 z low (omega arith) w))))
