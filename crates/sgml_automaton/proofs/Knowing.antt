-- The tables of a model answer as the terms that are left of it.
use Rattle.std.specs.Prelude.{◌&&◌, ◌||◌, slice_get}
use Rattle.std.specs.Option.{option_or}
use Rattle.std.proofs.Common.{◌≡◌, ℕ, zero, suc, ◌<◌, Bool, true, false, cond, inl, List, [], ◌∷◌, ◌++◌, length, length-append, Option, Some, None, refl, sym, ap, ◌∙◌, subst, arith}
use Rattle.sgml_model.specs.Term.{Term, empty, name, pcdata, seq, or, and, opt, plus, rep, member, round, Terms, none, more, done, all_done, required, first_required, unless_done}
use Rattle.sgml_model.specs.Group.{IsModel, AreModels, Numbered, AllNumbered}
use Rattle.sgml_automaton.specs.declared.plan.Exit.{Exit}
use Rattle.sgml_automaton.specs.declared.plan.Place.{Place}
use Rattle.sgml_automaton.specs.Position.{at, bits_of, next_by}
use Rattle.sgml_automaton.specs.Last.{IsPlaced}
use Rattle.sgml_automaton.specs.Plan.{Tables, within, find, hit, chase, place, exit, naming, planned, no_tokens, ends, ends_of, bare, begun, place_at, exit_of, finished_of, needed_of, next_in}
use Rattle.sgml_automaton.specs.Known.{Answers}
use Rattle.sgml_automaton.proofs.Keeping.{Keeps, keeps_self}
use Rattle.sgml_automaton.proofs.Planned.{keeps_one, Clear}
use Rattle.sgml_automaton.proofs.Following.{Chain, chased, tells_one, later, naming_is}

-- the number behind the last
mutual
  pub ends_is : (x : Term) (a z : ℕ) → IsModel x → Numbered x a z → ends x ≡ z
  ends_is empty a z i n = absurd i
  ends_is (name k l) a z i n = ap suc n.0 ∙ sym n.1
  ends_is (pcdata k) a z i n = ap suc n.0 ∙ sym n.1
  ends_is (seq none) a z i n = absurd i
  ends_is (seq (more m ms)) a z i n = ends_of_is ms (ends m) n.0 z i.1 n.2 (ends_is m a n.0 i.0 n.1)
  ends_is (or none) a z i n = absurd i
  ends_is (or (more m ms)) a z i n = ends_of_is ms (ends m) n.0 z i.1 n.2 (ends_is m a n.0 i.0 n.1)
  ends_is (and none) a z i n = absurd i
  ends_is (and (more m none)) a z i n = absurd i
  ends_is (and (more m (more p ms))) a z i n =
      ends_of_is ms (ends p) n.2.0 z i.2 n.2.2 (ends_is p n.0 n.2.0 i.1 n.2.1)
  ends_is (opt m) a z i n = ends_is m a z i n
  ends_is (plus m) a z i n = ends_is m a z i n
  ends_is (rep m) a z i n = ends_is m a z i n
  ends_is (member r left) a z i n = absurd i
  ends_is (round r m) a z i n = absurd i

  ends_of_is : (ms : Terms) (y a z : ℕ) → AreModels ms → AllNumbered ms a z → y ≡ a → ends_of ms y ≡ z
  ends_of_is none y a z i n e = e ∙ n
  ends_of_is (more m ms) y a z i n e = ends_of_is ms (ends m) n.0 z i.1 n.2 (ends_is m a n.0 i.0 n.1)

-- what is done requires nothing
parts_true : (x y : Bool) → (x && y) ≡ true → (x ≡ true) × (y ≡ true)
parts_true true y h = (refl, h)
parts_true false y h = cc

no_more : (x : Bool) → (x || false) ≡ true → x ≡ true
no_more true h = refl
no_more false h = cc

mutual
  done_required : (r : Term) → done r ≡ true → required r ≡ None
  done_required empty h = refl
  done_required (name k n) h = cc
  done_required (pcdata k) h = refl
  done_required (seq ms) h = all_required ms h
  done_required (or none) h = refl
  done_required (or (more m none)) h = done_required m (no_more (done m) h)
  done_required (or (more m (more n ms))) h = refl
  done_required (and none) h = refl
  done_required (and (more m none)) h = done_required m (parts_true (done m) true h).0
  done_required (and (more m (more n ms))) h = refl
  done_required (opt m) h = refl
  done_required (plus m) h = done_required m h
  done_required (rep m) h = refl
  done_required (member r left) h = ap (λ v. unless_done v (required r) None) (parts_true (done r) (all_done left) h).0
  done_required (round r m) h = done_required r h

  all_required : (ms : Terms) → all_done ms ≡ true → first_required ms ≡ None
  all_required none h = refl
  all_required (more m ms) h =
      let p = parts_true (done m) (all_done ms) h in
      ap (λ v. unless_done v (required m) (first_required ms)) p.0 ∙ all_required ms p.1

alone_required : (r : Term) → unless_done (done r) (required r) None ≡ required r
alone_required r = of_done (done r) refl
  where
    of_done : (b : Bool) → done r ≡ b → unless_done b (required r) None ≡ required r
    of_done true e = sym (done_required r e)
    of_done false e = refl

and_true : (b : Bool) → (b && true) ≡ b
and_true true = refl
and_true false = refl

or_none : (o : Option ℕ) (b : Bool) → option_or o (cond b None None) ≡ o
or_none None true = refl
or_none None false = refl
or_none (Some x) b = refl

bare_clear : (g z : ℕ) (l : Option (List ℕ)) → within 0 z (find (no_tokens ∷ []) g l) ≡ None
bare_clear zero z None = refl
bare_clear zero z (Some n) = refl
bare_clear (suc g) z l = refl

naming_scopes : (o : Option (List ℕ)) (ps : List Place) → (naming o (bare ps)).1.scopes ≡ no_tokens ∷ []
naming_scopes None ps = refl
naming_scopes (Some n) ps = refl

naming_exits : (o : Option (List ℕ)) (ps : List Place) → (naming o (bare ps)).1.exits ≡ []
naming_exits None ps = refl
naming_exits (Some n) ps = refl

module _ (x : Term) (z : ℕ) (i : IsModel x) (n : Numbered x 0 z) (ps : List Place) (t : Tables)
    (h : planned x z 0 (place None true None) (begun x z ps).1 ≡ Some t) where
  abbrev empty_tables : Tables
  empty_tables = (naming (required x) (bare ps)).1

  abbrev first_tables : Tables
  first_tables = (begun x z ps).1

  clear : Clear 0 z first_tables
  clear g l = ap (λ ss. within 0 z (find ss g l)) (naming_scopes (required x) ps) ∙ bare_clear g z l

  scope_in : 0 < length first_tables.scopes
  scope_in = let e = ap length (naming_scopes (required x) ps) in omega arith

  known_after : (k : ℕ) (bits : List Bool) → IsPlaced x (Some k) →
      (finished_of (place_at t (begun x z ps).0 (Some k)) ≡ done (at x 0 k (bits_of bits)))
      × ((needed_of t.names (place_at t (begun x z ps).0 (Some k)) ≡ required (at x 0 k (bits_of bits)))
      × ((l : Option (List ℕ)) → next_in t (begun x z ps).0 (Some k) l ≡ next_by (at x 0 k (bits_of bits)) l))
  known_after k bits p =
      let d = tells_one x 0 z 0 (place None true None) first_tables t i n clear scope_in h k 0 (bits_of bits) p t (keeps_self t 0 z) in
      let r = at x 0 k (bits_of bits) in
      let q = d.leads [] refl in (
        ap finished_of d.is ∙ d.finished ∙ and_true (done r),
        (
          ap (needed_of t.names) d.is ∙ d.needed ∙ alone_required r,
          λ l. ap (λ y. chase (length t.exits) t.scopes t.exits (exit_of y) l) d.is ∙ chased t.scopes t.exits (length t.exits) (length t.exits) d.p.exit q.0 l q.1 (omega arith)
              ∙ q.2 l ∙ or_none (next_by r l) (done r),
        ),
      )

  abbrev whole_exit : Exit
  whole_exit = exit 0 0 z None

  kept : Keeps first_tables t 0 0
  kept = keeps_one x 0 z 0 (place None true None) first_tables t i n h 0 0 (inl (omega arith))

  first_exit : slice_get first_tables.exits 0 ≡ Some whole_exit
  first_exit = ap (λ xs. slice_get (xs ++ whole_exit ∷ []) 0) (naming_exits (required x) ps)

  some_exits : 0 < length t.exits
  some_exits = let e = length-append empty_tables.exits (whole_exit ∷ []) in let k = kept.more_exits in omega arith

  known_first : (finished_of (place_at t (begun x z ps).0 None) ≡ done x)
      × ((needed_of t.names (place_at t (begun x z ps).0 None) ≡ required x)
      × ((l : Option (List ℕ)) → next_in t (begun x z ps).0 None l ≡ next_by x l))
  known_first =
      let c : Chain t.exits (length t.exits) (Some 0) (whole_exit ∷ []) = (0, refl, some_exits, kept.exits 0 whole_exit first_exit, refl) in (
        refl,
        (
          naming_is (required x) (bare ps) t.names (λ j y e. kept.names j y e),
          λ l. chased t.scopes t.exits (length t.exits) (length t.exits) (Some 0) (whole_exit ∷ []) l c (omega arith)
              ∙ nothing (hit t.scopes whole_exit l) ∙ later x 0 z 0 (place None true None) first_tables t t i n clear scope_in h (keeps_self t 0 z) l,
        ),
      )
    where
      nothing : (o : Option ℕ) → option_or o None ≡ o
      nothing None = refl
      nothing (Some y) = refl

  pub known : Answers t (begun x z ps).0 x
  known None bits p = known_first
  known (Some k) bits p = known_after k bits p

pub known_by : (v x : Term) (e z : ℕ) (s : Place) (b t : Tables) (ps : List Place) (d : Bool) → v ≡ x → e ≡ z → IsModel x → Numbered x 0 z → (s, b) ≡ begun v e ps →
    planned v e 0 (place None true None) b ≡ cond d (Some t) None → d ≡ true → Answers t s x
known_by v x e z s b t ps d is at i n begins h counts =
    let all : (s, b) ≡ begun x z ps = begins ∙ ap (λ y. begun y e ps) is ∙ ap (λ y. begun x y ps) at in
    let plan : planned x z 0 (place None true None) (begun x z ps).1 ≡ Some t =
    ap (λ y. planned x z 0 (place None true None) y) (sym (ap (λ (y : Place × Tables). y.1) all))
    ∙ ap (λ y. planned x y 0 (place None true None) b) (sym at) ∙ ap (λ y. planned y e 0 (place None true None) b) (sym is) ∙ h ∙ ap (λ y. cond y (Some t) None) counts in
    subst (λ y. Answers t y x) (sym (ap (λ (y : Place × Tables). y.0) all)) (known x z i n ps t plan)
