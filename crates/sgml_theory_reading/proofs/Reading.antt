-- The laws of reading.
use Rattle.std.specs.Prelude.{◌≡◌, ◌≤◌, ◌⊎◌, IsFalse, Option, Some, None, Result, Ok, Err, List, [], ◌∷◌, ◌++◌, length}
use Rattle.std.specs.Option.{option_or}
use Rattle.std.proofs.Common.{refl, sym, ap, ◌∙◌, inl, inr, subst, append_assoc}
use Rattle.sgml_dtd.specs.text.declared.reason.Reason.{Reason}
use Rattle.sgml_theory_reading.specs.Pieces.{Piece, History}
use Rattle.sgml_theory_reading.specs.Context.{Context, context}
use Rattle.sgml_theory_reading.specs.Runs.{run_bound, LongestRun, after_run}
use Rattle.sgml_theory_reading.specs.Reasons.{reason}
use Rattle.sgml_theory_reading.proofs.Runs.{one-run, longest-run, run-by-context, context-after_run}
use Rattle.sgml_theory_reading.specs.State.{State, state, after_piece, sources_in}
use Rattle.sgml_theory_reading.specs.Unread.{Input, Sources, sources, standing, rests, rests_after, spent, opening, spent_after}
use Rattle.sgml_theory_reading.specs.Reads.{Forms, Move, moved_on, judged_piece, ends_in_finish, undefined, refusal, run_reason, Moves, MovesTo, next_answer, spelled_next, Reads, ReadOn, pieces, IsFront, StopsAt, Stops, IsPrefix, Agree}
use Rattle.sgml_theory_reading.specs.Outcome.{standing_after}
use Rattle.sgml_theory_reading.proofs.Steps.{state-step}

-- one move at most reads next
one-moves : (forms : Forms) (h : History) (p : Piece) (m n : Move) → Moves forms h p m → Moves forms h p n → m ≡ n
one-moves forms h p m n a b =
    let e : m.omitted ≡ n.omitted = one-run h p.kind m.omitted n.omitted a.longest b.longest in
    let f : m.visible ≡ n.visible = a.visible ∙ (ap (λ (os : List Piece). judged_piece (context (after_run h os)) p) e ∙ sym b.visible) in
    λ i. record { omitted = e i; visible = f i }

one-moves-to : (forms : Forms) (h : History) (r : Result Piece Reason) (m n : Move) → MovesTo forms h r m → MovesTo forms h r n → m ≡ n
one-moves-to forms h (Ok p) m n a b = one-moves forms h p m n a b
one-moves-to forms h (Err r) m n a b = absurd a

pub one-move : (forms : Forms) (I : Input) (h : History) (m n : Move) → Reads forms I h m → Reads forms I h n → m ≡ n
one-move forms I h m n a b = one-moves-to forms h (spelled_next forms I h) m n a.moves b.moves

-- of two lists that read one is a prefix of the other
pub one-of-two : (forms : Forms) (I : Input) (h : History) (ms ns : List Move) → ReadOn forms I h ms → ReadOn forms I h ns → IsPrefix ms ns ⊎ IsPrefix ns ms
one-of-two forms I h [] ns a b = inl (ns, refl)
one-of-two forms I h (m ∷ ms) [] a b = inr (m ∷ ms, refl)
one-of-two forms I h (m ∷ ms) (n ∷ ns) a b = go (one-of-two forms I (moved_on h m) ms ns a.1 (subst (λ (k : Move). ReadOn forms I (moved_on h k) ns) (sym e) b.1))
  where
    e : m ≡ n
    e = one-move forms I h m n a.0 b.0

    go : IsPrefix ms ns ⊎ IsPrefix ns ms → IsPrefix (m ∷ ms) (n ∷ ns) ⊎ IsPrefix (n ∷ ns) (m ∷ ms)
    go (inl p) = inl (p.0, λ i. sym e i ∷ p.1 i)
    go (inr p) = inr (p.0, λ i. e i ∷ p.1 i)

pieces-append : (ms ns : List Move) → pieces (ms ++ ns) ≡ pieces ms ++ pieces ns
pieces-append [] ns = refl
pieces-append (m ∷ ms) ns = ap (λ (ps : List Piece). m.omitted ++ (m.visible ∷ ps)) (pieces-append ms ns) ∙ sym (append_assoc m.omitted (m.visible ∷ pieces ms) (pieces ns))

prefix-pieces : (ms ns : List Move) → IsPrefix ms ns → IsPrefix (pieces ms) (pieces ns)
prefix-pieces ms ns p = (pieces p.0, ap pieces p.1 ∙ pieces-append ms p.0)

pub one-front : (forms : Forms) (I : Input) (ps qs : List Piece) → IsFront forms I ps → IsFront forms I qs → IsPrefix ps qs ⊎ IsPrefix qs ps
one-front forms I ps qs a b = go (one-of-two forms I (opening I.outside) a.0 b.0 a.1 b.1)
  where
    go : IsPrefix a.0 b.0 ⊎ IsPrefix b.0 a.0 → IsPrefix ps qs ⊎ IsPrefix qs ps
    go (inl p) = inl (let r = prefix-pieces a.0 b.0 p in (r.0, b.2 ∙ (r.1 ∙ ap (λ (xs : List Piece). xs ++ r.0) (sym a.2))))
    go (inr p) = inr (let r = prefix-pieces b.0 a.0 p in (r.0, a.2 ∙ (r.1 ∙ ap (λ (xs : List Piece). xs ++ r.0) (sym b.2))))

-- a front goes on, or stops for one reason
one-stop-at : (forms : Forms) (h : History) (s : Result Piece Reason) (q r : Reason) → StopsAt forms h s q → StopsAt forms h s r → q ≡ r
one-stop-at forms h (Err x) q r a b = a ∙ sym b
one-stop-at forms h (Ok p) q r a b =
    let e : a.0 ≡ b.0 = one-run h p.kind a.0 b.0 a.1 b.1 in
    let f : Some q ≡ Some r = sym a.2 ∙ (ap (λ (os : List Piece). refusal forms h os p) e ∙ b.2) in
    cc

pub one-stop : (forms : Forms) (I : Input) (h : History) (q r : Reason) → Stops forms I h q → Stops forms I h r → q ≡ r
one-stop forms I h q r a b = one-stop-at forms h (spelled_next forms I h) q r a.why b.why

no-both-at : (forms : Forms) (h : History) (s : Result Piece Reason) (m : Move) (r : Reason) → MovesTo forms h s m → StopsAt forms h s r → ⊥
no-both-at forms h (Err x) m r a b = a
no-both-at forms h (Ok p) m r a b =
    let e : m.omitted ≡ b.0 = one-run h p.kind m.omitted b.0 a.longest b.1 in
    let f : None ≡ Some r = sym a.no_reason ∙ (ap (λ (os : List Piece). refusal forms h os p) e ∙ b.2) in
    cc

pub no-both : (forms : Forms) (I : Input) (h : History) (m : Move) (r : Reason) → Reads forms I h m → Stops forms I h r → ⊥
no-both forms I h m r a b = no-both-at forms h (spelled_next forms I h) m r a.moves b.why

goes-or-stops-at : (forms : Forms) (h : History) (s : Result Piece Reason) → ((m : Move) × MovesTo forms h s m) ⊎ ((r : Reason) × StopsAt forms h s r)
goes-or-stops-at forms h (Err x) = inr (x, refl)
goes-or-stops-at forms h (Ok p) = go (refusal forms h run.0 p) refl
  where
    run : (os : List Piece) × LongestRun h p.kind os × (length os ≤ run_bound (context h) p.kind)
    run = longest-run h p.kind

    go : (o : Option Reason) → refusal forms h run.0 p ≡ o → ((m : Move) × MovesTo forms h (Ok p) m) ⊎ ((r : Reason) × StopsAt forms h (Ok p) r)
    go None e = inl (record { omitted = run.0; visible = judged_piece (context (after_run h run.0)) p }, record { longest = run.1; visible = refl; no_reason = e })
    go (Some r) e = inr (r, (run.0, run.1, e))

pub goes-or-stops : (forms : Forms) (I : Input) (h : History) → IsFalse (ends_in_finish h) → ((m : Move) × Reads forms I h m) ⊎ ((r : Reason) × Stops forms I h r)
goes-or-stops forms I h f = go (goes-or-stops-at forms h (spelled_next forms I h))
  where
    go : ((m : Move) × MovesTo forms h (spelled_next forms I h) m) ⊎ ((r : Reason) × StopsAt forms h (spelled_next forms I h) r) → ((m : Move) × Reads forms I h m) ⊎ ((r : Reason) × Stops forms I h r)
    go (inl m) = inl (m.0, record { goes_on = f; moves = m.1 })
    go (inr r) = inr (r.0, record { goes_on = f; why = r.1 })

-- reading on is a matter of the state and of what is unread
sources-by-state : (h : History) → sources h ≡ sources_in (state h)
unfolding state context
sources-by-state h = refl

pub rests-step : (I : Input) (p : Piece) (h : History) → rests I (p ∷ h) ≡ rests_after I.outside (sources_in (after_piece p (state h))) p (rests I h)
unfolding rests
rests-step I p h = ap (λ (k : Sources). rests_after I.outside k p (rests I h)) (sources-by-state (p ∷ h) ∙ ap sources_in (state-step p h))

spent-step : (I : Input) (p : Piece) (h : History) → spent I.outside (p ∷ h) ≡ spent_after I.outside (sources_in (after_piece p (state h))) p (spent I.outside h)
unfolding spent
spent-step I p h = ap (λ (k : Sources). spent_after I.outside k p (spent I.outside h)) (sources-by-state (p ∷ h) ∙ ap sources_in (state-step p h))

pub standing-step : (I : Input) (p : Piece) (h : History) → standing I (p ∷ h) ≡ standing_after I.outside (after_piece p (state h)) p (standing I h)
standing-step I p h = λ i. record { rests = rests-step I p h i; spent = spent-step I p h i }

agree-next : (I J : Input) (h k : History) (p : Piece) → Agree I J h k → Agree I J (p ∷ h) (p ∷ k)
agree-next I J h k p a = record {
  states = state-step p h ∙ (ap (after_piece p) a.states ∙ sym (state-step p k));
  unread_texts = standing-step I p h ∙ ((λ i. standing_after (a.outsides i) (after_piece p (a.states i)) p (a.unread_texts i)) ∙ sym (standing-step J p k));
  outsides = a.outsides;
  cuts = a.cuts;
  finishes = refl;
}

agree-run : (I J : Input) (h k : History) (os : List Piece) → Agree I J h k → Agree I J (after_run h os) (after_run k os)
agree-run I J h k [] a = a
agree-run I J h k (o ∷ os) a = agree-run I J (o ∷ h) (o ∷ k) os (agree-next I J h k o a)

context-by-state : (h k : History) → state h ≡ state k → context h ≡ context k
unfolding state
context-by-state h k e = ap (λ (s : State). s.context) e

run-states : (h k : History) (os : List Piece) → state h ≡ state k → state (after_run h os) ≡ state (after_run k os)
run-states h k [] e = e
run-states h k (o ∷ os) e = run-states (o ∷ h) (o ∷ k) os (state-step o h ∙ (ap (after_piece o) e ∙ sym (state-step o k)))

run-reasons : (forms : Forms) (h k : History) (os : List Piece) → state h ≡ state k → run_reason forms h os ≡ run_reason forms k os
run-reasons forms h k [] e = refl
run-reasons forms h k (o ∷ os) e =
    λ i. option_or (forms.unvalued (e i) o.kind) (run-reasons forms (o ∷ h) (o ∷ k) os (state-step o h ∙ (ap (after_piece o) e ∙ sym (state-step o k))) i)

-- the rows are a matter of the state
pub refusal-by-state : (forms : Forms) (h k : History) (os : List Piece) (p : Piece) → state h ≡ state k → refusal forms h os p ≡ refusal forms k os p
unfolding refusal
refusal-by-state forms h k os p e =
    let c : context h ≡ context k = context-by-state h k e in
    let f : state (after_run h os) ≡ state (after_run k os) = run-states h k os e in
    let g : context (after_run h os) ≡ context (after_run k os) = context-after_run h k os c in
    λ i. option_or (undefined (c i) p.kind) (option_or (reason (g i) p.kind) (option_or (run-reasons forms h k os e i) (forms.unvalued (f i) p.kind)))

moves-agree : (forms : Forms) (h k : History) (r : Result Piece Reason) (m : Move) → state h ≡ state k → MovesTo forms h r m → MovesTo forms k r m
moves-agree forms h k (Err x) m e b = b
moves-agree forms h k (Ok p) m e b =
    let s : context h ≡ context k = context-by-state h k e in
    let f = context-after_run h k m.omitted s in
    record {
      longest = run-by-context h k p.kind m.omitted s b.longest;
      visible = b.visible ∙ ap (λ (c : Context). judged_piece c p) f;
      no_reason = sym (refusal-by-state forms h k m.omitted p e) ∙ b.no_reason;
    }

reads-agree : (forms : Forms) (I J : Input) (h k : History) (m : Move) → Agree I J h k → Reads forms I h m → Reads forms J k m
reads-agree forms I J h k m a b = record {
  goes_on = sym a.finishes ∙ b.goes_on;
  moves = moves-agree forms h k _ m a.states (subst (λ (r : Result Piece Reason). MovesTo forms h r m) (λ i. next_answer forms (a.cuts i) (a.outsides i) (a.states i) (a.unread_texts i)) b.moves);
}

pub read-on-agree : (forms : Forms) (I J : Input) (h k : History) (ms : List Move) → Agree I J h k → ReadOn forms I h ms → ReadOn forms J k ms
read-on-agree forms I J h k [] a b = tt
read-on-agree forms I J h k (m ∷ ms) a b =
    (reads-agree forms I J h k m a b.0, read-on-agree forms I J (moved_on h m) (moved_on k m) ms (agree-next I J (after_run h m.omitted) (after_run k m.omitted) m.visible (agree-run I J h k m.omitted a)) b.1)

-- and so is where it stops
stops-agree-at : (forms : Forms) (h k : History) (s : Result Piece Reason) (r : Reason) → state h ≡ state k → StopsAt forms h s r → StopsAt forms k s r
stops-agree-at forms h k (Err x) r e b = b
stops-agree-at forms h k (Ok p) r e b =
    (b.0, run-by-context h k p.kind b.0 (context-by-state h k e) b.1, sym (refusal-by-state forms h k b.0 p e) ∙ b.2)

pub stops-agree : (forms : Forms) (I J : Input) (h k : History) (r : Reason) → Agree I J h k → Stops forms I h r → Stops forms J k r
stops-agree forms I J h k r a b = record {
  goes_on = sym a.finishes ∙ b.goes_on;
  why = stops-agree-at forms h k _ r a.states (subst (λ (s : Result Piece Reason). StopsAt forms h s r) (λ i. next_answer forms (a.cuts i) (a.outsides i) (a.states i) (a.unread_texts i)) b.why);
}
