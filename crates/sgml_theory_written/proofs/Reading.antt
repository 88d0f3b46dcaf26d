-- What standing by contexts has to do with reading.
use Rattle.std.specs.Prelude.{◌≡◌, Bool, true, false, not, ◌&&◌, Option, Some, None, Result, Ok, Err, List, [], ◌∷◌, ◌++◌, map}
use Rattle.std.specs.Option.{option_or}
use Rattle.std.proofs.Common.{refl, sym, ap, ◌∙◌, inl, inr, subst}
use Rattle.sgml_theory_kinds.specs.text.declared.reason.Reason.{Reason}
use Rattle.sgml_theory_worked.specs.theory_reading.Pieces.{Piece, Kind, Start, End, History}
use Rattle.sgml_theory_worked.specs.theory_reading.Facets.{token, is_start}
use Rattle.sgml_theory_worked.specs.theory_reading.Context.{Context, context, context_after}
use Rattle.sgml_theory_worked.specs.theory_reading.Omission.{MayStand, NoneMayStand, leaves, misfits}
use Rattle.sgml_theory_worked.specs.theory_reading.Runs.{LongestRun, LongestRunFrom, after_run, context_after_run}
use Rattle.sgml_theory_worked.specs.theory_reading.Reasons.{reason}
use Rattle.sgml_theory_worked.specs.theory_reading.Unread.{Input, standing}
use Rattle.sgml_theory_worked.specs.theory_reading.State.{State, state}
use Rattle.sgml_theory_worked.specs.theory_reading.Characters.{kind_noted, piece_noted}
use Rattle.sgml_theory_worked.specs.theory_reading.Reads.{Forms, Move, Moves, MovesTo, Reads, ReadOn, moved_on, after_moves, pieces, answer_noted, unless_undecided, judged, judged_piece, undefined, refusal}
use Rattle.sgml_theory_worked.proofs.theory_reading.Contexts.{context-step}
use Rattle.sgml_theory_worked.proofs.theory_reading.Runs.{context-of-history}
use Rattle.sgml_theory_written.specs.Standing.{HasItsType, TypesItsEnds, StandsBy, StandBy, StandsAlone, StandAlone, IsSpelled, AreSpelled, alone_move, context_moved}

none-of : {A : Type 0} (o p : Option A) → option_or o p ≡ None → (o ≡ None) × (p ≡ None)
none-of None p e = (refl, e)
none-of (Some x) p e = absurd (cc)

run-from : (h : History) (c : Context) (x : Kind) (os : List Piece) → context h ≡ c → LongestRun h x os → LongestRunFrom c x os
run-from h c x [] e r = subst (λ (k : Context). NoneMayStand k x) e r
run-from h c x (o ∷ os) e r =
    (subst (λ (k : Context). MayStand k o x) e r.0, run-from (o ∷ h) (context_after o c) x os (context-step o h ∙ ap (context_after o) e) r.1)

move-stands : (forms : Forms) (h : History) (p : Piece) (m : Move) → Moves forms h p m → HasItsType (context h) p.kind → StandsBy (context h) p.kind m
unfolding refusal
move-stands forms h p m r t =
    let e : context (after_run h m.omitted) ≡ context_after_run (context h) m.omitted = context-of-history h (context h) m.omitted refl in
    let a = none-of (undefined (context h) p.kind) _ r.no_reason in
    let b = none-of (reason (context (after_run h m.omitted)) p.kind) _ a.1 in
    record {
      has_its_type = t;
      declared = a.0;
      longest = run-from h (context h) p.kind m.omitted refl r.longest;
      no_reason = ap (λ (c : Context). reason c p.kind) (sym e) ∙ b.0;
      noted = ap (λ (q : Piece). q.kind) r.visible ∙ ap (λ (c : Context). judged c p.kind) e;
    }

-- what is noted of a piece leaves an end as it is
noted-type : (c : Context) (s : State) (x : Kind) → HasItsType c x → HasItsType c (kind_noted s x)
unfolding kind_noted
noted-type c s (End n how) t = t
noted-type c s x t = tt

abbrev StoodBy : History → Move → Type 0
StoodBy h m = (x : Kind) × StandsBy (context h) x m

context-is : (h : History) → (state h).context ≡ context h
unfolding state
context-is h = refl

answer-stands : (forms : Forms) (I : Input) (h : History) (m : Move) → TypesItsEnds forms → (b : Bool) (answer : Result Piece Reason) → forms.spelled I.outside (state h) (standing I h) ≡ answer
    → MovesTo forms h (unless_undecided b (answer_noted (state h) answer)) m → StoodBy h m
answer-stands forms I h m types true answer e r = absurd r
answer-stands forms I h m types false (Err reason) e r = absurd r
answer-stands forms I h m types false (Ok p) e r =
    let t : HasItsType (context h) p.kind = subst (λ (c : Context). HasItsType c p.kind) (context-is h) (types I.outside (state h) (standing I h) p e) in
    (kind_noted (state h) p.kind, move-stands forms h (piece_noted (state h) p) m r (noted-type (context h) (state h) p.kind t))

reads-stands : (forms : Forms) (I : Input) (h : History) (m : Move) → TypesItsEnds forms → Reads forms I h m → StoodBy h m
reads-stands forms I h m types r =
    answer-stands forms I h m types (I.was_cut && not (forms.decided I.outside (state h) (standing I h))) (forms.spelled I.outside (state h) (standing I h)) refl r.moves

moved : (h : History) (m : Move) → context (moved_on h m) ≡ context_moved (context h) m
moved h m = context-step m.visible (after_run h m.omitted) ∙ ap (context_after m.visible) (context-of-history h (context h) m.omitted refl)

stand-by : (forms : Forms) (I : Input) (h : History) (ms : List Move) → TypesItsEnds forms → ReadOn forms I h ms → StandBy (context h) ms
stand-by forms I h [] types r = tt
stand-by forms I h (m ∷ ms) types r =
    let s = reads-stands forms I h m types r.0 in
    (s.0, s.1, subst (λ (c : Context). StandBy c ms) (moved h m) (stand-by forms I (moved_on h m) ms types r.1))

run-on : (c : Context) (os ps : List Piece) → context_after_run c (os ++ ps) ≡ context_after_run (context_after_run c os) ps
run-on c [] ps = refl
run-on c (o ∷ os) ps = run-on (context_after o c) os ps

after-all : (h : History) (ms : List Move) → context (after_moves h ms) ≡ context_after_run (context h) (pieces ms)
after-all h [] = refl
after-all h (m ∷ ms) =
    after-all (moved_on h m) ms
    ∙ (ap (λ (c : Context). context_after_run c (pieces ms)) (moved h m) ∙ sym (run-on (context h) m.omitted (m.visible ∷ pieces ms)))

pub reading-stands : (forms : Forms) (I : Input) (h : History) (ms : List Move) → TypesItsEnds forms → ReadOn forms I h ms → StandBy (context h) ms × (context (after_moves h ms) ≡ context_after_run (context h) (pieces ms))
reading-stands forms I h ms types r = (stand-by forms I h ms types r, after-all h ms)

record AsJudged (s : Context) (x y : Kind) : Type 0 where
  declared : undefined s y ≡ undefined s x
  leave : leaves s y ≡ leaves s x
  tokens : token y ≡ token x
  reasons : reason s y ≡ reason s x

as-judged : (s : Context) (x : Kind) → AsJudged s x (judged s x)
unfolding leaves token reason is_start
as-judged s (Start n ss how p a) = record { declared = refl; leave = refl; tokens = refl; reasons = refl }
as-judged s x = record { declared = refl; leave = refl; tokens = refl; reasons = refl }

-- which tags may be left out is a matter of what leaves and of tokens
none-as : (s : Context) (x y : Kind) → leaves s y ≡ leaves s x → token y ≡ token x → NoneMayStand s y → NoneMayStand s x
none-as s x y l t f o (inl m) =
    let e = m.2 in
    f o (inl (m.0, m.1, record { omits = e.omits; of_innermost = e.of_innermost; is_finished = e.is_finished; has_o = e.has_o; before = l ∙ e.before }))
none-as s x y l t f o (inr m) =
    let e = m.2 in
    f o (inr (
      m.0,
      m.1,
      record {
        omits = e.omits;
        before = ap (misfits s) t ∙ e.before;
        is_unfinished = e.is_unfinished;
        is_required = e.is_required;
        declared = e.declared;
        not_excluded = e.not_excluded;
        has_o = e.has_o;
        no_required_attribute = e.no_required_attribute;
        no_declared_content = e.no_declared_content;
        room = e.room;
      },
    ))

all-none : {A : Type 0} (o p q r : Option A) → o ≡ None → p ≡ None → q ≡ None → r ≡ None → option_or o (option_or p (option_or q r)) ≡ None
all-none o p q r a b c d = λ i. option_or (a i) (option_or (b i) (option_or (c i) (d i)))

standing-moves : (forms : Forms) (h : History) (p : Piece) → StandsAlone (context h) (judged_piece (context h) p) → forms.unvalued (state h) p.kind ≡ None → Moves forms h p (record { omitted = []; visible = judged_piece (context h) p })
unfolding refusal
standing-moves forms h p s v =
    let j = as-judged (context h) p.kind in
    record {
      longest = none-as (context h) p.kind (judged (context h) p.kind) j.leave j.tokens s.longest;
      visible = refl;
      no_reason = all-none (undefined (context h) p.kind) (reason (context h) p.kind) None (forms.unvalued (state h) p.kind) (sym j.declared ∙ s.declared) (sym j.reasons ∙ s.no_reason) refl v;
    }

answer-reads : (forms : Forms) (I : Input) (h : History) (q : Piece) → StandsAlone (context h) q → IsSpelled forms I h q → Reads forms I h (alone_move q)
answer-reads forms I h q s v = record {
  goes_on = v.goes_on;
  moves = subst (λ (r : Result Piece Reason). MovesTo forms h r (alone_move q)) (sym v.spelled) moves;
}
  where
    stands : StandsAlone (context h) (judged_piece (context h) v.spelling)
    stands = subst (λ (p : Piece). StandsAlone (context h) p) (sym v.noted) s

    moves : Moves forms h v.spelling (alone_move q)
    moves = subst (λ (p : Piece). Moves forms h v.spelling (alone_move p)) v.noted (standing-moves forms h v.spelling stands v.has_values)

pub standing-reads : (forms : Forms) (J : Input) (k : History) (qs : List Piece) → StandAlone (context k) qs → AreSpelled forms J k qs → ReadOn forms J k (map alone_move qs)
standing-reads forms J k [] s v = tt
standing-reads forms J k (q ∷ qs) s v =
    let more : StandAlone (context (q ∷ k)) qs = subst (λ (c : Context). StandAlone c qs) (sym (context-step q k)) s.1 in
    (answer-reads forms J k q s.0 v.0, standing-reads forms J (q ∷ k) qs more v.1)
