-- What is written reads as its pieces.
use Rattle.std.proofs.Common.{◌≡◌, inl, inr, ℕ, ◌+◌, Bool, true, false, not, ◌&&◌, IsFalse, List, [], ◌∷◌, ◌++◌, Option, Some, None, Ok, length, refl, sym, ◌∙◌, ap, subst, append_assoc, drop_at, arith}
use Rattle.sgml_theory_values.specs.theory_reading.Names.{Name, Text}
use Rattle.sgml_theory_values.specs.theory_reading.Pieces.{Piece, Kind, History, Start, End, Finish, Re, ShortRef, Ordinary, ToText, ToData, ToExternalData, ToInstruction}
use Rattle.sgml_theory_values.specs.theory_reading.Facets.{Token, StaysInText, turn, token, is_finish}
use Rattle.sgml_theory_values.specs.theory_reading.Context.{Context, Level, context}
use Rattle.sgml_theory_values.specs.theory_reading.Omission.{NoneMayStand, allowed, leaves, leaves_as, misfits, innermost_is, is_outer}
use Rattle.sgml_theory_values.specs.theory_reading.Reasons.{Stands, reason}
use Rattle.sgml_theory_values.specs.theory_reading.Unread.{Outside, Standing, Input, standing, rest_turned, rest_moved, opened_length, text_of as text_of_entity}
use Rattle.sgml_theory_values.specs.theory_reading.State.{State, state, after_piece, sources_in}
use Rattle.sgml_theory_values.specs.theory_reading.Outcome.{standing_after}
use Rattle.sgml_theory_values.specs.theory_reading.Reads.{Move, Moves, MovesTo, Reads, ReadOn, judged, refusal, ends_in_finish, after_moves, spelled_next, unless_undecided, answer_noted}
use Rattle.sgml_theory_values.specs.theory_reading.Characters.{kind_noted, ordinary}
use Rattle.sgml_theory_values.proofs.theory_reading.Steps.{state-step}
use Rattle.sgml_theory_values.proofs.theory_reading.Reading.{standing-step}
use Rattle.sgml_theory_values.proofs.theory_reading.Table.{reason-exact}
use Rattle.sgml_theory_values.specs.theory_spelling.Sized.{sized}
use Rattle.sgml_theory_values.specs.theory_spelling.Decided.{decided}
use Rattle.sgml_theory_values.specs.theory_spelling.Spelled.{spelled, forms}
use Rattle.sgml_theory_full.specs.Spellings.{Spelling, text_of}
use Rattle.sgml_theory_full.specs.Written.{StandsThere, at_document, piece_in, IsReadThere, AreReadThere, moves_of, state_by, ReadAsWritten}
use Rattle.sgml_theory_full.proofs.Plain.{true-false}

-- NO TAG MAY BE LEFT OUT before what may stand by itself (7.3.1)

never-true : {A : Type 0} → false ≡ true → A
never-true h = true-false (sym h)

and-not : (a b : Bool) → a ≡ true → (not a && b) ≡ true → ⊥
and-not true b h k = never-true k
and-not false b h k = never-true h

none-open : (ls : List Level) (n : Name) → length ls ≡ 0 → innermost_is ls n ≡ true → ⊥
none-open [] n h k = never-true k
none-open (l ∷ ls) n h k = absurd (omega (arith, h))

-- where it leaves the innermost element
leaves-none : (s : Context) (x : Kind) (n : Name) (t : Option Token) → Stands s x t → leaves_as s x t ≡ true → innermost_is s.levels n ≡ true → ⊥
leaves-none s x n (Some k) h l i = and-not (allowed s k) _ h.0 l
leaves-none s (End m how) n None h l i = never-true (sym (ap is_outer h.0) ∙ l)
leaves-none s Finish n None h l i = none-open s.levels n h.0 i
leaves-none s _ n None h l i = never-true l

misfits-none : (s : Context) (x : Kind) (t : Option Token) → Stands s x t → misfits s t ≡ true → ⊥
misfits-none s x None h m = never-true m
misfits-none s x (Some k) h m = true-false (sym h.0 ∙ not-true (allowed s k) m)
  where
    not-true : (b : Bool) → not b ≡ true → b ≡ false
    not-true true e = never-true e
    not-true false e = refl

pub none-omitted : (s : Context) (x : Kind) → Stands s x (token x) → NoneMayStand s x
unfolding leaves
none-omitted s x h o (inl m) = leaves-none s x m.0 (token x) h m.2.before m.2.of_innermost
none-omitted s x h o (inr m) = misfits-none s x (token x) h m.2.before

-- WHAT IS NOTED of a piece is noted once
noted-again : (s : State) (k : Kind) → kind_noted s (kind_noted s k) ≡ kind_noted s k
unfolding kind_noted ordinary
noted-again s (Re live) = refl
noted-again s (ShortRef string (Ordinary has_items content)) = refl
noted-again s (ShortRef string (ToText e)) = refl
noted-again s (ShortRef string (ToData e)) = refl
noted-again s (ShortRef string (ToExternalData e)) = refl
noted-again s (ShortRef string (ToInstruction e text)) = refl
noted-again s _ = refl

judged-turn : (c : Context) (k : Kind) → turn (judged c k) ≡ turn k
unfolding turn
judged-turn c (Start n specifications how proper at_once) = refl
judged-turn c _ = refl

pub judged-finish : (c : Context) (k : Kind) → is_finish (judged c k) ≡ is_finish k
unfolding is_finish
judged-finish c (Start n specifications how proper at_once) = refl
judged-finish c _ = refl

-- ONE SPELLING READS

abbrev move_in : State → Spelling → Move
move_in s x = record { omitted = []; visible = piece_in s x }

abbrev noted_piece : State → Spelling → Piece
noted_piece s x = sized (length x.text) (kind_noted s x.kind)

next-is : (I : Input) (h : History) (spent : ℕ) (x : Spelling) (rest : Text) → I.was_cut ≡ false → standing I h ≡ at_document spent (x.text ++ rest) → IsReadThere I.outside spent (state h) x rest
    → spelled_next forms I h ≡ Ok (noted_piece (state h) x)
next-is I h spent x rest whole at r =
    ap (λ c. unless_undecided (c && not (decided I.outside (state h) (standing I h))) (answer_noted (state h) (spelled I.outside (state h) (standing I h)))) whole
    ∙ ap (λ t. answer_noted (state h) (spelled I.outside (state h) t)) at
    ∙ ap (answer_noted (state h)) r.spelled_is
    ∙ ap (λ k. Ok (sized (length x.text) k)) (noted-again (state h) x.kind)

none-against : (h : History) (p : Piece) → StandsThere (state h) p.kind → refusal forms h [] p ≡ None
unfolding refusal state
none-against h p r =
    let reasonless : reason (context h) p.kind ≡ None = (reason-exact (context h) p.kind (none-omitted (context h) p.kind r.stands)).1 r.stands in
    rw (r.declared, reasonless) r.valued

moves-so : (h : History) (x : Spelling) → StandsThere (state h) (kind_noted (state h) x.kind) → Moves forms h (noted_piece (state h) x) (move_in (state h) x)
unfolding state
moves-so h x r = record {
  longest = none-omitted (context h) (kind_noted (state h) x.kind) r.stands;
  visible = refl;
  no_reason = none-against h (noted_piece (state h) x) r;
}

one-reads : (I : Input) (h : History) (spent : ℕ) (x : Spelling) (rest : Text) → I.was_cut ≡ false → IsFalse (ends_in_finish h) → standing I h ≡ at_document spent (x.text ++ rest)
    → IsReadThere I.outside spent (state h) x rest → Reads forms I h (move_in (state h) x)
one-reads I h spent x rest whole goes at r = record {
  goes_on = goes;
  moves = subst (λ a. MovesTo forms h a (move_in (state h) x)) (sym (next-is I h spent x rest whole at r)) (moves-so h x r.stands);
}

-- and what follows it is left
stays-in : (outside : Outside) (s : State) (p : Piece) (spent : ℕ) (text rest : Text) → turn p.kind ≡ StaysInText → p.size ≡ length text → p.spent ≡ 0
    → standing_after outside s p (at_document spent (text ++ rest)) ≡ at_document spent rest
stays-in outside s p spent text rest stays size none =
    let T = text_of_entity outside (sources_in s) in
    let n : spent + (p.spent + 0) ≡ spent = omega (arith, none) in
    ap (λ u. record { rests = rest_turned T u (rest_moved p.size (record { entity = 0; bytes = text ++ rest } ∷ [])); spent = spent + (p.spent + opened_length T u) }) stays
    ∙ ap (λ bs. record { rests = record { entity = 0; bytes = bs } ∷ []; spent = spent + (p.spent + 0) }) (drop_at text rest p.size (sym size))
    ∙ ap (λ k. at-spent k) n
  where
    at-spent : ℕ → Standing
    at-spent k = at_document k rest

-- ALL OF THEM
pub record ReadBy (I : Input) (h : History) (spent : ℕ) (s : State) (xs : List Spelling) (rest : Text) : Type 0 where
  pub reads : ReadOn forms I h (moves_of s xs)
  pub left : standing I (after_moves h (moves_of s xs)) ≡ at_document spent rest
  pub state_is : state (after_moves h (moves_of s xs)) ≡ state_by s xs
  pub goes_on : IsFalse (ends_in_finish (after_moves h (moves_of s xs)))

written-by : (I : Input) (h : History) (spent : ℕ) (s : State) (xs : List Spelling) (rest : Text) → I.was_cut ≡ false → IsFalse (ends_in_finish h) → state h ≡ s
    → standing I h ≡ at_document spent (text_of xs ++ rest) → AreReadThere I.outside spent s xs rest → ReadBy I h spent s xs rest
written-by I h spent s [] rest whole goes is at r = record { reads = tt; left = at; state_is = is; goes_on = goes }
written-by I h spent s (x ∷ xs) rest whole goes is at r =
    let here : standing I h ≡ at_document spent (x.text ++ (text_of xs ++ rest)) = at ∙ ap (at_document spent) (append_assoc x.text (text_of xs) rest) in
    let first : Reads forms I h (move_in s x) =
    subst (λ t. IsReadThere I.outside spent t x (text_of xs ++ rest) → Reads forms I h (move_in t x)) is (one-reads I h spent x (text_of xs ++ rest) whole goes here) r.0 in
    let p = piece_in s x in
    let stays : turn p.kind ≡ StaysInText = judged-turn s.context (kind_noted s x.kind) ∙ r.0.stands.within in
    let after : state (p ∷ h) ≡ after_piece p s = state-step p h ∙ ap (after_piece p) is in
    let left : standing I (p ∷ h) ≡ at_document spent (text_of xs ++ rest) =
    standing-step I p h ∙ ap (standing_after I.outside (after_piece p (state h)) p) here ∙ stays-in I.outside (after_piece p (state h)) p spent x.text (text_of xs ++ rest) stays refl refl in
    let more = written-by I (p ∷ h) spent (after_piece p s) xs rest whole (judged-finish s.context (kind_noted s x.kind) ∙ r.0.stands.goes_on) after left r.1 in
    record { reads = (first, more.reads); left = more.left; state_is = more.state_is; goes_on = more.goes_on }

pub written-reads : (I : Input) (h : History) (spent : ℕ) (xs : List Spelling) (rest : Text) → I.was_cut ≡ false → IsFalse (ends_in_finish h)
    → standing I h ≡ at_document spent (text_of xs ++ rest) → AreReadThere I.outside spent (state h) xs rest → ReadAsWritten I h spent xs rest
written-reads I h spent xs rest whole goes at r =
    let all = written-by I h spent (state h) xs rest whole goes refl at r in
    record { reads = all.reads; left = all.left; state_is = all.state_is; goes_on = all.goes_on }
