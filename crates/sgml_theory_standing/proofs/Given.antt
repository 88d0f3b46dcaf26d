-- What is unread of the input, by what is unread of the texts that were given.
use Rattle.std.specs.Prelude.{◌≡◌, ℕ, Bool, true, false, not, ◌&&◌, ◌==◌, List, [], ◌∷◌, ◌++◌, Result, Err, map, drop, if◌then◌else◌}
use Rattle.std.proofs.Common.{refl, sym, ap, ◌∙◌, subst}
use Rattle.std.proofs.lemmas.List.{append-nil}
use Rattle.sgml_theory_spelling.proofs.scan.Runs.{apart}
use Rattle.sgml_theory_spelling.specs.text.declared.reason.Reason.{Reason}
use Rattle.sgml_theory_spelling.specs.text.declared.place.Place.{Place}
use Rattle.sgml_theory_spelling.specs.entity.declared.kinds.Entity.{Entity}
use Rattle.sgml_theory_spelling.specs.decl_lexemes.Sources.{text_at, or_empty}
use Rattle.sgml_theory_spelling.specs.theory_reading.Names.{Text}
use Rattle.sgml_theory_spelling.specs.theory_reading.Pieces.{Piece, History}
use Rattle.sgml_theory_spelling.specs.theory_reading.Unread.{Input, Rest, Standing, standing}
use Rattle.sgml_theory_spelling.specs.theory_reading.State.{State, state}
use Rattle.sgml_theory_spelling.specs.theory_reading.Reads.{more_of, rest_with_more, standing_with_more, unless_undecided, answer_noted, spelled_next, top_place, StopsAt}
use Rattle.sgml_theory_spelling.specs.Decided.{decided}
use Rattle.sgml_theory_spelling.specs.Asked.{ArePlacesOf}
use Rattle.sgml_theory_spelling.specs.Spelled.{spelled, forms}
use Rattle.sgml_theory_spelling.proofs.Decides.{decides}
use Rattle.sgml_theory_standing.specs.Supplied.{MayFollow}
use Rattle.sgml_theory_standing.specs.Kept.{Kept, Stands, rest_of, given}
use Rattle.sgml_theory_standing.specs.Prologs.{state_in_prolog}
use Rattle.sgml_theory_standing.specs.Next.{IsDecidedIn}
use Rattle.sgml_theory_standing.specs.Laws.{GivenIsUnread, StopsAtTop, SpelledStandsNext, RefusedStops}
use Rattle.sgml_theory_standing.proofs.Prologs.{state-in-prolog}

given-rests : (es : List Entity) (texts : List (ℕ × Text)) (more : Text) (ps : List Place) (rs : List Rest) → ArePlacesOf es texts more ps rs
    → rs ≡ map (rest_with_more more) (map (rest_of es texts) ps)
given-rests es texts more [] [] a = refl
given-rests es texts more (p ∷ ps) (r ∷ rs) a =
    let here = drop p.at (or_empty (text_at es texts p.entity)) in
    λ i. record { entity = sym a.0 i; bytes = (a.1 ∙ ap (λ n. more_of more n here) (sym a.0)) i } ∷ given-rests es texts more ps rs a.2 i
given-rests es texts more [] (r ∷ rs) a = absurd a
given-rests es texts more (p ∷ ps) [] a = absurd a

pub given-is-unread : GivenIsUnread
unfolding given
given-is-unread k texts I more h s =
    λ i. record { rests = given-rests k.doctype.entities texts more k.stack.places _ s.unread_is i; spent = sym s.spent_is i }

pub stops-at-top : StopsAtTop
stops-at-top k texts I more h s = ap top_place (sym s.places_are)

-- WHAT IS SPELLED there

no-more-of : (b : Bool) (bytes : Text) → (if b then bytes ++ [] else bytes) ≡ bytes
no-more-of true bytes = append-nil bytes
no-more-of false bytes = refl

no-more : (rs : List Rest) → map (rest_with_more []) rs ≡ rs
no-more [] = refl
no-more (r ∷ rs) = λ i. record { entity = r.entity; bytes = no-more-of (r.entity == 0) r.bytes i } ∷ no-more rs i

decided-answer : (b d : Bool) (answer : Result Piece Reason) → d ≡ true → unless_undecided (b && not d) answer ≡ answer
decided-answer true true answer e = refl
decided-answer true false answer e = apart false e refl
decided-answer false d answer e = refl

whole-answer : (b d : Bool) (answer : Result Piece Reason) → b ≡ false → unless_undecided (b && not d) answer ≡ answer
whole-answer true d answer e = apart true refl e
whole-answer false d answer e = refl

next-by : (I : Input) (h : History) (t : Standing) (more : Text) (ended : Bool) → standing I h ≡ standing_with_more more t → MayFollow ended I more
    → (ended ≡ false → decided I.outside (state h) t ≡ true) → spelled_next forms I h ≡ answer_noted (state h) (spelled I.outside (state h) t)
next-by I h t more true g m d =
    let s = state h in
    let none : standing_with_more more t ≡ t = ap (λ x. standing_with_more x t) (m.whole refl) ∙ (λ i. record { rests = no-more t.rests i; spent = t.spent }) in
    whole-answer I.was_cut (decided I.outside s (standing I h)) (answer_noted s (spelled I.outside s (standing I h))) (m.uncut refl)
    ∙ ap (λ u. answer_noted s (spelled I.outside s u)) (g ∙ none)
next-by I h t more false g m d =
    let s = state h in
    decided-answer I.was_cut (decided I.outside s (standing I h)) (answer_noted s (spelled I.outside s (standing I h)))
    (ap (decided I.outside s) g ∙ decides.stays I.outside s t more (d refl))
    ∙ ap (answer_noted s) (ap (spelled I.outside s) g ∙ decides.same I.outside s t more (d refl))

pub spelled-stands-next : SpelledStandsNext
spelled-stands-next k texts ended I more h answer s m d e =
    next-by I h (given k texts) more ended (given-is-unread k texts I more h s) m d ∙ ap (answer_noted (state h)) e

-- in the prolog, by the state of what is kept
pub next-in-prolog : (k : Kept) (texts : List (ℕ × Text)) (ended : Bool) (I : Input) (more : Text) (h : History) (answer : Result Piece Reason)
    → Stands k texts I more h → MayFollow ended I more → state h ≡ state_in_prolog k → IsDecidedIn I.outside (state_in_prolog k) k texts ended
    → spelled I.outside (state_in_prolog k) (given k texts) ≡ answer → spelled_next forms I h ≡ answer_noted (state_in_prolog k) answer
next-in-prolog k texts ended I more h answer s m same d e =
    spelled-stands-next k texts ended I more h answer s m
    (subst (λ (z : State). IsDecidedIn I.outside z k texts ended) (sym same) d)
    (ap (λ z. spelled I.outside z (given k texts)) same ∙ e)
    ∙ ap (λ z. answer_noted z answer) same

pub refused-stops : RefusedStops
refused-stops k texts ended I more h r s m e x = record {
  goes_on = s.goes_on;
  why = subst (λ (a : Result Piece Reason). StopsAt forms h a r)
      (sym (next-in-prolog k texts ended I more h (Err r) s m (state-in-prolog k texts I more h s e) x.decided x.spelled)) refl;
}
