-- Record ends that are live where they come, and where they then stand.
use Rattle.std.proofs.Common.{◌≡◌, ◌⊎◌, Bool, true, false, List, [], ◌∷◌, ◌++◌, map, None, refl, sym, ap, ◌∙◌, inl, inr, subst}
use Rattle.sgml_theory_full.specs.records.Items.{Item}
use Rattle.sgml_theory_full.specs.records.Facts.{Facts, facts, takes_end}
use Rattle.sgml_theory_full.specs.theory_reading.Names.{Name}
use Rattle.sgml_theory_full.specs.theory_reading.Pieces.{Piece, Kind, SubsetEnd, Start, Re, ShortRef, History}
use Rattle.sgml_theory_full.specs.theory_reading.Facets.{token, effect}
use Rattle.sgml_theory_full.specs.theory_reading.Nest.{Open, nest, without_first}
use Rattle.sgml_theory_full.specs.theory_reading.Context.{Context, context}
use Rattle.sgml_theory_full.specs.theory_reading.Omission.{leaves, omitted_end}
use Rattle.sgml_theory_full.specs.theory_reading.Runs.{LongestRun, after_run}
use Rattle.sgml_theory_full.specs.theory_reading.Unread.{Input}
use Rattle.sgml_theory_full.specs.theory_reading.State.{State, state, record_ends, facts_of_open}
use Rattle.sgml_theory_full.specs.theory_reading.Characters.{facts_in, kind_noted}
use Rattle.sgml_theory_full.specs.theory_reading.Reads.{Move, Reads, judged, moved_on}
use Rattle.sgml_theory_full.specs.theory_spelling.Spelled.{forms}
use Rattle.sgml_theory_again.specs.Moves.{StaysLive, IsProper, EndsProper, ComesDirectly}
use Rattle.sgml_theory_again.specs.Laws.{RecordEndsAreNoted, RecordEndsStayLive}
use Rattle.sgml_theory_again.proofs.Instance.{no-run, spelt}

abbrev live_in : List Facts → Bool
live_in fs = takes_end (facts_in fs)

abbrev live_at : History → Bool
live_at h = live_in (state h).record_ends

-- WHERE IT COMES
same-live : (a b : Bool) → Re a ≡ Re b → a ≡ b
same-live a b e = cc

noted-live : (s : State) (c : Context) (k : Kind) (live : Bool) → judged c (kind_noted s k) ≡ Re live → (kind_noted s k ≡ Re live) × (live ≡ live_in s.record_ends)
unfolding kind_noted
noted-live s c (Re l) live e = (e, sym (same-live (live_in s.record_ends) live e))
noted-live s c (Start n ss how p b) live e = absurd (cc)
noted-live s c (ShortRef string meaning) live e = absurd (cc)
noted-live s c (SubsetEnd reads) live e = absurd (cc)
noted-live s c k live e = absurd (cc)

record Came (h : History) (m : Move) (live : Bool) : Type 0 where
  longest : LongestRun h (Re live) m.omitted
  noted : live ≡ live_at h

came : (I : Input) (h : History) (m : Move) (live : Bool) → Reads forms I h m → m.visible.kind ≡ Re live → Came h m live
came I h m live r is =
    let s = spelt I h m r in
    let n = noted-live (state h) (context (after_run h m.omitted)) s.p.kind live (sym s.visible ∙ is) in
    record { longest = subst (λ (k : Kind). LongestRun h k m.omitted) n.0 s.longest; noted = n.1 }

live-alone : (h : History) (m : Move) (live : Bool) → Came h m live → m.omitted ≡ [] → live ≡ live_at (after_run h m.omitted)
live-alone h m live c none = c.noted ∙ ap (λ (os : List Piece). live_at (after_run h os)) (sym none)

-- no tag is left out before one that isn't live
record-end-token : token (Re false) ≡ None
unfolding token
record-end-token = refl

record-end-leaves : (c : Context) → leaves c (Re false) ≡ false
unfolding leaves token
record-end-leaves c = refl

ignored-alone : (h : History) (m : Move) → Came h m false → m.omitted ≡ []
ignored-alone h m c = no-run h (Re false) m.omitted record-end-token (record-end-leaves (context h)) c.longest

pub read-record-end : RecordEndsAreNoted
read-record-end I h m true r is stays = sym (stays is)
read-record-end I h m false r is stays =
    let c = came I h m false r is in
    live-alone h m false c (ignored-alone h m c)

-- BEHIND THE END of a proper subelement
around-live : (os : List Open) → IsProper os → live_in (map facts_of_open (without_first os)) ≡ true
unfolding facts
around-live [] a = absurd a
around-live (o ∷ []) a = absurd a
around-live (o ∷ p ∷ os) a = subst (λ (is : List Item). takes_end (facts is) ≡ true) (sym a.1) refl

ended-live : (h : History) (n : Name) → IsProper (nest h) → live_at (omitted_end n ∷ h) ≡ true
unfolding state record_ends nest effect
ended-live h n a = around-live (nest h) a

run-then : (h : History) (os : List Piece) (o : Piece) → after_run h (os ++ (o ∷ [])) ≡ o ∷ after_run h os
run-then h [] o = refl
run-then h (p ∷ os) o = run-then (p ∷ h) os o

ends-live : (h : History) (os : List Piece) → EndsProper h os → live_at (after_run h os) ≡ true
ends-live h os e =
    let is = ap (λ (qs : List Piece). after_run h qs) e.parts ∙ run-then h e.before (omitted_end e.element) in
    subst (λ (k : History). live_at k ≡ true) (sym is) (ended-live (after_run h e.before) e.element e.proper)

-- EACH that comes directly stays live
stays-live : (I : Input) (h : History) (m : Move) → Reads forms I h m → ComesDirectly h m → StaysLive h m
stays-live I h m r comes is = by (comes is)
  where
    by : (m.omitted ≡ []) ⊎ EndsProper h m.omitted → live_at (after_run h m.omitted) ≡ true
    by (inl none) = sym (live-alone h m true (came I h m true r is) none)
    by (inr e) = ends-live h m.omitted e

pub record-ends-stay-live : RecordEndsStayLive
record-ends-stay-live I h [] r comes = tt
record-ends-stay-live I h (m ∷ ns) r comes = (stays-live I h m r.0 comes.0, record-ends-stay-live I (moved_on h m) ns r.1 comes.1)
