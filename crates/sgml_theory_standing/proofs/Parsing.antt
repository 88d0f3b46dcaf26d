-- What is kept after a move stands for what was read with it, and where reading stops.
use Rattle.std.specs.Prelude.{◌≡◌, ◌&&◌, ◌==◌, Bool, true, false, List, [], ◌∷◌, Result, Ok, Err, length}
use Rattle.std.proofs.Common.{refl, sym, ap, ◌∙◌, subst}
use Rattle.sgml_theory_spelling.proofs.scan.Runs.{apart}
use Rattle.sgml_theory_spelling.specs.text.declared.reason.Reason.{Reason}
use Rattle.sgml_theory_spelling.specs.theory_reading.Pieces.{Piece, Kind, Start, End, Char, Data, DataRef, Re, Rs, Sep, ShortRef, Ref, EntityEnd, SectionStart, SectionEnd, Skipped, Pi, Comment, UseMap, History}
use Rattle.sgml_theory_spelling.specs.theory_reading.Facets.{Stage, AfterSubset, is_finish, stage_after}
use Rattle.sgml_theory_spelling.specs.theory_reading.Runs.{LongestRun, after_run}
use Rattle.sgml_theory_spelling.specs.theory_reading.Unread.{Outside}
use Rattle.sgml_theory_spelling.specs.theory_reading.State.{State, state, after_piece}
use Rattle.sgml_theory_spelling.specs.theory_reading.Reads.{Move, MovesTo, moved_on, StopsAt, spelled_next, answer_noted, is_after_subset}
use Rattle.sgml_theory_spelling.proofs.theory_reading.Steps.{state-step}
use Rattle.sgml_theory_spelling.specs.Spelled.{spelled, forms}
use Rattle.sgml_theory_standing.specs.Kept.{Kept, Stands, given, kept_after}
use Rattle.sgml_theory_standing.specs.Prologs.{state_in_prolog}
use Rattle.sgml_theory_standing.specs.Next.{IsDecidedIn, after}
use Rattle.sgml_theory_standing.proofs.First.{says_doctype}
use Rattle.sgml_theory_standing.proofs.Prologs.{state-in-prolog}
use Rattle.sgml_theory_standing.proofs.Given.{spelled-stands-next}
use Rattle.sgml_theory_standing.proofs.Standing.{read-one, keeps-on, stands-keeps, keeps-stands}
use Rattle.sgml_theory_standing.specs.Held.{is_of_content, state_after_run, state_after}
use Rattle.sgml_theory_standing.specs.ContentLaws.{ContentBegins, SpelledIsNext, MoveReads, MoveParses, UnspelledStops, RefusedStops}
use Rattle.sgml_theory_standing.proofs.Omitted.{keeps-run}

-- CONTENT BEGINS

after-subset : (g : Stage) (b : Bool) → (is_after_subset g && b) ≡ true → g ≡ AfterSubset
after-subset AfterSubset b e = refl
after-subset _ b e = apart false e refl

pub content-begins-so : ContentBegins
unfolding state_in_prolog
content-begins-so k texts I more h s p over = record {
  stands = s;
  state_is = state-in-prolog k texts I more h s p;
  in_content = after-subset k.stage (length k.stack.places == 1) over;
}

-- WHAT STANDS NEXT

pub spelled-is-next : SpelledIsNext
spelled-is-next x texts ended I more h answer s m e =
    spelled-stands-next x.kept texts ended I more h answer s.stands m
    (subst (λ (z : State). IsDecidedIn I.outside z x.kept texts ended) (sym s.state_is) e.decided)
    (ap (λ z. spelled I.outside z (given x.kept texts)) s.state_is ∙ e.spelled)
    ∙ ap (λ z. answer_noted z answer) s.state_is

pub move-reads : MoveReads
move-reads x texts ended I more h p m s f e t = record {
  goes_on = s.stands.goes_on;
  moves = subst (λ (r : Result Piece Reason). MovesTo forms h r m) (sym (spelled-is-next x texts ended I more h (Ok p) s f e)) t;
}

pub unspelled-stops : UnspelledStops
unspelled-stops x texts ended I more h r s f e = record {
  goes_on = s.stands.goes_on;
  why = subst (λ (a : Result Piece Reason). StopsAt forms h a r) (sym (spelled-is-next x texts ended I more h (Err r) s f e)) refl;
}

pub refused-stops : RefusedStops
refused-stops x texts ended I more h p os r s f e longest why = record {
  goes_on = s.stands.goes_on;
  why = subst (λ (a : Result Piece Reason). StopsAt forms h a r) (sym (spelled-is-next x texts ended I more h (Ok p) s f e)) (os, longest, why);
}

-- AFTER A MOVE

pub record IsPlain (x : Kind) : Type 0 where
  pub says_none : says_doctype x ≡ false
  pub no_finish : is_finish x ≡ false
  pub stays : stage_after x AfterSubset ≡ AfterSubset

pub plain : (x : Kind) → is_of_content x ≡ true → IsPlain x
unfolding is_finish stage_after
plain (Start n specifications how proper at_once) e = record { says_none = refl; no_finish = refl; stays = refl }
plain (End n how) e = record { says_none = refl; no_finish = refl; stays = refl }
plain (Char byte) e = record { says_none = refl; no_finish = refl; stays = refl }
plain (Data entity) e = record { says_none = refl; no_finish = refl; stays = refl }
plain (DataRef entity) e = record { says_none = refl; no_finish = refl; stays = refl }
plain (Re live) e = record { says_none = refl; no_finish = refl; stays = refl }
plain Rs e = record { says_none = refl; no_finish = refl; stays = refl }
plain (Sep byte) e = record { says_none = refl; no_finish = refl; stays = refl }
plain (ShortRef string meaning) e = record { says_none = refl; no_finish = refl; stays = refl }
plain (Ref entity) e = record { says_none = refl; no_finish = refl; stays = refl }
plain EntityEnd e = record { says_none = refl; no_finish = refl; stays = refl }
plain (SectionStart status) e = record { says_none = refl; no_finish = refl; stays = refl }
plain SectionEnd e = record { says_none = refl; no_finish = refl; stays = refl }
plain (Skipped byte) e = record { says_none = refl; no_finish = refl; stays = refl }
plain (Pi text entity) e = record { says_none = refl; no_finish = refl; stays = refl }
plain Comment e = record { says_none = refl; no_finish = refl; stays = refl }
plain (UseMap map) e = record { says_none = refl; no_finish = refl; stays = refl }
plain _ e = apart false e refl

pub longest-of : (h : History) (a : Result Piece Reason) (m : Move) → MovesTo forms h a m → (x : Kind) × LongestRun h x m.omitted
longest-of h (Ok p) m t = (p.kind, t.longest)
longest-of h (Err r) m t = absurd t

pub state-run : (h : History) (os : List Piece) → state (after_run h os) ≡ state_after_run os (state h)
state-run h [] = refl
state-run h (o ∷ os) = state-run (o ∷ h) os ∙ ap (state_after_run os) (state-step o h)

pub state-move : (h : History) (m : Move) → state (moved_on h m) ≡ state_after m (state h)
state-move h m = state-step m.visible (after_run h m.omitted) ∙ ap (after_piece m.visible) (state-run h m.omitted)

pub stage-kept : (outside : Outside) (k : Kept) (p : Piece) → is_of_content p.kind ≡ true → k.stage ≡ AfterSubset → (after outside p k).stage ≡ AfterSubset
unfolding kept_after
stage-kept outside k p e g = ap (stage_after p.kind) g ∙ (plain p.kind e).stays

pub move-parses : MoveParses
move-parses old new texts I more h m s r e there is =
    let x = longest-of h (spelled_next forms I h) m r.moves in
    let k = old.kept in
    let keeps = keeps-run k texts I more h x.0 m.omitted x.1 s.in_content (stands-keeps k texts I more h s.stands) in
    let on = keeps-on k texts I more (after_run h m.omitted) m.visible keeps (λ says. apart (says_doctype m.visible.kind) says (plain m.visible.kind e).says_none) there in
    record {
      stands = subst (λ (z : Kept). Stands z texts I more (moved_on h m)) (sym is.kept)
          (keeps-stands (after I.outside m.visible k) texts I more (moved_on h m) (read-one I h m s.stands.read r) (plain m.visible.kind e).no_finish on);
      state_is = state-move h m ∙ (ap (state_after m) s.state_is ∙ sym is.state);
      in_content = ap (λ (z : Kept). z.stage) is.kept ∙ stage-kept I.outside k m.visible e s.in_content;
    }
