-- Moves by the state alone are those of what was read.
use Rattle.std.specs.Prelude.{◌≡◌, ℕ, ◌++◌, Bool, true, false, List, [], ◌∷◌, length}
use Rattle.std.specs.Option.{option_or}
use Rattle.std.proofs.Common.{refl, sym, ap, ◌∙◌, subst, inl, inr}
use Rattle.sgml_theory_spelling.proofs.scan.Runs.{apart}
use Rattle.sgml_theory_spelling.specs.theory_reading.Names.{Text}
use Rattle.sgml_theory_spelling.specs.theory_reading.Pieces.{Piece, Kind, Start, Re, ShortRef, Finish, History}
use Rattle.sgml_theory_spelling.specs.theory_reading.Facets.{is_omitted, is_omitted_start, is_finish}
use Rattle.sgml_theory_spelling.specs.theory_reading.Context.{Context, context}
use Rattle.sgml_theory_spelling.specs.theory_reading.Runs.{after_run}
use Rattle.sgml_theory_spelling.specs.theory_reading.Reasons.{reason}
use Rattle.sgml_theory_spelling.specs.theory_reading.Unread.{Input}
use Rattle.sgml_theory_spelling.specs.theory_reading.State.{State, state, after_piece}
use Rattle.sgml_theory_spelling.specs.theory_reading.Characters.{kind_noted, piece_noted}
use Rattle.sgml_theory_spelling.specs.theory_reading.Reads.{Move, Moves, moved_on, Reads, ReadOn, after_moves, judged, judged_piece, undefined, refusal, run_reason, spelled_next, pieces}
use Rattle.sgml_theory_spelling.specs.theory_reading.Events.{events, events_of_run}
use Rattle.sgml_theory_spelling.proofs.theory_reading.Runs.{run-of-history}
use Rattle.sgml_theory_spelling.proofs.theory_reading.Stack.{length-unread}
use Rattle.sgml_theory_spelling.proofs.theory_reading.Steps.{state-step}
use Rattle.sgml_theory_spelling.proofs.theory_reading.Told.{moves-told}
use Rattle.sgml_theory_spelling.specs.Attributes.{unvalued}
use Rattle.sgml_theory_spelling.specs.Spelled.{forms}
use Rattle.sgml_theory_standing.specs.Supplied.{MayFollow}
use Rattle.sgml_theory_standing.specs.Kept.{Kept}
use Rattle.sgml_theory_standing.specs.Next.{after}
use Rattle.sgml_theory_standing.proofs.Standing.{Keeps, read-one, keeps-on, stands-keeps, keeps-stands}
use Rattle.sgml_theory_standing.proofs.First.{says_doctype}
use Rattle.sgml_theory_standing.specs.Held.{Held, state_of, Parses, is_of_content, state_after_run, state_after}
use Rattle.sgml_theory_standing.specs.Moves.{run_unvalued, reason_against, IsMove, held_after, IsNextMove, AreNextMoves}
use Rattle.sgml_theory_standing.specs.ContentLaws.{NextMovesAreRead, EndIsRead, RefusedNextStops}
use Rattle.sgml_theory_standing.proofs.Omitted.{keeps-run}
use Rattle.sgml_theory_standing.proofs.Parsing.{plain, longest-of, state-run, state-move, stage-kept, move-reads, unspelled-stops, refused-stops}

-- BY THE STATE

context-in : (h : History) (s : State) → state h ≡ s → context h ≡ s.context
unfolding state
context-in h s e = ap (λ (z : State). z.context) e

run-in : (h : History) (s : State) (os : List Piece) → state h ≡ s → state (after_run h os) ≡ state_after_run os s
run-in h s os e = state-run h os ∙ ap (state_after_run os) e

unvalued-in : (h : History) (s : State) (os : List Piece) → state h ≡ s → run_reason forms h os ≡ run_unvalued s os
unvalued-in h s [] e = refl
unvalued-in h s (o ∷ os) e = λ i. option_or (unvalued (e i) o.kind) (unvalued-in (o ∷ h) (after_piece o s) os (state-step o h ∙ ap (after_piece o) e) i)

against-in : (h : History) (s : State) (os : List Piece) (p : Piece) → state h ≡ s → refusal forms h os p ≡ reason_against s os p
unfolding refusal
against-in h s os p e = λ i.
    option_or (undefined (context-in h s e i) p.kind)
    (option_or (reason (context-in (after_run h os) (state_after_run os s) (run-in h s os e) i) p.kind)
    (option_or (unvalued-in h s os e i)
    (unvalued (run-in h s os e i) p.kind)))

moves-in : (h : History) (s : State) (p : Piece) (m : Move) → state h ≡ s → IsMove s p m → Moves forms h p m
moves-in h s p m e is = record {
  longest = run-of-history h s.context p.kind m.omitted (context-in h s e) is.longest;
  visible = is.visible ∙ ap (λ (c : Context). judged_piece c p) (sym (context-in (after_run h m.omitted) (state_after_run m.omitted s) (run-in h s m.omitted e)));
  no_reason = against-in h s m.omitted p e ∙ is.no_reason;
}

-- WHAT IS JUDGED of a piece leaves its kind

same-content : (s : State) (c : Context) (x : Kind) → is_of_content (judged c (kind_noted s x)) ≡ is_of_content x
unfolding kind_noted
same-content s c (Start n specifications how proper at_once) = refl
same-content s c (Re live) = refl
same-content s c (ShortRef string meaning) = refl
same-content s c _ = refl

same-written : (s : State) (c : Context) (x : Kind) → is_omitted x ≡ false → is_omitted_start (judged c (kind_noted s x)) ≡ false
unfolding kind_noted is_omitted is_omitted_start
same-written s c (Start n specifications how proper at_once) e = e
same-written s c _ e = refl

-- AFTER A MOVE

texts-in : (k : Kept) (texts : List (ℕ × Text)) (I : Input) (more : Text) (h : History) → Keeps k texts I more h → (state h).texts ≡ length k.stack.places
unfolding state
texts-in k texts I more h s = sym (ap length s.places_are ∙ length-unread h)

state-held : (x : Held) (texts : List (ℕ × Text)) (I : Input) (more : Text) (h : History) (m : Move)
    → state (moved_on h m) ≡ state_after m (state_of x) → is_omitted_start m.visible.kind ≡ false
    → Keeps (after I.outside m.visible x.kept) texts I more (moved_on h m)
    → state (moved_on h m) ≡ state_of (held_after I.outside m x)
unfolding state context
state-held x texts I more h m e o s =
    let types_are = sym s.doctype_is in
    let sections_are = sym s.sections_are in
    let stage_is = sym s.stage_is in
    let subset_is = sym s.subset_is in
    λ i. record {
      context = record {
        doctype = types_are i;
        levels = (e i).context.levels;
        begun = (e i).context.begun;
        inferred = o i;
      };
      record_ends = (e i).record_ends;
      ended = (e i).ended;
      sections = sections_are i;
      texts = texts-in (after I.outside m.visible x.kept) texts I more (moved_on h m) s i;
      map_settings = (e i).map_settings;
      currents = (e i).currents;
      stage = stage_is i;
      subset = subset_is i;
    }

-- one move reads, and what is kept after it stands for what was read with it
record IsOneRead (x : Held) (texts : List (ℕ × Text)) (I : Input) (more : Text) (h : History) (m : Move) : Type 0 where
  reads : Reads forms I h m
  parses : Parses (held_after I.outside m x) texts I more (moved_on h m)

one-read : (x : Held) (texts : List (ℕ × Text)) (ended : Bool) (I : Input) (more : Text) (h : History) (m : Move)
    → Parses x texts I more h → MayFollow ended I more → IsNextMove I.outside x texts ended m → IsOneRead x texts I more h m
one-read x texts ended I more h m s f is =
    let reads = move-reads x texts ended I more h is.piece m s f is.spelled (moves-in h (state_of x) (piece_noted (state_of x) is.piece) m s.state_is is.moves) in
    let c = (state_after_run m.omitted (state_of x)).context in
    let of_content = ap (λ (p : Piece). is_of_content p.kind) is.moves.visible ∙ (same-content (state_of x) c is.piece.kind ∙ is.of_content) in
    let written = ap (λ (p : Piece). is_omitted_start p.kind) is.moves.visible ∙ same-written (state_of x) c is.piece.kind is.written in
    let l = longest-of h (spelled_next forms I h) m reads.moves in
    let keeps = keeps-run x.kept texts I more h l.0 m.omitted l.1 s.in_content (stands-keeps x.kept texts I more h s.stands) in
    let on = keeps-on x.kept texts I more (after_run h m.omitted) m.visible keeps (λ says. apart (says_doctype m.visible.kind) says (plain m.visible.kind of_content).says_none) is.there in
    record {
      reads = reads;
      parses = record {
        stands = keeps-stands (after I.outside m.visible x.kept) texts I more (moved_on h m) (read-one I h m s.stands.read reads) (plain m.visible.kind of_content).no_finish on;
        state_is = state-held x texts I more h m (state-move h m ∙ ap (state_after m) s.state_is) written on;
        in_content = stage-kept I.outside x.kept m.visible of_content s.in_content;
      };
    }

record AreAllRead (new : Held) (texts : List (ℕ × Text)) (I : Input) (more : Text) (h : History) (ms : List Move) : Type 0 where
  read : ReadOn forms I h ms
  parses : Parses new texts I more (after_moves h ms)

all-read : (x new : Held) (texts : List (ℕ × Text)) (ended : Bool) (I : Input) (more : Text) (h : History) (ms : List Move)
    → Parses x texts I more h → MayFollow ended I more → AreNextMoves I.outside x texts ended ms new → AreAllRead new texts I more h ms
all-read x new texts ended I more h [] s f is = record { read = tt; parses = subst (λ (y : Held). Parses y texts I more h) (sym is) s }
all-read x new texts ended I more h (m ∷ ms) s f is =
    let one = one-read x texts ended I more h m s f is.0 in
    let rest = all-read (held_after I.outside m x) new texts ended I more (moved_on h m) ms one.parses f is.1 in
    record { read = (one.reads, rest.read); parses = rest.parses }

pub next-moves-are-read : NextMovesAreRead
next-moves-are-read x new texts ended I more h ms s f is =
    let all = all-read x new texts ended I more h ms s f is in record {
      read = all.read;
      parses = all.parses;
      told = moves-told forms h ms ∙ ap (λ (z : State). events forms h ++ events_of_run forms z (pieces ms)) s.state_is;
    }

-- THE END

noted-finish : (s : State) (c : Context) (x : Kind) → x ≡ Finish → is_finish (judged c (kind_noted s x)) ≡ true
unfolding kind_noted is_finish
noted-finish s c x e = ap (λ z. is_finish (judged c (kind_noted s z))) e

pub end-is-read : EndIsRead
end-is-read x texts ended I more h m s f is =
    let reads = move-reads x texts ended I more h is.piece m s f is.spelled (moves-in h (state_of x) (piece_noted (state_of x) is.piece) m s.state_is is.moves) in
    record {
      reads = reads;
      ends = ap (λ (p : Piece). is_finish p.kind) is.moves.visible ∙ noted-finish (state_of x) (state_after_run m.omitted (state_of x)).context is.piece.kind is.finishes;
      told = moves-told forms h (m ∷ []) ∙ ap (λ (z : State). events forms h ++ events_of_run forms z (pieces (m ∷ []))) s.state_is;
    }

-- WHERE READING STOPS

pub refused-next-stops : RefusedNextStops
refused-next-stops x texts ended I more h r s f (inl e) = unspelled-stops x texts ended I more h r s f e
refused-next-stops x texts ended I more h r s f (inr e) =
    let p = piece_noted (state_of x) e.0 in
    refused-stops x texts ended I more h e.0 e.2.0 r s f e.1
    (run-of-history h (state_of x).context p.kind e.2.0 (context-in h (state_of x) s.state_is) e.2.1)
    (against-in h (state_of x) e.2.0 p s.state_is ∙ e.2.2)
