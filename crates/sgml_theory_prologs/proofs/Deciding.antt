-- Each piece of a prolog is decided by the bytes of the prolog.
use Rattle.std.proofs.Common.{◌≡◌, ℕ, ◌≤◌, inl, inr, Bool, true, false, not, ◌&&◌, ◌||◌, List, [], ◌∷◌, Result, Ok, length, refl, sym, ap, ◌∙◌, subst, if◌then◌else◌, arith, length-append}
use Rattle.sgml_io.specs.text.declared.reason.Reason.{Reason}
use Rattle.sgml_theory_standing.specs.theory_reading.Names.{Text}
use Rattle.sgml_theory_standing.specs.theory_reading.Pieces.{Piece, Kind, Start, Re, ShortRef, Sgml, Head, Declare, SubsetEnd, Sep, Ref, EntityEnd, SectionStart, SectionEnd, Skipped, Pi, Comment, History}
use Rattle.sgml_theory_standing.specs.theory_reading.Facets.{Stage, BeforeSyntax, AtBeginning, BeforeDoctype, InSubset, AfterSubset, stage_after}
use Rattle.sgml_theory_standing.specs.theory_reading.Context.{Context, context}
use Rattle.sgml_theory_standing.specs.theory_reading.State.{State, state, stage}
use Rattle.sgml_theory_standing.specs.theory_reading.Characters.{kind_noted, piece_noted}
use Rattle.sgml_theory_standing.specs.theory_reading.Unread.{Outside, Input, Rest, standing, rests, spent}
use Rattle.sgml_theory_standing.specs.theory_reading.Reads.{Move, MovesTo, Reads, ReadDecided, IsDecided, judged, answer_noted, unless_undecided, spelled_next, moved_on, after_moves, with_more, length_of_first, is_after_subset}
use Rattle.sgml_theory_standing.specs.theory_spelling.Stacked.{Stacked, stacked}
use Rattle.sgml_theory_standing.specs.theory_spelling.Places.{in_doctype}
use Rattle.sgml_theory_standing.specs.theory_spelling.Prolog.{in_document}
use Rattle.sgml_theory_standing.specs.theory_spelling.Decided.{decided_bytes, decided_of, decided}
use Rattle.sgml_theory_standing.specs.theory_spelling.Spelled.{spelled_in, spelled, forms}
use Rattle.sgml_theory_standing.proofs.theory_spelling.Decides.{decides}
use Rattle.sgml_theory_standing.proofs.theory_spelling.Taken.{takes-its-bytes}
use Rattle.sgml_theory_prologs.specs.Names.{HasReferenceNames}
use Rattle.sgml_theory_prologs.specs.Prologs.{is_sgml, reads_sgml}
use Rattle.sgml_theory_prologs.proofs.Recognised.{never}
use Rattle.sgml_theory_prologs.proofs.PieceKinds.{is_first, is_before, InType, KindAt, entities_of}
use Rattle.sgml_theory_prologs.proofs.Shapes.{Inner, inner-doctype, inner-end}
use Rattle.sgml_theory_prologs.proofs.Local.{is_last, Lies, Modes, local-decided}
use Rattle.sgml_theory_prologs.proofs.Steps.{Stands, inner, Step, step-of, FromDocument, FromOther, Taken, step-taken, left_of, document-left}
use Rattle.sgml_theory_prologs.proofs.Coming.{ToBorder, moved-stands, all-less, more-left, document-some, document-is-top, document-alone, document-spelled, end-left, ModeIs, of_type, of_ignored, mode-is, mode-type, mode-ignored}
use Rattle.sgml_theory_prologs.proofs.Longer.{Longer, longer-next, longer-standing, Lie, entities-more, Alone, alone, other-first}

-- WHERE THE DOCUMENT IS AT THE TOP its part of the prolog isn't over

pub document-before : (g : Stage) (es : List ℕ) → Inner g es → in_document es ≡ true → is_after_subset g ≡ false
document-before BeforeSyntax es i e = refl
document-before AtBeginning es i e = refl
document-before BeforeDoctype es i e = refl
document-before InSubset es i e = refl
document-before AfterSubset es i e = never (in_document es) e (inner-end AfterSubset es i)

-- nor is it after a piece that doesn't end it
first-not-last : (k : Kind) (g : Stage) → is_first k ≡ true → is_after_subset g ≡ false → is_last k ≡ false → is_after_subset (stage_after k g) ≡ false
unfolding stage_after
first-not-last (Sgml syntax) BeforeSyntax e f l = refl
first-not-last (Sgml syntax) AtBeginning e f l = refl
first-not-last (Sgml syntax) BeforeDoctype e f l = refl
first-not-last (Sgml syntax) InSubset e f l = refl
first-not-last (Sgml syntax) AfterSubset e f l = f
first-not-last (Sep b) g e f l = f
first-not-last (Head head base) g e f l = never true refl l
first-not-last (Pi text n) BeforeSyntax e f l = refl
first-not-last (Pi text n) AtBeginning e f l = refl
first-not-last (Pi text n) BeforeDoctype e f l = refl
first-not-last (Pi text n) InSubset e f l = refl
first-not-last (Pi text n) AfterSubset e f l = f
first-not-last Comment BeforeSyntax e f l = refl
first-not-last Comment AtBeginning e f l = refl
first-not-last Comment BeforeDoctype e f l = refl
first-not-last Comment InSubset e f l = refl
first-not-last Comment AfterSubset e f l = f
first-not-last _ g e f l = never false e refl

before-is-first : (k : Kind) → is_before k ≡ true → is_first k ≡ true
before-is-first (Sgml syntax) e = refl
before-is-first _ e = e

in-not-last : (s : State) (es : List ℕ) (k : Kind) → InType s es k → is_last k ≡ false → is_after_subset (stage_after k InSubset) ≡ false
unfolding stage_after
in-not-last s es (Declare lexemes says base) h l = refl
in-not-last s es (SubsetEnd reads) h l = never true refl l
in-not-last s es (Sep b) h l = refl
in-not-last s es (Ref n) h l = refl
in-not-last s es EntityEnd h l = refl
in-not-last s es (SectionStart st) h l = refl
in-not-last s es SectionEnd h l = refl
in-not-last s es (Skipped b) h l = refl
in-not-last s es (Pi text n) h l = refl
in-not-last s es Comment h l = refl
in-not-last s es _ h l = absurd h

pub not-last : (g : Stage) (s : State) (es : List ℕ) (k : Kind) → KindAt g s es k → is_after_subset g ≡ false → is_last k ≡ false → is_after_subset (stage_after k g) ≡ false
not-last BeforeSyntax s es k h f l = first-not-last k BeforeSyntax (before-is-first k h) f l
not-last AtBeginning s es k h f l = first-not-last k AtBeginning h f l
not-last BeforeDoctype s es k h f l = first-not-last k BeforeDoctype (before-is-first k h) f l
not-last InSubset s es k h f l = in-not-last s es k h l
not-last AfterSubset s es k h f l = never true refl f

pub noted-last : (c : Context) (s : State) (k : Kind) → is_last (judged c (kind_noted s k)) ≡ is_last k
unfolding kind_noted
noted-last c s (Start n specifications how proper at_once) = refl
noted-last c s (Re live) = refl
noted-last c s (ShortRef string meaning) = refl
noted-last c s (SubsetEnd reads) = refl
noted-last c s _ = refl

-- THE PIECE LIES in what is left of the prolog

pub record InFront (K : Input) (more : Text) (h : History) (m : Move) (I : Input) : Type 0 where
  pub x : Step I h m
  pub y : FromDocument I h m.visible
  pub z : Alone more (rests K h) y.rest.bytes

pub lies : (K : Input) (more : Text) (cut : Bool) (h : History) (m : Move) (ms : List Move) → Stands (with_more K more cut) h → ToBorder (with_more K more cut) h (m ∷ ms)
    → left_of (with_more K more cut) (after_moves (moved_on h m) ms) ≡ length more → (f : InFront K more h m (with_more K more cut)) → Lies f.x.piece (length f.z.front)
unfolding stage
lies K more cut h m ms s t e f =
    let I = with_more K more cut in
    let top = document-is-top I h m.visible f.y in
    let left = document-left I h m.visible f.y in
    let size = length-append f.z.front more in
    let bytes = ap length f.z.bytes_are in
    let same : left_of I (moved_on h m) ≡ left_of I (m.visible ∷ h) = ap (left_of I) f.x.moved in
    let later = all-less I (moved_on h m) ms (moved-stands I h m s t.0 t.1) t.2 in
    record {
      some = document-some I h m f.x top;
      within = omega (arith, left.0, left.1, size, bytes, same, later, e, f.y.within, f.x.size_is);
      strict = λ l.
          let last : is_last m.visible.kind ≡ false = ap is_last f.x.kind_is ∙ (noted-last (context h) (state h) f.x.piece.kind ∙ l) in
          let before = document-before (stage h) (entities_of (rests I h)) (inner I h s t.0) top in
          let over : is_after_subset (stage (moved_on h m)) ≡ false =
          ap (λ k. is_after_subset (stage k)) f.x.moved ∙ not-last (stage h) (state h) (entities_of (rests I h)) m.visible.kind f.x.kind_at before last in
          let low = more-left I (moved_on h m) ms (moved-stands I h m s t.0 t.1) t.2 over in
          omega (arith, left.0, left.1, size, bytes, same, low, e, f.y.within, f.x.size_is);
    }

-- THE MODE there
pub modes : (K : Input) (more : Text) (cut : Bool) (h : History) (m : Move) (ms : List Move) → Stands (with_more K more cut) h → ToBorder (with_more K more cut) h (m ∷ ms)
    → left_of (with_more K more cut) (after_moves (moved_on h m) ms) ≡ length more → (f : InFront K more h m (with_more K more cut)) → in_doctype (stage h) (0 ∷ []) ≡ true
    → ModeIs (with_more K more cut) h → Modes (state h) (record { entities = 0 ∷ []; spent = spent K.outside h }) (length f.z.front)
unfolding state
modes K more cut h m ms s t e f d (of_type g) = inl (mode-type (state h) (0 ∷ []) g d)
modes K more cut h m ms s t e f d (of_ignored g) =
    let I = with_more K more cut in
    let left = document-left I h m.visible f.y in
    let size = length-append f.z.front more in
    let bytes = ap length f.z.bytes_are in
    let low = end-left I h (m ∷ ms) s t g in
    inr (mode-ignored (state h) (0 ∷ []) g.ignored, g.in_subset, omega (arith, left.0, size, bytes, low, e))

noted-sgml : (c : Context) (s : State) (k : Kind) → is_sgml (judged c (kind_noted s k)) ≡ is_sgml k
unfolding kind_noted
noted-sgml c s (Start n specifications how proper at_once) = refl
noted-sgml c s (Re live) = refl
noted-sgml c s (ShortRef string meaning) = refl
noted-sgml c s (SubsetEnd reads) = refl
noted-sgml c s _ = refl

-- the names of a syntax, where an SGML declaration is read
abbrev Named : Outside → Bool → Type 0
Named outside is_declared = is_declared ≡ true → HasReferenceNames outside.syntax.names

names-of : (I : Input) (h : History) (m : Move) (x : Step I h m) → Stands I h → Named I.outside (is_sgml m.visible.kind) → (state h).stage ≡ AtBeginning → is_sgml x.piece.kind ≡ true → HasReferenceNames (state h).context.doctype.syntax.names
unfolding state context
names-of I h m x s has e f =
    subst (λ z. HasReferenceNames z.names) (sym (s.syntax_is e)) (has (ap is_sgml x.kind_is ∙ (noted-sgml (context h) (state h) x.piece.kind ∙ f)))

-- IT IS DECIDED

front-decided : (K : Input) (more : Text) (cut : Bool) (h : History) (m : Move) (ms : List Move) → Named K.outside (is_sgml m.visible.kind) → Stands (with_more K more cut) h → ToBorder (with_more K more cut) h (m ∷ ms)
    → left_of (with_more K more cut) (after_moves (moved_on h m) ms) ≡ length more → (f : InFront K more h m (with_more K more cut)) → decided K.outside (state h) (standing K h) ≡ true
unfolding decided state
front-decided K more cut h m ms has s t e f =
    let I = with_more K more cut in
    let u : Stacked = record { entities = 0 ∷ []; spent = spent K.outside h } in
    let top = document-is-top I h m.visible f.y in
    let i = inner I h s t.0 in
    let before = document-before (stage h) (entities_of (rests I h)) i top in
    let d : in_doctype (stage h) (0 ∷ []) ≡ true = sym (ap (in_doctype (stage h)) (ap entities_of (document-alone I h m.visible f.y))) ∙ inner-doctype (stage h) (entities_of (rests I h)) i in
    let there = sym (ap (λ z. spelled_in K.outside (state h) u 0 z) f.z.bytes_are) ∙ document-spelled I h m.visible f.x.piece f.y f.x.spelled_is in
    ap (λ rs. decided_of (state h) (stacked (record { rests = rs; spent = spent K.outside h })) rs) f.z.is
    ∙ local-decided K.outside (state h) u f.z.front more f.x.piece before d
    (modes K more cut h m ms s t e f d (mode-is I h s before top)) (names-of I h m f.x s has) (lies K more cut h m ms s t e f) there

pub other-decided : (s : State) (t : _) (rs : List Rest) → in_document (entities_of rs) ≡ false → decided_of s t rs ≡ true
other-decided s t [] e = refl
other-decided s t (r ∷ rs) e = ap (λ u. if u then decided_bytes s t r.bytes else true) e

-- AND READS in the document that is cut behind the prolog

decided-answer : (b d : Bool) (x : Result Piece Reason) → d ≡ true → unless_undecided (b && not d) x ≡ x
decided-answer true true x e = refl
decided-answer false true x e = refl
decided-answer b false x e = never false e refl

record ReadsThere (K : Input) (h : History) (m : Move) : Type 0 where
  decided : IsDecided forms K h
  reads : Reads forms K h m
  moved : moved_on h m ≡ m.visible ∷ h
  within : m.visible.size ≤ length_of_first (rests K h)

reads-there : (K : Input) (more : Text) (cut : Bool) (h : History) (m : Move) → Longer K more cut h → Reads forms (with_more K more cut) h m → (x : Step (with_more K more cut) h m)
    → decided K.outside (state h) (standing K h) ≡ true → m.visible.size ≤ length_of_first (rests K h) → ReadsThere K h m
reads-there K more cut h m l r x d w =
    let same : spelled K.outside (state h) (standing K h) ≡ Ok x.piece =
    sym (decides.same K.outside (state h) (standing K h) more d) ∙ (sym (ap (spelled K.outside (state h)) (longer-standing K more cut h l)) ∙ x.spelled_is) in
    let next : spelled_next forms K h ≡ Ok (piece_noted (state h) x.piece) =
    decided-answer K.was_cut (decided K.outside (state h) (standing K h)) (answer_noted (state h) (spelled K.outside (state h) (standing K h))) d ∙ ap (answer_noted (state h)) same in
    record {
      decided = d;
      reads = record { goes_on = r.goes_on; moves = subst (λ z. MovesTo forms h z m) (sym next) x.moves };
      moved = x.moved;
      within = w;
    }

document-there : (K : Input) (more : Text) (cut : Bool) (h : History) (m : Move) (ms : List Move) → Named K.outside (is_sgml m.visible.kind) → Longer K more cut h → Stands (with_more K more cut) h
    → ToBorder (with_more K more cut) h (m ∷ ms) → left_of (with_more K more cut) (after_moves (moved_on h m) ms) ≡ length more → Step (with_more K more cut) h m → FromDocument (with_more K more cut) h m.visible → ReadsThere K h m
document-there K more cut h m ms has l s t e x y =
    let I = with_more K more cut in
    let f : InFront K more h m I = record { x = x; y = y; z = alone more (rests K h) y.rest.bytes (sym l ∙ document-alone I h m.visible y) } in
    let low = (lies K more cut h m ms s t e f).within in
    let first : length_of_first (rests K h) ≡ length f.z.front = ap length_of_first f.z.is in
    reads-there K more cut h m l t.1 x (front-decided K more cut h m ms has s t e f) (omega (arith, low, first, x.size_is))

other-there : (K : Input) (more : Text) (cut : Bool) (h : History) (m : Move) → Longer K more cut h → Reads forms (with_more K more cut) h m → Step (with_more K more cut) h m → FromOther (with_more K more cut) h m.visible
    → ReadsThere K h m
unfolding decided
other-there K more cut h m l r x y =
    let I = with_more K more cut in
    let same : entities_of (rests I h) ≡ entities_of (rests K h) = ap entities_of l ∙ entities-more more (rests K h) in
    let other : in_document (entities_of (rests K h)) ≡ false = sym (ap in_document same) ∙ y.other in
    let low = (takes-its-bytes I.outside (state h) (standing I h) x.piece x.spelled_is).within in
    let first : length_of_first (rests I h) ≡ length_of_first (rests K h) = ap length_of_first l ∙ other-first more (rests K h) other in
    reads-there K more cut h m l r x (other-decided (state h) (stacked (standing K h)) (rests K h) other) (omega (arith, low, first, x.size_is))

taken-there : (K : Input) (more : Text) (cut : Bool) (h : History) (m : Move) (ms : List Move) → Named K.outside (is_sgml m.visible.kind) → Longer K more cut h → Stands (with_more K more cut) h
    → ToBorder (with_more K more cut) h (m ∷ ms) → left_of (with_more K more cut) (after_moves (moved_on h m) ms) ≡ length more → Step (with_more K more cut) h m → Taken (with_more K more cut) h m.visible → ReadsThere K h m
taken-there K more cut h m ms has l s t e x (inl y) = document-there K more cut h m ms has l s t e x y
taken-there K more cut h m ms has l s t e x (inr y) = other-there K more cut h m l t.1 x y

or-true : (t : Bool) → (t || true) ≡ true
or-true true = refl
or-true false = refl

-- ALL OF THEM
pub all-decided : (K : Input) (more : Text) (cut : Bool) (h : History) (ms : List Move) → Named K.outside (reads_sgml ms) → Longer K more cut h → Stands (with_more K more cut) h
    → ToBorder (with_more K more cut) h ms → left_of (with_more K more cut) (after_moves h ms) ≡ length more → ReadDecided forms K h ms × Lie K h ms
all-decided K more cut h [] has l s t e = (tt, tt)
all-decided K more cut h (m ∷ ms) has l s t e =
    let I = with_more K more cut in
    let x = step-of I h m s t.0 t.1 in
    let there = taken-there K more cut h m ms (λ g. has (ap (λ u. u || reads_sgml ms) g)) l s t e x (step-taken I h m s t.0 x) in
    let on : Longer K more cut (moved_on h m) = subst (Longer K more cut) (sym there.moved) (longer-next K more cut m.visible h there.within l) in
    let rest = all-decided K more cut (moved_on h m) ms (λ g. has (ap (λ u. is_sgml m.visible.kind || u) g ∙ or-true (is_sgml m.visible.kind))) on (moved-stands I h m s t.0 t.1) t.2 e in
    ((there.decided, there.reads, rest.0), (there.moved, there.within, rest.1))
