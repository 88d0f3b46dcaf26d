-- What is still to be read of the document's text, up to the border.
use Rattle.std.proofs.Common.{◌≡◌, ℕ, ◌≤◌, ◌<◌, ◌+◌, ◌⊎◌, inl, inr, Bool, true, false, ◌&&◌, ◌||◌, ◌==◌, List, [], ◌∷◌, None, Some, Ok, unwrap_or, length, refl, sym, ap, ◌∙◌, subst, if◌then◌else◌, arith}
use Rattle.sgml_theory_standing.specs.delim.declared.delim.Mode.TheVariants as mode
use Rattle.sgml_theory_standing.specs.marked.declared.status.Status.{Status}
use Rattle.sgml_theory_standing.specs.marked.declared.status.Status.TheVariants as status
use Rattle.sgml_theory_standing.specs.marked.declared.sections.Section.{Section}
use Rattle.sgml_theory_standing.specs.theory_reading.Pieces.{Piece, Kind, Sgml, Head, Declare, SubsetEnd, Sep, Ref, EntityEnd, SectionStart, SectionEnd, Skipped, Pi, Comment, History}
use Rattle.sgml_theory_standing.specs.theory_reading.Facets.{turn, border, Stage, BeforeSyntax, AtBeginning, BeforeDoctype, InSubset, AfterSubset, stage_after}
use Rattle.sgml_theory_standing.specs.theory_reading.Context.{Context, context}
use Rattle.sgml_theory_standing.specs.theory_reading.Runs.{after_run}
use Rattle.sgml_theory_standing.specs.theory_reading.Sections.{sections, sections_after}
use Rattle.sgml_theory_standing.specs.theory_reading.State.{State, state, stage}
use Rattle.sgml_theory_standing.specs.theory_reading.Characters.{kind_noted}
use Rattle.sgml_theory_standing.specs.theory_reading.Unread.{Input, standing, texts, rests, spent}
use Rattle.sgml_theory_standing.specs.theory_reading.Reads.{Move, Reads, ReadOn, judged, moved_on, after_moves, is_after_subset, is_border, has_border, had_border}
use Rattle.sgml_theory_standing.specs.theory_spelling.Places.{mode_of_status, section_mode, in_doctype, element_mode, mode_at}
use Rattle.sgml_theory_standing.specs.theory_spelling.Content.{is_data_status}
use Rattle.sgml_theory_standing.specs.theory_spelling.Prolog.{in_document}
use Rattle.sgml_theory_standing.specs.theory_spelling.Spelled.{spelled_in, spelled, forms}
use Rattle.sgml_theory_standing.specs.theory_spelling.Taken.{is_text_end}
use Rattle.sgml_theory_standing.proofs.theory_spelling.Taken.{takes-its-bytes}
use Rattle.sgml_theory_prologs.proofs.Recognised.{never}
use Rattle.sgml_theory_prologs.proofs.PieceKinds.{is_first, is_before, InType, KindAt, entities_of}
use Rattle.sgml_theory_prologs.proofs.Shapes.{Inner, inner-doctype, turned_entities, AreFrom, SectionsAt}
use Rattle.sgml_theory_prologs.proofs.Local.{IsIgnored, ignored-piece}
use Rattle.sgml_theory_prologs.proofs.Steps.{Stands, inner, Step, step-of, entities-after, FromDocument, Taken, step-taken, left_of, document-left, stands-on}

-- THESE MOVES READ UP TO THE BORDER, and to none before
abbrev pub ToBorder : Input → History → List Move → Type 0
ToBorder I h [] = is_border h ≡ true
ToBorder I h (m ∷ ms) = (is_border h ≡ false) × Reads forms I h m × ToBorder I (moved_on h m) ms

or-true : (t : Bool) → (t || true) ≡ true
or-true true = refl
or-true false = refl

had-has : (h : History) → had_border h ≡ true → has_border h ≡ true
had-has [] e = e
had-has (p ∷ h) e = ap (λ t. is_border (p ∷ h) || t) e ∙ or-true (is_border (p ∷ h))

is-has : (h : History) → is_border h ≡ true → has_border h ≡ true
unfolding state stage
is-has [] e = never false e refl
is-has (p ∷ h) e = ap (λ t. t || has_border h) e

run-has : (h : History) (os : List Piece) → has_border h ≡ true → has_border (after_run h os) ≡ true
run-has h [] e = e
run-has h (o ∷ os) e = run-has (o ∷ h) os (had-has (o ∷ h) e)

moves-had : (h : History) (ms : List Move) → had_border h ≡ true → had_border (after_moves h ms) ≡ true
moves-had h [] e = e
moves-had h (m ∷ ms) e = moves-had (moved_on h m) ms (run-has h m.omitted (had-has h e))

border-next : (I : Input) (h : History) (m : Move) (ms : List Move) (t : Bool) → is_border h ≡ t → had_border (after_moves (moved_on h m) ms) ≡ false → Reads forms I h m → ToBorder I (moved_on h m) ms → ToBorder I h (m ∷ ms)
border-next I h m ms true g e r rest = never (had_border (after_moves (moved_on h m) ms)) (moves-had (moved_on h m) ms (run-has h m.omitted (is-has h g))) e
border-next I h m ms false g e r rest = (g, r, rest)

pub to-border : (I : Input) (h : History) (ms : List Move) → ReadOn forms I h ms → had_border (after_moves h ms) ≡ false → is_border (after_moves h ms) ≡ true → ToBorder I h ms
to-border I h [] r e f = f
to-border I h (m ∷ ms) r e f = border-next I h m ms (is_border h) refl e r.0 (to-border I (moved_on h m) ms r.1 e f)

pub moved-stands : (I : Input) (h : History) (m : Move) → Stands I h → is_border h ≡ false → Reads forms I h m → Stands I (moved_on h m)
moved-stands I h m s b r = let x = step-of I h m s b r in subst (Stands I) (sym x.moved) (stands-on I h m s b r x)

pub all-stand : (I : Input) (h : History) (ms : List Move) → Stands I h → ToBorder I h ms → Stands I (after_moves h ms)
all-stand I h [] s t = s
all-stand I h (m ∷ ms) s t = all-stand I (moved_on h m) ms (moved-stands I h m s t.0 t.1) t.2

-- IT GETS NO MORE

taken-less : (I : Input) (h : History) (p : Piece) → Taken I h p → left_of I (p ∷ h) ≤ left_of I h
taken-less I h p (inl x) = let y = document-left I h p x in omega (arith, y.0, y.1)
taken-less I h p (inr x) = let same = ap length x.left in omega (arith, same)

pub moved-less : (I : Input) (h : History) (m : Move) → Stands I h → is_border h ≡ false → Reads forms I h m → left_of I (moved_on h m) ≤ left_of I h
moved-less I h m s b r =
    let x = step-of I h m s b r in
    let less = taken-less I h m.visible (step-taken I h m s b x) in
    let same : left_of I (moved_on h m) ≡ left_of I (m.visible ∷ h) = ap (left_of I) x.moved in
    omega (arith, less, same)

pub all-less : (I : Input) (h : History) (ms : List Move) → Stands I h → ToBorder I h ms → left_of I (after_moves h ms) ≤ left_of I h
all-less I h [] s t = omega arith
all-less I h (m ∷ ms) s t =
    let rest = all-less I (moved_on h m) ms (moved-stands I h m s t.0 t.1) t.2 in
    let less = moved-less I h m s t.0 t.1 in
    omega (arith, rest, less)

-- A PIECE OF THE DOCUMENT has a byte

first-some : (k : Kind) → is_first k ≡ true → is_text_end k ≡ false
first-some (Sgml syntax) e = refl
first-some (Sep b) e = refl
first-some (Pi text n) e = refl
first-some Comment e = refl
first-some (Head head base) e = refl
first-some _ e = never false e refl

before-is-first : (k : Kind) → is_before k ≡ true → is_first k ≡ true
before-is-first (Sgml syntax) e = refl
before-is-first _ e = e

in-some : (s : State) (es : List ℕ) (k : Kind) → InType s es k → in_document es ≡ true → is_text_end k ≡ false
in-some s es (Declare lexemes says base) h e = refl
in-some s es (SubsetEnd reads) h e = refl
in-some s es (Sep b) h e = refl
in-some s es (Ref n) h e = refl
in-some s es EntityEnd h e = never (in_document es) e h.0
in-some s es (SectionStart st) h e = refl
in-some s es SectionEnd h e = refl
in-some s es (Skipped b) h e = refl
in-some s es (Pi text n) h e = refl
in-some s es Comment h e = refl
in-some s es _ h e = absurd h

at-some : (g : Stage) (s : State) (es : List ℕ) (k : Kind) → KindAt g s es k → in_document es ≡ true → is_text_end k ≡ false
at-some BeforeSyntax s es k h e = first-some k (before-is-first k h)
at-some AtBeginning s es k h e = first-some k h
at-some BeforeDoctype s es k h e = first-some k (before-is-first k h)
at-some InSubset s es k h e = in-some s es k h e
at-some AfterSubset s es k h e = in-some s es k h e

pub document-some : (I : Input) (h : History) (m : Move) (x : Step I h m) → in_document (entities_of (rests I h)) ≡ true → 0 < x.piece.size
document-some I h m x e =
    (takes-its-bytes I.outside (state h) (standing I h) x.piece x.spelled_is).has_byte
    (at-some (stage h) (state h) (entities_of (rests I h)) x.piece.kind x.spelled_kind e)

pub document-is-top : (I : Input) (h : History) (p : Piece) (x : FromDocument I h p) → in_document (entities_of (rests I h)) ≡ true
document-is-top I h p x = ap (λ rs. in_document (entities_of rs)) x.alone ∙ ap (λ (n : ℕ). n == 0) x.number

-- MORE IS LEFT where the document's part of the prolog isn't over

last-in : (s : State) (es : List ℕ) (k : Kind) → InType s es k → is_after_subset (stage_after k InSubset) ≡ true → in_document es ≡ true
unfolding stage_after
last-in s es (Declare lexemes says base) h e = never false e refl
last-in s es (SubsetEnd reads) h e = h.0
last-in s es (Sep b) h e = never false e refl
last-in s es (Ref n) h e = never false e refl
last-in s es EntityEnd h e = never false e refl
last-in s es (SectionStart st) h e = never false e refl
last-in s es SectionEnd h e = never false e refl
last-in s es (Skipped b) h e = never false e refl
last-in s es (Pi text n) h e = never false e refl
last-in s es Comment h e = never false e refl
last-in s es _ h e = absurd h

pub last-at : (g : Stage) (s : State) (es : List ℕ) (k : Kind) → Inner g es → KindAt g s es k → is_after_subset g ≡ false → is_after_subset (stage_after k g) ≡ true → in_document es ≡ true
last-at BeforeSyntax s es k i h f e = absurd i
last-at AtBeginning s es k i h f e = ap in_document i
last-at BeforeDoctype s es k i h f e = ap in_document i
last-at InSubset s es k i h f e = last-in s es k h e
last-at AfterSubset s es k i h f e = never true refl f

last-less : (I : Input) (h : History) (m : Move) (x : Step I h m) → in_document (entities_of (rests I h)) ≡ true → Taken I h m.visible → left_of I (m.visible ∷ h) < left_of I h
last-less I h m x e (inl y) =
    let z = document-left I h m.visible y in
    let some = document-some I h m x e in
    omega (arith, z.0, z.1, some, x.size_is, y.within)
last-less I h m x e (inr y) = never (in_document (entities_of (rests I h))) e y.other

pub border-after : (h : History) → is_border h ≡ true → is_after_subset (stage h) ≡ true
unfolding state
border-after h e = first (is_after_subset (stage h)) _ e
  where
    first : (t u : Bool) → (t && u) ≡ true → t ≡ true
    first true u e = refl
    first false u e = never false e refl

pub more-left : (I : Input) (h : History) (ms : List Move) → Stands I h → ToBorder I h ms → is_after_subset (stage h) ≡ false → left_of I (after_moves h ms) < left_of I h
unfolding stage
more-left I h [] s t f = never (is_after_subset (stage h)) (border-after h t) f
more-left I h (m ∷ ms) s t f = by (is_after_subset (stage (moved_on h m))) refl (λ g. more-left I (moved_on h m) ms (moved-stands I h m s t.0 t.1) t.2 g)
  where
    by : (u : Bool) → is_after_subset (stage (moved_on h m)) ≡ u → (is_after_subset (stage (moved_on h m)) ≡ false → left_of I (after_moves (moved_on h m) ms) < left_of I (moved_on h m))
        → left_of I (after_moves (moved_on h m) ms) < left_of I h
    by true g rest =
        let x = step-of I h m s t.0 t.1 in
        let es = entities_of (rests I h) in
        let over : is_after_subset (stage_after m.visible.kind (stage h)) ≡ true = sym (ap (λ z. is_after_subset (stage z)) x.moved) ∙ g in
        let top = last-at (stage h) (state h) es m.visible.kind (inner I h s t.0) x.kind_at f over in
        let less = last-less I h m x top (step-taken I h m s t.0 x) in
        let same : left_of I (moved_on h m) ≡ left_of I (m.visible ∷ h) = ap (left_of I) x.moved in
        let later = all-less I (moved_on h m) ms (moved-stands I h m s t.0 t.1) t.2 in
        omega (arith, less, same, later)
    by false g rest =
        let low = rest g in
        let less = moved-less I h m s t.0 t.1 in
        omega (arith, low, less)

-- IN AN IGNORED SECTION its end is still to come

pub mode-ignored : (s : State) (es : List ℕ) → section_mode s.sections ≡ Some mode.Ign → mode_at s es ≡ mode.Ign
unfolding mode_at
mode-ignored s es e = ap (λ o. unwrap_or o (if in_doctype s.stage es then mode.Ds else element_mode s.context.doctype s.context.levels)) e

pub mode-type : (s : State) (es : List ℕ) → section_mode s.sections ≡ None → in_doctype s.stage es ≡ true → mode_at s es ≡ mode.Ds
unfolding mode_at
mode-type s es e f =
    ap (λ o. unwrap_or o (if in_doctype s.stage es then mode.Ds else element_mode s.context.doctype s.context.levels)) e
    ∙ ap (λ t. if t then mode.Ds else element_mode s.context.doctype s.context.levels) f

pub document-alone : (I : Input) (h : History) (p : Piece) (x : FromDocument I h p) → rests I h ≡ record { entity = 0; bytes = x.rest.bytes } ∷ []
document-alone I h p x = x.alone ∙ (λ i. (record { entity = x.number i; bytes = x.rest.bytes }) ∷ [])

pub document-spelled : (I : Input) (h : History) (p q : Piece) (x : FromDocument I h p) → spelled I.outside (state h) (standing I h) ≡ Ok q
    → spelled_in I.outside (state h) (record { entities = 0 ∷ []; spent = spent I.outside h }) 0 x.rest.bytes ≡ Ok q
unfolding spelled
document-spelled I h p q x e = sym (ap (λ rs. spelled I.outside (state h) (record { rests = rs; spent = spent I.outside h })) (document-alone I h p x)) ∙ e

skipped-is : (c : Context) (s : State) (k l : Kind) (b : ℕ) → l ≡ judged c (kind_noted s k) → k ≡ Skipped b → l ≡ Skipped b
unfolding kind_noted
skipped-is c s k l b e f = e ∙ ap (λ z. judged c (kind_noted s z)) f

pub record Ignored (I : Input) (h : History) : Type 0 where
  pub in_subset : stage h ≡ InSubset
  pub ignored : section_mode (sections h) ≡ Some mode.Ign
  pub top : in_document (entities_of (rests I h)) ≡ true

skipped-on : (I : Input) (h : History) (p : Piece) (b : ℕ) → p.kind ≡ Skipped b → Ignored I h → Ignored I (p ∷ h)
unfolding stage stage_after sections border turn
skipped-on I h p b e x = record {
  in_subset = ap (λ k. stage_after k (stage h)) e ∙ ap (stage_after (Skipped b)) x.in_subset;
  ignored = ap (λ k. section_mode (sections_after (border k) (texts h) (sections h))) e ∙ x.ignored;
  top = ap in_document (entities-after I p h) ∙ (ap (λ k. in_document (turned_entities (turn k) (entities_of (rests I h)))) e ∙ x.top);
}

ignored-of : (I : Input) (h : History) (m : Move) (x : Step I h m) → Stands I h → is_border h ≡ false → Ignored I h → FromDocument I h m.visible → IsIgnored x.piece
unfolding state
ignored-of I h m x s b g y =
    let there = document-spelled I h m.visible x.piece y x.spelled_is in
    let type_there : in_doctype (stage h) (0 ∷ []) ≡ true = sym (ap (in_doctype (stage h)) (ap entities_of (document-alone I h m.visible y))) ∙ inner-doctype (stage h) (entities_of (rests I h)) (inner I h s b) in
    let some = document-some I h m x g.top in
    ignored-piece I.outside (state h) (record { entities = 0 ∷ []; spent = spent I.outside h }) y.rest.bytes x.piece g.in_subset type_there (mode-ignored (state h) (0 ∷ []) g.ignored)
    some (omega (arith, y.within, x.size_is)) there

pub end-left : (I : Input) (h : History) (ms : List Move) → Stands I h → ToBorder I h ms → Ignored I h → 3 + left_of I (after_moves h ms) ≤ left_of I h
end-left I h [] s t g = never (is_after_subset (stage h)) (border-after h t) (ap is_after_subset g.in_subset)
end-left I h (m ∷ ms) s t g =
    by (step-taken I h m s t.0 (step-of I h m s t.0 t.1)) (λ f. end-left I (moved_on h m) ms (moved-stands I h m s t.0 t.1) t.2 f)
  where
    x : Step I h m
    x = step-of I h m s t.0 t.1

    same : left_of I (moved_on h m) ≡ left_of I (m.visible ∷ h)
    same = ap (left_of I) x.moved

    on : (y : FromDocument I h m.visible) → IsIgnored x.piece → (Ignored I (moved_on h m) → 3 + left_of I (after_moves (moved_on h m) ms) ≤ left_of I (moved_on h m))
        → 3 + left_of I (after_moves (moved_on h m) ms) ≤ left_of I h
    on y (inl three) rest =
        let z = document-left I h m.visible y in
        let later = all-less I (moved_on h m) ms (moved-stands I h m s t.0 t.1) t.2 in
        omega (arith, z.0, z.1, three, x.size_is, y.within, same, later)
    on y (inr q) rest =
        let is = skipped-is (context h) (state h) x.piece.kind m.visible.kind q.0 x.kind_is q.1 in
        let next = rest (subst (Ignored I) (sym x.moved) (skipped-on I h m.visible q.0 is g)) in
        let less = moved-less I h m s t.0 t.1 in
        omega (arith, next, less)

    by : Taken I h m.visible → (Ignored I (moved_on h m) → 3 + left_of I (after_moves (moved_on h m) ms) ≤ left_of I (moved_on h m))
        → 3 + left_of I (after_moves (moved_on h m) ms) ≤ left_of I h
    by (inl y) rest = on y (ignored-of I h m x s t.0 g y) rest
    by (inr y) rest = never (in_document (entities_of (rests I h))) g.top y.other

-- THE MODE of a place in the document
pub data ModeIs (I : Input) (h : History) : Type 0 where
  of_type : section_mode (sections h) ≡ None → ModeIs I h
  of_ignored : Ignored I h → ModeIs I h

status-mode : (ss : List Section) → AreFrom 1 ss → (section_mode ss ≡ None) ⊎ (section_mode ss ≡ Some mode.Ign)
status-mode [] a = inl refl
status-mode (x ∷ xs) a = by x.status a.1
  where
    by : (st : Status) → is_data_status st ≡ false → (mode_of_status st ≡ None) ⊎ (mode_of_status st ≡ Some mode.Ign)
    by status.Ignore e = inr refl
    by status.Cdata e = never true refl e
    by status.Rcdata e = never true refl e
    by status.Include e = inl refl

mode-by : (I : Input) (h : History) (g : Stage) → stage h ≡ g → is_after_subset g ≡ false → SectionsAt g (sections h) → in_document (entities_of (rests I h)) ≡ true → ModeIs I h
mode-by I h BeforeSyntax e f a t = of_type (ap section_mode a)
mode-by I h AtBeginning e f a t = of_type (ap section_mode a)
mode-by I h BeforeDoctype e f a t = of_type (ap section_mode a)
mode-by I h InSubset e f a t = by (status-mode (sections h) a)
  where
    by : (section_mode (sections h) ≡ None) ⊎ (section_mode (sections h) ≡ Some mode.Ign) → ModeIs I h
    by (inl g) = of_type g
    by (inr g) = of_ignored (record { in_subset = e; ignored = g; top = t })
mode-by I h AfterSubset e f a t = never true refl f

pub mode-is : (I : Input) (h : History) → Stands I h → is_after_subset (stage h) ≡ false → in_document (entities_of (rests I h)) ≡ true → ModeIs I h
mode-is I h s f t = mode-by I h (stage h) refl f s.sections_are t
