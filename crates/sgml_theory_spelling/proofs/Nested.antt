-- The open sections are nested as the texts are.
use Rattle.std.proofs.Common.{◌≡◌, ℕ, zero, suc, Bool, true, false, not, ◌||◌, ◌&&◌, ◌==◌, List, [], ◌∷◌, ◌≤◌, ◌<◌, Option, None, Some, Result, Ok, Err, refl, sym, ◌∙◌, ap, subst, inl, inr, if◌then◌else◌, arith, rules, tests}
use Rattle.std.specs.Prelude.{pred, reverse}
use Rattle.std.specs.List.{list_any}
use Rattle.std.proofs.lemmas.List.{reverse-append}
use Rattle.std.proofs.lemmas.List.Folds.{list_any-append}
use Rattle.sgml_scan.specs.text.declared.reason.Reason.{Reason}
use Rattle.sgml_theory_reading.specs.marked.declared.sections.Section.{Section}
use Rattle.sgml_theory_reading.specs.marked.Opened.{is_open_at}
use Rattle.sgml_theory_reading.specs.decl_forms.declared.doctype.DoctypeHead.{DoctypeHead}
use Rattle.sgml_theory_reading.specs.Pieces.{Piece, Kind, Head, SubsetEnd, Start, Re, ShortRef, Ref, EntityEnd, SectionStart, SectionEnd, Meaning, Ordinary, ToText, ToData, ToExternalData, ToInstruction, History}
use Rattle.sgml_theory_reading.specs.Facets.{OpensText, StaysInText, turn_of_meaning, turn_of_external, turn, border, Stage, BeforeSyntax, AtBeginning, BeforeDoctype, InSubset, AfterSubset}
use Rattle.sgml_theory_reading.specs.Nest.{without_first}
use Rattle.sgml_theory_reading.specs.Context.{Context, context}
use Rattle.sgml_theory_reading.specs.Omission.{MayStand}
use Rattle.sgml_theory_reading.specs.Runs.{LongestRun, after_run}
use Rattle.sgml_theory_reading.specs.Unread.{Outside, Rest, Standing, Input, standing, opening, texts, texts_after}
use Rattle.sgml_theory_reading.specs.Sections.{sections, sections_after}
use Rattle.sgml_theory_reading.specs.State.{State, state}
use Rattle.sgml_theory_reading.specs.Characters.{kind_noted}
use Rattle.sgml_theory_reading.specs.Reads.{Move, MovesTo, ReadOn, judged, unless_undecided, answer_noted, spelled_next, moved_on, after_moves, read_by}
use Rattle.sgml_theory_spelling.specs.Stacked.{Stacked, stacked}
use Rattle.sgml_theory_spelling.specs.Sized.{sized, unless_reason}
use Rattle.sgml_theory_spelling.specs.Places.{in_section}
use Rattle.sgml_theory_spelling.specs.Decided.{decided}
use Rattle.sgml_theory_spelling.specs.Spelled.{type_end, document_end, entity_end, spelled_in, spelled_of, spelled, forms}
use Rattle.sgml_theory_spelling.specs.Taken.{is_text_end}
use Rattle.sgml_theory_spelling.specs.Nested.{AreNested, ReadSectionsAreNested}
use Rattle.sgml_theory_spelling.proofs.Tokens.{apart}
use Rattle.sgml_theory_spelling.proofs.Growing.{not-equal}
use Rattle.sgml_theory_spelling.proofs.Taken.{Takes, byte-takes}

-- THE INNERMOST SECTION TELLS

below : (a n : ℕ) → a ≤ n → (a == n) ≡ false → a < n
below a n l e = search (rules, tests)

none-open : (n m : ℕ) (ss : List Section) → m < n → AreNested m ss → is_open_at n ss ≡ false
none-open n m [] l a = refl
none-open n m (s ∷ ss) l a =
    let here : s.level < n = omega (arith, l, a.0) in
    ap (λ t. t || is_open_at n ss) (not-equal s.level n here) ∙ none-open n s.level ss here a.1

innermost : (n : ℕ) (ss : List Section) → AreNested n ss → in_section n ss ≡ is_open_at n ss
innermost n [] a = refl
innermost n (s ∷ ss) a = by (s.level == n) refl
  where
    by : (t : Bool) → (s.level == n) ≡ t → (s.level == n) ≡ ((s.level == n) || is_open_at n ss)
    by true e = e ∙ sym (ap (λ t. t || is_open_at n ss) e)
    by false e = e ∙ sym (ap (λ t. t || is_open_at n ss) e ∙ none-open n s.level ss (below s.level n a.0 e) a.1)

swapped : (a b : Bool) → (a || (b || false)) ≡ (b || a)
swapped true true = refl
swapped true false = refl
swapped false true = refl
swapped false false = refl

any-reverse : (p : Section → Bool) (ss : List Section) → list_any p (reverse ss) ≡ list_any p ss
any-reverse p [] = refl
any-reverse p (s ∷ ss) =
    ap (list_any p) (reverse-append (s ∷ []) ss)
    ∙ (list_any-append p (reverse ss) (s ∷ []) ∙ (ap (λ t. t || (p s || false)) (any-reverse p ss) ∙ swapped (list_any p ss) (p s)))

-- ONE PIECE

raised : (m n : ℕ) (ss : List Section) → m ≤ n → AreNested m ss → AreNested n ss
raised m n [] l a = tt
raised m n (s ∷ ss) l a = (omega (arith, l, a.0), a.1)

lowered : (n : ℕ) (ss : List Section) → AreNested n ss → in_section n ss ≡ false → AreNested (pred n) ss
lowered n [] a e = tt
lowered zero (s ∷ ss) a e = let l = below s.level zero a.0 e in absurd (omega (arith, l))
lowered (suc n) (s ∷ ss) a e = let l = below s.level (suc n) a.0 e in (omega (arith, l), a.1)

ended : (n : ℕ) (ss : List Section) → AreNested n ss → AreNested n (without_first ss)
ended n [] a = tt
ended n (s ∷ ss) a = raised s.level n ss a.0 a.1

to-nested : (t : Bool) (e n : ℕ) (ss : List Section) → AreNested n ss → AreNested (texts_after (if t then StaysInText else OpensText e) n) ss
to-nested true e n ss a = a
to-nested false e n ss a = raised n (suc n) ss (omega arith) a

meaning-nested : (m : Meaning) (n : ℕ) (ss : List Section) → AreNested n ss → AreNested (texts_after (turn_of_meaning m) n) ss
meaning-nested (Ordinary x c) n ss a = a
meaning-nested (ToText e) n ss a = to-nested (e == 0) e n ss a
meaning-nested (ToData e) n ss a = a
meaning-nested (ToExternalData e) n ss a = a
meaning-nested (ToInstruction e text) n ss a = a

head-nested : (head : DoctypeHead) (t : Bool) (n : ℕ) (ss : List Section) → AreNested n ss
    → AreNested (texts_after (if t then StaysInText else turn_of_external head.external) n) ss
head-nested head true n ss a = a
head-nested head false n ss a = by head.external
  where
    by : (o : Option _) → AreNested (texts_after (turn_of_external o) n) ss
    by None = a
    by (Some x) = raised n (suc n) ss (omega arith) a

kind-nested : (k : Kind) (n : ℕ) (ss : List Section) → AreNested n ss → (k ≡ EntityEnd → in_section n ss ≡ false)
    → AreNested (texts_after (turn k) n) (sections_after (border k) n ss)
unfolding turn border
kind-nested EntityEnd n ss a e = lowered n ss a (e refl)
kind-nested (SectionStart status) n ss a e = (omega arith, a)
kind-nested SectionEnd n ss a e = ended n ss a
kind-nested (Ref entity) n ss a e = to-nested (entity == 0) entity n ss a
kind-nested (ShortRef string meaning) n ss a e = meaning-nested meaning n ss a
kind-nested (Head head base) n ss a e = head-nested head head.subset n ss a
kind-nested (SubsetEnd true) n ss a e = raised n (suc n) ss (omega arith) a
kind-nested (SubsetEnd false) n ss a e = a
kind-nested _ n ss a e = a

piece-nested : (p : Piece) (h : History) → AreNested (texts h) (sections h) → (p.kind ≡ EntityEnd → in_section (texts h) (sections h) ≡ false)
    → AreNested (texts (p ∷ h)) (sections (p ∷ h))
unfolding texts sections
piece-nested p h a e = kind-nested p.kind (texts h) (sections h) a e

-- OMITTED TAGS change neither

record Unchanged (h k : History) : Type 0 where
  texts : texts h ≡ texts k
  sections : sections h ≡ sections k

tag-unchanged : (o : Piece) (h : History) (x : Kind) → MayStand (context h) o x → Unchanged (o ∷ h) h
unfolding texts sections turn border
tag-unchanged o h x (inl m) = record {
  texts = ap (λ (p : Piece). texts_after (turn p.kind) (texts h)) m.1;
  sections = ap (λ (p : Piece). sections_after (border p.kind) (texts h) (sections h)) m.1;
}
tag-unchanged o h x (inr m) = record {
  texts = ap (λ (p : Piece). texts_after (turn p.kind) (texts h)) m.1;
  sections = ap (λ (p : Piece). sections_after (border p.kind) (texts h) (sections h)) m.1;
}

run-unchanged : (h : History) (x : Kind) (os : List Piece) → LongestRun h x os → Unchanged (after_run h os) h
run-unchanged h x [] l = record { texts = refl; sections = refl }
run-unchanged h x (o ∷ os) l =
    let later = run-unchanged (o ∷ h) x os l.1 in
    let now = tag-unchanged o h x l.0 in record { texts = later.texts ∙ now.texts; sections = later.sections ∙ now.sections }

-- AN ENTITY ENDS where no section is open that began in it

abbrev is_entity_end : Kind → Bool
is_entity_end EntityEnd = true
is_entity_end _ = false

abbrev EndsOutside : State → Result Piece Reason → Type 0
EndsOutside s (Ok p) = p.kind ≡ EntityEnd → in_section s.texts s.sections ≡ false
EndsOutside s (Err r) = Unit {0}

no-end : (s : State) (x : Result Piece Reason) → Takes x → EndsOutside s x
no-end s (Ok p) h = λ e. apart (is_text_end p.kind) (ap is_text_end e) h.1
no-end s (Err r) h = tt

document-outside : (s : State) (g : Stage) (t : Bool) → EndsOutside s (document_end g t)
document-outside s BeforeSyntax t = tt
document-outside s AtBeginning t = tt
document-outside s BeforeDoctype t = tt
document-outside s InSubset t = tt
document-outside s AfterSubset true = tt
document-outside s AfterSubset false = λ e. apart false (ap is_entity_end e) refl

unless-outside : (s : State) (o : Option Reason) → in_section s.texts s.sections ≡ false → EndsOutside s (unless_reason o (sized 0 EntityEnd))
unless-outside s (Some r) f = tt
unless-outside s None f = λ e. f

entity-outside : (s : State) (n : ℕ) (t : Bool) → in_section s.texts s.sections ≡ t → EndsOutside s (entity_end s n t)
entity-outside s n true f = tt
entity-outside s n false f = unless-outside s (type_end n s.context.doctype) f

if-outside : (s : State) (t : Bool) (x y : Result Piece Reason) → EndsOutside s x → EndsOutside s y → EndsOutside s (if t then x else y)
if-outside s true x y p q = p
if-outside s false x y p q = q

in-outside : (outside : Outside) (s : State) (t : Stacked) (n : ℕ) (bytes : List ℕ) → EndsOutside s (spelled_in outside s t n bytes)
in-outside outside s t n [] =
    if-outside s (n == 0) (document_end s.stage (in_section s.texts s.sections)) (entity_end s n (in_section s.texts s.sections))
    (document-outside s s.stage (in_section s.texts s.sections)) (entity-outside s n (in_section s.texts s.sections) refl)
in-outside outside s t n (b ∷ bytes) = no-end s (spelled_in outside s t n (b ∷ bytes)) (byte-takes outside s t n b bytes)

of-outside : (outside : Outside) (s : State) (t : Stacked) (rs : List Rest) → EndsOutside s (spelled_of outside s t rs)
of-outside outside s t [] = tt
of-outside outside s t (r ∷ rs) = in-outside outside s t r.entity r.bytes

spelled-outside : (outside : Outside) (s : State) (t : Standing) → EndsOutside s (spelled outside s t)
unfolding spelled
spelled-outside outside s t = of-outside outside s (stacked t) t.rests

-- what is noted of a piece makes it no other kind
noted-end : (s : State) (k : Kind) → kind_noted s k ≡ EntityEnd → k ≡ EntityEnd
unfolding kind_noted
noted-end s (Re live) e = apart false (ap is_entity_end e) refl
noted-end s (ShortRef string meaning) e = apart false (ap is_entity_end e) refl
noted-end s (SubsetEnd reads) e = apart false (ap is_entity_end e) refl
noted-end s _ e = e

judged-end : (c : Context) (k : Kind) → judged c k ≡ EntityEnd → k ≡ EntityEnd
judged-end c (Start n specifications how proper at_once) e = apart false (ap is_entity_end e) refl
judged-end c _ e = e

noted-outside : (s : State) (x : Result Piece Reason) → EndsOutside s x → EndsOutside s (answer_noted s x)
noted-outside s (Ok p) f = λ e. f (noted-end s p.kind e)
noted-outside s (Err r) f = tt

unless-cut : (s : State) (t : Bool) (x : Result Piece Reason) → EndsOutside s x → EndsOutside s (unless_undecided t x)
unless-cut s true x f = tt
unless-cut s false x f = f

next-outside : (I : Input) (h : History) → EndsOutside (state h) (spelled_next forms I h)
next-outside I h =
    let s = state h in
    let t = standing I h in
    unless-cut s (I.was_cut && not (decided I.outside s t)) (answer_noted s (spelled I.outside s t)) (noted-outside s (spelled I.outside s t) (spelled-outside I.outside s t))

-- ALL THAT READS

abbrev HasNested : History → Type 0
HasNested h = AreNested (texts h) (sections h)

by-answer : (I : Input) (h : History) (r : Result Piece Reason) (m : Move) → EndsOutside (state h) r → MovesTo forms h r m → HasNested h → HasNested (moved_on h m)
unfolding state
by-answer I h (Err r) m f g a = absurd g
by-answer I h (Ok p) m f g a =
    let k = after_run h m.omitted in
    let same = run-unchanged h p.kind m.omitted g.longest in
    let there : HasNested k = subst (λ n. AreNested n (sections k)) (sym same.texts) (subst (AreNested (texts h)) (sym same.sections) a) in
    piece-nested m.visible k there
    (λ e. ap (λ n. in_section n (sections k)) same.texts ∙ (ap (in_section (texts h)) same.sections
    ∙ f (judged-end (context k) p.kind (sym (ap (λ (x : Piece). x.kind) g.visible) ∙ e))))

moves-nested : (I : Input) (h : History) (ms : List Move) → ReadOn forms I h ms → HasNested h → HasNested (after_moves h ms)
moves-nested I h [] r a = a
moves-nested I h (m ∷ ms) r a = moves-nested I (moved_on h m) ms r.1 (by-answer I h (spelled_next forms I h) m (next-outside I h) r.0.moves a)

opening-nested : (outside : Outside) → HasNested (opening outside)
unfolding texts sections turn border
opening-nested outside = tt

pub read-sections-are-nested : ReadSectionsAreNested
read-sections-are-nested I ms r =
    let h = read_by I ms in
    let a = moves-nested I (opening I.outside) ms r (opening-nested I.outside) in record {
      nested = a;
      is_open = innermost (texts h) (sections h) a ∙ sym (any-reverse _ (sections h));
    }
