-- How the texts and the sections stand that are read in a prolog, and after each of its pieces.
use Rattle.std.proofs.Common.{◌≡◌, ℕ, ◌≤◌, ◌⊎◌, inl, inr, Bool, true, false, ◌||◌, ◌==◌, List, [], ◌∷◌, ◌++◌, Option, None, Some, length, refl, sym, ap, ◌∙◌, subst, if◌then◌else◌, arith, eq-eqb, length-append}
use Rattle.std.specs.List.{list_any}
use Rattle.sgml_theory_standing.specs.entity.declared.kinds.External.{External}
use Rattle.sgml_theory_standing.specs.marked.declared.sections.Section.{Section}
use Rattle.sgml_theory_standing.specs.theory_reading.Pieces.{Kind, Sgml, Head, Declare, SubsetEnd, Sep, Ref, EntityEnd, SectionStart, SectionEnd, Skipped, Pi, Comment}
use Rattle.sgml_theory_standing.specs.theory_reading.Facets.{Turn, OpensText, EndsText, StaysInText, turn_of_external, turn, NoBorder, border, Stage, BeforeSyntax, AtBeginning, BeforeDoctype, InSubset, AfterSubset, stage_of_head, stage_after, subset_number}
use Rattle.sgml_theory_standing.specs.theory_reading.Nest.{without_first}
use Rattle.sgml_theory_standing.specs.theory_reading.Sections.{sections_after}
use Rattle.sgml_theory_standing.specs.theory_reading.State.{State}
use Rattle.sgml_theory_standing.specs.theory_reading.Unread.{texts_after}
use Rattle.sgml_theory_standing.specs.theory_spelling.Places.{in_doctype, in_section}
use Rattle.sgml_theory_standing.specs.theory_spelling.Content.{is_data_status}
use Rattle.sgml_theory_standing.specs.theory_spelling.Prolog.{in_document}
use Rattle.sgml_theory_standing.specs.theory_spelling.Nested.{AreNested}
use Rattle.sgml_theory_prologs.proofs.Recognised.{never}
use Rattle.sgml_theory_prologs.proofs.PieceKinds.{is_before, is_first, InType, KindAt, MayEnd}

-- THE TEXTS, by the numbers of their entities, the top first

-- none of them is the document
abbrev pub AreOther : List ℕ → Type 0
AreOther [] = Unit {0}
AreOther (n ∷ ns) = ((n == 0) ≡ false) × AreOther ns

abbrev pub EndIn : List ℕ → List ℕ → Type 0
EndIn base es = (upper : List ℕ) × AreOther upper × (es ≡ upper ++ base)

-- before the border
abbrev pub Inner : Stage → List ℕ → Type 0
Inner BeforeSyntax es = ⊥
Inner AtBeginning es = es ≡ 0 ∷ []
Inner BeforeDoctype es = es ≡ 0 ∷ []
Inner InSubset es = EndIn (0 ∷ []) es
Inner AfterSubset es = EndIn (1 ∷ 0 ∷ []) es

-- and at it
abbrev pub Shape : Stage → List ℕ → Type 0
Shape BeforeSyntax es = ⊥
Shape AtBeginning es = es ≡ 0 ∷ []
Shape BeforeDoctype es = es ≡ 0 ∷ []
Shape InSubset es = EndIn (0 ∷ []) es
Shape AfterSubset es = EndIn (1 ∷ 0 ∷ []) es ⊎ (es ≡ 0 ∷ [])

or-true : (t : Bool) → (t || true) ≡ true
or-true true = refl
or-true false = refl

any-behind : (p : ℕ → Bool) (upper base : List ℕ) → list_any p base ≡ true → list_any p (upper ++ base) ≡ true
any-behind p [] base e = e
any-behind p (n ∷ upper) base e = ap (λ t. p n || t) (any-behind p upper base e) ∙ or-true (p n)

pub inner-doctype : (g : Stage) (es : List ℕ) → Inner g es → in_doctype g es ≡ true
inner-doctype BeforeSyntax es i = absurd i
inner-doctype AtBeginning es i = refl
inner-doctype BeforeDoctype es i = refl
inner-doctype InSubset es i = refl
inner-doctype AfterSubset es i = ap (list_any (λ n. n == subset_number)) i.2 ∙ any-behind (λ n. n == subset_number) i.0 (1 ∷ 0 ∷ []) refl

-- the top isn't the document where another text is open
other-top : (base es : List ℕ) (upper : List ℕ) → AreOther upper → es ≡ upper ++ base → in_document base ≡ false → in_document es ≡ false
other-top base es [] a e f = ap in_document e ∙ f
other-top base es (u ∷ us) a e f = ap in_document e ∙ a.0

pub inner-end : (g : Stage) (es : List ℕ) → Inner g es → MayEnd g (in_document es)
inner-end BeforeSyntax es i = absurd i
inner-end AtBeginning es i = ap in_document i
inner-end BeforeDoctype es i = ap in_document i
inner-end InSubset es i = tt
inner-end AfterSubset es i = other-top (1 ∷ 0 ∷ []) es i.0 i.1 i.2 refl

document-top : (es upper : List ℕ) → AreOther upper → es ≡ upper ++ 0 ∷ [] → in_document es ≡ true → es ≡ 0 ∷ []
document-top es [] a e f = e
document-top es (u ∷ us) a e f = never (in_document es) f (ap in_document e ∙ a.0)

-- where it is, no other text is open
pub inner-alone : (g : Stage) (es : List ℕ) → Inner g es → in_document es ≡ true → es ≡ 0 ∷ []
inner-alone BeforeSyntax es i e = absurd i
inner-alone AtBeginning es i e = i
inner-alone BeforeDoctype es i e = i
inner-alone InSubset es i e = document-top es i.0 i.1 i.2 e
inner-alone AfterSubset es i e = never (in_document es) e (other-top (1 ∷ 0 ∷ []) es i.0 i.1 i.2 refl)

-- and one text alone is it
single-top : (x : ℕ) (upper : List ℕ) (b : ℕ) (base : List ℕ) → x ∷ [] ≡ upper ++ b ∷ base → x ≡ b
single-top x [] b base e = cc
single-top x (u ∷ []) b base e = absurd (cc)
single-top x (u ∷ v ∷ us) b base e = absurd (cc)

pub not-two : (x : ℕ) (upper : List ℕ) → x ∷ [] ≡ upper ++ 1 ∷ 0 ∷ [] → ⊥
not-two x [] e = cc
not-two x (u ∷ []) e = cc
not-two x (u ∷ v ∷ us) e = cc

pub inner-single : (g : Stage) (x : ℕ) → Inner g (x ∷ []) → x ≡ 0
inner-single BeforeSyntax x i = absurd i
inner-single AtBeginning x i = cc
inner-single BeforeDoctype x i = cc
inner-single InSubset x i = single-top x i.0 0 [] i.2
inner-single AfterSubset x i = absurd (not-two x i.0 i.2)

many-top : (x y : ℕ) (xs upper : List ℕ) → AreOther upper → x ∷ y ∷ xs ≡ upper ++ 0 ∷ [] → (x == 0) ≡ false
many-top x y xs [] a e = absurd (cc)
many-top x y xs (u ∷ us) a e = let is : x ≡ u = cc in ap (λ (n : ℕ). n == 0) is ∙ a.0

pub inner-many : (g : Stage) (x y : ℕ) (xs : List ℕ) → Inner g (x ∷ y ∷ xs) → (x == 0) ≡ false
inner-many BeforeSyntax x y xs i = absurd i
inner-many AtBeginning x y xs i = absurd (cc)
inner-many BeforeDoctype x y xs i = absurd (cc)
inner-many InSubset x y xs i = many-top x y xs i.0 i.1 i.2
inner-many AfterSubset x y xs i = other-top (1 ∷ 0 ∷ []) (x ∷ y ∷ xs) i.0 i.1 i.2 refl

pub inner-some : (g : Stage) → Inner g [] → ⊥
inner-some BeforeSyntax i = i
inner-some AtBeginning i = cc
inner-some BeforeDoctype i = cc
inner-some InSubset i = none i.0 i.2
  where
    none : (upper : List ℕ) → [] ≡ upper ++ 0 ∷ [] → ⊥
    none [] e = cc
    none (u ∷ us) e = cc
inner-some AfterSubset i = none i.0 i.2
  where
    none : (upper : List ℕ) → [] ≡ upper ++ 1 ∷ 0 ∷ [] → ⊥
    none [] e = cc
    none (u ∷ us) e = cc

-- AFTER A PIECE

abbrev pub turned_entities : Turn → List ℕ → List ℕ
turned_entities (OpensText e) es = e ∷ es
turned_entities EndsText es = without_first es
turned_entities StaysInText es = es

pub texts-turned : (t : Turn) (es : List ℕ) → texts_after t (length es) ≡ length (turned_entities t es)
texts-turned (OpensText e) es = refl
texts-turned EndsText [] = refl
texts-turned EndsText (e ∷ es) = refl
texts-turned StaysInText es = refl

head-shape : (t : Bool) (x : Option External) (es : List ℕ) → es ≡ 0 ∷ [] → Shape (stage_of_head t) (turned_entities (if t then StaysInText else turn_of_external x) es)
head-shape true x es e = ([], tt, e)
head-shape false None es e = inr e
head-shape false (Some x) es e = inl ([], tt, ap (λ (zs : List ℕ). 1 ∷ zs) e)

first-shape : (es : List ℕ) (k : Kind) → es ≡ 0 ∷ [] → is_first k ≡ true → Shape (stage_after k AtBeginning) (turned_entities (turn k) es)
unfolding turn stage_after
first-shape es (Sgml syntax) e f = e
first-shape es (Sep b) e f = e
first-shape es (Pi text n) e f = e
first-shape es Comment e f = e
first-shape es (Head head base) e f = head-shape head.subset head.external es e
first-shape es _ e f = never false f refl

before-shape : (es : List ℕ) (k : Kind) → es ≡ 0 ∷ [] → is_before k ≡ true → Shape (stage_after k BeforeDoctype) (turned_entities (turn k) es)
unfolding turn stage_after
before-shape es (Sep b) e f = e
before-shape es (Pi text n) e f = e
before-shape es Comment e f = e
before-shape es (Head head base) e f = head-shape head.subset head.external es e
before-shape es _ e f = never false f refl

reference-shape : (base es : List ℕ) (n : ℕ) (t : Bool) → (n == 0) ≡ t → EndIn base es → EndIn base (turned_entities (if t then StaysInText else OpensText n) es)
reference-shape base es n true e i = i
reference-shape base es n false e i = (n ∷ i.0, (e, i.1), ap (λ (zs : List ℕ). n ∷ zs) i.2)

ended-shape : (es upper : List ℕ) → AreOther upper → es ≡ upper ++ 0 ∷ [] → in_document es ≡ false → EndIn (0 ∷ []) (without_first es)
ended-shape es [] a e f = never (in_document es) (ap in_document e) f
ended-shape es (u ∷ us) a e f = (us, a.1, ap without_first e)

subset-ended : (es upper : List ℕ) → AreOther upper → es ≡ upper ++ 1 ∷ 0 ∷ [] → EndIn (1 ∷ 0 ∷ []) (without_first es) ⊎ (without_first es ≡ 0 ∷ [])
subset-ended es [] a e = inr (ap without_first e)
subset-ended es (u ∷ us) a e = inl (us, a.1, ap without_first e)

in-shape : (s : State) (es : List ℕ) (k : Kind) → EndIn (0 ∷ []) es → InType s es k → Shape (stage_after k InSubset) (turned_entities (turn k) es)
unfolding turn stage_after
in-shape s es (Declare lexemes says base) i h = i
in-shape s es (SubsetEnd true) i h = inl ([], tt, ap (λ (zs : List ℕ). 1 ∷ zs) (document-top es i.0 i.1 i.2 h.0))
in-shape s es (SubsetEnd false) i h = inr (document-top es i.0 i.1 i.2 h.0)
in-shape s es (Sep b) i h = i
in-shape s es (Ref n) i h = reference-shape (0 ∷ []) es n (n == 0) refl i
in-shape s es EntityEnd i h = ended-shape es i.0 i.1 i.2 h.0
in-shape s es (SectionStart st) i h = i
in-shape s es SectionEnd i h = i
in-shape s es (Skipped b) i h = i
in-shape s es (Pi text e) i h = i
in-shape s es Comment i h = i
in-shape s es _ i h = absurd h

after-shape : (s : State) (es : List ℕ) (k : Kind) → EndIn (1 ∷ 0 ∷ []) es → InType s es k → Shape (stage_after k AfterSubset) (turned_entities (turn k) es)
unfolding turn stage_after
after-shape s es (Declare lexemes says base) i h = inl i
after-shape s es (SubsetEnd reads) i h = never (in_document es) h.0 (other-top (1 ∷ 0 ∷ []) es i.0 i.1 i.2 refl)
after-shape s es (Sep b) i h = inl i
after-shape s es (Ref n) i h = inl (reference-shape (1 ∷ 0 ∷ []) es n (n == 0) refl i)
after-shape s es EntityEnd i h = subset-ended es i.0 i.1 i.2
after-shape s es (SectionStart st) i h = inl i
after-shape s es SectionEnd i h = inl i
after-shape s es (Skipped b) i h = inl i
after-shape s es (Pi text e) i h = inl i
after-shape s es Comment i h = inl i
after-shape s es _ i h = absurd h

pub shape-after : (g : Stage) (s : State) (es : List ℕ) (k : Kind) → Inner g es → KindAt g s es k → Shape (stage_after k g) (turned_entities (turn k) es)
shape-after BeforeSyntax s es k i h = absurd i
shape-after AtBeginning s es k i h = first-shape es k i h
shape-after BeforeDoctype s es k i h = before-shape es k i h
shape-after InSubset s es k i h = in-shape s es k i h
shape-after AfterSubset s es k i h = after-shape s es k i h

-- a text that ends isn't the document
opens-no-end : (n : ℕ) (t : Bool) {A : Type 0} → (if t then StaysInText else OpensText n) ≡ EndsText → A
opens-no-end n true e = absurd (cc)
opens-no-end n false e = absurd (cc)

head-no-end : (t : Bool) (x : Option External) {A : Type 0} → (if t then StaysInText else turn_of_external x) ≡ EndsText → A
head-no-end true x e = absurd (cc)
head-no-end false None e = absurd (cc)
head-no-end false (Some x) e = absurd (cc)

first-no-end : (k : Kind) {A : Type 0} → is_first k ≡ true → turn k ≡ EndsText → A
unfolding turn
first-no-end (Sgml syntax) f e = absurd (cc)
first-no-end (Sep b) f e = absurd (cc)
first-no-end (Pi text n) f e = absurd (cc)
first-no-end Comment f e = absurd (cc)
first-no-end (Head head base) f e = head-no-end head.subset head.external e
first-no-end _ f e = never false f refl

before-is-first : (k : Kind) → is_before k ≡ true → is_first k ≡ true
before-is-first (Sgml syntax) e = refl
before-is-first _ e = e

in-ends : (s : State) (es : List ℕ) (k : Kind) → InType s es k → turn k ≡ EndsText → in_document es ≡ false
unfolding turn
in-ends s es (Declare lexemes says base) h e = absurd (cc)
in-ends s es (SubsetEnd true) h e = absurd (cc)
in-ends s es (SubsetEnd false) h e = absurd (cc)
in-ends s es (Sep b) h e = absurd (cc)
in-ends s es (Ref n) h e = opens-no-end n (n == 0) e
in-ends s es EntityEnd h e = h.0
in-ends s es (SectionStart st) h e = absurd (cc)
in-ends s es SectionEnd h e = absurd (cc)
in-ends s es (Skipped b) h e = absurd (cc)
in-ends s es (Pi text n) h e = absurd (cc)
in-ends s es Comment h e = absurd (cc)
in-ends s es _ h e = absurd h

pub ends-other : (g : Stage) (s : State) (es : List ℕ) (k : Kind) → KindAt g s es k → turn k ≡ EndsText → in_document es ≡ false
ends-other BeforeSyntax s es k h e = first-no-end k (before-is-first k h) e
ends-other AtBeginning s es k h e = first-no-end k h e
ends-other BeforeDoctype s es k h e = first-no-end k (before-is-first k h) e
ends-other InSubset s es k h e = in-ends s es k h e
ends-other AfterSubset s es k h e = in-ends s es k h e

-- THE SECTIONS: none before the document type; in it none has data for its content, and in the external subset each began there

abbrev pub AreFrom : ℕ → List Section → Type 0
AreFrom k [] = Unit {0}
AreFrom k (x ∷ xs) = (k ≤ x.level) × (is_data_status x.status ≡ false) × AreFrom k xs

abbrev pub SectionsAt : Stage → List Section → Type 0
SectionsAt BeforeSyntax ss = ss ≡ []
SectionsAt AtBeginning ss = ss ≡ []
SectionsAt BeforeDoctype ss = ss ≡ []
SectionsAt InSubset ss = AreFrom 1 ss
SectionsAt AfterSubset ss = AreFrom 2 ss

none-at : (g : Stage) (ss : List Section) → ss ≡ [] → SectionsAt g ss
none-at BeforeSyntax ss e = e
none-at AtBeginning ss e = e
none-at BeforeDoctype ss e = e
none-at InSubset ss e = subst (AreFrom 1) (sym e) tt
none-at AfterSubset ss e = subst (AreFrom 2) (sym e) tt

first-no-border : (k : Kind) → is_first k ≡ true → border k ≡ NoBorder
unfolding border
first-no-border (Sgml syntax) e = refl
first-no-border (Sep b) e = refl
first-no-border (Pi text n) e = refl
first-no-border Comment e = refl
first-no-border (Head head base) e = refl
first-no-border _ e = never false e refl

first-sections : (g : Stage) (n : ℕ) (ss : List Section) (k : Kind) → is_first k ≡ true → ss ≡ [] → SectionsAt g (sections_after (border k) n ss)
first-sections g n ss k f e = none-at g (sections_after (border k) n ss) (ap (λ b. sections_after b n ss) (first-no-border k f) ∙ e)

from-ended : (k : ℕ) (ss : List Section) → AreFrom k ss → AreFrom k (without_first ss)
from-ended k [] a = tt
from-ended k (x ∷ xs) a = a.2

-- where one text alone is open and no section that began in it, none is
pub none-left : (n k : ℕ) (ss : List Section) → n ≤ k → AreFrom k ss → AreNested n ss → in_section n ss ≡ false → ss ≡ []
none-left n k [] l a m e = refl
none-left n k (x ∷ xs) l a m e =
    let is : x.level ≡ n = omega (arith, l, a.0, m.0) in
    never (x.level == n) (eq-eqb x.level n is) e

from-more : (ss : List Section) → ss ≡ [] → AreFrom 2 ss
from-more ss e = subst (AreFrom 2) (sym e) tt

one-text : (es : List ℕ) (upper : List ℕ) (base : List ℕ) → es ≡ upper ++ base → length base ≤ length es
one-text es upper base e = let l = length-append upper base in omega (arith, l, ap length e)

in-sections : (s : State) (es : List ℕ) (n : ℕ) (ss : List Section) (k : Kind) → EndIn (0 ∷ []) es → n ≡ length es → InType s es k
    → (in_section s.texts s.sections ≡ in_section n ss) → AreNested n ss → AreFrom 1 ss → SectionsAt (stage_after k InSubset) (sections_after (border k) n ss)
unfolding border stage_after
in-sections s es n ss (Declare lexemes says base) i e h same nested a = a
in-sections s es n ss (SubsetEnd reads) i e h same nested a =
    let alone = document-top es i.0 i.1 i.2 h.0 in
    let one : n ≡ 1 = e ∙ ap length alone in
    from-more ss (none-left n 1 ss (omega (arith, one)) a nested (sym same ∙ h.1))
in-sections s es n ss (Sep b) i e h same nested a = a
in-sections s es n ss (Ref m) i e h same nested a = a
in-sections s es n ss EntityEnd i e h same nested a = a
in-sections s es n ss (SectionStart st) i e h same nested a =
    let low = one-text es i.0 (0 ∷ []) i.2 in
    (omega (arith, low, e), h, a)
in-sections s es n ss SectionEnd i e h same nested a = from-ended 1 ss a
in-sections s es n ss (Skipped b) i e h same nested a = a
in-sections s es n ss (Pi text m) i e h same nested a = a
in-sections s es n ss Comment i e h same nested a = a
in-sections s es n ss _ i e h same nested a = absurd h

after-sections : (s : State) (es : List ℕ) (n : ℕ) (ss : List Section) (k : Kind) → EndIn (1 ∷ 0 ∷ []) es → n ≡ length es → InType s es k → AreFrom 2 ss
    → SectionsAt (stage_after k AfterSubset) (sections_after (border k) n ss)
unfolding border stage_after
after-sections s es n ss (Declare lexemes says base) i e h a = a
after-sections s es n ss (SubsetEnd reads) i e h a = a
after-sections s es n ss (Sep b) i e h a = a
after-sections s es n ss (Ref m) i e h a = a
after-sections s es n ss EntityEnd i e h a = a
after-sections s es n ss (SectionStart st) i e h a =
    let low = one-text es i.0 (1 ∷ 0 ∷ []) i.2 in
    (omega (arith, low, e), h, a)
after-sections s es n ss SectionEnd i e h a = from-ended 2 ss a
after-sections s es n ss (Skipped b) i e h a = a
after-sections s es n ss (Pi text m) i e h a = a
after-sections s es n ss Comment i e h a = a
after-sections s es n ss _ i e h a = absurd h

pub sections-after : (g : Stage) (s : State) (es : List ℕ) (n : ℕ) (ss : List Section) (k : Kind) → Inner g es → n ≡ length es → KindAt g s es k
    → (in_section s.texts s.sections ≡ in_section n ss) → AreNested n ss → SectionsAt g ss → SectionsAt (stage_after k g) (sections_after (border k) n ss)
sections-after BeforeSyntax s es n ss k i e h same nested a = absurd i
sections-after AtBeginning s es n ss k i e h same nested a = first-sections (stage_after k AtBeginning) n ss k h a
sections-after BeforeDoctype s es n ss k i e h same nested a = first-sections (stage_after k BeforeDoctype) n ss k (before-is-first k h) a
sections-after InSubset s es n ss k i e h same nested a = in-sections s es n ss k i e h same nested a
sections-after AfterSubset s es n ss k i e h same nested a = after-sections s es n ss k i e h a
