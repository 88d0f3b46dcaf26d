-- What holds of all that is read of a prolog, up to its border.
use Rattle.std.proofs.Common.{◌≡◌, ℕ, ◌≤◌, ◌-◌, ◌⊎◌, inl, inr, Bool, true, false, not, ◌&&◌, ◌==◌, List, [], ◌∷◌, ◌++◌, Result, Ok, Err, length, take, drop, refl, sym, ap, ◌∙◌, subst, eq-eqb}
use Rattle.std.proofs.lemmas.List.{take-append-drop, append_assoc, length-drop}
use Rattle.sgml_io.specs.text.declared.reason.Reason.{Reason}
use Rattle.sgml_theory_standing.specs.theory_reading.Names.{Text}
use Rattle.sgml_theory_standing.specs.theory_reading.Pieces.{Piece, Kind, Re, ShortRef, SubsetEnd, Sgml, Head, Declare, Sep, Ref, EntityEnd, SectionStart, SectionEnd, Skipped, Pi, Comment, History}
use Rattle.sgml_theory_standing.specs.theory_reading.Facets.{Turn, OpensText, EndsText, StaysInText, turn, token, border, is_finish, declares, Stage, BeforeSyntax, AtBeginning, BeforeDoctype, InSubset, AfterSubset, stage_after}
use Rattle.sgml_theory_standing.specs.theory_reading.Nest.{types}
use Rattle.sgml_theory_standing.specs.theory_reading.Context.{Context, context}
use Rattle.sgml_theory_standing.specs.theory_reading.Omission.{MayStand, leaves, misfits}
use Rattle.sgml_theory_standing.specs.theory_reading.Runs.{LongestRun, after_run}
use Rattle.sgml_theory_standing.specs.theory_reading.Sections.{sections}
use Rattle.sgml_theory_standing.specs.theory_reading.State.{State, state, stage}
use Rattle.sgml_theory_standing.specs.theory_reading.Characters.{kind_noted, piece_noted}
use Rattle.sgml_theory_standing.specs.theory_reading.Unread.{Input, Rest, standing, sources, text_of, texts, texts_after, rests, rest_moved, rest_turned, opening}
use Rattle.sgml_theory_standing.specs.theory_reading.Reads.{Move, Moves, MovesTo, Reads, ReadsFromStart, judged, judged_piece, answer_noted, unless_undecided, moved_on, read_by, ends_in_finish, is_after_subset, is_border, length_of_first}
use Rattle.sgml_theory_standing.specs.theory_spelling.Prolog.{in_document}
use Rattle.sgml_theory_standing.specs.theory_spelling.Nested.{AreNested}
use Rattle.sgml_theory_standing.specs.theory_spelling.Decided.{decided}
use Rattle.sgml_theory_standing.specs.theory_spelling.Spelled.{spelled, forms}
use Rattle.sgml_theory_standing.proofs.theory_spelling.Nested.{read-sections-are-nested}
use Rattle.sgml_theory_standing.proofs.theory_spelling.Taken.{takes-its-bytes}
use Rattle.sgml_theory_standing.specs.Prologs.{is_of_prolog, is_in_prolog, alone}
use Rattle.sgml_theory_standing.proofs.Standing.{read-one}
use Rattle.sgml_theory_prologs.proofs.Recognised.{never}
use Rattle.sgml_theory_prologs.proofs.PieceKinds.{KindAt, entities_of, spelled-at, noted-at, at-of}
use Rattle.sgml_theory_prologs.proofs.Shapes.{Inner, Shape, inner-doctype, inner-end, inner-single, inner-many, inner-some, turned_entities, texts-turned, shape-after, ends-other, SectionsAt, sections-after}

-- WHAT IS UNREAD OF THE DOCUMENT, which is the last text

abbrev pub last_or : Text → List Rest → Text
last_or text [] = text
last_or text (r ∷ rs) = last_or r.bytes rs

abbrev pub document_in : List Rest → Text
document_in rs = last_or [] rs

-- WHAT HOLDS after all that was read of a prolog, up to the border
pub record Stands (I : Input) (h : History) : Type 0 where
  pub read : (ms : List Move) × ReadsFromStart forms I ms × (h ≡ read_by I ms)
  pub in_prolog : is_in_prolog h ≡ true
  pub shape : Shape (stage h) (entities_of (rests I h))
  pub texts_are : texts h ≡ length (entities_of (rests I h))
  pub syntax_is : stage h ≡ AtBeginning → (types h).syntax ≡ I.outside.syntax
  pub sections_are : SectionsAt (stage h) (sections h)
  pub done : (front : Text) × (I.document ≡ front ++ document_in (rests I h))

and-parts : (t u : Bool) → (t && u) ≡ true → (t ≡ true) × (u ≡ true)
and-parts true u e = (refl, e)
and-parts false u e = never false e refl

and-true : (t u : Bool) → t ≡ true → u ≡ true → (t && u) ≡ true
and-true t u e f = (λ i. e i && f i)

not-finish : (k : Kind) → is_of_prolog k ≡ true → is_finish k ≡ false
unfolding is_finish
not-finish (Sgml syntax) e = refl
not-finish (Head head base) e = refl
not-finish (Declare lexemes says base) e = refl
not-finish (SubsetEnd reads) e = refl
not-finish (Sep b) e = refl
not-finish (Ref n) e = refl
not-finish EntityEnd e = refl
not-finish (SectionStart st) e = refl
not-finish SectionEnd e = refl
not-finish (Skipped b) e = refl
not-finish (Pi text n) e = refl
not-finish Comment e = refl
not-finish _ e = never false e refl

pub goes-on : (h : History) → is_in_prolog h ≡ true → ends_in_finish h ≡ false
goes-on [] e = refl
goes-on (p ∷ h) e = not-finish p.kind (and-parts (is_of_prolog p.kind) (is_in_prolog h) e).0

stage-is : (h : History) → (state h).stage ≡ stage h
unfolding state
stage-is h = refl

pub at-border : (h : History) → stage h ≡ AfterSubset → texts h ≡ 1 → ends_in_finish h ≡ false → is_border h ≡ true
unfolding state
at-border h e f g = λ i. is_after_subset (e i) && ((f i == 1) && not (g i))

inner-by : (I : Input) (h : History) (g : Stage) → stage h ≡ g → is_border h ≡ false → ends_in_finish h ≡ false → texts h ≡ length (entities_of (rests I h)) → Shape g (entities_of (rests I h)) → Inner g (entities_of (rests I h))
inner-by I h BeforeSyntax e b f t s = s
inner-by I h AtBeginning e b f t s = s
inner-by I h BeforeDoctype e b f t s = s
inner-by I h InSubset e b f t s = s
inner-by I h AfterSubset e b f t (inl s) = s
inner-by I h AfterSubset e b f t (inr s) = never (is_border h) (at-border h e (t ∙ ap length s) f) b

pub inner : (I : Input) (h : History) → Stands I h → is_border h ≡ false → Inner (stage h) (entities_of (rests I h))
inner I h s b = inner-by I h (stage h) refl b (goes-on h s.in_prolog) s.texts_are s.shape

-- NO TAG is left out before a piece of the prolog

no-leaving : (c : Context) (x : Kind) → is_of_prolog x ≡ true → leaves c x ≡ false
unfolding leaves token
no-leaving c (Sgml syntax) e = refl
no-leaving c (Head head base) e = refl
no-leaving c (Declare lexemes says base) e = refl
no-leaving c (SubsetEnd reads) e = refl
no-leaving c (Sep b) e = refl
no-leaving c (Ref n) e = refl
no-leaving c EntityEnd e = refl
no-leaving c (SectionStart st) e = refl
no-leaving c SectionEnd e = refl
no-leaving c (Skipped b) e = refl
no-leaving c (Pi text n) e = refl
no-leaving c Comment e = refl
no-leaving c _ e = never false e refl

no-misfit : (c : Context) (x : Kind) → is_of_prolog x ≡ true → misfits c (token x) ≡ false
unfolding token
no-misfit c (Sgml syntax) e = refl
no-misfit c (Head head base) e = refl
no-misfit c (Declare lexemes says base) e = refl
no-misfit c (SubsetEnd reads) e = refl
no-misfit c (Sep b) e = refl
no-misfit c (Ref n) e = refl
no-misfit c EntityEnd e = refl
no-misfit c (SectionStart st) e = refl
no-misfit c SectionEnd e = refl
no-misfit c (Skipped b) e = refl
no-misfit c (Pi text n) e = refl
no-misfit c Comment e = refl
no-misfit c _ e = never false e refl

none-stands : (c : Context) (x : Kind) (o : Piece) → is_of_prolog x ≡ true → MayStand c o x → ⊥
none-stands c x o e (inl m) = never (leaves c x) m.2.before (no-leaving c x e)
none-stands c x o e (inr m) = never (misfits c (token x)) m.2.before (no-misfit c x e)

none-omitted : (h : History) (x : Kind) (os : List Piece) → is_of_prolog x ≡ true → LongestRun h x os → os ≡ []
none-omitted h x [] e r = refl
none-omitted h x (o ∷ os) e r = absurd (none-stands (context h) x o e r.0)

noted-prolog : (s : State) (k : Kind) → is_of_prolog (kind_noted s k) ≡ is_of_prolog k
unfolding kind_noted
noted-prolog s (Re live) = refl
noted-prolog s (ShortRef string meaning) = refl
noted-prolog s (SubsetEnd reads) = refl
noted-prolog s _ = refl

-- A STEP: the piece that is spelled is the visible one, and no other was omitted
pub record Step (I : Input) (h : History) (m : Move) : Type 0 where
  pub piece : Piece
  pub spelled_is : spelled I.outside (state h) (standing I h) ≡ Ok piece
  pub moves : Moves forms h (piece_noted (state h) piece) m
  pub move_is : m ≡ alone (judged_piece (context h) (piece_noted (state h) piece))
  pub moved : moved_on h m ≡ m.visible ∷ h
  pub kind_is : m.visible.kind ≡ judged (context h) (kind_noted (state h) piece.kind)
  pub size_is : m.visible.size ≡ piece.size
  pub spelled_kind : KindAt (stage h) (state h) (entities_of (rests I h)) piece.kind
  pub kind_at : KindAt (stage h) (state h) (entities_of (rests I h)) m.visible.kind

moves-step : (I : Input) (h : History) (m : Move) (p : Piece) → Inner (stage h) (entities_of (rests I h)) → spelled I.outside (state h) (standing I h) ≡ Ok p → Moves forms h (piece_noted (state h) p) m → Step I h m
unfolding state
moves-step I h m p i e r =
    let es = entities_of (rests I h) in
    let k = spelled-at I.outside (state h) (standing I h) p (inner-doctype (stage h) es i) (inner-end (stage h) es i) e in
    let of_prolog : is_of_prolog (kind_noted (state h) p.kind) ≡ true = noted-prolog (state h) p.kind ∙ at-of (stage h) (state h) es p.kind k in
    let none = none-omitted h (kind_noted (state h) p.kind) m.omitted of_prolog r.longest in
    let visible : m.visible ≡ judged_piece (context h) (piece_noted (state h) p) = r.visible ∙ ap (λ os. judged_piece (context (after_run h os)) (piece_noted (state h) p)) none in
    let is : m.visible.kind ≡ judged (context h) (kind_noted (state h) p.kind) = ap (λ (q : Piece). q.kind) visible in
    record {
      piece = p;
      spelled_is = e;
      moves = r;
      move_is = λ i. record { omitted = none i; visible = visible i };
      moved = ap (λ os. m.visible ∷ after_run h os) none;
      kind_is = is;
      size_is = ap (λ (q : Piece). q.size) visible;
      spelled_kind = k;
      kind_at = subst (KindAt (stage h) (state h) es) (sym is) (noted-at (stage h) (context h) (state h) es p.kind k);
    }

answer-step : (I : Input) (h : History) (m : Move) → Inner (stage h) (entities_of (rests I h)) → (b : Bool) (x : Result Piece Reason) → spelled I.outside (state h) (standing I h) ≡ x
    → MovesTo forms h (unless_undecided b (answer_noted (state h) x)) m → Step I h m
answer-step I h m i true x e r = absurd r
answer-step I h m i false (Err y) e r = absurd r
answer-step I h m i false (Ok p) e r = moves-step I h m p i e r

pub step-of : (I : Input) (h : History) (m : Move) → Stands I h → is_border h ≡ false → Reads forms I h m → Step I h m
step-of I h m s b r =
    answer-step I h m (inner I h s b) (I.was_cut && not (decided I.outside (state h) (standing I h))) (spelled I.outside (state h) (standing I h)) refl r.moves

-- WHAT IS UNREAD AFTER IT

moved-entities : (n : ℕ) (rs : List Rest) → entities_of (rest_moved n rs) ≡ entities_of rs
moved-entities n [] = refl
moved-entities n (r ∷ rs) = refl

turned-entities : (text : ℕ → Text) (t : Turn) (rs : List Rest) → entities_of (rest_turned text t rs) ≡ turned_entities t (entities_of rs)
turned-entities text (OpensText e) rs = refl
turned-entities text EndsText [] = refl
turned-entities text EndsText (r ∷ rs) = refl
turned-entities text StaysInText rs = refl

pub entities-after : (I : Input) (p : Piece) (h : History) → entities_of (rests I (p ∷ h)) ≡ turned_entities (turn p.kind) (entities_of (rests I h))
unfolding rests
entities-after I p h =
    turned-entities (text_of I.outside (sources (p ∷ h))) (turn p.kind) (rest_moved p.size (rests I h)) ∙ ap (turned_entities (turn p.kind)) (moved-entities p.size (rests I h))

-- of the document: where it is at the top it is less by the piece, and else the same
pub record FromDocument (I : Input) (h : History) (p : Piece) : Type 0 where
  pub rest : Rest
  pub alone : rests I h ≡ rest ∷ []
  pub number : rest.entity ≡ 0
  pub within : p.size ≤ length rest.bytes
  pub left : document_in (rests I (p ∷ h)) ≡ drop p.size rest.bytes

pub record FromOther (I : Input) (h : History) (p : Piece) : Type 0 where
  pub other : in_document (entities_of (rests I h)) ≡ false
  pub left : document_in (rests I (p ∷ h)) ≡ document_in (rests I h)

abbrev pub Taken : Input → History → Piece → Type 0
Taken I h p = FromDocument I h p ⊎ FromOther I h p

one-left : (text : ℕ → Text) (t : Turn) (n : ℕ) (r : Rest) → (t ≡ EndsText → ⊥) → document_in (rest_turned text t (rest_moved n (r ∷ []))) ≡ drop n r.bytes
one-left text (OpensText e) n r f = refl
one-left text EndsText n r f = absurd (f refl)
one-left text StaysInText n r f = refl

more-left : (text : ℕ → Text) (t : Turn) (n : ℕ) (r x : Rest) (rs : List Rest) → document_in (rest_turned text t (rest_moved n (r ∷ x ∷ rs))) ≡ document_in (r ∷ x ∷ rs)
more-left text (OpensText e) n r x rs = refl
more-left text EndsText n r x rs = refl
more-left text StaysInText n r x rs = refl

taken-by : (I : Input) (h : History) (p : Piece) (rs : List Rest) → rests I h ≡ rs → Inner (stage h) (entities_of rs) → (turn p.kind ≡ EndsText → in_document (entities_of rs) ≡ false) → p.size ≤ length_of_first rs → Taken I h p
unfolding rests
taken-by I h p [] e i f l = absurd (inner-some (stage h) i)
taken-by I h p (r ∷ []) e i f l =
    let text = text_of I.outside (sources (p ∷ h)) in
    let zero_is = inner-single (stage h) r.entity i in
    inl (record {
      rest = r;
      alone = e;
      number = zero_is;
      within = l;
      left = ap (λ rs. document_in (rest_turned text (turn p.kind) (rest_moved p.size rs))) e
          ∙ one-left text (turn p.kind) p.size r (λ g. never (r.entity == 0) (eq-eqb r.entity 0 zero_is) (f g));
    })
taken-by I h p (r ∷ x ∷ rs) e i f l =
    let text = text_of I.outside (sources (p ∷ h)) in
    inr (record {
      other = ap (λ rs. in_document (entities_of rs)) e ∙ inner-many (stage h) r.entity x.entity (entities_of rs) i;
      left = ap (λ rs. document_in (rest_turned text (turn p.kind) (rest_moved p.size rs))) e ∙ (more-left text (turn p.kind) p.size r x rs ∙ sym (ap document_in e));
    })

pub step-taken : (I : Input) (h : History) (m : Move) → Stands I h → is_border h ≡ false → Step I h m → Taken I h m.visible
step-taken I h m s b x =
    let es = entities_of (rests I h) in
    let t = takes-its-bytes I.outside (state h) (standing I h) x.piece x.spelled_is in
    taken-by I h m.visible (rests I h) refl (inner I h s b) (λ e. ends-other (stage h) (state h) es m.visible.kind x.kind_at e)
    (subst (λ n. n ≤ length_of_first (rests I h)) (sym x.size_is) t.within)

-- how much that is
abbrev pub left_of : Input → History → ℕ
left_of I h = length (document_in (rests I h))

pub document-left : (I : Input) (h : History) (p : Piece) (x : FromDocument I h p) → (left_of I h ≡ length x.rest.bytes) × (left_of I (p ∷ h) ≡ length x.rest.bytes - p.size)
document-left I h p x = (ap (λ rs. length (document_in rs)) x.alone, ap length x.left ∙ length-drop p.size x.rest.bytes)

-- IT STANDS SO after the piece

done-after : (I : Input) (h : History) (p : Piece) → Taken I h p → (front : Text) × (I.document ≡ front ++ document_in (rests I h)) → (front : Text) × (I.document ≡ front ++ document_in (rests I (p ∷ h)))
done-after I h p (inl x) (front, e) =
    let bytes = x.rest.bytes in
    let split : document_in (rests I h) ≡ take p.size bytes ++ drop p.size bytes = ap document_in x.alone ∙ sym (take-append-drop p.size bytes) in (
      front ++ take p.size bytes,
      e ∙ (ap (λ (z : Text). front ++ z) split ∙ (sym (append_assoc front (take p.size bytes) (drop p.size bytes)) ∙ ap (λ (z : Text). (front ++ take p.size bytes) ++ z) (sym x.left))),
    )
done-after I h p (inr x) (front, e) = (front, e ∙ ap (λ (z : Text). front ++ z) (sym x.left))

first-stage : (k : Kind) (g : Stage) (s : State) (es : List ℕ) → Inner g es → KindAt g s es k → stage_after k g ≡ AtBeginning → (g ≡ AtBeginning) × ((d : _) → declares k d ≡ d)
unfolding stage_after declares
first-stage (Sep b) g s es i h e = (e, λ d. refl)
first-stage (Sgml syntax) BeforeSyntax s es i h e = absurd i
first-stage (Sgml syntax) AtBeginning s es i h e = absurd (cc)
first-stage (Sgml syntax) BeforeDoctype s es i h e = absurd (cc)
first-stage (Sgml syntax) InSubset s es i h e = absurd (cc)
first-stage (Sgml syntax) AfterSubset s es i h e = absurd (cc)
first-stage (Head head base) g s es i h e = by head.subset e
  where
    by : (t : Bool) → Rattle.sgml_theory_standing.specs.theory_reading.Facets.stage_of_head t ≡ AtBeginning → (g ≡ AtBeginning) × ((d : _) → declares (Head head base) d ≡ d)
    by true e = absurd (cc)
    by false e = absurd (cc)
first-stage (SubsetEnd reads) g s es i h e = absurd (cc)
first-stage _ BeforeSyntax s es i h e = absurd i
first-stage _ AtBeginning s es i h e = absurd (cc)
first-stage _ BeforeDoctype s es i h e = absurd (cc)
first-stage _ InSubset s es i h e = absurd (cc)
first-stage _ AfterSubset s es i h e = absurd (cc)

syntax-after : (I : Input) (h : History) (p : Piece) → Stands I h → Inner (stage h) (entities_of (rests I h)) → KindAt (stage h) (state h) (entities_of (rests I h)) p.kind → stage (p ∷ h) ≡ AtBeginning
    → (types (p ∷ h)).syntax ≡ I.outside.syntax
unfolding stage types
syntax-after I h p s i k e =
    let x = first-stage p.kind (stage h) (state h) (entities_of (rests I h)) i k e in
    ap (λ (d : Rattle.sgml_theory_standing.specs.dtd.Doctypes.Doctype). d.syntax) (x.1 (types h)) ∙ s.syntax_is x.0

nested-of : (I : Input) (h : History) → Stands I h → AreNested (texts h) (sections h)
nested-of I h s = subst (λ z. AreNested (texts z) (sections z)) (sym s.read.2) (read-sections-are-nested I s.read.0 s.read.1).nested

sections-on : (I : Input) (h : History) (p : Piece) → Stands I h → Inner (stage h) (entities_of (rests I h)) → KindAt (stage h) (state h) (entities_of (rests I h)) p.kind → SectionsAt (stage (p ∷ h)) (sections (p ∷ h))
unfolding stage sections state
sections-on I h p s i k =
    sections-after (stage h) (state h) (entities_of (rests I h)) (texts h) (sections h) p.kind i s.texts_are k refl (nested-of I h s) s.sections_are

shape-on : (I : Input) (h : History) (p : Piece) → Inner (stage h) (entities_of (rests I h)) → KindAt (stage h) (state h) (entities_of (rests I h)) p.kind → Shape (stage (p ∷ h)) (entities_of (rests I (p ∷ h)))
unfolding stage
shape-on I h p i k =
    subst (Shape (stage_after p.kind (stage h))) (sym (entities-after I p h)) (shape-after (stage h) (state h) (entities_of (rests I h)) p.kind i k)

texts-on : (I : Input) (h : History) (p : Piece) → texts h ≡ length (entities_of (rests I h)) → texts (p ∷ h) ≡ length (entities_of (rests I (p ∷ h)))
unfolding texts
texts-on I h p e = ap (texts_after (turn p.kind)) e ∙ (texts-turned (turn p.kind) (entities_of (rests I h)) ∙ ap length (sym (entities-after I p h)))

pub stands-on : (I : Input) (h : History) (m : Move) → Stands I h → is_border h ≡ false → Reads forms I h m → Step I h m → Stands I (m.visible ∷ h)
stands-on I h m s b r x =
    let i = inner I h s b in
    let read = read-one I h m s.read r in
    record {
      read = (read.0, read.1, sym x.moved ∙ read.2);
      in_prolog = and-true (is_of_prolog m.visible.kind) (is_in_prolog h) (at-of (stage h) (state h) (entities_of (rests I h)) m.visible.kind x.kind_at) s.in_prolog;
      shape = shape-on I h m.visible i x.kind_at;
      texts_are = texts-on I h m.visible s.texts_are;
      syntax_is = syntax-after I h m.visible s i x.kind_at;
      sections_are = sections-on I h m.visible s i x.kind_at;
      done = done-after I h m.visible (step-taken I h m s b x) s.done;
    }

-- before the first byte
pub begins : (I : Input) → Stands I (opening I.outside)
unfolding rests turn texts stage stage_after types declares sections border
begins I = record {
  read = ([], tt, refl);
  in_prolog = refl;
  shape = refl;
  texts_are = refl;
  syntax_is = λ e. refl;
  sections_are = refl;
  done = ([], refl);
}
