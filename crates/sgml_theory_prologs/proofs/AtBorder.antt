-- What stands at the first border: the document alone, and nothing else is open.
use Rattle.std.proofs.Common.{◌≡◌, ℕ, inl, inr, Bool, true, false, not, ◌&&◌, ◌||◌, ◌==◌, List, [], ◌∷◌, ◌++◌, None, Result, Ok, Err, length, map, refl, sym, ap, ◌∙◌, subst, arith, eqb-true}
use Rattle.std.specs.List.{list_any}
use Rattle.std.specs.Option.{option_or}
use Rattle.sgml_io.specs.text.declared.reason.Reason.{Reason}
use Rattle.sgml_theory_standing.specs.marked.declared.sections.Section.{Section}
use Rattle.sgml_theory_standing.specs.theory_reading.Names.{Name, Text}
use Rattle.sgml_theory_standing.specs.theory_reading.Pieces.{Piece, Kind, Sgml, Head, Declare, SubsetEnd, Sep, Ref, EntityEnd, SectionStart, SectionEnd, Skipped, Pi, Comment, History}
use Rattle.sgml_theory_standing.specs.theory_reading.Facets.{Stage, BeforeSyntax, AtBeginning, BeforeDoctype, InSubset, AfterSubset, items_of}
use Rattle.sgml_theory_standing.specs.theory_reading.Nest.{types, nest, nest_after}
use Rattle.sgml_theory_standing.specs.theory_reading.Context.{Level, level_of, any_start, ends_in_omitted_start, context}
use Rattle.sgml_theory_standing.specs.theory_reading.ShortTags.{net_in_force}
use Rattle.sgml_theory_standing.specs.theory_reading.Sections.{sections}
use Rattle.sgml_theory_standing.specs.theory_reading.Maps.{map_settings, setting_of_open}
use Rattle.sgml_theory_standing.specs.theory_reading.Currents.{currents, given}
use Rattle.sgml_theory_standing.specs.theory_reading.State.{State, state, stage, facts_of_open, record_ends, last_ended}
use Rattle.sgml_theory_standing.specs.theory_reading.Unread.{Input, Rest, Standing, texts, rests, spent, opening, standing}
use Rattle.sgml_theory_standing.specs.theory_reading.Reads.{Move, judged_piece, ReadOn, ReadDecided, ReadsFromStart, read_by, after_moves, with_more, rest_with_more, is_after_subset, is_border, is_first_border, ends_in_finish, moved_on}
use Rattle.sgml_theory_standing.specs.theory_reading.Events.{shown, told, items_in, events}
use Rattle.sgml_theory_standing.proofs.theory_reading.Borders.{first-is-border, first-has-none-before}
use Rattle.sgml_theory_standing.proofs.theory_reading.Cutting.{decided-stays}
use Rattle.sgml_theory_standing.specs.theory_spelling.Nested.{AreNested}
use Rattle.sgml_theory_standing.specs.theory_reading.Characters.{piece_noted}
use Rattle.sgml_theory_standing.specs.theory_spelling.Spelled.{spelled, forms}
use Rattle.sgml_theory_standing.proofs.theory_spelling.Decides.{decides}
use Rattle.sgml_theory_standing.proofs.theory_spelling.Nested.{read-sections-are-nested}
use Rattle.sgml_theory_standing.specs.Prologs.{is_of_prolog, is_piece_of_prolog, is_in_prolog, alone as visible_move}
use Rattle.sgml_theory_standing.proofs.Prologs.{both, plain}
use Rattle.sgml_theory_prologs.specs.Prologs.{ReadsProlog, cut_at, IsBeforeInstance, instruction_of, instructions_of}
use Rattle.sgml_theory_prologs.specs.Laws.{DeclarationEnds, PrologsAreThere, PrologsAreOne, ImpliedNames, PrologsAreDecided, DecidedPrologsAreRead, NothingIsOpen, InstructionsAreTold}
use Rattle.sgml_theory_prologs.proofs.Recognised.{never}
use Rattle.sgml_theory_prologs.proofs.PieceKinds.{entities_of}
use Rattle.sgml_theory_prologs.proofs.Shapes.{Shape, not-two, AreFrom, SectionsAt}
use Rattle.sgml_theory_prologs.proofs.Steps.{document_in, Stands, begins, Step, step-of}
use Rattle.sgml_theory_prologs.proofs.Coming.{ToBorder, to-border, moved-stands, all-stand}
use Rattle.sgml_theory_prologs.proofs.Longer.{longer-opening, Lie, longer-all, alone, nothing-before}
use Rattle.sgml_theory_prologs.proofs.Deciding.{all-decided}

-- A BORDER

after-is : (g : Stage) → is_after_subset g ≡ true → g ≡ AfterSubset
after-is BeforeSyntax e = never false e refl
after-is AtBeginning e = never false e refl
after-is BeforeDoctype e = never false e refl
after-is InSubset e = never false e refl
after-is AfterSubset e = refl

pub border-parts : (h : History) → is_border h ≡ true → (stage h ≡ AfterSubset) × (texts h ≡ 1)
unfolding state
border-parts h e =
    let x = both (is_after_subset (stage h)) ((texts h == 1) && not (ends_in_finish h)) e in
    let y = both (texts h == 1) (not (ends_in_finish h)) x.1 in
    (after-is (stage h) x.0, eqb-true (texts h) 1 y.0)

-- the document alone is open there
abbrev AloneIn : Input → History → Type 0
AloneIn I h = (bytes : Text) × (rests I h ≡ record { entity = 0; bytes = bytes } ∷ [])

abbrev first_number : List ℕ → ℕ
first_number [] = 0
first_number (n ∷ ns) = n

alone-by : (I : Input) (h : History) (rs : List Rest) → rests I h ≡ rs → Shape AfterSubset (entities_of rs) → length (entities_of rs) ≡ 1 → AloneIn I h
alone-by I h [] e s l = absurd (omega (arith, l))
alone-by I h (r ∷ []) e (inl s) l = absurd (not-two r.entity s.0 s.2)
alone-by I h (r ∷ []) e (inr s) l =
    let number : r.entity ≡ 0 = ap first_number s in
    (r.bytes, e ∙ (λ i. (record { entity = number i; bytes = r.bytes }) ∷ []))
alone-by I h (r ∷ x ∷ rs) e s l = absurd (omega (arith, l))

alone-there : (I : Input) (h : History) → Stands I h → is_border h ≡ true → AloneIn I h
alone-there I h s b =
    let x = border-parts h b in
    alone-by I h (rests I h) refl (subst (λ g. Shape g (entities_of (rests I h))) x.0 s.shape) (sym s.texts_are ∙ x.1)

pub way : (I : Input) (ms : List Move) → ReadsFromStart forms I ms → is_first_border (read_by I ms) ≡ true → ToBorder I (opening I.outside) ms
way I ms reads first =
    to-border I (opening I.outside) ms reads (first-has-none-before (read_by I ms) first) (first-is-border (read_by I ms) first)

stands-there : (I : Input) (ms : List Move) → ReadsFromStart forms I ms → is_first_border (read_by I ms) ≡ true → Stands I (read_by I ms)
stands-there I ms reads first = all-stand I (opening I.outside) ms (begins I) (way I ms reads first)

pub prologs-are-there : PrologsAreThere
prologs-are-there I ms reads first =
    let h = read_by I ms in
    let s = stands-there I ms reads first in
    let z = alone-there I h s (first-is-border h first) in (
      s.done.0,
      z.0,
      record {
        reads = reads;
        first = first;
        document = s.done.1 ∙ ap (λ rs. s.done.0 ++ document_in rs) z.1;
        left = λ i. record { rests = z.1 i; spent = spent I.outside h };
      },
    )

-- ONE READING comes to it

ok-one : (p q : Piece) (x : Result Piece Reason) → x ≡ Ok p → x ≡ Ok q → p ≡ q
ok-one p q x e f = ap piece_or (sym e ∙ f)
  where
    piece_or : Result Piece Reason → Piece
    piece_or (Ok y) = y
    piece_or (Err r) = p

one-step : (I : Input) (h : History) (m n : Move) → Step I h m → Step I h n → m ≡ n
one-step I h m n x y =
    let same = ok-one x.piece y.piece (spelled I.outside (state h) (standing I h)) x.spelled_is y.spelled_is in
    x.move_is ∙ (ap (λ (p : Piece). visible_move (judged_piece (context h) (piece_noted (state h) p))) same ∙ sym y.move_is)

one-way : (I : Input) (h : History) (ms ns : List Move) → Stands I h → ToBorder I h ms → ToBorder I h ns → ms ≡ ns
one-way I h [] [] s t u = refl
one-way I h [] (n ∷ ns) s t u = never (is_border h) t u.0
one-way I h (m ∷ ms) [] s t u = never (is_border h) u t.0
one-way I h (m ∷ ms) (n ∷ ns) s t u =
    let same = one-step I h m n (step-of I h m s t.0 t.1) (step-of I h n s u.0 u.1) in
    let rest = one-way I (moved_on h m) ms ns (moved-stands I h m s t.0 t.1) t.2 (subst (λ z. ToBorder I (moved_on h z) ns) (sym same) u.2) in
    λ i. same i ∷ rest i

pub prologs-are-one : PrologsAreOne
prologs-are-one I ms ns reads first others too = one-way I (opening I.outside) ms ns (begins I) (way I ms reads first) (way I ns others too)

-- IT IS DECIDED

pub implied-names : ImpliedNames
implied-names = record { minus = refl; stop = refl }

pub same-input : (I : Input) (prolog rest : Text) → I.document ≡ prolog ++ rest → I ≡ with_more (cut_at I.outside prolog) rest I.was_cut
same-input I prolog rest e = λ i. record { document = e i; was_cut = I.was_cut; outside = I.outside }

record DecidedProlog (I : Input) (ms : List Move) (prolog : Text) : Type 0 where
  decided : ReadDecided forms (cut_at I.outside prolog) (opening I.outside) ms
  lie : Lie (cut_at I.outside prolog) (opening I.outside) ms
  nothing : rests (cut_at I.outside prolog) (read_by I ms) ≡ record { entity = 0; bytes = [] } ∷ []

decided-prolog : (I : Input) (ms : List Move) (prolog rest : Text) → DeclarationEnds I ms → ReadsProlog I ms prolog rest → DecidedProlog I ms prolog
decided-prolog I ms prolog rest has p =
    let h = read_by I ms in
    let K = cut_at I.outside prolog in
    let J = with_more K rest I.was_cut in
    let e : I ≡ J = same-input I prolog rest p.document in
    let reads : ReadOn forms J (opening I.outside) ms = subst (λ (X : Input). ReadOn forms X (opening I.outside) ms) e p.reads in
    let there : rests J h ≡ record { entity = 0; bytes = rest } ∷ [] = sym (ap (λ (X : Input). rests X h) e) ∙ ap (λ (t : Standing). t.rests) p.left in
    let d = all-decided K rest I.was_cut (opening I.outside) ms has (longer-opening K rest I.was_cut) (begins J) (way J ms reads p.first) (ap (λ rs. length (document_in rs)) there) in
    let long = longer-all K rest I.was_cut (opening I.outside) ms d.1 (longer-opening K rest I.was_cut) in
    let z = alone rest (rests K h) rest (sym long ∙ there) in
    let empty = nothing-before z.front rest z.bytes_are in
    record { decided = d.0; lie = d.1; nothing = z.is ∙ (λ i. (record { entity = 0; bytes = empty i }) ∷ []) }

pub prologs-are-decided : PrologsAreDecided
prologs-are-decided I ms prolog rest has p = (decided-prolog I ms prolog rest has p).decided

-- SO IT IS THE SAME in each document that begins so

read-there : (I : Input) (ms : List Move) (prolog rest other : Text) (cut : Bool) → DeclarationEnds I ms → ReadsProlog I ms prolog rest → ReadsProlog (with_more (cut_at I.outside prolog) other cut) ms prolog other
read-there I ms prolog rest other cut has p =
    let h = read_by I ms in
    let K = cut_at I.outside prolog in
    let d = decided-prolog I ms prolog rest has p in
    let there : rests (with_more K other cut) h ≡ record { entity = 0; bytes = other } ∷ [] =
    longer-all K other cut (opening I.outside) ms d.lie (longer-opening K other cut) ∙ ap (map (rest_with_more other)) d.nothing in
    record {
      reads = decided-stays forms K other cut ms decides d.decided;
      first = p.first;
      document = refl;
      left = λ i. record { rests = there i; spent = spent I.outside h };
    }

pub decided-prologs-are-read : DecidedPrologsAreRead
decided-prologs-are-read I J ms prolog rest other has o p e =
    let K = cut_at I.outside prolog in
    let q : J ≡ with_more K other J.was_cut = λ i. record { document = e i; was_cut = J.was_cut; outside = sym o i } in
    let same : read_by J ms ≡ read_by I ms = ap (λ x. after_moves (opening x) ms) (sym o) in
    record {
      reads = subst (λ (X : Input). ReadsProlog X ms prolog other) (sym q) (read-there I ms prolog rest other J.was_cut has p);
      read_same = same;
      state_same = ap state same;
    }

-- NOTHING IS OPEN

record Untouched (h : History) : Type 0 where
  nest : nest h ≡ []
  begun : any_start h ≡ false
  inferred : ends_in_omitted_start h ≡ false
  ended : last_ended h ≡ None
  currents : currents h ≡ (λ (e : Name) (a : Name). None)

untouched : (h : History) → is_in_prolog h ≡ true → Untouched h
unfolding nest last_ended currents
untouched [] e = record { nest = refl; begun = refl; inferred = refl; ended = refl; currents = refl }
untouched (p ∷ h) e =
    let parts = both (is_piece_of_prolog p) (is_in_prolog h) e in
    let x = plain p.kind parts.0 in
    let before = untouched h parts.1 in record {
      nest = (λ i. nest_after (x.0 i) h p (before.nest i));
      begun = (λ i. x.1 i || before.begun i);
      inferred = x.2;
      ended = (λ i. option_or (x.3 i) (before.ended i));
      currents = (λ i. λ (e : Name) (a : Name). option_or (given (types h) (x.4 i) e a) (before.currents i e a));
    }

no-sections : (ss : List Section) → AreFrom 2 ss → AreNested 1 ss → ss ≡ []
no-sections [] a n = refl
no-sections (x ∷ xs) a n = absurd (omega (arith, a.0, n.0))

before-instance : (h : History) → is_in_prolog h ≡ true → stage h ≡ AfterSubset → texts h ≡ 1 → sections h ≡ [] → IsBeforeInstance (state h)
unfolding state context record_ends map_settings net_in_force
before-instance h e over one none =
    let u = untouched h e in
    let levels : map level_of (nest h) ≡ [] = ap (map level_of) u.nest in
    record {
      over = over;
      one_text = one;
      no_section = none;
      no_element = levels;
      none_begun = u.begun;
      none_inferred = u.inferred;
      no_net = ap (list_any (λ (l : Level). l.slash)) levels;
      no_setting = ap (map setting_of_open) u.nest;
      none_waits = ap (map facts_of_open) u.nest;
      none_ended = u.ended;
      none_current = λ element attribute. ap (λ c. c element attribute) u.currents;
    }

pub nothing-is-open : NothingIsOpen
nothing-is-open I ms reads first =
    let h = read_by I ms in
    let s = stands-there I ms reads first in
    let x = border-parts h (first-is-border h first) in
    let sections_from = subst (λ g. SectionsAt g (sections h)) x.0 s.sections_are in
    let nested = subst (λ n. AreNested n (sections h)) x.1 (read-sections-are-nested I ms reads).nested in
    (s.in_prolog, before-instance h s.in_prolog x.0 x.1 (no-sections (sections h) sections_from nested))

-- AND THE INSTRUCTIONS ALONE are told

kind-told : (s : State) (k : Kind) → is_of_prolog k ≡ true → told [] (shown forms s k) ≡ instruction_of k
unfolding shown items_of
kind-told s (Sgml syntax) e = refl
kind-told s (Head head base) e = refl
kind-told s (Declare lexemes says base) e = refl
kind-told s (SubsetEnd reads) e = refl
kind-told s (Sep b) e = refl
kind-told s (Ref n) e = refl
kind-told s EntityEnd e = refl
kind-told s (SectionStart st) e = refl
kind-told s SectionEnd e = refl
kind-told s (Skipped b) e = refl
kind-told s (Pi text n) e = refl
kind-told s Comment e = refl
kind-told s _ e = never false e refl

all-told : (h : History) → is_in_prolog h ≡ true → events forms h ≡ instructions_of h
unfolding events
all-told [] e = refl
all-told (p ∷ h) e =
    let parts = both (is_piece_of_prolog p) (is_in_prolog h) e in
    let u = untouched h parts.1 in
    let here : told (items_in (nest h)) (shown forms (state h) p.kind) ≡ instruction_of p.kind =
    ap (λ os. told (items_in os) (shown forms (state h) p.kind)) u.nest ∙ kind-told (state h) p.kind parts.0 in
    λ i. all-told h parts.1 i ++ here i

pub instructions-are-told : InstructionsAreTold
instructions-are-told I ms reads first = all-told (read_by I ms) (stands-there I ms reads first).in_prolog
