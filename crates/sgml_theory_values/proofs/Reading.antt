-- What holds of definitions and current values holds after all that was read.
use Rattle.std.proofs.Common.{◌≡◌, ℕ, Bool, true, false, not, ◌&&◌, List, [], ◌∷◌, ◌++◌, Option, Some, None, Result, Ok, Err, refl, sym, ap, subst, ◌∙◌, inl, inr, if◌then◌else◌}
use Rattle.std.specs.List.{slice_get}
use Rattle.std.specs.Option.{option_or}
use Rattle.sgml_full.specs.text.declared.reason.Reason.{Reason}
use Rattle.sgml_full.specs.attr.declared.definition.Definition.{Definition}
use Rattle.sgml_full.specs.dtd_attlists.declared.list.AttributeList.{AttributeList}
use Rattle.sgml_full.specs.dtd_attlists.Tables.{list_of, definitions_in}
use Rattle.sgml_full.specs.dtd.Doctypes.{Doctype, definitions_at}
use Rattle.sgml_theory_starts.specs.theory_reading.Names.{Name}
use Rattle.sgml_theory_starts.specs.theory_reading.Types.{attributes, same_number, has_same_list, has_current, definition_of}
use Rattle.sgml_theory_starts.specs.theory_reading.Pieces.{Piece, Kind, Specification, Sgml, Head, Declare, SubsetEnd, Sep, Start, Re, ShortRef, History}
use Rattle.sgml_theory_starts.specs.theory_reading.Facets.{Stage, BeforeSyntax, AtBeginning, BeforeDoctype, InSubset, AfterSubset, stage_begun, stage_of_head, stage_after, specified, declares}
use Rattle.sgml_theory_starts.specs.theory_reading.Nest.{types}
use Rattle.sgml_theory_starts.specs.theory_reading.Context.{Context, context}
use Rattle.sgml_theory_starts.specs.theory_reading.Omission.{MayStand, omitted_start, omitted_end}
use Rattle.sgml_theory_starts.specs.theory_reading.Runs.{LongestRun, after_run}
use Rattle.sgml_theory_starts.specs.theory_reading.Characters.{kind_noted, piece_noted}
use Rattle.sgml_theory_starts.specs.theory_reading.Unread.{Outside, Input, standing, opening}
use Rattle.sgml_theory_starts.specs.theory_reading.State.{State, state, stage}
use Rattle.sgml_theory_starts.specs.theory_reading.Currents.{Currents, currents, currents_after, value_in, given}
use Rattle.sgml_theory_starts.specs.theory_reading.Reads.{Move, Moves, MovesTo, Reads, ReadOn, moved_on, judged, answer_noted, unless_undecided, after_moves, run_reason, refusal, read_by}
use Rattle.sgml_theory_starts.specs.theory_spelling.Stacked.{Stacked, stacked}
use Rattle.sgml_theory_starts.specs.theory_spelling.Attributes.{unvalued, valued}
use Rattle.sgml_theory_starts.specs.theory_spelling.Spelled.{forms, spelled}
use Rattle.sgml_theory_starts.specs.theory_spelling.Decided.{decided}
use Rattle.sgml_theory_kinds.specs.Kinds.{HasItsPlace}
use Rattle.sgml_theory_kinds.proofs.Placed.{spelled-pieces-have-their-places}
use Rattle.sgml_theory_starts.specs.Apart.{HasListsApart, IsHeld}
use Rattle.sgml_theory_starts.proofs.Apart.{attributes-are-apart}
use Rattle.sgml_theory_starts.proofs.Holding.{spelled-holds}
use Rattle.sgml_theory_starts.proofs.Reading.{held-is-apart}
use Rattle.sgml_theory_values.specs.Starts.{HasDefault, DefinitionsHold}
use Rattle.sgml_theory_values.specs.Full.{value_read}
use Rattle.sgml_theory_values.specs.Read.{HaveDefaults, WhatIsReadHolds, ReadStartsHaveValues, written_again, ReadStartsAreReadBack}
use Rattle.sgml_theory_values.specs.Laws.{HasValues}
use Rattle.sgml_theory_values.proofs.Lists.{none-some, true-false}
use Rattle.sgml_theory_values.proofs.Facts.{or-first, or-second}
use Rattle.sgml_theory_values.proofs.Full.{full-documents-spell}
use Rattle.sgml_theory_values.proofs.Starts.{written-starts}
use Rattle.sgml_theory_values.proofs.Holding.{currents-hold}
use Rattle.sgml_theory_values.proofs.Declared.{Good, declared-good, head-good}

-- DEFINITIONS
defaults-in : (d : Doctype) → HaveDefaults d → (k : ℕ) (o : Option AttributeList) → slice_get d.lists k ≡ o → (i : ℕ) (x : Definition)
    → slice_get (definitions_in o) i ≡ Some x → HasDefault d.syntax x
defaults-in d h k None e i x at = none-some x at
defaults-in d h k (Some l) e i x at = h k i l x e at

defaults-at : (d : Doctype) → HaveDefaults d → (o : Option ℕ) (i : ℕ) (x : Definition) → slice_get (definitions_at d.lists o) i ≡ Some x → HasDefault d.syntax x
defaults-at d h None i x at = none-some x at
defaults-at d h (Some k) i x at = defaults-in d h k (slice_get d.lists k) refl i x at

pub definitions-hold : (d : Doctype) → HasListsApart d → HaveDefaults d → DefinitionsHold d
unfolding attributes
definitions-hold d a h = record { apart = λ n. attributes-are-apart d n a; defaults = λ n i x at. defaults-at d h (list_of d.lists n) i x at }

-- AFTER A PIECE

-- the syntax of a document may still be declared
abbrev is_early : Stage → Bool
is_early BeforeSyntax = true
is_early AtBeginning = true
is_early _ = false

-- nothing was declared of attributes, and nothing is current
abbrev Clear : Doctype → Currents → Type 0
Clear d c = (d.lists ≡ []) × ((n a : Name) → c n a ≡ None)

-- so it is where a syntax is declared
abbrev IsClear : Doctype → Currents → Kind → Type 0
IsClear d c (Sgml syntax) = Clear d c
IsClear d c _ = Unit {0}

record Holds (d : Doctype) (c : Currents) (g : Stage) : Type 0 where
  apart : HasListsApart d
  good : Good d c
  early : is_early g ≡ true → Clear d c

no-lists : (d : Doctype) (c : Currents) → d.lists ≡ [] → ((n a : Name) → c n a ≡ None) → Good d c
no-lists d c none nothing = record {
  defaults = λ i j l x h e. none-some l (sym (ap (λ (ls : List AttributeList). slice_get ls i) none) ∙ h);
  currents = record {
    given = λ n i x v h k. none-some v (sym (nothing n x.name) ∙ k);
    shared = λ n e a same. nothing n a ∙ sym (nothing e a);
  };
  unlisted = λ n a h. nothing n a;
}

begun-late : (g : Stage) → is_early (stage_begun g) ≡ true → ⊥
begun-late BeforeSyntax h = true-false (sym h)
begun-late AtBeginning h = true-false (sym h)
begun-late BeforeDoctype h = true-false (sym h)
begun-late InSubset h = true-false (sym h)
begun-late AfterSubset h = true-false (sym h)

head-late : (subset : Bool) → is_early (stage_of_head subset) ≡ true → ⊥
head-late true h = true-false (sym h)
head-late false h = true-false (sym h)

not-same : (o p : Option ℕ) → p ≡ None → same_number o p ≡ false
not-same o p h = ap (same_number o) h ∙ by o
  where
    by : (o : Option ℕ) → same_number o None ≡ false
    by None = refl
    by (Some i) = refl

unlisted-after : (d : Doctype) (c : Currents) (n : Name) (ss : List Specification) → ((e a : Name) → list_of d.lists e ≡ None → c e a ≡ None)
    → (e a : Name) → list_of d.lists e ≡ None → option_or (given d (Some (n, ss)) e a) (c e a) ≡ None
unfolding has_same_list
unlisted-after d c n ss f e a h =
    ap (λ t. option_or (if t && has_current d n a then value_in d (definition_of d n a) a ss else None) (c e a)) (not-same (list_of d.lists n) (list_of d.lists e) h)
    ∙ f e a h

apart-after : (d : Doctype) (kind : Kind) → IsHeld d kind → HasListsApart d → HasListsApart (declares kind d)
apart-after d kind held a = held-is-apart d kind held a

step : (s : State) (kind : Kind) → Holds s.context.doctype s.currents s.stage → IsHeld s.context.doctype kind → IsClear s.context.doctype s.currents kind → unvalued s kind ≡ None
    → Holds (declares kind s.context.doctype) (currents_after s.context.doctype kind s.currents) (stage_after kind s.stage)
unfolding declares specified stage_after
step s (Start n ss how proper at_once) h held placed none =
    let d = s.context.doctype in
    let definitions = definitions-hold d h.apart h.good.defaults in
    let currents = currents-hold s (Start n ss how proper at_once) (record { definitions = definitions; currents = h.good.currents; unopposed = none }) in
    record {
      apart = h.apart;
      good = record { defaults = h.good.defaults; currents = currents; unlisted = unlisted-after d s.currents n ss h.good.unlisted };
      early = λ e. absurd (begun-late s.stage e);
    }
step s (Sgml syntax) h held placed none =
    let e = placed in
    record {
      apart = h.apart;
      good = no-lists (record s.context.doctype { syntax = syntax }) s.currents e.0 e.1;
      early = λ f. e;
    }
step s (Sep byte) h held placed none = h
step s (Head head base) h held placed none = record {
  apart = h.apart;
  good = head-good s.context.doctype _ s.currents h.good;
  early = λ e. absurd (head-late head.subset e);
}
step s (Declare lexemes says base) h held placed none = record {
  apart = apart-after s.context.doctype (Declare lexemes says base) held h.apart;
  good = declared-good base lexemes s.context.doctype says s.currents h.good held;
  early = λ e. absurd (begun-late s.stage e);
}
step s (SubsetEnd reads) h held placed none = record { apart = h.apart; good = h.good; early = λ e. true-false (sym e) }
step s _ h held placed none = record { apart = h.apart; good = h.good; early = λ e. absurd (begun-late s.stage e) }

-- AFTER WHAT WAS READ
abbrev After : History → Type 0
After h = Holds (types h) (currents h) (stage h)

before-state : (h : History) → After h → Holds (state h).context.doctype (state h).currents (state h).stage
unfolding state context
before-state h a = a

after-step : (p : Piece) (h : History) → Holds (declares p.kind (state h).context.doctype) (currents_after (state h).context.doctype p.kind (state h).currents) (stage_after p.kind (state h).stage)
    → After (p ∷ h)
unfolding state context types currents stage
after-step p h a = a

good-piece : (p : Piece) (h : History) → After h → IsHeld (state h).context.doctype p.kind → IsClear (state h).context.doctype (state h).currents p.kind → unvalued (state h) p.kind ≡ None → After (p ∷ h)
good-piece p h a held placed none = after-step p h (step (state h) p.kind (before-state h a) held placed none)

has-values : (h : History) (kind : Kind) → After h → unvalued (state h) kind ≡ None → HasValues (state h) kind
has-values h kind a none =
    let b = before-state h a in
    record { definitions = definitions-hold (state h).context.doctype b.apart b.good.defaults; currents = b.good.currents; unopposed = none }

-- tags that are left out
good-omitted : (h : History) (o : Piece) (x : Kind) → MayStand (context h) o x → After h → unvalued (state h) o.kind ≡ None → After (o ∷ h)
good-omitted h o x (inl m) a none = good-piece o h a (subst (λ (p : Piece). IsHeld (state h).context.doctype p.kind) (sym m.1) tt) (subst (λ (p : Piece). IsClear (state h).context.doctype (state h).currents p.kind) (sym m.1) tt) none
good-omitted h o x (inr m) a none = good-piece o h a (subst (λ (p : Piece). IsHeld (state h).context.doctype p.kind) (sym m.1) tt) (subst (λ (p : Piece). IsClear (state h).context.doctype (state h).currents p.kind) (sym m.1) tt) none

good-run : (h : History) (x : Kind) (os : List Piece) → LongestRun h x os → run_reason forms h os ≡ None → After h → After (after_run h os)
good-run h x [] r none a = a
good-run h x (o ∷ os) r none a =
    let here = or-first (unvalued (state h) o.kind) (run_reason forms (o ∷ h) os) none in
    good-run (o ∷ h) x os r.1 (or-second (unvalued (state h) o.kind) (run_reason forms (o ∷ h) os) none) (good-omitted h o x r.0 a here)

-- the visible piece
refusals-apart : (h : History) (os : List Piece) (p : Piece) → refusal forms h os p ≡ None → (run_reason forms h os ≡ None) × (unvalued (state (after_run h os)) p.kind ≡ None)
unfolding refusal
refusals-apart h os p e =
    let two = or-second _ _ (or-second _ _ e) in
    (or-first (run_reason forms h os) (unvalued (state (after_run h os)) p.kind) two, or-second (run_reason forms h os) (unvalued (state (after_run h os)) p.kind) two)

judged-unvalued : (s : State) (c : Context) (k : Kind) → unvalued s (judged c k) ≡ unvalued s k
unfolding unvalued
judged-unvalued s c (Start n ss how proper at_once) = refl
judged-unvalued s c k = refl

-- where tags are left out the document type is the same, and nothing is current where nothing was
omitted-type : (h : History) (o : Piece) (x : Kind) → MayStand (context h) o x → types (o ∷ h) ≡ types h
unfolding types declares
omitted-type h o x (inl m) = ap (λ (p : Piece). declares p.kind (types h)) m.1
omitted-type h o x (inr m) = ap (λ (p : Piece). declares p.kind (types h)) m.1

run-type : (h : History) (x : Kind) (os : List Piece) → LongestRun h x os → types (after_run h os) ≡ types h
run-type h x [] run = refl
run-type h x (o ∷ os) run = run-type (o ∷ h) x os run.1 ∙ omitted-type h o x run.0

nothing-given : (d : Doctype) (n e a : Name) → given d (Some (n, [])) e a ≡ None
nothing-given d n e a = by (has_same_list d n e && has_current d n a)
  where
    by : (t : Bool) → (if t then value_in d (definition_of d n a) a [] else None) ≡ None
    by true = refl
    by false = refl

end-clear : (n : Name) (h : History) → ((e a : Name) → currents h e a ≡ None) → (e a : Name) → currents (omitted_end n ∷ h) e a ≡ None
unfolding currents specified
end-clear n h f e a = f e a

start-clear : (n : Name) (h : History) → ((e a : Name) → currents h e a ≡ None) → (e a : Name) → currents (omitted_start n ∷ h) e a ≡ None
unfolding currents specified
start-clear n h f e a = ap (λ o. option_or o (currents h e a)) (nothing-given (types h) n e a) ∙ f e a

omitted-clear : (h : History) (o : Piece) (x : Kind) → MayStand (context h) o x → ((e a : Name) → currents h e a ≡ None) → (e a : Name) → currents (o ∷ h) e a ≡ None
omitted-clear h o x (inl m) f = subst (λ (p : Piece). (e a : Name) → currents (p ∷ h) e a ≡ None) (sym m.1) (end-clear m.0 h f)
omitted-clear h o x (inr m) f = subst (λ (p : Piece). (e a : Name) → currents (p ∷ h) e a ≡ None) (sym m.1) (start-clear m.0 h f)

run-clear : (h : History) (x : Kind) (os : List Piece) → LongestRun h x os → ((e a : Name) → currents h e a ≡ None) → (e a : Name) → currents (after_run h os) e a ≡ None
run-clear h x [] run f = f
run-clear h x (o ∷ os) run f = run-clear (o ∷ h) x os run.1 (omitted-clear h o x run.0 f)

-- what is noted of a piece
held-noted : (s : State) (c : Context) (d : Doctype) (k : Kind) → IsHeld d k → IsHeld d (judged c (kind_noted s k))
unfolding kind_noted
held-noted s c d (Start n ss how proper at_once) h = tt
held-noted s c d (Declare lexemes says base) h = h
held-noted s c d (SubsetEnd reads) h = tt
held-noted s c d (Re live) h = tt
held-noted s c d (ShortRef string meaning) h = tt
held-noted s c d _ h = tt

clear-noted : (outside : Outside) (s : State) (t : Stacked) (c : Context) (d : Doctype) (f : Currents) (k : Kind) → HasItsPlace outside s t k
    → (is_early s.stage ≡ true → Clear d f) → IsClear d f (judged c (kind_noted s k))
unfolding kind_noted
clear-noted outside s t c d f (Sgml syntax) h early = early (ap is_early h)
clear-noted outside s t c d f (Start n ss how proper at_once) h early = tt
clear-noted outside s t c d f (Declare lexemes says base) h early = tt
clear-noted outside s t c d f (SubsetEnd reads) h early = tt
clear-noted outside s t c d f (Re live) h early = tt
clear-noted outside s t c d f (ShortRef string meaning) h early = tt
clear-noted outside s t c d f _ h early = tt

types-of : (h : History) → (state h).context.doctype ≡ types h
unfolding state context
types-of h = refl

currents-of : (h : History) → (state h).currents ≡ currents h
unfolding state
currents-of h = refl

stage-of : (h : History) → (state h).stage ≡ stage h
unfolding state
stage-of h = refl

-- A MOVE
record Moved (h : History) (m : Move) : Type 0 where
  before : After (after_run h m.omitted)
  run : (x : Kind) × LongestRun h x m.omitted × (run_reason forms h m.omitted ≡ None)
  visible : unvalued (state (after_run h m.omitted)) m.visible.kind ≡ None
  after : After (moved_on h m)

by-piece : (I : Input) (h : History) (m : Move) (p : Piece) → spelled I.outside (state h) (standing I h) ≡ Ok p → Moves forms h (piece_noted (state h) p) m → After h → Moved h m
by-piece I h m p is moves a =
    let old = after_run h m.omitted in
    let x = (piece_noted (state h) p).kind in
    let none = refusals-apart h m.omitted (piece_noted (state h) p) moves.no_reason in
    let b = good-run h x m.omitted moves.longest none.0 a in
    let same : (state old).context.doctype ≡ (state h).context.doctype = types-of old ∙ run-type h x m.omitted moves.longest ∙ sym (types-of h) in
    let kind : m.visible.kind ≡ judged (context old) (kind_noted (state h) p.kind) = ap (λ (q : Piece). q.kind) moves.visible in
    let unopposed : unvalued (state old) m.visible.kind ≡ None = ap (unvalued (state old)) kind ∙ judged-unvalued (state old) (context old) (kind_noted (state h) p.kind) ∙ none.1 in
    let held : IsHeld (state old).context.doctype m.visible.kind =
    subst (λ k. IsHeld (state old).context.doctype k) (sym kind)
    (held-noted (state h) (context old) (state old).context.doctype p.kind
    (subst (λ d. IsHeld d p.kind) (sym same) (spelled-holds I.outside (state h) (standing I h) p is))) in
    let early : is_early (state h).stage ≡ true → Clear (state old).context.doctype (state old).currents =
    λ e. clear-old h x m.omitted moves.longest a (ap is_early (sym (stage-of h)) ∙ e) in
    let clear : IsClear (state old).context.doctype (state old).currents m.visible.kind =
    subst (λ k. IsClear (state old).context.doctype (state old).currents k) (sym kind)
    (clear-noted I.outside (state h) (stacked (standing I h)) (context old) (state old).context.doctype (state old).currents p.kind
    (spelled-pieces-have-their-places I.outside (state h) (standing I h) p is) early) in
    record { before = b; run = (x, moves.longest, none.0); visible = unopposed; after = good-piece m.visible old b held clear unopposed }
  where
    clear-old : (h : History) (x : Kind) (os : List Piece) → LongestRun h x os → After h → is_early (stage h) ≡ true
        → Clear (state (after_run h os)).context.doctype (state (after_run h os)).currents
    clear-old h x os run a e =
        let c = a.early e in
        let old = after_run h os in (
          ap (λ (d : Doctype). d.lists) (types-of old ∙ run-type h x os run) ∙ c.0,
          λ n b. ap (λ (f : Currents). f n b) (currents-of old) ∙ run-clear h x os run c.1 n b,
        )

move-by : (I : Input) (h : History) (m : Move) (cut : Bool) (x : Result Piece Reason) → spelled I.outside (state h) (standing I h) ≡ x
    → MovesTo forms h (unless_undecided cut (answer_noted (state h) x)) m → After h → Moved h m
move-by I h m true x is moves a = absurd moves
move-by I h m false (Err r) is moves a = absurd moves
move-by I h m false (Ok p) is moves a = by-piece I h m p is moves a

one-move : (I : Input) (h : History) (m : Move) → Reads forms I h m → After h → Moved h m
one-move I h m reads a =
    move-by I h m (I.was_cut && not (decided I.outside (state h) (standing I h))) (spelled I.outside (state h) (standing I h)) refl reads.moves a

all-moves : (I : Input) (h : History) (ms : List Move) → ReadOn forms I h ms → After h → After (after_moves h ms)
all-moves I h [] reads a = a
all-moves I h (m ∷ ms) reads a = let k = one-move I h m reads.0 a in all-moves I (moved_on h m) ms reads.1 k.after

at-opening : (outside : Outside) → After (opening outside)
unfolding types declares currents specified stage stage_after
at-opening outside = record {
  apart = refl;
  good = no-lists _ _ refl (λ n a. refl);
  early = λ e. (refl, λ n a. refl);
}

read-so : (I : Input) (ms : List Move) → ReadOn forms I (opening I.outside) ms → After (read_by I ms)
read-so I ms reads = all-moves I (opening I.outside) ms reads (at-opening I.outside)

pub what-is-read-holds : WhatIsReadHolds
what-is-read-holds I ms reads = let a = read-so I ms reads in (definitions-hold (types (read_by I ms)) a.apart a.good.defaults, a.good.currents)

-- EACH PIECE of a move
abbrev EachHas : History → List Piece → Piece → Type 0
EachHas h [] v = HasValues (state h) v.kind
EachHas h (o ∷ os) v = HasValues (state h) o.kind × EachHas (o ∷ h) os v

each-has : (h : History) (x : Kind) (os : List Piece) (v : Piece) → LongestRun h x os → run_reason forms h os ≡ None → After h
    → unvalued (state (after_run h os)) v.kind ≡ None → EachHas h os v
each-has h x [] v run none a last = has-values h v.kind a last
each-has h x (o ∷ os) v run none a last =
    let here = or-first (unvalued (state h) o.kind) (run_reason forms (o ∷ h) os) none in (
      has-values h o.kind a here,
      each-has (o ∷ h) x os v run.1 (or-second (unvalued (state h) o.kind) (run_reason forms (o ∷ h) os) none) (good-omitted h o x run.0 a here) last,
    )

one-piece : (p q : Piece) (ps qs : List Piece) → p ∷ ps ≡ q ∷ qs → (p ≡ q) × (ps ≡ qs)
one-piece p q ps qs h = (cc, cc)

none-more : {A : Type 0} (bs : List Piece) (p : Piece) (after : List Piece) → [] ≡ bs ++ (p ∷ after) → A
none-more [] p after h = absurd (never h)
  where
    never : [] ≡ p ∷ after → ⊥
    never h = cc
none-more (b ∷ bs) p after h = absurd (never h)
  where
    never : [] ≡ b ∷ (bs ++ (p ∷ after)) → ⊥
    never h = cc

at-each : (h : History) (os : List Piece) (v : Piece) (before after : List Piece) (p : Piece) → EachHas h os v → os ++ (v ∷ []) ≡ before ++ (p ∷ after)
    → HasValues (state (after_run h before)) p.kind
at-each h [] v [] after p e is = subst (λ (q : Piece). HasValues (state h) q.kind) (one-piece v p [] after is).0 e
at-each h [] v (b ∷ before) after p e is = none-more before p after (one-piece v b [] (before ++ (p ∷ after)) is).1
at-each h (o ∷ os) v [] after p e is = subst (λ (q : Piece). HasValues (state h) q.kind) (one-piece o p (os ++ (v ∷ [])) after is).0 e.0
at-each h (o ∷ os) v (b ∷ before) after p e is =
    let k = one-piece o b (os ++ (v ∷ [])) (before ++ (p ∷ after)) is in
    subst (λ (q : Piece). HasValues (state (after_run (q ∷ h) before)) p.kind) k.0 (at-each (o ∷ h) os v before after p e.1 k.1)

pub read-starts-have-values : ReadStartsHaveValues
read-starts-have-values I ms m reads next before after p is =
    let h = read_by I ms in
    let a = read-so I ms reads in
    let k = one-move I h m next a in
    at-each h m.omitted m.visible before after p (each-has h k.run.0 m.omitted m.visible k.run.1 k.run.2 a k.visible) is

pub read-starts-are-read-back : ReadStartsAreReadBack
read-starts-are-read-back I ms m reads next before after p is n ss how how' proper proper' at_once at_once' kind t same =
    let s = state (after_run (read_by I ms) before) in
    let h = subst (λ k. HasValues s k) kind (read-starts-have-values I ms m reads next before after p is) in
    subst (λ k. (unvalued t (written_again s n k how' proper' at_once') ≡ None) × (valued t (written_again s n k how' proper' at_once') ≡ valued s k)) (sym kind)
    (written-starts (value_read s.context.doctype) s t n ss how how' proper proper' at_once at_once' (full-documents-spell s.context.doctype) h same)
