-- The references of defaults and of current values, after whatever was read; each attribute of a start can be written.
use Rattle.std.proofs.Common.{◌≡◌, Bool, true, false, not, ◌&&◌, List, [], ◌∷◌, ◌++◌, Some, None, Result, Ok, Err, refl, sym, ap, ◌∙◌, inl, inr, subst}
use Rattle.sgml_theory_again.specs.text.declared.reason.Reason.{Reason}
use Rattle.sgml_theory_again.specs.dtd.Doctypes.{Doctype}
use Rattle.sgml_theory_again.specs.theory_reading.Pieces.{Piece, Kind, Declare, SubsetEnd, Start, Re, ShortRef, Pi, History}
use Rattle.sgml_theory_again.specs.theory_reading.Facets.{specified, declares}
use Rattle.sgml_theory_again.specs.theory_reading.Nest.{types}
use Rattle.sgml_theory_again.specs.theory_reading.Context.{Context, context}
use Rattle.sgml_theory_again.specs.theory_reading.Omission.{MayStand}
use Rattle.sgml_theory_again.specs.theory_reading.Runs.{LongestRun, after_run}
use Rattle.sgml_theory_again.specs.theory_reading.Unread.{Outside, Input, standing, opening}
use Rattle.sgml_theory_again.specs.theory_reading.State.{State, state}
use Rattle.sgml_theory_again.specs.theory_reading.Currents.{currents}
use Rattle.sgml_theory_again.specs.theory_reading.Characters.{kind_noted}
use Rattle.sgml_theory_again.specs.theory_reading.Reads.{Move, MovesTo, Reads, ReadOn, ReadsFromStart, moved_on, after_moves, read_by, judged, answer_noted, unless_undecided}
use Rattle.sgml_theory_again.specs.theory_spelling.Decided.{decided}
use Rattle.sgml_theory_again.specs.theory_spelling.Spelled.{forms, spelled}
use Rattle.sgml_theory_again.specs.sgml_theory_values.Laws.{ValuesAreGiven}
use Rattle.sgml_theory_again.specs.sgml_theory_values.Read.{ReadStartsHaveValues}
use Rattle.sgml_theory_again.specs.Moves.{IsPieceOf}
use Rattle.sgml_theory_again.specs.Names.{HasNames}
use Rattle.sgml_theory_again.specs.Laws.{ReadHasNames, ReferredIsEntity}
use Rattle.sgml_theory_writable.specs.Spelled.{IsSpelledSo, ValuesRefer}
use Rattle.sgml_theory_writable.specs.Laws.{ReadValuesRefer, ReadAttributesAreWritten}
use Rattle.sgml_theory_writable.proofs.Walking.{spelled-refers}
use Rattle.sgml_theory_writable.proofs.Holding.{Refer, nothing-refers, piece-refers, values-refer}
use Rattle.sgml_theory_writable.proofs.Attributes.{attributes-written}

-- WHAT IS SPELLED, and becomes the visible piece of the move
record Spelt (I : Input) (h : History) (m : Move) : Type 0 where
  p : Piece
  is : spelled I.outside (state h) (standing I h) ≡ Ok p
  longest : LongestRun h (kind_noted (state h) p.kind) m.omitted
  visible : m.visible.kind ≡ judged (context (after_run h m.omitted)) (kind_noted (state h) p.kind)

spelt-by : (I : Input) (h : History) (m : Move) (cut : Bool) (x : Result Piece Reason) → spelled I.outside (state h) (standing I h) ≡ x
    → MovesTo forms h (unless_undecided cut (answer_noted (state h) x)) m → Spelt I h m
spelt-by I h m true x is moves = absurd moves
spelt-by I h m false (Err r) is moves = absurd moves
spelt-by I h m false (Ok p) is moves =
    record { p = p; is = is; longest = moves.longest; visible = ap (λ (q : Piece). q.kind) moves.visible }

spelt : (I : Input) (h : History) (m : Move) → Reads forms I h m → Spelt I h m
spelt I h m r =
    spelt-by I h m (I.was_cut && not (decided I.outside (state h) (standing I h))) (spelled I.outside (state h) (standing I h)) refl r.moves

-- OMITTED TAGS before it
omitted-type : (h : History) (o : Piece) (x : Kind) → MayStand (context h) o x → types (o ∷ h) ≡ types h
unfolding types declares
omitted-type h o x (inl m) = ap (λ (p : Piece). declares p.kind (types h)) m.1
omitted-type h o x (inr m) = ap (λ (p : Piece). declares p.kind (types h)) m.1

run-type : (h : History) (x : Kind) (os : List Piece) → LongestRun h x os → types (after_run h os) ≡ types h
run-type h x [] run = refl
run-type h x (o ∷ os) run = run-type (o ∷ h) x os run.1 ∙ omitted-type h o x run.0

omitted-so : (c : Context) (d : Doctype) (o : Piece) (x : Kind) → MayStand c o x → IsSpelledSo d o.kind
omitted-so c d o x (inl m) = subst (λ (p : Piece). IsSpelledSo d p.kind) (sym m.1) tt
omitted-so c d o x (inr m) = subst (λ (p : Piece). IsSpelledSo d p.kind) (sym m.1) tt

so-noted : (s : State) (c : Context) (d : Doctype) (k : Kind) → IsSpelledSo d k → IsSpelledSo d (judged c (kind_noted s k))
unfolding kind_noted
so-noted s c d (Start n ss how proper at_once) h = h
so-noted s c d (Declare lexemes says base) h = h
so-noted s c d (Pi text None) h = h
so-noted s c d (Pi text (Some e)) h = tt
so-noted s c d (SubsetEnd reads) h = tt
so-noted s c d (Re live) h = tt
so-noted s c d (ShortRef string meaning) h = tt
so-noted s c d k h = tt

-- AFTER WHAT WAS READ
abbrev After : History → Type 0
After h = Refer (types h) (currents h)

after-piece : (p : Piece) (h : History) → After h → IsSpelledSo (types h) p.kind → After (p ∷ h)
unfolding types currents
after-piece p h a so = piece-refers (types h) (currents h) p.kind a so

-- a piece, where it is read
record At (h : History) (k : Kind) : Type 0 where
  names : HasNames (types h)
  refer : After h
  so : IsSpelledSo (types h) k

abbrev EachAt : History → List Piece → Piece → Type 0
EachAt h [] v = At h v.kind
EachAt h (o ∷ os) v = At h o.kind × EachAt (o ∷ h) os v

each-at : (h : History) (x : Kind) (os : List Piece) (v : Piece) → LongestRun h x os → HasNames (types h) → After h → IsSpelledSo (types (after_run h os)) v.kind → EachAt h os v
each-at h x [] v r names a last = record { names = names; refer = a; so = last }
each-at h x (o ∷ os) v r names a last =
    let so = omitted-so (context h) (types h) o x r.0 in (
      record { names = names; refer = a; so = so },
      each-at (o ∷ h) x os v r.1 (subst HasNames (sym (omitted-type h o x r.0)) names) (after-piece o h a so) last,
    )

run-after : (h : History) (x : Kind) (os : List Piece) → LongestRun h x os → After h → After (after_run h os)
run-after h x [] r a = a
run-after h x (o ∷ os) r a = run-after (o ∷ h) x os r.1 (after-piece o h a (omitted-so (context h) (types h) o x r.0))

types-of : (h : History) → (state h).context.doctype ≡ types h
unfolding state context
types-of h = refl

visible-so : (I : Input) (h : History) (m : Move) → Spelt I h m → IsSpelledSo (types (after_run h m.omitted)) m.visible.kind
visible-so I h m s =
    let old = after_run h m.omitted in
    let same : (state h).context.doctype ≡ types old = types-of h ∙ sym (run-type h (kind_noted (state h) s.p.kind) m.omitted s.longest) in
    subst (IsSpelledSo (types old)) (sym s.visible)
    (so-noted (state h) (context old) (types old) s.p.kind
    (subst (λ (d : Doctype). IsSpelledSo d s.p.kind) same (spelled-refers I.outside (state h) (standing I h) s.p s.is)))

move-after : (I : Input) (h : History) (m : Move) → Reads forms I h m → After h → After (moved_on h m)
move-after I h m r a =
    let s = spelt I h m r in
    after-piece m.visible (after_run h m.omitted) (run-after h (kind_noted (state h) s.p.kind) m.omitted s.longest a) (visible-so I h m s)

moves-after : (I : Input) (h : History) (ms : List Move) → ReadOn forms I h ms → After h → After (after_moves h ms)
moves-after I h [] r a = a
moves-after I h (m ∷ ms) r a = moves-after I (moved_on h m) ms r.1 (move-after I h m r.0 a)

at-opening : (outside : Outside) → After (opening outside)
unfolding types declares currents specified
at-opening outside = nothing-refers _ _ refl (λ n a. refl)

read-after : (I : Input) (ms : List Move) → ReadsFromStart forms I ms → After (read_by I ms)
read-after I ms r = moves-after I (opening I.outside) ms r (at-opening I.outside)

pub read-values-refer : ReadValuesRefer
read-values-refer I ms r = values-refer (types (read_by I ms)) (currents (read_by I ms)) (read-after I ms r)

-- EACH PIECE of a move
one-piece : (p q : Piece) (ps qs : List Piece) → p ∷ ps ≡ q ∷ qs → (p ≡ q) × (ps ≡ qs)
one-piece p q ps qs h = (cc, cc)

none-more : {A : Type 0} (bs : List Piece) (p : Piece) (after : List Piece) → [] ≡ bs ++ (p ∷ after) → A
none-more [] p after h = absurd (cc)
none-more (b ∷ bs) p after h = absurd (cc)

one-at : (h : History) (os : List Piece) (v : Piece) (before after : List Piece) (p : Piece) → EachAt h os v → os ++ (v ∷ []) ≡ before ++ (p ∷ after) → At (after_run h before) p.kind
one-at h [] v [] after p e is = subst (λ (q : Piece). At h q.kind) (one-piece v p [] after is).0 e
one-at h [] v (b ∷ before) after p e is = none-more before p after (one-piece v b [] (before ++ (p ∷ after)) is).1
one-at h (o ∷ os) v [] after p e is = subst (λ (q : Piece). At h q.kind) (one-piece o p (os ++ (v ∷ [])) after is).0 e.0
one-at h (o ∷ os) v (b ∷ before) after p e is =
    let k = one-piece o b (os ++ (v ∷ [])) (before ++ (p ∷ after)) is in
    subst (λ (q : Piece). At (after_run (q ∷ h) before) p.kind) k.0 (one-at (o ∷ h) os v before after p e.1 k.1)

-- in the state before it
pub record Stood (s : State) (k : Kind) : Type 0 where
  pub names : HasNames s.context.doctype
  pub refer : ValuesRefer s.context.doctype s.currents
  pub so : IsSpelledSo s.context.doctype k

stood-at : (h : History) (k : Kind) → At h k → Stood (state h) k
unfolding state context
stood-at h k a = record { names = a.names; refer = values-refer (types h) (currents h) a.refer; so = a.so }

pub read-stood : ReadHasNames → (I : Input) (ms : List Move) (m : Move) (before : List Piece) (p : Piece) → ReadsFromStart forms I ms → Reads forms I (read_by I ms) m
    → IsPieceOf m before p → Stood (state (after_run (read_by I ms) before)) p.kind
read-stood law I ms m before p reads next is =
    let h = read_by I ms in
    let s = spelt I h m next in
    stood-at (after_run h before) p.kind
    (one-at h m.omitted m.visible before is.0 p
    (each-at h (kind_noted (state h) s.p.kind) m.omitted m.visible s.longest (law I ms reads) (read-after I ms reads) (visible-so I h m s)) is.1)

pub read-attributes-written : ReadHasNames → ReferredIsEntity → ReadStartsHaveValues → ValuesAreGiven → ReadAttributesAreWritten
read-attributes-written names entities have values I ms m before p reads next is =
    let s = read-stood names I ms m before p reads next is in
    attributes-written values entities (state (after_run (read_by I ms) before)) p.kind s.names s.refer s.so (have I ms m reads next before is.0 p is.1)
