-- The attributes of a list have different names after all that was read.
use Rattle.std.proofs.Common.{◌≡◌, ◌&&◌, ◌∷◌, inl, inr, ℕ, Bool, true, false, not, List, [], Option, Some, None, Result, Ok, Err, refl, sym, ap, ◌∙◌, subst}
use Rattle.std.specs.Option.{option_or}
use Rattle.sgml_starts.specs.text.declared.reason.Reason.{Reason}
use Rattle.sgml_starts.specs.dtd.Doctypes.{Doctype}
use Rattle.sgml_starts.specs.dtd.Rows.{declared_reason}
use Rattle.sgml_declared.specs.theory_reading.Names.{Text}
use Rattle.sgml_declared.specs.theory_reading.Pieces.{Piece, Kind, Sgml, Head, Declare, SubsetEnd, Start, Re, ShortRef, History}
use Rattle.sgml_declared.specs.theory_reading.Facets.{declares}
use Rattle.sgml_declared.specs.theory_reading.Nest.{types}
use Rattle.sgml_declared.specs.theory_reading.Context.{Context, context}
use Rattle.sgml_declared.specs.theory_reading.Omission.{MayStand}
use Rattle.sgml_declared.specs.theory_reading.Runs.{LongestRun, after_run}
use Rattle.sgml_declared.specs.theory_reading.Characters.{kind_noted, piece_noted}
use Rattle.sgml_declared.specs.theory_reading.Unread.{Outside, Input, standing, opening}
use Rattle.sgml_declared.specs.theory_reading.State.{State, state}
use Rattle.sgml_declared.specs.theory_reading.Reads.{Move, Moves, MovesTo, moved_on, judged, answer_noted, unless_undecided, Reads, ReadOn, after_moves}
use Rattle.sgml_declared.specs.theory_spelling.Declared.{ambiguity}
use Rattle.sgml_declared.specs.theory_spelling.Spelled.{forms, spelled}
use Rattle.sgml_declared.specs.theory_spelling.Decided.{decided}
use Rattle.sgml_declared.specs.theory_standing.Kept.{Kept, given, kept_after}
use Rattle.sgml_declared.specs.theory_standing.Prologs.{state_in_prolog}
use Rattle.sgml_declared.specs.theory_standing.Next.{IsNext, after}
use Rattle.sgml_theory_starts.specs.Apart.{HasListsApart, IsHeld, HeldIsApart, NextIsApart, ReadIsApart}
use Rattle.sgml_theory_starts.proofs.Apart.{declared-is-apart}
use Rattle.sgml_theory_starts.proofs.Holding.{spelled-holds}

-- A PIECE
none-first : (a b : Option Reason) → option_or a b ≡ None → a ≡ None
none-first None b e = refl
none-first (Some r) b e = e

pub held-is-apart : HeldIsApart
unfolding declares
held-is-apart d (Declare lexemes says base) h apart =
    declared-is-apart base lexemes d says apart (none-first (declared_reason d lexemes says) (ambiguity d says) h)
held-is-apart d (Sgml syntax) h apart = apart
held-is-apart d (Head head base) h apart = apart
held-is-apart d _ h apart = apart

-- what is noted of it changes nothing
noted-same : (s : State) (c : Context) (k : Kind) (d : Doctype) → declares (judged c (kind_noted s k)) d ≡ declares k d
unfolding declares kind_noted
noted-same s c (Sgml syntax) d = refl
noted-same s c (Head head base) d = refl
noted-same s c (Declare lexemes says base) d = refl
noted-same s c (SubsetEnd reads) d = refl
noted-same s c (Start n specifications how proper at_once) d = refl
noted-same s c (Re live) d = refl
noted-same s c (ShortRef string meaning) d = refl
noted-same s c _ d = refl

-- IN THE PROLOG
state-type : (k : Kept) → (state_in_prolog k).context.doctype ≡ k.doctype
unfolding state_in_prolog
state-type k = refl

type-after : (outside : Outside) (p : Piece) (k : Kept) → (after outside p k).doctype ≡ declares p.kind k.doctype
unfolding kept_after
type-after outside p k = refl

one-next : (outside : Outside) (k : Kept) (texts : List (ℕ × Text)) (ended : Bool) (p : Piece) → IsNext outside k texts ended p → HasListsApart k.doctype → HasListsApart (after outside p k).doctype
one-next outside k texts ended p next apart =
    let held : IsHeld k.doctype p.kind = subst (λ d. IsHeld d p.kind) (state-type k) (spelled-holds outside (state_in_prolog k) (given k texts) p next.spelled) in
    subst HasListsApart (sym (type-after outside p k)) (held-is-apart k.doctype p.kind held apart)

pub next-is-apart : NextIsApart
next-is-apart outside k new texts ended [] are apart = subst (λ (x : Kept). HasListsApart x.doctype) (sym are) apart
next-is-apart outside k new texts ended (p ∷ ps) are apart =
    next-is-apart outside (after outside p k) new texts ended ps are.1 (one-next outside k texts ended p are.0 apart)

-- OF ALL THAT WAS READ
types-of : (h : History) → (state h).context.doctype ≡ types h
unfolding state context
types-of h = refl

types-after : (p : Piece) (h : History) → types (p ∷ h) ≡ declares p.kind (types h)
unfolding types
types-after p h = refl

-- a tag that is left out
omitted-type : (h : History) (o : Piece) (x : Kind) → MayStand (context h) o x → types (o ∷ h) ≡ types h
unfolding types declares
omitted-type h o x (inl (n, is, may)) = ap (λ (p : Piece). declares p.kind (types h)) is
omitted-type h o x (inr (n, is, may)) = ap (λ (p : Piece). declares p.kind (types h)) is

run-type : (h : History) (x : Kind) (os : List Piece) → LongestRun h x os → types (after_run h os) ≡ types h
run-type h x [] run = refl
run-type h x (o ∷ os) run = run-type (o ∷ h) x os run.1 ∙ omitted-type h o x run.0

visible-type : (h : History) (m : Move) (p : Piece) → Moves forms h (piece_noted (state h) p) m → types (moved_on h m) ≡ declares p.kind (types h)
visible-type h m p moves =
    types-after m.visible (after_run h m.omitted)
    ∙ ap (λ (v : Piece). declares v.kind (types (after_run h m.omitted))) moves.visible
    ∙ noted-same (state h) (context (after_run h m.omitted)) p.kind (types (after_run h m.omitted))
    ∙ ap (declares p.kind) (run-type h (piece_noted (state h) p).kind m.omitted moves.longest)

move-by : (I : Input) (h : History) (m : Move) (cut : Bool) (x : Result Piece Reason) → spelled I.outside (state h) (standing I h) ≡ x
    → MovesTo forms h (unless_undecided cut (answer_noted (state h) x)) m → HasListsApart (types h) → HasListsApart (types (moved_on h m))
move-by I h m true x is moves apart = absurd moves
move-by I h m false (Err r) is moves apart = absurd moves
move-by I h m false (Ok p) is moves apart =
    let held : IsHeld (types h) p.kind = subst (λ d. IsHeld d p.kind) (types-of h) (spelled-holds I.outside (state h) (standing I h) p is) in
    subst HasListsApart (sym (visible-type h m p moves)) (held-is-apart (types h) p.kind held apart)

one-move : (I : Input) (h : History) (m : Move) → Reads forms I h m → HasListsApart (types h) → HasListsApart (types (moved_on h m))
one-move I h m reads apart =
    move-by I h m (I.was_cut && not (decided I.outside (state h) (standing I h))) (spelled I.outside (state h) (standing I h)) refl reads.moves apart

all-moves : (I : Input) (h : History) (ms : List Move) → ReadOn forms I h ms → HasListsApart (types h) → HasListsApart (types (after_moves h ms))
all-moves I h [] reads apart = apart
all-moves I h (m ∷ ms) reads apart = all-moves I (moved_on h m) ms reads.1 (one-move I h m reads.0 apart)

at-opening : (outside : Outside) → HasListsApart (types (opening outside))
unfolding types declares
at-opening outside = refl

pub read-is-apart : ReadIsApart
read-is-apart k texts I more h stands =
    let ms = stands.read.0 in
    let apart : HasListsApart (types h) = subst (λ (g : History). HasListsApart (types g)) (sym stands.read.2) (all-moves I (opening I.outside) ms stands.read.1 (at-opening I.outside)) in
    subst HasListsApart (sym stands.doctype_is) apart
