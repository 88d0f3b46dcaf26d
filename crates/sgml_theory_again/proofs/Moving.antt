-- Each piece of the moves of an instance.
use Rattle.std.specs.Prelude.{◌≡◌, ℕ, Bool, true, List, [], ◌∷◌, ◌++◌}
use Rattle.std.proofs.Common.{refl, sym, ap, ◌∙◌, inl, inr, subst}
use Rattle.sgml_theory_full.specs.records.Facts.{takes_end}
use Rattle.sgml_theory_full.specs.theory_reading.Pieces.{Piece, Ordinary, Kind, Re, ShortRef, History}
use Rattle.sgml_theory_full.specs.theory_reading.Context.{Context, context}
use Rattle.sgml_theory_full.specs.theory_reading.Omission.{MayStand}
use Rattle.sgml_theory_full.specs.theory_reading.Runs.{LongestRun, after_run}
use Rattle.sgml_theory_full.specs.theory_reading.Unread.{Input, opening}
use Rattle.sgml_theory_full.specs.theory_reading.State.{State, state}
use Rattle.sgml_theory_full.specs.theory_reading.Characters.{facts_in, ordinary}
use Rattle.sgml_theory_full.specs.theory_reading.Reads.{Move, Reads, ReadOn, ReadsFromStart, moved_on, read_by, pieces}
use Rattle.sgml_theory_full.proofs.theory_reading.Steps.{state-step}
use Rattle.sgml_theory_full.specs.theory_spelling.Spelled.{forms}
use Rattle.sgml_theory_again.specs.Moves.{Along, OfEach, StaysLive}
use Rattle.sgml_theory_again.specs.Strings.{StringEndStays, StringEndsStay}
use Rattle.sgml_theory_full.specs.Standing.{PieceStands}
use Rattle.sgml_theory_again.specs.Content.{HasCome, IsOfInstance, RecordEndIs, StandsInInstance}
use Rattle.sgml_theory_again.specs.Laws.{ReadIsOfInstance, InstanceGoesOn, ReadStandsInInstance}
use Rattle.sgml_theory_again.proofs.Standing.{EachIs, stood, at-each, read-stands}
use Rattle.sgml_theory_again.proofs.Nested.{IsNested, nested-run, nested-moves, nested-opening}
use Rattle.sgml_theory_again.proofs.Instance.{read-of-instance, come-run}
use Rattle.sgml_theory_again.proofs.Live.{read-record-end}
use Rattle.sgml_theory_again.proofs.Strings.{read-string}

pub nested-by : (I : Input) (ms : List Move) → ReadsFromStart forms I ms → IsNested (context (read_by I ms))
nested-by I ms r = nested-moves I (opening I.outside) ms r (nested-opening I.outside)

pub each-of-instance : ReadIsOfInstance
each-of-instance I ms m before p r come next is =
    let h = read_by I ms in
    at-each IsOfInstance h m.omitted m.visible before is.0 p (read-of-instance I h m next come (nested-by I ms r)) is.1

pub goes-on : InstanceGoesOn
goes-on I ms m r come next =
    let h = read_by I ms in
    come-run I h m.omitted m.visible (read-of-instance I h m next come (nested-by I ms r)) come

-- RECORD ENDS, and strings that stand for themselves
record-end-from : (s : State) (k : Kind) → ((live : Bool) → k ≡ Re live → live ≡ takes_end (facts_in s.record_ends))
    → ((string : List ℕ) (items content : Bool) → k ≡ ShortRef string (Ordinary items content) → ordinary s string ≡ Ordinary items content) → RecordEndIs s k
record-end-from s (Re live) f g = f live refl
record-end-from s (ShortRef string (Ordinary items content)) f g = g string items content refl
record-end-from s k f g = tt

omitted-ends : (s : State) (c : Context) (o : Piece) (x : Kind) → MayStand c o x → RecordEndIs s o.kind
omitted-ends s c o x (inl m) = subst (λ (p : Piece). RecordEndIs s p.kind) (sym m.1) tt
omitted-ends s c o x (inr m) = subst (λ (p : Piece). RecordEndIs s p.kind) (sym m.1) tt

each-ends : (h : History) (x : Kind) (os : List Piece) (v : Piece) → LongestRun h x os → RecordEndIs (state (after_run h os)) v.kind → EachIs RecordEndIs h os v
each-ends h x [] v r a = a
each-ends h x (o ∷ os) v r a = (omitted-ends (state h) (context h) o x r.0, each-ends (o ∷ h) x os v r.1 a)

record-ends : (I : Input) (h : History) (m : Move) → Reads forms I h m → StaysLive h m → StringEndStays h m → EachIs RecordEndIs h m.omitted m.visible
record-ends I h m r stays string =
    let s = stood I h m r in
    each-ends h s.x m.omitted m.visible s.longest
    (record-end-from (state (after_run h m.omitted)) m.visible.kind (λ live is. read-record-end I h m live r is stays)
    (λ bytes items content is. read-string I h m bytes items content r is string))

-- ALL PIECES
each-all : (h : History) (os : List Piece) (v : Piece) → EachIs PieceStands h os v → EachIs IsOfInstance h os v → EachIs RecordEndIs h os v → EachIs StandsInInstance h os v
each-all h [] v a b c = (a, b, c)
each-all h (o ∷ os) v a b c = ((a.0, b.0, c.0), each-all (o ∷ h) os v a.1 b.1 c.1)

pub lifted : (P : State → Kind → Type 0) (h : History) (os : List Piece) (v : Piece) (rest : List Piece) → EachIs P h os v → Along P (state (v ∷ after_run h os)) rest
    → Along P (state h) (os ++ (v ∷ rest))
lifted P h [] v rest e a = (e, subst (λ s. Along P s rest) (state-step v h) a)
lifted P h (o ∷ os) v rest e a = (e.0, subst (λ s. Along P s (os ++ (v ∷ rest))) (state-step o h) (lifted P (o ∷ h) os v rest e.1 a))

along : (I : Input) (h : History) (ns : List Move) → HasCome I h → IsNested (context h) → ReadOn forms I h ns → OfEach StaysLive h ns → StringEndsStay h ns
    → Along StandsInInstance (state h) (pieces ns)
along I h [] come nested r stay strings = tt
along I h (m ∷ ns) come nested r stay strings =
    let stands = read-stands I h m r.0 in
    let of = read-of-instance I h m r.0 come nested in
    lifted StandsInInstance h m.omitted m.visible (pieces ns)
    (each-all h m.omitted m.visible stands of (record-ends I h m r.0 stay.0 strings.0))
    (along I (moved_on h m) ns (come-run I h m.omitted m.visible of come) (nested-run h m.omitted m.visible stands nested) r.1 stay.1 strings.1)

pub read-stands-in : ReadStandsInInstance
read-stands-in I ms ns r come on stay strings = along I (read_by I ms) ns come (nested-by I ms r) on stay strings
