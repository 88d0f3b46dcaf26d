-- What was read satisfies what is asked of it.
use Rattle.std.proofs.Common.{◌≡◌, ◌⊎◌, ℕ, Bool, true, false, ◌==◌, ◌||◌, List, [], ◌∷◌, ◌++◌, Some, None, IsFalse, refl, sym, ap, ◌∙◌, inl, inr, subst}
use Rattle.sgml_theory_full.specs.records.Facts.{Facts}
use Rattle.sgml_theory_full.specs.delim.declared.delim.Mode.TheVariants as mode
use Rattle.sgml_theory_full.specs.dtd.Doctypes.{Doctype}
use Rattle.sgml_theory_full.specs.theory_reading.Types.{Content, Model, Any, Cdata, Rcdata, Void, content_of, type_of}
use Rattle.sgml_theory_full.specs.theory_reading.Pieces.{Piece, Meaning, Ordinary, ToText, ToData, ToExternalData, ToInstruction, Kind, Sgml, Head, Declare, SubsetEnd, Start, End, Char, Data, DataRef, Re, Rs, Sep, ShortRef, Ref, EntityEnd, SectionStart, SectionEnd, Skipped, Pi, Comment, UseMap, Finish, History}
use Rattle.sgml_theory_full.specs.theory_reading.Facets.{Pcdata, text_if, token_of_meaning, token, is_finish}
use Rattle.sgml_theory_full.specs.theory_reading.Context.{Level, Context, context}
use Rattle.sgml_theory_full.specs.theory_reading.Omission.{MayStand}
use Rattle.sgml_theory_full.specs.theory_reading.Runs.{LongestRun, after_run}
use Rattle.sgml_theory_full.specs.theory_reading.Unread.{Input, opening}
use Rattle.sgml_theory_full.specs.theory_reading.State.{State, state, after_piece}
use Rattle.sgml_theory_full.specs.theory_reading.Characters.{has_text, level_has_text, ordinary}
use Rattle.sgml_theory_full.specs.theory_reading.Reads.{Move, Reads, ReadOn, ReadsFromStart, ends_in_finish, moved_on, after_moves, read_by, pieces}
use Rattle.sgml_theory_full.proofs.theory_reading.Steps.{state-step}
use Rattle.sgml_theory_full.specs.theory_spelling.Spelled.{forms}
use Rattle.sgml_theory_full.specs.theory_spelling.Places.{content_mode, element_mode}
use Rattle.sgml_theory_full.specs.sgml_theory_values.Laws.{HasValues}
use Rattle.sgml_theory_full.specs.sgml_theory_values.Read.{ReadStartsHaveValues}
use Rattle.sgml_theory_full.specs.scan.Classes.{is_data}
use Rattle.sgml_theory_full.proofs.Restarted.{no-references}
use Rattle.sgml_theory_full.proofs.ReadRaw.{AsMany, as-many}
use Rattle.sgml_theory_full.proofs.Instances.{many-open}
use Rattle.sgml_theory_full.specs.Points.{HasReferences, HasEndTags}
use Rattle.sgml_theory_full.specs.Following.{HasRecordEnds, StringHolds, MeaningHolds, Holds, AllHold}
use Rattle.sgml_theory_full.specs.Standing.{DataStands, PieceStands}
use Rattle.sgml_theory_full.specs.Instances.{all_but_last}
use Rattle.sgml_theory_again.specs.Moves.{Along}
use Rattle.sgml_theory_full.specs.Conforming.{mode_in}
use Rattle.sgml_theory_again.specs.Content.{HasCome, StandsInInstance}
use Rattle.sgml_theory_again.specs.Holding.{MayBeAgain, ReadHolds, ReadToEndHolds, ReadIsRaw, ReadToEndIsRaw}
use Rattle.sgml_theory_again.proofs.Texts.{true-false}
use Rattle.sgml_theory_again.proofs.Standing.{EachIs, stood}
use Rattle.sgml_theory_again.proofs.Strings.{text-there}
use Rattle.sgml_theory_again.proofs.Moving.{lifted, nested-by, read-stands-in}
use Rattle.sgml_theory_again.proofs.CdataMoves.{Fits, FitsThere, InInstance, all-fit, all-read-raw, raw-front}

-- END-TAGS ARE RECOGNISED in each element
content-ends : (content : Content) → HasEndTags (content_mode content)
content-ends (Model term) = inl (inl refl)
content-ends Any = inl (inl refl)
content-ends Cdata = inr refl
content-ends Rcdata = inl (inr refl)
content-ends Void = inl (inl refl)

ends-at : (d : Doctype) (ls : List Level) → HasEndTags (element_mode d ls)
ends-at d [] = inl (inl refl)
ends-at d (l ∷ ls) = content-ends (content_of (type_of d l.element))

-- ELEMENTS have references, or CDATA content
content-cases : (content : Content) → HasReferences (content_mode content) ⊎ (content_mode content ≡ mode.Cdt)
content-cases (Model term) = inl (inl refl)
content-cases Any = inl (inl refl)
content-cases Cdata = inr refl
content-cases Rcdata = inl (inr refl)
content-cases Void = inl (inl refl)

cases-at : (d : Doctype) (ls : List Level) → HasReferences (element_mode d ls) ⊎ (element_mode d ls ≡ mode.Cdt)
cases-at d [] = inl (inl refl)
cases-at d (l ∷ ls) = content-cases (content_of (type_of d l.element))

or-first : (a b : Bool) → a ≡ true → (a || b) ≡ true
or-first a b e = ap (λ t. t || b) e

-- A PIECE in CDATA content
in-cdata : (s : State) (k : Kind) → StandsInInstance s k → HasValues s k → MayBeAgain s k → mode_in s ≡ mode.Cdt → Fits k → is_finish k ≡ false → Holds s k
unfolding is_finish
in-cdata s (Char b) a v m c f e = inr (record { mode = c; character = or-first (is_data b) (b == 13) f })
in-cdata s (Re live) a v m c f e = (a.2, λ e. inr c)
in-cdata s Rs a v m c f e = tt
in-cdata s (End n how) a v m c f e = record { stands = a.0; mode = ends-at s.context.doctype s.context.levels }
in-cdata s EntityEnd a v m c f e = tt
in-cdata s Finish a v m c f e = true-false e
in-cdata s _ a v m c f e = absurd f

-- A SHORT REFERENCE
abbrev pub IsMany : State → Kind → Type 0
IsMany s k = AsMany s.record_ends s.context.levels

ends-within : (d : Doctype) (fs : List Facts) (ls : List Level) → AsMany fs ls → level_has_text d ls ≡ true → (f : Facts) × (outer : List Facts) × (fs ≡ f ∷ outer)
ends-within d fs [] a t = true-false (sym t)
ends-within d [] (l ∷ ls) a t = absurd a
ends-within d (f ∷ fs) (l ∷ ls) a t = (f, fs, refl)

record-ends-within : (s : State) → AsMany s.record_ends s.context.levels → has_text s ≡ true → HasRecordEnds s
unfolding has_text
record-ends-within s a t = ends-within s.context.doctype s.record_ends s.context.levels a t

string-stands : (s : State) (string : List ℕ) (meaning : Meaning) → PieceStands s (ShortRef string meaning) → token_of_meaning meaning ≡ Some Pcdata → DataStands s
unfolding token
string-stands s string meaning h e = h e

itself-holds : (s : State) (string : List ℕ) (items content : Bool) → IsMany s (ShortRef string (Ordinary items content)) → PieceStands s (ShortRef string (Ordinary items content))
    → ordinary s string ≡ Ordinary items content → HasReferences (mode_in s) → StringHolds s string items content
itself-holds s string items content n h e r = record {
  noted = e;
  within = λ i. record-ends-within s n
      (text-there s string content (e ∙ ap (λ t. Ordinary t content) i) (λ c. (string-stands s string (Ordinary items content) h (ap text_if c)).text));
  may = λ c. record { stands = string-stands s string (Ordinary items content) h (ap text_if c); mode = r };
}

string-holds : (s : State) (string : List ℕ) (meaning : Meaning) → IsMany s (ShortRef string meaning) → StandsInInstance s (ShortRef string meaning) → MayBeAgain s (ShortRef string meaning)
    → HasReferences (mode_in s) → MeaningHolds s string meaning
string-holds s string (Ordinary items content) n a m r = itself-holds s string items content n a.0 a.2 r
string-holds s string (ToText e) n a m r = tt
string-holds s string (ToData e) n a m r = (record { stands = string-stands s string (ToData e) a.0 refl; mode = r }, m)
string-holds s string (ToExternalData e) n a m r = record { stands = string-stands s string (ToExternalData e) a.0 refl; mode = r }
string-holds s string (ToInstruction e text) n a m r = tt

-- A PIECE where references are recognised
holds : (s : State) (k : Kind) → IsMany s k → StandsInInstance s k → HasValues s k → MayBeAgain s k → HasReferences (mode_in s) → is_finish k ≡ false → Holds s k
unfolding token is_finish
holds s (Start name ss how proper at_once) n a v m r f = record { stands = a.0; has_values = v; quiet = m }
holds s (End name how) n a v m r f = record { stands = a.0; mode = ends-at s.context.doctype s.context.levels }
holds s (Char b) n a v m r f = inl (record { stands = a.0 refl; mode = r })
holds s (Data e) n a v m r f = (record { stands = a.0 refl; mode = r }, m)
holds s (DataRef e) n a v m r f = (record { stands = a.0 refl; mode = r }, a.1.0)
holds s (Re live) n a v m r f = (a.2, λ e. inl (record { stands = a.0 (ap text_if e); mode = r }))
holds s (Pi text None) n a v m r f = a.1
holds s (Pi text (Some e)) n a v m r f = a.1.0
holds s Rs n a v m r f = tt
holds s (Sep b) n a v m r f = tt
holds s (Ref e) n a v m r f = tt
holds s EntityEnd n a v m r f = tt
holds s (SectionStart status) n a v m r f = tt
holds s SectionEnd n a v m r f = tt
holds s (Skipped b) n a v m r f = tt
holds s Comment n a v m r f = tt
holds s (UseMap map) n a v m r f = tt
holds s (ShortRef string meaning) n a v m r f = (a.1.0, string-holds s string meaning n a m r)
holds s (Sgml syntax) n a v m r f = absurd a.1
holds s (Head head base) n a v m r f = absurd a.1
holds s (Declare lexemes says base) n a v m r f = absurd a.1
holds s (SubsetEnd reads) n a v m r f = absurd a.1
holds s Finish n a v m r f = true-false f

-- NONE IS THE END of the document
abbrev GoesOn : State → Kind → Type 0
GoesOn s k = is_finish k ≡ false

omitted-goes : (s : State) (c : Context) (o : Piece) (x : Kind) → MayStand c o x → GoesOn s o.kind
unfolding is_finish
omitted-goes s c o x (inl m) = ap (λ (p : Piece). is_finish p.kind) m.1
omitted-goes s c o x (inr m) = ap (λ (p : Piece). is_finish p.kind) m.1

each-goes : (h : History) (x : Kind) (os : List Piece) (v : Piece) → LongestRun h x os → is_finish v.kind ≡ false → EachIs GoesOn h os v
each-goes h x [] v r f = f
each-goes h x (o ∷ os) v r f = (omitted-goes (state h) (context h) o x r.0, each-goes (o ∷ h) x os v r.1 f)

before-end : (I : Input) (h : History) (ns : List Move) → ReadOn forms I h ns → IsFalse (ends_in_finish (after_moves h ns)) → IsFalse (ends_in_finish h)
before-end I h [] r f = f
before-end I h (n ∷ ns) r f = r.0.goes_on

all-go : (I : Input) (h : History) (ns : List Move) → ReadOn forms I h ns → IsFalse (ends_in_finish (after_moves h ns)) → Along GoesOn (state h) (pieces ns)
all-go I h [] r f = tt
all-go I h (m ∷ ns) r f =
    let s = stood I h m r.0 in
    lifted GoesOn h m.omitted m.visible (pieces ns) (each-goes h s.x m.omitted m.visible s.longest (before-end I (moved_on h m) ns r.1 f)) (all-go I (moved_on h m) ns r.1 f)

-- EACH HAS VALUES
each-from : (P : State → Kind → Type 0) (h : History) (os : List Piece) (v : Piece)
    → ((before after : List Piece) (p : Piece) → os ++ (v ∷ []) ≡ before ++ (p ∷ after) → P (state (after_run h before)) p.kind) → EachIs P h os v
each-from P h [] v f = f [] [] v refl
each-from P h (o ∷ os) v f =
    (f [] (os ++ (v ∷ [])) o refl, each-from P (o ∷ h) os v (λ before after p e. f (o ∷ before) after p (ap (λ qs. o ∷ qs) e)))

on-append : (I : Input) (h : History) (ms : List Move) (m : Move) → ReadOn forms I h ms → Reads forms I (after_moves h ms) m → ReadOn forms I h (ms ++ (m ∷ []))
on-append I h [] m a r = (r, tt)
on-append I h (k ∷ ms) m a r = (a.0, on-append I (moved_on h k) ms m a.1 r)

after-append : (h : History) (ms : List Move) (m : Move) → after_moves h (ms ++ (m ∷ [])) ≡ moved_on (after_moves h ms) m
after-append h [] m = refl
after-append h (k ∷ ms) m = after-append (moved_on h k) ms m

all-valued : ReadStartsHaveValues → (I : Input) (ms ns : List Move) → ReadsFromStart forms I ms → ReadOn forms I (read_by I ms) ns → Along HasValues (state (read_by I ms)) (pieces ns)
all-valued law I ms [] reads r = tt
all-valued law I ms (m ∷ ns) reads r =
    let h = read_by I ms in
    let is : read_by I (ms ++ (m ∷ [])) ≡ moved_on h m = after-append (opening I.outside) ms m in
    let more : Along HasValues (state (read_by I (ms ++ (m ∷ [])))) (pieces ns) =
    all-valued law I (ms ++ (m ∷ [])) ns (on-append I (opening I.outside) ms m reads r.0) (subst (λ k. ReadOn forms I k ns) (sym is) r.1) in
    lifted HasValues h m.omitted m.visible (pieces ns) (each-from HasValues h m.omitted m.visible (law I ms m reads r.0))
    (subst (λ k. Along HasValues (state k) (pieces ns)) is more)

-- ALL PIECES
either-holds : (s : State) (k : Kind) → IsMany s k → StandsInInstance s k → HasValues s k → MayBeAgain s k → GoesOn s k → FitsThere s k → HasReferences (mode_in s) ⊎ (mode_in s ≡ mode.Cdt) → Holds s k
either-holds s k n a v m g f (inl r) = holds s k n a v m r g
either-holds s k n a v m g f (inr c) = in-cdata s k a v m c (f c) g

all-hold : (s : State) (ps : List Piece) → AsMany s.record_ends s.context.levels → Along StandsInInstance s ps → Along HasValues s ps → Along MayBeAgain s ps → Along GoesOn s ps → Along FitsThere s ps → AllHold s ps
all-hold s [] n a b c d f = tt
all-hold s (p ∷ ps) n a b c d f = (
  either-holds s p.kind n a.0 b.0 c.0 d.0 f.0 (cases-at s.context.doctype s.context.levels),
  all-hold (after_piece p s) ps (as-many p s n) a.1 b.1 c.1 d.1 f.1,
)

-- where the innermost element has references it isn't one with CDATA content
begins-in : (I : Input) (ms : List Move) → ReadsFromStart forms I ms → HasCome I (read_by I ms) → HasReferences (mode_in (state (read_by I ms))) → InInstance I (read_by I ms)
begins-in I ms reads come r = record {
  come = come;
  nested = nested-by I ms reads;
  sections_let = λ e. no-references (subst HasReferences e r);
}

pub read-holds : ReadStartsHaveValues → ReadHolds
read-holds law I ms ns reads come on f stay strings again r =
    let h = read_by I ms in
    all-hold (state h) (pieces ns) (many-open h) (read-stands-in I ms ns reads come on stay strings) (all-valued law I ms ns reads on) again (all-go I h ns on f)
    (all-fit I h ns on (begins-in I ms reads come r))

-- UP TO THE END of the document: all pieces but the last
one-in-front : (o : Piece) (os : List Piece) (v : Piece) (qs : List Piece) → all_but_last (o ∷ (os ++ (v ∷ qs))) ≡ o ∷ all_but_last (os ++ (v ∷ qs))
one-in-front o [] v qs = refl
one-in-front o (p ∷ os) v qs = refl

without-last : (os : List Piece) (v : Piece) → all_but_last (os ++ (v ∷ [])) ≡ os
without-last [] v = refl
without-last (o ∷ os) v = one-in-front o os v [] ∙ ap (λ (ps : List Piece). o ∷ ps) (without-last os v)

in-front : (os : List Piece) (v : Piece) (as' : List Piece) (w : Piece) (bs : List Piece)
    → all_but_last (os ++ (v ∷ (as' ++ (w ∷ bs)))) ≡ os ++ (v ∷ all_but_last (as' ++ (w ∷ bs)))
in-front [] v as' w bs = one-in-front v as' w bs
in-front (o ∷ os) v as' w bs =
    one-in-front o os v (as' ++ (w ∷ bs)) ∙ ap (λ (ps : List Piece). o ∷ ps) (in-front os v as' w bs)

along-front : (P : State → Kind → Type 0) (s : State) (ps : List Piece) → Along P s ps → Along P s (all_but_last ps)
along-front P s [] a = tt
along-front P s (p ∷ []) a = tt
along-front P s (p ∷ q ∷ ps) a = (a.0, along-front P (after_piece p s) (q ∷ ps) a.1)

omitted-go : (h : History) (x : Kind) (os : List Piece) → LongestRun h x os → Along GoesOn (state h) os
omitted-go h x [] r = tt
omitted-go h x (o ∷ os) r =
    (omitted-goes (state h) (context h) o x r.0, subst (λ s. Along GoesOn s os) (state-step o h) (omitted-go (o ∷ h) x os r.1))

front-goes : (I : Input) (h : History) (ns : List Move) → ReadOn forms I h ns → Along GoesOn (state h) (all_but_last (pieces ns))
front-goes I h [] r = tt
front-goes I h (m ∷ []) r =
    let s = stood I h m r.0 in
    subst (Along GoesOn (state h)) (sym (without-last m.omitted m.visible)) (omitted-go h s.x m.omitted s.longest)
front-goes I h (m ∷ n ∷ ns) r =
    let s = stood I h m r.0 in
    subst (Along GoesOn (state h)) (sym (in-front m.omitted m.visible n.omitted n.visible (pieces ns)))
    (lifted GoesOn h m.omitted m.visible (all_but_last (pieces (n ∷ ns))) (each-goes h s.x m.omitted m.visible s.longest r.1.0.goes_on)
    (front-goes I (moved_on h m) (n ∷ ns) r.1))

pub read-to-end-holds : ReadStartsHaveValues → ReadToEndHolds
read-to-end-holds law I ms ns reads come on stay strings again r =
    let s = state (read_by I ms) in
    let ps = pieces ns in
    all-hold s (all_but_last ps) (many-open (read_by I ms)) (along-front StandsInInstance s ps (read-stands-in I ms ns reads come on stay strings))
    (along-front HasValues s ps (all-valued law I ms ns reads on)) (along-front MayBeAgain s ps again) (front-goes I (read_by I ms) ns on)
    (along-front FitsThere s ps (all-fit I (read_by I ms) ns on (begins-in I ms reads come r)))

-- AS DATA
pub read-is-raw : ReadIsRaw
read-is-raw I ms ns reads come on r s = all-read-raw I (read_by I ms) false ns on (begins-in I ms reads come r) s

pub read-to-end-is-raw : ReadToEndIsRaw
read-to-end-is-raw I ms ns reads come on r s = raw-front false (state (read_by I ms)) (pieces ns) (read-is-raw I ms ns reads come on r s)
