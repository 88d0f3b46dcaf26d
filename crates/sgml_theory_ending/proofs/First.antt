-- At the first byte no text is absent.
use Rattle.std.proofs.Common.{◌≡◌, ℕ, Bool, true, false, ◌==◌, ◌⊎◌, inl, inr, ◌<◌, List, [], ◌∷◌, None, Some, Result, Ok, Err, length, take, refl, sym, ap, ◌∙◌, subst, if◌then◌else◌, arith}
use Rattle.sgml_io.specs.text.declared.reason.Reason.{Reason}
use Rattle.sgml_io.specs.text.declared.reason.Reason.TheVariants as reason
use Rattle.sgml_io.specs.text.declared.place.Place.{Place}
use Rattle.sgml_io.specs.text.declared.place.Refusal.{Refusal}
use Rattle.sgml_theory_spelling.specs.syntax.declared.syntax.Syntax.{Syntax}
use Rattle.sgml_theory_spelling.specs.delim.declared.delim.Mode.TheVariants as mode
use Rattle.sgml_theory_spelling.specs.delim.Tables.{stands}
use Rattle.sgml_theory_spelling.specs.markup.declared.kinds.TokenKind.TheVariants as kind
use Rattle.sgml_theory_spelling.specs.scan.Tokens.{token}
use Rattle.sgml_io.specs.Records.{records_from}
use Rattle.sgml_theory_spelling.specs.entity.Stack.{place_at, moved}
use Rattle.sgml_theory_spelling.specs.theory_reading.Pieces.{Piece, Kind, Sep, History}
use Rattle.sgml_theory_spelling.specs.theory_reading.Unread.{Outside, Input, Rest, sources, turned, unread, rests, spent, standing, opening}
use Rattle.sgml_theory_spelling.specs.theory_reading.State.{State, state}
use Rattle.sgml_theory_spelling.specs.theory_reading.Facets.{token as content_token}
use Rattle.sgml_theory_spelling.specs.theory_reading.Context.{Context, context}
use Rattle.sgml_theory_spelling.specs.theory_reading.Omission.{MayStand, omitted_end, omitted_start, leaves}
use Rattle.sgml_theory_spelling.specs.theory_reading.Runs.{LongestRun, after_run}
use Rattle.sgml_theory_spelling.specs.theory_reading.Reasons.{reason as reason_of_piece}
use Rattle.sgml_theory_spelling.specs.theory_reading.Characters.{kind_noted, piece_noted}
use Rattle.sgml_theory_spelling.specs.theory_reading.Reads.{Move, Reads, ReadOn, ReadsFromStart, moved_on, after_moves, read_by, Stops, StopsAt, top_place, refusal, answer_noted, unless_undecided}
use Rattle.sgml_theory_spelling.specs.theory_reading.Events.{events}
use Rattle.sgml_theory_spelling.specs.theory_reading.Identifiers.{starts, Repeats, Dangles}
use Rattle.sgml_theory_spelling.proofs.theory_reading.Identified.{fault-is-first}
use Rattle.sgml_theory_spelling.specs.Attributes.{unvalued}
use Rattle.sgml_theory_spelling.specs.Stacked.{Stacked, stacked}
use Rattle.sgml_theory_spelling.specs.theory_reading.State.{stage}
use Rattle.sgml_theory_spelling.specs.theory_reading.Names.{Name}
use Rattle.sgml_theory_spelling.specs.theory_reading.Facets.{Stage, AtBeginning, stage_after, border, Turn, OpensText, EndsText, StaysInText, turn}
use Rattle.sgml_theory_spelling.specs.theory_reading.Sections.{sections}
use Rattle.sgml_theory_spelling.specs.theory_reading.ShortTags.{net_in_force}
use Rattle.sgml_theory_spelling.specs.Sized.{sized}
use Rattle.sgml_theory_spelling.specs.Prolog.{piece_before}
use Rattle.sgml_theory_spelling.specs.Decided.{is_early_end}
use Rattle.sgml_theory_spelling.specs.Tokens.{token_at}
use Rattle.sgml_theory_spelling.specs.Places.{mode_at, is_map, map_at, in_section}
use Rattle.sgml_theory_spelling.specs.Spelled.{forms, document_end, by_token_before, by_stage, spelled, spelled_in, spelled_of, token_here}
use Rattle.sgml_theory_spelling.specs.Taken.{is_text_end}
use Rattle.sgml_theory_spelling.proofs.Taken.{takes-its-bytes}
use Rattle.sgml_theory_ending.specs.Outcomes.{StopsThere, FaultsThere}
use Rattle.sgml_theory_ending.specs.Laws.{BeginsRecord, RecordsBegin, NoneIsAbsentAtFirst}
use Rattle.sgml_theory_ending.proofs.Steps.{Names}
use Rattle.sgml_theory_ending.proofs.Falling.{visible, move-spelled}
use Rattle.sgml_theory_ending.proofs.There.{Keeps, AreHere, one-keeps, visible-keeps, good-moves, good-start}

-- the token of RS in the prolog
separator-token : (s : Syntax) (net maps : Bool) (bytes : List ℕ) → token_at s (record { mode = mode.Ds; net = net; maps = maps }) (10 ∷ bytes) ≡ token kind.Separators 1
unfolding token_at stands
separator-token s net true bytes = refl
separator-token s net false bytes = refl

-- RECORDS

begins-so : (a b : Bool) (x y z : List ℕ) → BeginsRecord (if a then 10 ∷ x else if b then 10 ∷ y else 10 ∷ z)
begins-so true b x y z = refl
begins-so false true x y z = refl
begins-so false false x y z = refl

pub records-begin : RecordsBegin
records-begin [] = tt
records-begin (b ∷ bytes) =
    begins-so (b == 13) (b == 10) (13 ∷ records_from true true bytes) (13 ∷ records_from true false bytes) (b ∷ records_from false false bytes)

-- BEFORE THE FIRST BYTE

opening-mode : (outside : Outside) (entities : List ℕ) → mode_at (state (opening outside)) entities ≡ mode.Ds
unfolding mode_at state stage stage_after sections border
opening-mode outside entities = refl

opening-stage : (outside : Outside) → (state (opening outside)).stage ≡ AtBeginning
unfolding state stage stage_after
opening-stage outside = refl

opening-token : (outside : Outside) (t : Stacked) (bytes : List ℕ) → token_here (state (opening outside)) t (10 ∷ bytes) ≡ token kind.Separators 1
opening-token outside t bytes =
    let s = state (opening outside) in
    (λ i. token_at s.context.doctype.syntax (record { mode = opening-mode outside t.entities i; net = net_in_force s.context; maps = is_map (map_at s) }) (10 ∷ bytes))
    ∙ separator-token s.context.doctype.syntax (net_in_force s.context) (is_map (map_at s)) bytes

-- in a stage before the document type
stage-first : (outside : Outside) (s : State) (t : Stacked) (n : ℕ) (bytes : List ℕ) → s.stage ≡ AtBeginning → token_here s t (10 ∷ bytes) ≡ token kind.Separators 1
    → spelled_in outside s t n (10 ∷ bytes) ≡ Ok (sized (length (take 1 (10 ∷ bytes))) (Sep 10))
unfolding piece_before
stage-first outside s t n bytes e f =
    (λ i. if is_early_end (e i) 10 then Err reason.NoDoctype else by_stage outside s t (10 ∷ bytes) (e i))
    ∙ ap (by_token_before outside s t (10 ∷ bytes)) f

opening-spelled : (I : Input) (bytes : List ℕ) → I.document ≡ 10 ∷ bytes
    → spelled I.outside (state (opening I.outside)) (standing I (opening I.outside)) ≡ Ok (sized (length (take 1 (10 ∷ bytes))) (Sep 10))
unfolding spelled rests spent turn
opening-spelled I bytes e =
    let h = opening I.outside in
    let t = stacked (standing I h) in
    ap (λ (text : List ℕ). spelled_in I.outside (state h) t 0 text) e
    ∙ stage-first I.outside (state h) t 0 bytes (opening-stage I.outside) (opening-token I.outside t bytes)

-- an empty document
opening-none : (I : Input) → I.document ≡ [] → spelled I.outside (state (opening I.outside)) (standing I (opening I.outside)) ≡ Err reason.NoDoctype
unfolding spelled rests spent turn
opening-none I e =
    let h = opening I.outside in
    let s = state h in
    ap (λ (text : List ℕ). spelled_in I.outside s (stacked (standing I h)) 0 text) e
    ∙ ap (λ (g : Stage). document_end g (in_section s.texts s.sections)) (opening-stage I.outside)

-- where nothing is unread
nothing-spelled : (I : Input) (h : History) → rests I h ≡ [] → spelled I.outside (state h) (standing I h) ≡ Err reason.Unclosed
unfolding spelled
nothing-spelled I h e = ap (λ (rs : List Rest). spelled_of I.outside (state h) (stacked (record { rests = rs; spent = spent I.outside h })) rs) e

-- WHY READING STOPS THERE

stops-so : (h : History) (b : Bool) (s : State) (y : Result Piece Reason) (x r : Reason) → y ≡ Err x → StopsAt forms h (unless_undecided b (answer_noted s y)) r
    → (r ≡ x) ⊎ (r ≡ reason.EntityTooLarge)
stops-so h true s y x r e f = inr f
stops-so h false s (Err z) x r e f = inl (f ∙ (let g : z ≡ x = cc in g))
stops-so h false s (Ok p) x r e f = absurd (cc)

sep-alone : (h : History) (b : ℕ) (os : List Piece) → LongestRun h (Sep b) os → os ≡ []
unfolding leaves content_token
sep-alone h b [] r = refl
sep-alone h b (o ∷ os) r = absurd (none r.0)
  where
    none : MayStand (context h) o (Sep b) → ⊥
    none (inl m) = let x : false ≡ true = m.2.before in cc
    none (inr m) = let x : false ≡ true = m.2.before in cc

sep-stands : (h : History) (n spent b : ℕ) (r : Reason) → refusal forms h [] (record { kind = Sep b; size = n; spent = spent }) ≡ Some r → ⊥
unfolding refusal reason_of_piece content_token unvalued
sep-stands h n spent b r e = let f : None ≡ Some r = e in cc

sep-stops : (h : History) (b : Bool) (s : State) (y : Result Piece Reason) (n : ℕ) (r : Reason) → y ≡ Ok (sized n (Sep 10)) → StopsAt forms h (unless_undecided b (answer_noted s y)) r
    → r ≡ reason.EntityTooLarge
unfolding kind_noted
sep-stops h true s y n r e f = f
sep-stops h false s y n r e f =
    let g : StopsAt forms h (Ok (piece_noted s (sized n (Sep 10)))) r = subst (λ (z : Result Piece Reason). StopsAt forms h (answer_noted s z) r) e f in
    absurd (sep-stands h n 0 10 r (subst (λ (os : List Piece). refusal forms h os (sized n (Sep 10)) ≡ Some r) (sep-alone h 10 g.0 g.1) g.2))

-- BEHIND IT

-- the document is read past its first byte
abbrev Past : List Place → Type 0
Past [] = Unit {0}
Past (p ∷ ps) = (p.entity ≡ 0 → 0 < p.at) × Past ps

-- no other text is on the stack
abbrev IsAlone : List Place → Type 0
IsAlone [] = Unit {0}
IsAlone (p ∷ []) = Unit {0}
IsAlone (p ∷ q ∷ ps) = ⊥

past-moved : (n : ℕ) (ps : List Place) → Past ps → Past (moved n ps)
past-moved n [] a = tt
past-moved n (p ∷ ps) a = (λ e. let l = a.0 e in omega (arith, l), a.1)

past-first : (n : ℕ) (ps : List Place) → 0 < n → IsAlone ps → Past (moved n ps)
past-first n [] l a = tt
past-first n (p ∷ []) l a = (λ e. omega (arith, l), tt)
past-first n (p ∷ q ∷ ps) l a = absurd a

alone-moved : (n : ℕ) (ps : List Place) → IsAlone ps → IsAlone (moved n ps)
alone-moved n [] a = tt
alone-moved n (p ∷ []) a = tt
alone-moved n (p ∷ q ∷ ps) a = a

not-document : {A : Type 0} (e : ℕ) → (e == 0) ≡ false → e ≡ 0 → A
not-document e f g = absurd (let x : true ≡ false = sym (ap (λ (n : ℕ). n == 0) g) ∙ f in cc)

past-turned : (I : Input) (k : History) (t : Turn) (ps : List Place) → Names I.outside (sources k) t → Past ps → Past (turned t ps)
past-turned I k (OpensText e) ps n a = (λ f. not-document e n.0 f, a)
past-turned I k EndsText [] n a = tt
past-turned I k EndsText (p ∷ ps) n a = a.1
past-turned I k StaysInText ps n a = a

past-piece : (I : Input) (x : Piece) (h : History) → Keeps I x h → Past (unread h) → Past (unread (x ∷ h))
unfolding unread
past-piece I x h k a = past-turned I (x ∷ h) (turn x.kind) (moved x.size (unread h)) k.names (past-moved x.size (unread h) a)

past-first-piece : (I : Input) (x : Piece) (h : History) → Keeps I x h → 0 < x.size → IsAlone (unread h) → Past (unread (x ∷ h))
unfolding unread
past-first-piece I x h k l a = past-turned I (x ∷ h) (turn x.kind) (moved x.size (unread h)) k.names (past-first x.size (unread h) l a)

past-run : (I : Input) (h : History) (x : Kind) (os : List Piece) → LongestRun h x os → Past (unread h) → Past (unread (after_run h os))
past-run I h x [] r a = a
past-run I h x (o ∷ os) r a = past-run I (o ∷ h) x os r.1 (past-piece I o h (one-keeps I (context h) o x h r.0) a)

past-move : (I : Input) (h : History) (m : Move) → Reads forms I h m → Past (unread h) → Past (unread (moved_on h m))
past-move I h m r a =
    let x = move-spelled I h m r in
    past-piece I m.visible (after_run h m.omitted) (visible-keeps I h m x.piece x.is_spelled x.moves)
    (past-run I h (kind_noted (state h) x.piece.kind) m.omitted x.moves.longest a)

past-moves : (I : Input) (h : History) (ms : List Move) → ReadOn forms I h ms → Past (unread h) → Past (unread (after_moves h ms))
past-moves I h [] r a = a
past-moves I h (m ∷ ms) r a = past-moves I (moved_on h m) ms r.1 (past-move I h m r.0 a)

-- tags that are left out take no byte
alone-end : (n : Name) (h : History) → IsAlone (unread h) → IsAlone (unread (omitted_end n ∷ h))
unfolding unread turn
alone-end n h a = alone-moved 0 (unread h) a

alone-start : (n : Name) (h : History) → IsAlone (unread h) → IsAlone (unread (omitted_start n ∷ h))
unfolding unread turn
alone-start n h a = alone-moved 0 (unread h) a

alone-one : (c : Context) (o : Piece) (x : Kind) (h : History) → MayStand c o x → IsAlone (unread h) → IsAlone (unread (o ∷ h))
alone-one c o x h (inl m) a = subst (λ (p : Piece). IsAlone (unread (p ∷ h))) (sym m.1) (alone-end m.0 h a)
alone-one c o x h (inr m) a = subst (λ (p : Piece). IsAlone (unread (p ∷ h))) (sym m.1) (alone-start m.0 h a)

alone-run : (h : History) (x : Kind) (os : List Piece) → LongestRun h x os → IsAlone (unread h) → IsAlone (unread (after_run h os))
alone-run h x [] r a = a
alone-run h x (o ∷ os) r a = alone-run (o ∷ h) x os r.1 (alone-one (context h) o x h r.0 a)

alone-opening : (outside : Outside) → IsAlone (unread (opening outside))
unfolding unread turn
alone-opening outside = tt

-- the first piece has a byte
first-byte : (I : Input) (text : List ℕ) (q : Piece) → I.document ≡ text → BeginsRecord text → spelled I.outside (state (opening I.outside)) (standing I (opening I.outside)) ≡ Ok q → 0 < q.size
first-byte I [] q d r e = absurd (let f = sym (opening-none I d) ∙ e in cc)
first-byte I (b ∷ bytes) q d r e =
    let f = opening-spelled I bytes (d ∙ ap (λ (x : ℕ). x ∷ bytes) r) in
    let g : sized (length (take 1 (10 ∷ bytes))) (Sep 10) ≡ q = let x = sym f ∙ e in cc in
    (takes-its-bytes I.outside (state (opening I.outside)) (standing I (opening I.outside)) q e).has_byte (ap (λ (p : Piece). is_text_end p.kind) (sym g))

past-read : (I : Input) (m : Move) (ms : List Move) → BeginsRecord I.document → ReadsFromStart forms I (m ∷ ms) → Past (unread (read_by I (m ∷ ms)))
past-read I m ms d r =
    let h = opening I.outside in
    let x = move-spelled I h m r.0 in
    let v = visible I h m x.piece x.moves in
    let l = first-byte I I.document x.piece refl d x.is_spelled in
    past-moves I (moved_on h m) ms r.1
    (past-first-piece I m.visible (after_run h m.omitted) (visible-keeps I h m x.piece x.is_spelled x.moves) (subst (λ n. 0 < n) (sym v.size_is) l)
    (alone-run h (kind_noted (state h) x.piece.kind) m.omitted x.moves.longest (alone-opening I.outside)))

-- NONE IS ABSENT

not-absent : (x r : Reason) → (x ≡ reason.Absent → ⊥) → (r ≡ x) ⊎ (r ≡ reason.EntityTooLarge) → r ≡ reason.Absent → ⊥
not-absent x r f (inl e) g = f (sym e ∙ g)
not-absent x r f (inr e) g = let y = sym e ∙ g in cc

at-opening : (I : Input) (text : List ℕ) (r : Reason) → I.document ≡ text → BeginsRecord text → Stops forms I (opening I.outside) r → r ≡ reason.Absent → ⊥
at-opening I [] r d a s e =
    not-absent reason.NoDoctype r (λ f. cc) (stops-so (opening I.outside) _ (state (opening I.outside)) _ reason.NoDoctype r (opening-none I d) s.why) e
at-opening I (b ∷ bytes) r d a s e =
    let f = sep-stops (opening I.outside) _ (state (opening I.outside)) _ (length (take 1 (10 ∷ bytes))) r (opening-spelled I bytes (d ∙ ap (λ (x : ℕ). x ∷ bytes) a)) s.why in
    let g = sym f ∙ e in cc

behind : (I : Input) (h : History) (r : Reason) (ps : List Place) (rs : List Rest) → rests I h ≡ rs → AreHere I h ps rs → Past ps → Stops forms I h r
    → place_at 0 0 ≡ top_place ps → r ≡ reason.Absent → ⊥
behind I h r [] [] d a p s t e = not-absent reason.Unclosed r (λ f. cc) (stops-so h _ (state h) _ reason.Unclosed r (nothing-spelled I h d) s.why) e
behind I h r [] (x ∷ rs) d a p s t e = a
behind I h r (q ∷ ps) rs d a p s t e =
    let entity : q.entity ≡ 0 = ap (λ (x : Place). x.entity) (sym t) in
    let at : q.at ≡ 0 = ap (λ (x : Place). x.at) (sym t) in
    let l = p.0 entity in omega (arith, l, at)

stops-absent : (I : Input) (ms : List Move) (r : Refusal) → BeginsRecord I.document → ReadsFromStart forms I ms → StopsThere I (read_by I ms) r → r.place ≡ place_at 0 0 → r.reason ≡ reason.Absent → ⊥
stops-absent I [] r d reads s p e = at-opening I I.document r.reason refl d s.reason e
stops-absent I (m ∷ ms) r d reads s p e =
    let h = read_by I (m ∷ ms) in
    let g = good-moves I (opening I.outside) (m ∷ ms) reads (good-start I) in
    behind I h r.reason (unread h) (rests I h) refl g.stack (past-read I m ms d reads) s.reason (sym p ∙ s.place) e

faults-absent : (h : History) (r : Refusal) → FaultsThere h r → r.reason ≡ reason.Absent → ⊥
faults-absent h r f e = by (fault-is-first (events forms h) f.number r.reason f.fault).is_one
  where
    by : ((r.reason ≡ reason.Repeated) × Repeats (starts (events forms h)) f.number) ⊎ ((r.reason ≡ reason.Dangling) × (¬ Repeats (starts (events forms h)) f.number) × Dangles (starts (events forms h)) f.number) → ⊥
    by (inl x) = let y = sym x.0 ∙ e in cc
    by (inr x) = let y = sym x.0 ∙ e in cc

pub none-is-absent-at-first : NoneIsAbsentAtFirst
none-is-absent-at-first I ms r d reads (inl s, t) p e = stops-absent I ms r d reads s p e
none-is-absent-at-first I ms r d reads (inr f, t) p e = faults-absent (read_by I ms) r f e
