-- An instance that was read is read again from what is written of its events.
use Rattle.std.proofs.Common.{◌≡◌, inl, ℕ, Bool, true, false, IsFalse, List, [], ◌∷◌, ◌++◌, map, Option, Some, None, Result, Ok, Err, length, refl, sym, ◌∙◌, ap, subst, append_assoc, append-nil, arith}
use Rattle.std.specs.Option.{option_or}
use Rattle.sgml_theory_values.specs.text.declared.reason.Reason.{Reason}
use Rattle.sgml_theory_values.specs.dtd.Doctypes.{Doctype}
use Rattle.sgml_theory_values.specs.theory_reading.Pieces.{Piece, Kind, History, Char, Finish}
use Rattle.sgml_theory_values.specs.theory_reading.Facets.{is_finish, items_of, token}
use Rattle.sgml_theory_values.specs.theory_reading.Nest.{nest}
use Rattle.sgml_theory_values.specs.theory_reading.Context.{Level, Context, context, level_with, levels_with}
use Rattle.sgml_theory_values.specs.theory_reading.Omission.{NoneMayStand}
use Rattle.sgml_theory_values.specs.theory_reading.Runs.{LongestRun, after_run}
use Rattle.sgml_theory_values.specs.theory_reading.Reasons.{Stands, reason}
use Rattle.sgml_theory_values.specs.theory_reading.Unread.{Input, standing}
use Rattle.sgml_theory_values.specs.theory_reading.State.{State, state, record_ends, after_piece}
use Rattle.sgml_theory_values.specs.theory_reading.Characters.{has_text, level_has_text, facts_in}
use Rattle.sgml_theory_values.specs.theory_reading.Reads.{Move, Moves, MovesTo, Reads, ReadOn, judged, undefined, run_reason, refusal, ends_in_finish, after_moves, pieces, spelled_next}
use Rattle.sgml_theory_values.specs.theory_reading.Events.{Event as Said, shown, told_by, events_at, events_of_run}
use Rattle.sgml_theory_values.specs.theory_reading.Outcome.{state_after}
use Rattle.sgml_theory_values.proofs.theory_reading.Cutting.{read-append}
use Rattle.sgml_theory_values.proofs.theory_reading.Steps.{state-step}
use Rattle.sgml_theory_values.proofs.theory_reading.Table.{reason-exact}
use Rattle.sgml_theory_values.proofs.theory_reading.Told.{run-append, moves-are-pieces}
use Rattle.sgml_theory_values.specs.theory_spelling.Places.{element_mode}
use Rattle.sgml_theory_values.specs.theory_spelling.Spelled.{forms}
use Rattle.sgml_theory_values.specs.full.declared.inside.Inside.TheVariants as inside
use Rattle.sgml_theory_written.specs.Alike.{plain_level}
use Rattle.sgml_theory_full.specs.Named.{AllAre, IsWritten}
use Rattle.sgml_theory_full.specs.Spellings.{text_of, spellings}
use Rattle.sgml_theory_full.specs.Raw.{AllRawStand}
use Rattle.sgml_theory_full.specs.ReadRaw.{AllReadRaw}
use Rattle.sgml_theory_full.specs.Points.{HasReferences}
use Rattle.sgml_theory_full.specs.Written.{at_document, state_by}
use Rattle.sgml_theory_full.specs.Conforming.{IsPlain, mode_in, Within, InContent, AtEnd, InCdata, EventsMayBe, IsOver, InstanceRead, WrittenInstancesAreRead}
use Rattle.sgml_theory_full.specs.Following.{waits, DataHolds, AllHold, datum, LikeContexts, Follows, FollowsAt, WrittenTo, ReadMayBeWritten}
use Rattle.sgml_theory_full.specs.Instances.{ReadToEnd, all_but_last, InstanceHolds, StandsFor, InstancesAreReadAgain}
use Rattle.sgml_theory_full.proofs.Plain.{true-false}
use Rattle.sgml_theory_full.proofs.Written.{judged-finish}
use Rattle.sgml_theory_full.proofs.Ended.{after-more}
use Rattle.sgml_theory_full.proofs.Following.{char-stays, context-stays}
use Rattle.sgml_theory_full.proofs.Restarted.{ValuesStay}
use Rattle.sgml_theory_full.proofs.ReadRaw.{AsMany, as-many, all-raw}

-- WHERE A DOCUMENT ENDS no element is open, and one was begun
is-finish : (k : Kind) → is_finish k ≡ true → k ≡ Finish
unfolding is_finish
is-finish Finish h = refl
is-finish _ h = true-false (sym h)

after-longest : (h : History) (x : Kind) (os : List Piece) → LongestRun h x os → NoneMayStand (context (after_run h os)) x
after-longest h x [] l = l
after-longest h x (o ∷ os) l = after-longest (o ∷ h) x os l.1

or-first : (a b : Option Reason) → option_or a b ≡ None → a ≡ None
or-first None b h = refl
or-first (Some r) b h = h

no-length : (ls : List Level) → length ls ≡ 0 → ls ≡ []
no-length [] h = refl
no-length (l ∷ ls) h = absurd (omega (arith, h))

stands-over : (c : Context) → Stands c Finish (token Finish) → (c.levels ≡ []) × (c.begun ≡ true)
unfolding token
stands-over c h = (no-length c.levels h.0, h.1)

no-reason-at : (h : History) (os : List Piece) (p : Piece) → p.kind ≡ Finish → refusal forms h os p ≡ None → reason (context (after_run h os)) Finish ≡ None
unfolding refusal
no-reason-at h os p e r =
    or-first (reason (context (after_run h os)) Finish) (option_or (run_reason forms h os) (forms.unvalued (state (after_run h os)) Finish))
    (subst (λ k. option_or (undefined (context h) k) (option_or (reason (context (after_run h os)) k) (option_or (run_reason forms h os) (forms.unvalued (state (after_run h os)) k))) ≡ None) e r)

moved-over : (h : History) (p : Piece) (m : Move) → Moves forms h p m → is_finish m.visible.kind ≡ true → IsOver (state (after_run h m.omitted))
unfolding state
moved-over h p m k f =
    let c = context (after_run h m.omitted) in
    let visible : m.visible.kind ≡ judged c p.kind = ap (λ (q : Piece). q.kind) k.visible in
    let is : p.kind ≡ Finish = is-finish p.kind (sym (judged-finish c p.kind) ∙ sym (ap is_finish visible) ∙ f) in
    let none = subst (λ x. NoneMayStand c x) is (after-longest h p.kind m.omitted k.longest) in
    let over = stands-over c ((reason-exact c Finish none).0 (no-reason-at h m.omitted p is k.no_reason)) in
    record { closed = over.0; begun = over.1 }

pub read-over : (I : Input) (h : History) (m : Move) → Reads forms I h m → is_finish m.visible.kind ≡ true → IsOver (state (after_run h m.omitted))
read-over I h m r f = by (spelled_next forms I h) r.moves
  where
    by : (a : Result Piece Reason) → MovesTo forms h a m → IsOver (state (after_run h m.omitted))
    by (Ok p) k = moved-over h p m k f
    by (Err e) k = absurd k

-- THE LAST MOVE, and the pieces before its visible one
record Lasts (m : Move) (ms : List Move) : Type 0 where
  before : List Move
  last : Move
  is : m ∷ ms ≡ before ++ last ∷ []

last-of : (m : Move) (ms : List Move) → Lasts m ms
last-of m [] = record { before = []; last = m; is = refl }
last-of m (n ∷ ns) = let l = last-of n ns in record { before = m ∷ l.before; last = l.last; is = ap (λ xs. m ∷ xs) l.is }

pieces-append : (ns ms : List Move) → pieces (ns ++ ms) ≡ pieces ns ++ pieces ms
pieces-append [] ms = refl
pieces-append (n ∷ ns) ms =
    ap (λ ps. n.omitted ++ (n.visible ∷ ps)) (pieces-append ns ms) ∙ sym (append_assoc n.omitted (n.visible ∷ pieces ns) (pieces ms))

abbrev up_to : List Move → Move → List Piece
up_to ns m = pieces ns ++ m.omitted

last-pieces : (ns : List Move) (m : Move) → pieces (ns ++ m ∷ []) ≡ up_to ns m ++ m.visible ∷ []
last-pieces ns m = pieces-append ns (m ∷ []) ∙ sym (append_assoc (pieces ns) m.omitted (m.visible ∷ []))

without-last : (ps : List Piece) (p : Piece) → all_but_last (ps ++ p ∷ []) ≡ ps
without-last [] p = refl
without-last (q ∷ []) p = refl
without-last (q ∷ r ∷ ps) p = ap (λ xs. q ∷ xs) (without-last (r ∷ ps) p)

last-finish : (h : History) (ns : List Move) (m : Move) → ends_in_finish (after_moves h (ns ++ m ∷ [])) ≡ is_finish m.visible.kind
last-finish h ns m = ap ends_in_finish (after-more h ns (m ∷ []))

-- THE STATE before it
state-run : (h : History) (ps : List Piece) (s : State) → state h ≡ s → state (after_run h ps) ≡ state_after s ps
state-run h [] s e = e
state-run h (p ∷ ps) s e = state-run (p ∷ h) ps (after_piece p s) (state-step p h ∙ ap (after_piece p) e)

state-up-to : (h : History) (ns : List Move) (m : Move) → state (after_run (after_moves h ns) m.omitted) ≡ state_after (state h) (up_to ns m)
state-up-to h ns m =
    ap (λ g. state (after_run g m.omitted)) (moves-are-pieces h ns)
    ∙ ap state (sym (run-append h (pieces ns) m.omitted))
    ∙ state-run h (up_to ns m) (state h) refl

over-up-to : (I : Input) (h : History) (ns : List Move) (m : Move) → ReadOn forms I h (ns ++ m ∷ []) → is_finish m.visible.kind ≡ true → IsOver (state_after (state h) (up_to ns m))
over-up-to I h ns m r f =
    let parts = (read-append forms I h ns (m ∷ [])).0 r in
    subst IsOver (state-up-to h ns m) (read-over I (after_moves h ns) m parts.1.0 f)

-- The end tells nothing.
run-told : (s : State) (ps qs : List Piece) → events_of_run forms s (ps ++ qs) ≡ events_of_run forms s ps ++ events_of_run forms (state_after s ps) qs
run-told s [] qs = refl
run-told s (p ∷ ps) qs =
    ap (λ es. events_at forms s p ++ es) (run-told (after_piece p s) ps qs)
    ∙ sym (append_assoc (events_at forms s p) (events_of_run forms (after_piece p s) ps) (events_of_run forms (state_after (after_piece p s) ps) qs))

end-tells : (s : State) (p : Piece) → p.kind ≡ Finish → events_at forms s p ≡ []
unfolding shown items_of
end-tells s p e = ap (λ k. told_by (facts_in s.record_ends) (shown forms s k)) e

up-to-told : (s : State) (ns : List Move) (m : Move) → is_finish m.visible.kind ≡ true → events_of_run forms s (pieces (ns ++ m ∷ [])) ≡ events_of_run forms s (up_to ns m)
up-to-told s ns m f =
    let before = events_of_run forms s (up_to ns m) in
    ap (events_of_run forms s) (last-pieces ns m)
    ∙ run-told s (up_to ns m) (m.visible ∷ [])
    ∙ ap (λ es. before ++ (es ++ [])) (end-tells (state_after s (up_to ns m)) m.visible (is-finish m.visible.kind f))
    ∙ append-nil before

-- THE STATE THAT FOLLOWS
same-types : (a b : State) (w : Bool) → LikeContexts w a b → b.context.doctype ≡ a.context.doctype
same-types a b false e = ap (λ (c : Context). c.doctype) e
same-types a b true e = ap (λ (c : Context). c.doctype) (sym (context-stays datum b.context (char-stays 0)) ∙ e.0)

no-data : (b : State) → b.context.levels ≡ [] → DataHolds b → false ≡ true
unfolding has_text
no-data b e h = sym (ap (level_has_text b.context.doctype) e) ∙ h.stands.text

none-mapped : (ls : List Level) → ls ≡ [] → map plain_level ls ≡ []
none-mapped ls e = ap (map plain_level) e

none-with : (k : Kind) (ls : List Level) → levels_with k ls ≡ [] → ls ≡ []
none-with k [] e = refl
none-with k (l ∷ ls) e = absurd (never (level_with k l) e)
  where
    never : (l : Level) → l ∷ ls ≡ [] → ⊥
    never l e = cc

over-by : (a b : State) (w : Bool) → LikeContexts w a b → IsOver a → IsOver b
over-by a b false e o = record { closed = ap (λ (c : Context). c.levels) e ∙ none-mapped a.context.levels o.closed; begun = ap (λ (c : Context). c.begun) e ∙ o.begun }
over-by a b true e o =
    let is = sym (context-stays datum b.context (char-stays 0)) ∙ e.0 in
    true-false (sym (no-data b (none-with (Char 0) b.context.levels (ap (λ (c : Context). c.levels) is ∙ none-mapped a.context.levels o.closed)) e.1))

-- IT IS READ
read-by-types : WrittenInstancesAreRead → (J : Input) (k : History) (spent : ℕ) (es : List Said) (d : Doctype) → (state k).context.doctype ≡ d → J.was_cut ≡ false → IsFalse (ends_in_finish k) → IsPlain (state k)
    → AllAre (IsWritten d) es → AllRawStand d inside.Mixed es → EventsMayBe d InContent (state k) es → IsOver (state_by (state k) (spellings d inside.Mixed es))
    → standing J k ≡ at_document spent (text_of (spellings d inside.Mixed es) ++ 13 ∷ []) → InstanceRead J k es
read-by-types read J k spent es d t whole goes plain =
    subst (λ d. AllAre (IsWritten d) es → AllRawStand d inside.Mixed es → EventsMayBe d InContent (state k) es → IsOver (state_by (state k) (spellings d inside.Mixed es))
    → standing J k ≡ at_document spent (text_of (spellings d inside.Mixed es) ++ 13 ∷ []) → InstanceRead J k es) t (read J k spent es whole goes plain)

-- a run that ends the document ends in no CDATA content
pub over-written : (d : Doctype) (v : Within) (a b c : State) (es : List Said) → WrittenTo d InContent b es v c → FollowsAt v a c → IsOver a → WrittenTo d InContent b es InContent c × Follows a c
over-written d InContent a b c es w f o = (w, f.0)
over-written d (AtEnd n) a b c es w f o = absurd f
over-written d (InCdata t) a b c es w f o = absurd (never f.innermost f.outer (sym o.closed ∙ f.levels))
  where
    never : (l : Level) (ls : List Level) → [] ≡ l ∷ ls → ⊥
    never l ls e = cc

-- each open element has its record ends
pub many-open : (h : History) → AsMany (state h).record_ends (state h).context.levels
unfolding state record_ends context nest
many-open [] = tt
many-open (p ∷ h) = subst (λ (s : State). AsMany s.record_ends s.context.levels) (sym (state-step p h)) (as-many p (state h) (many-open h))

over-refers : (s : State) → IsOver s → HasReferences (mode_in s)
over-refers s o = subst (λ (ls : List Level). HasReferences (element_mode s.context.doctype ls)) (sym o.closed) (inl refl)

pieces-read : ValuesStay → WrittenInstancesAreRead → ReadMayBeWritten → (h : History) (ps : List Piece) (J : Input) (k : History) → AllHold (state h) ps
    → AllReadRaw (state h) ps
    → AllAre (IsWritten (state h).context.doctype) (events_of_run forms (state h) ps) → IsOver (state_after (state h) ps) → StandsFor h (events_of_run forms (state h) ps) J k
    → InstanceRead J k (events_of_run forms (state h) ps)
pieces-read l read may h ps J k holds raw written over s =
    let a = state h in
    let b = state k in
    let d = a.context.doctype in
    let es = events_of_run forms a ps in
    let all = may InContent a b ps (s.follows, s.refers) holds written in
    let r = over-written d all.0 (state_after a ps) b all.1 es all.2 all.3 over in
    let events = subst (EventsMayBe d InContent b) (append-nil es) (r.0.may [] refl) in
    let last : state_by b (spellings d inside.Mixed es) ≡ all.1 = ap (λ l. state_by b (spellings d inside.Mixed l)) (sym (append-nil es)) ∙ r.0.state_is [] in
    let stands = all-raw l d InContent a b false ps refl (s.follows, s.refers) (many-open h) holds written raw (over-refers (state_after a ps) over) in
    read-by-types read J k s.spent es d (same-types a b (waits a) s.follows.like) s.whole s.goes_on s.follows.plain written stands events
    (subst IsOver (sym last) (over-by (state_after a ps) all.1 (waits (state_after a ps)) r.1.like over)) s.left

moves-read : ValuesStay → WrittenInstancesAreRead → ReadMayBeWritten → (I J : Input) (h k : History) (ns : List Move) (m : Move) → ReadToEnd I h (ns ++ m ∷ []) → InstanceHolds h (ns ++ m ∷ [])
    → StandsFor h (events_of_run forms (state h) (pieces (ns ++ m ∷ []))) J k → InstanceRead J k (events_of_run forms (state h) (pieces (ns ++ m ∷ [])))
moves-read l read may I J h k ns m r holds s =
    let f : is_finish m.visible.kind ≡ true = sym (last-finish h ns m) ∙ r.ends in
    let ps = up_to ns m in
    let these : all_but_last (pieces (ns ++ m ∷ [])) ≡ ps = ap all_but_last (last-pieces ns m) ∙ without-last ps m.visible in
    let told = up-to-told (state h) ns m f in
    subst (InstanceRead J k) (sym told)
    (pieces-read l read may h ps J k (subst (AllHold (state h)) these holds.hold) (subst (AllReadRaw (state h)) these holds.raw)
    (subst (AllAre (IsWritten (state h).context.doctype)) told holds.written) (over-up-to I h ns m r.reads f) (subst (λ es. StandsFor h es J k) told s))

not-nothing : {A : Type 0} (I : Input) (h : History) → ReadToEnd I h [] → A
not-nothing I h r = true-false (sym r.ends ∙ r.goes_on)

pub instances-are-read-again : ValuesStay → WrittenInstancesAreRead → ReadMayBeWritten → InstancesAreReadAgain
instances-are-read-again v read may I J h k [] r holds s = not-nothing I h r
instances-are-read-again v read may I J h k (m ∷ ms) r holds s =
    let l = last-of m ms in
    subst (λ xs. ReadToEnd I h xs → InstanceHolds h xs → StandsFor h (events_of_run forms (state h) (pieces xs)) J k → InstanceRead J k (events_of_run forms (state h) (pieces xs))) (sym l.is)
    (moves-read v read may I J h k l.before l.last) r holds s
