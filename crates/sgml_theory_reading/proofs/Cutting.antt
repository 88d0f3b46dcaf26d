-- What was decided stays read, however the document goes on.
use Rattle.std.specs.Prelude.{◌≡◌, ℕ, drop, ◌==◌, ◌&&◌, Bool, true, false, not, IsTrue, IsFalse, Option, Some, None, if◌then◌else◌, ◌≤◌, ◌↔◌, Result, Ok, Err, List, [], ◌∷◌, ◌++◌, length, map}
use Rattle.std.proofs.Common.{refl, sym, ap, ◌∙◌, inl, inr, subst}
use Rattle.std.proofs.lemmas.List.{drop-append-le}
use Rattle.sgml_dtd.specs.text.declared.reason.Reason.{Reason}
use Rattle.sgml_dtd.specs.text.declared.reason.Reason.TheVariants.{EntityTooLarge}
use Rattle.sgml_dtd.specs.entity.declared.kinds.External.{External}
use Rattle.sgml_theory_reading.specs.Names.{Name}
use Rattle.sgml_theory_reading.specs.Pieces.{Piece, Kind, Head, SubsetEnd, ShortRef, Ref, Meaning, Ordinary, ToText, ToData, ToExternalData, ToInstruction, History}
use Rattle.sgml_theory_reading.specs.Facets.{Turn, OpensText, EndsText, StaysInText, turn, turn_of_end, turn_of_external, turn_of_meaning}
use Rattle.sgml_theory_reading.specs.Context.{Context, context}
use Rattle.sgml_theory_reading.specs.Omission.{MayStand, omitted_end, omitted_start}
use Rattle.sgml_theory_reading.specs.Runs.{LongestRun, after_run}
use Rattle.sgml_theory_reading.specs.State.{State, state}
use Rattle.sgml_theory_reading.specs.Characters.{piece_noted}
use Rattle.sgml_theory_reading.specs.Unread.{Input, sources, Rest, Standing, standing, text_of, rests, rest_moved, rest_turned, spent, opening}
use Rattle.sgml_theory_reading.specs.Reads.{Forms, Decides, IsDecided, ReadDecided, Stops, StopsAt, read_by, unless_undecided, Move, moved_on, MovesTo, answer_noted, spelled_next, Reads, ends_in_finish, ReadOn, after_moves, with_more, rest_with_more, standing_with_more, length_of_first}

more-moved : (b : Bool) (bytes : List ℕ) (n : ℕ) (bs : List ℕ) → n ≤ length bs → drop n (if b then bs ++ bytes else bs) ≡ (if b then drop n bs ++ bytes else drop n bs)
more-moved true bytes n bs h = drop-append-le n bs bytes h
more-moved false bytes n bs h = refl

moved-more : (bytes : List ℕ) (n : ℕ) (rs : List Rest) → n ≤ length_of_first rs → rest_moved n (map (rest_with_more bytes) rs) ≡ map (rest_with_more bytes) (rest_moved n rs)
moved-more bytes n [] h = refl
moved-more bytes n (r ∷ rs) h = λ i. record { entity = r.entity; bytes = more-moved (r.entity == 0) bytes n r.bytes h i } ∷ map (rest_with_more bytes) rs

-- the document is never opened
abbrev OpensNoDocument : Turn → Type 0
OpensNoDocument t = (e : ℕ) → t ≡ OpensText e → (e == 0) ≡ false

turned-to : (n : ℕ) (b : Bool) → (n == 0) ≡ b → OpensNoDocument (if b then StaysInText else OpensText n)
turned-to n true h e f = absurd (cc)
turned-to n false h e f = let g : n ≡ e = cc in ap (λ (m : ℕ). m == 0) (sym g) ∙ h

subset-opened : (b : Bool) → OpensNoDocument (turn_of_end b)
subset-opened true e f = let g : 1 ≡ e = cc in ap (λ (m : ℕ). m == 0) (sym g)
subset-opened false e f = absurd (cc)

external-opened : (x : Option External) → OpensNoDocument (turn_of_external x)
external-opened None e f = absurd (cc)
external-opened (Some x) e f = let g : 1 ≡ e = cc in ap (λ (m : ℕ). m == 0) (sym g)

head-opened : (b : Bool) (x : Option External) → OpensNoDocument (if b then StaysInText else turn_of_external x)
head-opened true x e f = absurd (cc)
head-opened false x e f = external-opened x e f

meaning-opened : (m : Meaning) → OpensNoDocument (turn_of_meaning m)
meaning-opened (ToText n) e f = turned-to n (n == 0) refl e f
meaning-opened (Ordinary has_items content) e f = absurd (cc)
meaning-opened (ToData n) e f = absurd (cc)
meaning-opened (ToExternalData n) e f = absurd (cc)
meaning-opened (ToInstruction n text) e f = absurd (cc)

none-opened : (k : Kind) → OpensNoDocument (turn k)
unfolding turn
none-opened (Ref n) e f = turned-to n (n == 0) refl e f
none-opened (ShortRef string meaning) e f = meaning-opened meaning e f
none-opened (Head head base) e f = head-opened head.subset head.external e f
none-opened (SubsetEnd reads_external) e f = subset-opened reads_external e f
none-opened _ e f = absurd (cc)

turned-more : (bytes : List ℕ) (text : ℕ → List ℕ) (t : Turn) (rs : List Rest) → OpensNoDocument t → rest_turned text t (map (rest_with_more bytes) rs) ≡ map (rest_with_more bytes) (rest_turned text t rs)
turned-more bytes text (OpensText e) rs h =
    ap (λ (b : Bool). let r : Rest = record { entity = e; bytes = if b then text e ++ bytes else text e } in r ∷ map (rest_with_more bytes) rs) (sym (h e refl))
turned-more bytes text EndsText [] h = refl
turned-more bytes text EndsText (r ∷ rs) h = refl
turned-more bytes text StaysInText rs h = refl

-- the rest of the longer input is the rest of the shorter one, with more
abbrev Longer : Input → List ℕ → Bool → History → Type 0
Longer I bytes cut h = rests (with_more I bytes cut) h ≡ map (rest_with_more bytes) (rests I h)

longer-next : (I : Input) (bytes : List ℕ) (cut : Bool) (p : Piece) (h : History) → p.size ≤ length_of_first (rests I h) → Longer I bytes cut h → Longer I bytes cut (p ∷ h)
unfolding rests
longer-next I bytes cut p h f e =
    let text = text_of I.outside (sources (p ∷ h)) in
    ap (λ rs. rest_turned text (turn p.kind) (rest_moved p.size rs)) e
    ∙ (ap (rest_turned text (turn p.kind)) (moved-more bytes p.size (rests I h) f)
    ∙ turned-more bytes text (turn p.kind) (rest_moved p.size (rests I h)) (none-opened p.kind))

-- an omitted piece takes nothing
moved-zero : (rs : List Rest) → rest_moved 0 rs ≡ rs
moved-zero [] = refl
moved-zero (r ∷ rs) = refl

omitted-end-stays : (I : Input) (n : Name) (h : History) → rests I (omitted_end n ∷ h) ≡ rests I h
unfolding rests turn
omitted-end-stays I n h = moved-zero (rests I h)

omitted-start-stays : (I : Input) (n : Name) (h : History) → rests I (omitted_start n ∷ h) ≡ rests I h
unfolding rests turn
omitted-start-stays I n h = moved-zero (rests I h)

may-stay : (I : Input) (c : Context) (o : Piece) (x : Kind) (h : History) → MayStand c o x → rests I (o ∷ h) ≡ rests I h
may-stay I c o x h (inl m) = ap (λ (p : Piece). rests I (p ∷ h)) m.1 ∙ omitted-end-stays I m.0 h
may-stay I c o x h (inr m) = ap (λ (p : Piece). rests I (p ∷ h)) m.1 ∙ omitted-start-stays I m.0 h

-- the run of omitted pieces leaves what is unread
pub run-stays : (I : Input) (h : History) (x : Kind) (os : List Piece) → LongestRun h x os → rests I (after_run h os) ≡ rests I h
run-stays I h x [] r = refl
run-stays I h x (o ∷ os) r = run-stays I (o ∷ h) x os r.1 ∙ may-stay I (context h) o x h r.0

longer-run : (I : Input) (bytes : List ℕ) (cut : Bool) (h : History) (x : Kind) (os : List Piece) → LongestRun h x os → Longer I bytes cut h → Longer I bytes cut (after_run h os)
longer-run I bytes cut h x os r e =
    run-stays (with_more I bytes cut) h x os r ∙ (e ∙ sym (ap (map (rest_with_more bytes)) (run-stays I h x os r)))

longer-move : (forms : Forms) (I : Input) (bytes : List ℕ) (cut : Bool) (h : History) (r : Result Piece Reason) (m : Move) → ((p : Piece) → r ≡ Ok p → p.size ≤ length_of_first (rests I h)) → MovesTo forms h r m → Longer I bytes cut h → Longer I bytes cut (moved_on h m)
longer-move forms I bytes cut h (Ok p) m within a e =
    let s = run-stays I h p.kind m.omitted a.longest in
    let f : m.visible.size ≤ length_of_first (rests I (after_run h m.omitted)) =
    subst (λ (v : Piece). v.size ≤ length_of_first (rests I (after_run h m.omitted))) (sym a.visible)
    (subst (λ (rs : List Rest). p.size ≤ length_of_first rs) (sym s) (within p refl)) in
    longer-next I bytes cut m.visible (after_run h m.omitted) f (longer-run I bytes cut h p.kind m.omitted a.longest e)
longer-move forms I bytes cut h (Err x) m within a e = absurd a

longer-standing : (I : Input) (bytes : List ℕ) (cut : Bool) (h : History) → Longer I bytes cut h → standing (with_more I bytes cut) h ≡ standing_with_more bytes (standing I h)
longer-standing I bytes cut h e = λ i. record { rests = e i; spent = spent I.outside h }

-- what is noted of a piece leaves its size
within-noted : (s : State) (r : Result Piece Reason) (n : ℕ) → ((p : Piece) → r ≡ Ok p → p.size ≤ n) → (p : Piece) → answer_noted s r ≡ Ok p → p.size ≤ n
within-noted s (Ok q) n within p e =
    let f : piece_noted s q ≡ p = cc in
    subst (λ (x : Piece). x.size ≤ n) f (within q refl)
within-noted s (Err x) n within p e = absurd (cc)

-- where it is decided, whether the document was cut tells nothing
decided-answer : (b d : Bool) (answer : Result Piece Reason) → d ≡ true → unless_undecided (b && not d) answer ≡ answer
decided-answer true true answer e = refl
decided-answer false true answer e = refl
decided-answer b false answer e = absurd (cc)

is-answer : (forms : Forms) (I : Input) (h : History) → IsDecided forms I h → spelled_next forms I h ≡ answer_noted (state h) (forms.spelled I.outside (state h) (standing I h))
is-answer forms I h d = decided-answer I.was_cut (forms.decided I.outside (state h) (standing I h)) (answer_noted (state h) (forms.spelled I.outside (state h) (standing I h))) d

-- a decided answer is that of the longer input
same-answer : (forms : Forms) (I : Input) (bytes : List ℕ) (cut : Bool) (h : History) → Decides forms → Longer I bytes cut h → IsDecided forms I h → spelled_next forms (with_more I bytes cut) h ≡ spelled_next forms I h
same-answer forms I bytes cut h d e w =
    let t = longer-standing I bytes cut h e in
    let w' : IsDecided forms (with_more I bytes cut) h =
    subst (λ (u : Standing). IsTrue (forms.decided I.outside (state h) u)) (sym t) (d.stays I.outside (state h) (standing I h) bytes w) in
    is-answer forms (with_more I bytes cut) h w'
    ∙ (ap (answer_noted (state h)) (ap (forms.spelled I.outside (state h)) t ∙ d.same I.outside (state h) (standing I h) bytes w)
    ∙ sym (is-answer forms I h w))

longer-after : (forms : Forms) (I : Input) (bytes : List ℕ) (cut : Bool) (h : History) (m : Move) → Decides forms → Longer I bytes cut h → IsDecided forms I h → Reads forms I h m → Longer I bytes cut (moved_on h m)
longer-after forms I bytes cut h m d e w r =
    longer-move forms I bytes cut h (spelled_next forms I h) m
    (λ p g. within-noted (state h) (forms.spelled I.outside (state h) (standing I h)) _ (λ q f. d.within I.outside (state h) (standing I h) q w f) p (sym (is-answer forms I h w) ∙ g))
    r.moves e

read-more : (forms : Forms) (I : Input) (bytes : List ℕ) (cut : Bool) (h : History) (ms : List Move) → Decides forms → Longer I bytes cut h → ReadDecided forms I h ms → ReadOn forms (with_more I bytes cut) h ms
read-more forms I bytes cut h [] d e r = tt
read-more forms I bytes cut h (m ∷ ms) d e r =
    let q = same-answer forms I bytes cut h d e r.0 in (
      record { goes_on = r.1.goes_on; moves = subst (λ (x : Result Piece Reason). MovesTo forms h x m) (sym q) r.1.moves },
      read-more forms I bytes cut (moved_on h m) ms d (longer-after forms I bytes cut h m d e r.0 r.1) r.2,
    )

longer-opening : (I : Input) (bytes : List ℕ) (cut : Bool) → Longer I bytes cut (opening I.outside)
unfolding rests turn
longer-opening I bytes cut = refl

-- what was decided is read in every continuation
pub decided-stays : (forms : Forms) (I : Input) (bytes : List ℕ) (cut : Bool) (ms : List Move) → Decides forms → ReadDecided forms I (opening I.outside) ms → ReadOn forms (with_more I bytes cut) (opening I.outside) ms
decided-stays forms I bytes cut ms d r = read-more forms I bytes cut (opening I.outside) ms d (longer-opening I bytes cut) r

longer-all : (forms : Forms) (I : Input) (bytes : List ℕ) (cut : Bool) (h : History) (ms : List Move) → Decides forms → Longer I bytes cut h → ReadDecided forms I h ms → Longer I bytes cut (after_moves h ms)
longer-all forms I bytes cut h [] d e r = e
longer-all forms I bytes cut h (m ∷ ms) d e r = longer-all forms I bytes cut (moved_on h m) ms d (longer-after forms I bytes cut h m d e r.0 r.1) r.2

-- and where reading stops by what is decided, it stops so in every continuation
pub decided-refusal-stays : (forms : Forms) (I : Input) (bytes : List ℕ) (cut : Bool) (ms : List Move) (r : Reason) → Decides forms → ReadDecided forms I (opening I.outside) ms → IsDecided forms I (read_by I ms) → Stops forms I (read_by I ms) r → Stops forms (with_more I bytes cut) (read_by (with_more I bytes cut) ms) r
decided-refusal-stays forms I bytes cut ms r d reads w stops =
    let h = read_by I ms in
    let e = longer-all forms I bytes cut (opening I.outside) ms d (longer-opening I bytes cut) reads in
    record { goes_on = stops.goes_on; why = subst (λ (x : Result Piece Reason). StopsAt forms h x r) (sym (same-answer forms I bytes cut h d e w)) stops.why }

undecided-answer : (b d : Bool) (answer : Result Piece Reason) → b ≡ true → d ≡ false → unless_undecided (b && not d) answer ≡ Err EntityTooLarge
undecided-answer b d answer e f = λ i. unless_undecided (e i && not (f i)) answer

-- of a document that was cut
pub cut-stops : (forms : Forms) (I : Input) (h : History) → IsTrue I.was_cut → IsFalse (ends_in_finish h) → IsFalse (forms.decided I.outside (state h) (standing I h)) → Stops forms I h EntityTooLarge
cut-stops forms I h cut f u =
    let e : spelled_next forms I h ≡ Err EntityTooLarge = undecided-answer I.was_cut (forms.decided I.outside (state h) (standing I h)) _ cut u in
    record { goes_on = f; why = subst (λ (x : Result Piece Reason). StopsAt forms h x EntityTooLarge) (sym e) refl }

-- what reads of it is decided
decided-by : (forms : Forms) (I : Input) (h : History) (m : Move) (d : Bool) → IsTrue I.was_cut → forms.decided I.outside (state h) (standing I h) ≡ d → MovesTo forms h (spelled_next forms I h) m → d ≡ true
decided-by forms I h m true cut e a = refl
decided-by forms I h m false cut e a =
    absurd (subst (λ (x : Result Piece Reason). MovesTo forms h x m) (undecided-answer I.was_cut (forms.decided I.outside (state h) (standing I h)) _ cut e) a)

pub cut-reads : (forms : Forms) (I : Input) (h : History) (ms : List Move) → IsTrue I.was_cut → ReadOn forms I h ms → ReadDecided forms I h ms
cut-reads forms I h [] cut r = tt
cut-reads forms I h (m ∷ ms) cut r =
    (decided-by forms I h m (forms.decided I.outside (state h) (standing I h)) cut refl r.0.moves, r.0, cut-reads forms I (moved_on h m) ms cut r.1)

-- reading goes on where it was left
pub read-append : (forms : Forms) (I : Input) (h : History) (ms ns : List Move) → ReadOn forms I h (ms ++ ns) ↔ (ReadOn forms I h ms × ReadOn forms I (after_moves h ms) ns)
read-append forms I h [] ns = (λ r. (tt, r), λ r. r.1)
read-append forms I h (m ∷ ms) ns =
    let back = read-append forms I (moved_on h m) ms ns in
    (λ r. ((r.0, (back.0 r.1).0), (back.0 r.1).1), λ r. (r.0.0, back.1 (r.0.1, r.1)))
