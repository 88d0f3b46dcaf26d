-- Each input has an end where it is written with all its tags.
use Rattle.std.proofs.Common.{◌≡◌, ◌<◌, ◌≤◌, ◌+◌, ◌==◌, ℕ, zero, suc, Bool, true, false, ◌⊎◌, inl, inr, List, [], ◌∷◌, ◌++◌, Option, None, Some, length, take, drop, slice_get, if◌then◌else◌, refl, sym, ap, ◌∙◌, subst, append-nil, append_assoc, length-append, arith, rules, tests}
use Rattle.sgml_text.specs.declared.place.Place.{Place}
use Rattle.sgml_text.specs.declared.place.Refusal.{Refusal}
use Rattle.sgml_text.specs.declared.reason.Reason.TheVariants.{PiNotSpelled}
use Rattle.sgml_io.specs.Records.{records}
use Rattle.sgml_syntax.specs.declared.syntax.Syntax.{Syntax}
use Rattle.sgml_dtd.specs.entity.Stack.{place_at, moved}
use Rattle.sgml_storage.specs.Storage.{IsStorageOf}
use Rattle.sgml_full.specs.Spelled.{is_paired}
use Rattle.sgml_full.specs.Full.{full_document, first_unspelled}
use Rattle.sgml_said.specs.theory_reading.Pieces.{Piece, Kind, History}
use Rattle.sgml_said.specs.theory_reading.Facets.{turn}
use Rattle.sgml_said.specs.theory_reading.Nest.{types}
use Rattle.sgml_said.specs.theory_reading.Context.{context}
use Rattle.sgml_said.specs.theory_reading.Omission.{MayStand}
use Rattle.sgml_said.specs.theory_reading.Runs.{LongestRun, after_run}
use Rattle.sgml_said.specs.theory_reading.Unread.{Input, unread, opening, texts}
use Rattle.sgml_said.specs.theory_reading.State.{state, stage}
use Rattle.sgml_said.specs.theory_reading.Characters.{piece_noted}
use Rattle.sgml_said.specs.theory_reading.Reads.{Move, Reads, ReadOn, ReadsFromStart, moved_on, after_moves, read_by, top_place, stop_place, ends_in_finish, instruction_places, is_border, has_border, prolog_of}
use Rattle.sgml_said.specs.theory_reading.Events.{Event as Said, Started, Ended, Byte, SpecificData, External, Instruction, events, instructions}
use Rattle.sgml_said.specs.theory_reading.Identifiers.{id_fault}
use Rattle.sgml_said.proofs.theory_reading.Stack.{length-unread}
use Rattle.sgml_said.proofs.theory_reading.Counted.{instructions-have-places}
use Rattle.sgml_theory_ending.specs.theory_spelling.Spelled.{forms}
use Rattle.sgml_theory_ending.specs.Places.{text_in}
use Rattle.sgml_theory_ending.proofs.There.{places-are-there}
use Rattle.sgml_theory_ending.proofs.Falling.{move-spelled}
use Rattle.sgml_source.specs.declaring.Files.{Choices}
use Rattle.sgml_source.specs.Inputs.{Files, IsInputOf}
use Rattle.sgml_conversion.specs.declared.answer.Outcome.{Outcome}
use Rattle.sgml_conversion.specs.declared.answer.Outcome.TheVariants as outcome
use Rattle.sgml_conversion.specs.Converting.{IsEnd}
use Rattle.sgml_conversion.specs.Full.{instance_events, prolog_end, unspelled, IsUnspelled, EndsFull}
use Rattle.sgml_conversion.specs.Laws.{EachInputHasAFullEnd}
use Rattle.sgml_conversion.proofs.Typed.{DocumentLast, last-moved, moves-last, opening-last, AtBorder, at-border, more-than-one}
use Rattle.sgml_conversion.proofs.Turned.{reads-on, moves-append}
use Rattle.sgml_conversion.proofs.Ended.{position, each-input-has-an-end}
use Rattle.sgml_conversion.proofs.OneFull.{split}

-- THE STORAGE of a front of a text: there is one where the text has so many bytes
take-short : (n : ℕ) (xs : List ℕ) → length (take n xs) ≤ n
take-short zero xs = omega arith
take-short (suc n) [] = omega arith
take-short (suc n) (x ∷ xs) = let rest = take-short n xs in omega (arith, rest)

take-and-drop : (n : ℕ) (xs : List ℕ) → xs ≡ take n xs ++ drop n xs
take-and-drop zero xs = refl
take-and-drop (suc n) [] = refl
take-and-drop (suc n) (x ∷ xs) = ap (λ (zs : List ℕ). x ∷ zs) (take-and-drop n xs)

abbrev TooShort : List ℕ → ℕ → ℕ → Type 0
TooShort bytes n j = (m : ℕ) → m < j → length (records (take m bytes)) < n

one-more : (bytes : List ℕ) (n j : ℕ) → TooShort bytes n j → length (records (take j bytes)) < n → TooShort bytes n (suc j)
one-more bytes n j below here m l = by (split m j)
  where
    by : (m < j) ⊎ (j ≤ m) → length (records (take m bytes)) < n
    by (inl k) = below m k
    by (inr k) =
        let same : j ≡ m = omega (arith, k, l) in
        subst (λ (i : ℕ). length (records (take i bytes)) < n) same here

found-at : (bytes : List ℕ) (n j : ℕ) → TooShort bytes n j → n ≤ length (records (take j bytes)) → (front : List ℕ) × IsStorageOf bytes n front
found-at bytes n j below l = (
  take j bytes,
  record {
    rest = drop j bytes;
    all = take-and-drop j bytes;
    reaches = l;
    shortest = λ m k. let s = take-short j bytes in below m (omega (arith, k, s));
  },
)

here-or-later : (bytes : List ℕ) (n j : ℕ) → TooShort bytes n j → (length (records (take j bytes)) < n) ⊎ (n ≤ length (records (take j bytes)))
    → (TooShort bytes n (suc j) → (front : List ℕ) × IsStorageOf bytes n front) → (front : List ℕ) × IsStorageOf bytes n front
here-or-later bytes n j below (inr l) later = found-at bytes n j below l
here-or-later bytes n j below (inl l) later = later (one-more bytes n j below l)

least : (bytes : List ℕ) (n more j : ℕ) → TooShort bytes n j → n ≤ length (records (take (j + more) bytes)) → (front : List ℕ) × IsStorageOf bytes n front
least bytes n zero j below reaches =
    let same : j + 0 ≡ j = omega arith in
    found-at bytes n j below (subst (λ (i : ℕ). n ≤ length (records (take i bytes))) same reaches)
least bytes n (suc more) j below reaches =
    let same : j + suc more ≡ suc j + more = omega arith in
    here-or-later bytes n j below (split (length (records (take j bytes))) n)
    (λ b. least bytes n more (suc j) b (subst (λ (i : ℕ). n ≤ length (records (take i bytes))) same reaches))

storage-there : (bytes : List ℕ) (n size : ℕ) → n ≤ length (records (take size bytes)) → (front : List ℕ) × IsStorageOf bytes n front
storage-there bytes n size reaches =
    let same : size ≡ 0 + size = omega arith in
    least bytes n size 0 (λ m l. absurd (omega (arith, l))) (subst (λ (i : ℕ). n ≤ length (records (take i bytes))) same reaches)

-- THE PROLOG ENDS in the document
record Fits (I : Input) (h : History) : Type 0 where
  last : DocumentLast (unread h)
  within : (stop_place h).entity ≡ 0 → (stop_place h).at ≤ length I.document

abbrev EndsWithin : Input → History → Type 0
EndsWithin I h = prolog_end h ≤ length I.document

alone-first : (ps : List Place) → DocumentLast ps → (length ps == 1) ≡ true → (top_place ps).entity ≡ 0
alone-first [] l e = absurd l
alone-first (p ∷ []) l e = l
alone-first (p ∷ q ∷ ps) l e = absurd (never (sym e ∙ more-than-one (length ps)))
  where
    never : true ≡ false → ⊥
    never e = cc

border-fits : (I : Input) (h : History) → Fits I h → is_border h ≡ true → (stop_place h).at ≤ length I.document
unfolding state
border-fits I h f b =
    let x = at-border (stage h) (texts h) (ends_in_finish h) b in
    f.within (alone-first (unread h) f.last (ap (λ n. n == 1) (length-unread h) ∙ x.alone))

nothing-read : (I : Input) → EndsWithin I []
unfolding unread
nothing-read I = omega arith

piece-ends : (I : Input) (x : Piece) (h : History) → Fits I (x ∷ h) → EndsWithin I h → EndsWithin I (x ∷ h)
piece-ends I x h f e = by (has_border h) refl (is_border (x ∷ h)) refl
  where
    by : (b : Bool) → has_border h ≡ b → (c : Bool) → is_border (x ∷ h) ≡ c → EndsWithin I (x ∷ h)
    by true s c t =
        subst (λ (k : History). (stop_place k).at ≤ length I.document)
        (sym (ap (λ b. if b then prolog_of h else (if is_border (x ∷ h) then (x ∷ h) else [])) s)) e
    by false s true t =
        subst (λ (k : History). (stop_place k).at ≤ length I.document)
        (sym (ap (λ b. if b then prolog_of h else (if is_border (x ∷ h) then (x ∷ h) else [])) s ∙ ap (λ c. if c then (x ∷ h) else []) t)) (border-fits I (x ∷ h) f t)
    by false s false t =
        subst (λ (k : History). (stop_place k).at ≤ length I.document)
        (sym (ap (λ b. if b then prolog_of h else (if is_border (x ∷ h) then (x ∷ h) else [])) s ∙ ap (λ c. if c then (x ∷ h) else []) t)) (nothing-read I)

add-none : (n : ℕ) → n + 0 ≡ n
add-none n = omega arith

moved-none : (ps : List Place) → moved 0 ps ≡ ps
moved-none [] = refl
moved-none (p ∷ ps) = λ i. place_at p.entity (add-none p.at i) ∷ ps

moved-fits : (I : Input) (h : History) → Fits I h → (top_place (moved 0 (unread h))).entity ≡ 0 → (top_place (moved 0 (unread h))).at ≤ length I.document
moved-fits I h f = subst (λ (ps : List Place). (top_place ps).entity ≡ 0 → (top_place ps).at ≤ length I.document) (sym (moved-none (unread h))) f.within

omitted-fits : (I : Input) (h : History) (o : Piece) (x : Kind) → MayStand (context h) o x → Fits I h → Fits I (o ∷ h)
unfolding unread turn
omitted-fits I h o x (inl (name, is, may)) f = subst (λ (p : Piece). Fits I (p ∷ h)) (sym is) (record { last = last-moved 0 (unread h) f.last; within = moved-fits I h f })
omitted-fits I h o x (inr (name, is, may)) f = subst (λ (p : Piece). Fits I (p ∷ h)) (sym is) (record { last = last-moved 0 (unread h) f.last; within = moved-fits I h f })

run-ends : (I : Input) (h : History) (x : Kind) (os : List Piece) → LongestRun h x os → Fits I h → EndsWithin I h → EndsWithin I (after_run h os)
run-ends I h x [] r f e = e
run-ends I h x (o ∷ os) r f e =
    let g = omitted-fits I h o x r.0 f in
    run-ends I (o ∷ h) x os r.1 g (piece-ends I o h g e)

move-ends : (I : Input) (h : History) (m : Move) → Reads forms I h m → Fits I h → Fits I (moved_on h m) → EndsWithin I h → EndsWithin I (moved_on h m)
move-ends I h m r old new e =
    let x = move-spelled I h m r in
    piece-ends I m.visible (after_run h m.omitted) new (run-ends I h (piece_noted (state h) x.piece).kind m.omitted x.moves.longest old e)

fits : (I : Input) (ms : List Move) → ReadsFromStart forms I ms → Fits I (read_by I ms)
fits I ms r = record {
  last = moves-last I (opening I.outside) ms r (opening-last I.outside);
  within = λ e. subst (λ (n : ℕ). (stop_place (read_by I ms)).at ≤ length (text_in I (read_by I ms) n)) e ((places-are-there I ms r).1).within;
}

further : (I : Input) (before ms : List Move) → ReadsFromStart forms I before → ReadOn forms I (read_by I before) ms → EndsWithin I (read_by I before) → EndsWithin I (after_moves (read_by I before) ms)
further I before [] r s e = e
further I before (m ∷ ms) r s e =
    let more = before ++ (m ∷ []) in
    let reads : ReadsFromStart forms I more = reads-on I (opening I.outside) before (m ∷ []) r (s.0, tt) in
    let same : read_by I more ≡ moved_on (read_by I before) m = moves-append (opening I.outside) before (m ∷ []) in
    let now : EndsWithin I (read_by I more) =
    subst (EndsWithin I) (sym same) (move-ends I (read_by I before) m s.0 (fits I before r) (subst (Fits I) same (fits I more reads)) e) in
    subst (λ (k : History). EndsWithin I (after_moves k ms)) same (further I more ms reads (subst (λ (k : History). ReadOn forms I k ms) (sym same) s.1) now)

opening-ends : (I : Input) → EndsWithin I (opening I.outside)
opening-ends I = piece-ends I _ [] (fits I [] tt) (nothing-read I)

prolog-within : (I : Input) (ms : List Move) → ReadsFromStart forms I ms → EndsWithin I (read_by I ms)
prolog-within I ms r = further I [] ms tt r (opening-ends I)

-- AN INSTRUCTION that can't be spelled has a place
here-or-on : (b : Bool) (n k len : ℕ) (o : Option ℕ) → (if b then o else Some n) ≡ Some k → (o ≡ Some k → k < suc n + len) → k < n + suc len
here-or-on true n k len o e f = let l = f e in omega (arith, l)
here-or-on false n k len o e f = let same : n ≡ k = cc in omega (arith, same)

none-some : {A : Type 0} (k : ℕ) → None ≡ Some k → A
none-some k e = cc

unspelled-among : (n : ℕ) (es : List Said) (k : ℕ) → first_unspelled n es ≡ Some k → k < n + length (instructions es)
unspelled-among n [] k e = none-some k e
unspelled-among n (Instruction text None ∷ es) k e =
    here-or-on (is_paired false text) n k (length (instructions es)) (first_unspelled (suc n) es) e (λ f. unspelled-among (suc n) es k f)
unspelled-among n (Instruction text (Some entity) ∷ es) k e = let l = unspelled-among (suc n) es k e in omega (arith, l)
unspelled-among n (Started name attributes ∷ es) k e = unspelled-among n es k e
unspelled-among n (Ended name ∷ es) k e = unspelled-among n es k e
unspelled-among n (Byte b ∷ es) k e = unspelled-among n es k e
unspelled-among n (SpecificData entity text ∷ es) k e = unspelled-among n es k e
unspelled-among n (External entity ∷ es) k e = unspelled-among n es k e

instructions-append : (xs ys : List Said) → instructions (xs ++ ys) ≡ instructions xs ++ instructions ys
instructions-append [] ys = refl
instructions-append (Started name attributes ∷ xs) ys = instructions-append xs ys
instructions-append (Ended name ∷ xs) ys = instructions-append xs ys
instructions-append (Byte b ∷ xs) ys = instructions-append xs ys
instructions-append (SpecificData entity text ∷ xs) ys = instructions-append xs ys
instructions-append (External entity ∷ xs) ys = instructions-append xs ys
instructions-append (Instruction text entity ∷ xs) ys = ap (λ zs. text ∷ zs) (instructions-append xs ys)

drop-front : (xs ys : List Said) → drop (length xs) (xs ++ ys) ≡ ys
drop-front [] ys = refl
drop-front (x ∷ xs) ys = drop-front xs ys

abbrev GoesOnFrom : History → History → Type 0
GoesOnFrom k h = (rest : List Said) × (events forms h ≡ events forms k ++ rest)

grows : (p : Piece) (h : History) → GoesOnFrom h (p ∷ h)
unfolding events
grows p h = (_, refl)

from-nothing : (h : History) → GoesOnFrom [] h
unfolding events
from-nothing h = (events forms h, refl)

one-piece-on : (k h : History) (p : Piece) → GoesOnFrom k h → GoesOnFrom k (p ∷ h)
one-piece-on k h p g =
    let one = grows p h in
    (g.0 ++ one.0, one.1 ∙ (ap (λ (z : List Said). z ++ one.0) g.1 ∙ append_assoc (events forms k) g.0 one.0))

prolog-by : (p : Piece) (h : History) → GoesOnFrom (prolog_of h) h → (b : Bool) → has_border h ≡ b → (c : Bool) → is_border (p ∷ h) ≡ c → GoesOnFrom (prolog_of (p ∷ h)) (p ∷ h)
prolog-by p h g true s c t =
    subst (λ (k : History). GoesOnFrom k (p ∷ h))
    (sym (ap (λ b. if b then prolog_of h else (if is_border (p ∷ h) then (p ∷ h) else [])) s)) (one-piece-on (prolog_of h) h p g)
prolog-by p h g false s true t =
    subst (λ (k : History). GoesOnFrom k (p ∷ h))
    (sym (ap (λ b. if b then prolog_of h else (if is_border (p ∷ h) then (p ∷ h) else [])) s ∙ ap (λ c. if c then (p ∷ h) else []) t))
    ([], sym (append-nil (events forms (p ∷ h))))
prolog-by p h g false s false t =
    subst (λ (k : History). GoesOnFrom k (p ∷ h))
    (sym (ap (λ b. if b then prolog_of h else (if is_border (p ∷ h) then (p ∷ h) else [])) s ∙ ap (λ c. if c then (p ∷ h) else []) t)) (from-nothing (p ∷ h))

from-prolog : (h : History) → GoesOnFrom (prolog_of h) h
from-prolog [] = from-nothing []
from-prolog (p ∷ h) = prolog-by p h (from-prolog h) (has_border h) refl (is_border (p ∷ h)) refl

unspelled-below : (h : History) (k : ℕ) → unspelled h ≡ Some k → k < length (instruction_places h)
unspelled-below h k e =
    let g = from-prolog h in
    let before = events forms (prolog_of h) in
    let rest : instance_events h ≡ g.0 = ap (drop (length before)) g.1 ∙ drop-front before g.0 in
    let l = unspelled-among (length (instructions before)) g.0 k (ap (first_unspelled (length (instructions before))) (sym rest) ∙ e) in
    let all : length (instructions (events forms h)) ≡ length (instructions before) + length (instructions g.0) =
    ap (λ (z : List Said). length (instructions z)) g.1 ∙ (ap length (instructions-append before g.0) ∙ length-append (instructions before) (instructions g.0)) in
    let places = instructions-have-places forms h in
    omega (arith, l, all, places)

there-below : (ps : List Place) (k : ℕ) → k < length ps → (p : Place) × (slice_get ps k ≡ Some p)
there-below [] k l = absurd (omega (arith, l))
there-below (p ∷ ps) zero l = (p, refl)
there-below (p ∷ ps) (suc k) l = there-below ps k (omega (arith, l))

-- THE END
abbrev FullEnd : List ℕ → Input → Type 0
FullEnd bytes I = (a : Outcome) × (out : List ℕ) × EndsFull a bytes I (Some []) (Some out)

conforming : (bytes : List ℕ) (I : Input) (size : ℕ) (ms : List Move) → I.document ≡ records (take size bytes) → ReadsFromStart forms I ms → IsEnd outcome.Conforming I (read_by I ms)
    → (u : Option ℕ) → unspelled (read_by I ms) ≡ u → FullEnd bytes I
conforming bytes I size ms d r e None u =
    let h = read_by I ms in
    let s = storage-there bytes (prolog_end h) size (subst (λ (z : List ℕ). prolog_end h ≤ length z) d (prolog-within I ms r)) in
    let text = full_document s.0 (types h) (instance_events h) in
    (outcome.Conforming, text, record { moves = ms; read = r; end = (e, u); gained = (text, record { prolog = s.0; storage = s.1; is = refl }, refl) })
conforming bytes I size ms d r e (Some k) u =
    let h = read_by I ms in
    let p = there-below (instruction_places h) k (unspelled-below h k u) in
    let q : Refusal = record { place = p.0; reason = PiNotSpelled } in
    let x = position I h p.0 in (
      outcome.Refused q x.0,
      [],
      record {
        moves = ms;
        read = r;
        end = inr (record { over = e.0; agree = e.1; number = k; first = u; place = p.1; reason = refl }, x.1);
        gained = refl;
      },
    )

ended : (bytes : List ℕ) (I : Input) (size : ℕ) (ms : List Move) (a : Outcome) → I.document ≡ records (take size bytes) → ReadsFromStart forms I ms → IsEnd a I (read_by I ms) → FullEnd bytes I
ended bytes I size ms outcome.Conforming d r e = conforming bytes I size ms d r e (unspelled (read_by I ms)) refl
ended bytes I size ms (outcome.Refused q x) d r e = (outcome.Refused q x, [], record { moves = ms; read = r; end = inl e; gained = refl })
ended bytes I size ms outcome.Absent d r e = absurd e

pub each-input-has-a-full-end : EachInputHasAFullEnd
each-input-has-a-full-end limit files c declaration bytes I is =
    let x = each-input-has-an-end I in
    ended bytes I limit x.0 x.2.0 is.document x.1 x.2.1
