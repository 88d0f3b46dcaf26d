-- A short reference of what was read is written as what it stands for (9.4.6).
use Rattle.std.proofs.Common.{◌≡◌, ℕ, Bool, true, false, ◌==◌, ◌&&◌, ◌||◌, List, [], ◌∷◌, ◌++◌, Some, refl, sym, ◌∙◌, ap, subst, append-nil, if◌then◌else◌}
use Rattle.sgml_theory_values.specs.records.Items.{Item, RecordEnd, RecordStart, Data as DataItem, Markup}
use Rattle.sgml_theory_values.specs.records.Facts.{Facts, takes_end, noted, all_noted}
use Rattle.sgml_theory_values.specs.delim.declared.delim.Mode.TheVariants as mode
use Rattle.sgml_theory_values.specs.dtd.Doctypes.{Doctype}
use Rattle.sgml_theory_values.specs.theory_reading.Names.{Text}
use Rattle.sgml_theory_values.specs.theory_reading.Types.{body_of}
use Rattle.sgml_theory_values.specs.theory_reading.Pieces.{Piece, Meaning, Ordinary, ToText, ToData, ToExternalData, ToInstruction, Char, Re, Rs, ShortRef}
use Rattle.sgml_theory_values.specs.theory_reading.Facets.{Pcdata, byte_item, byte_items, start_item, text_if, items_of, token, effect, declares, is_start, is_omitted_start}
use Rattle.sgml_theory_values.specs.theory_reading.Nest.{without_first}
use Rattle.sgml_theory_values.specs.theory_reading.Context.{Context, context_after, piece_of}
use Rattle.sgml_theory_values.specs.theory_reading.State.{State, after_piece, first_noted}
use Rattle.sgml_theory_values.specs.theory_reading.Characters.{facts_in, is_content_byte, some_content, has_items, ordinary}
use Rattle.sgml_theory_values.specs.theory_reading.Events.{Event as Said, External, Instruction, Shown, body_events, silent, shown_byte, shown_bytes, shown, noted_option, told_item_by, told_by, events_at}
use Rattle.sgml_theory_values.specs.theory_spelling.Spelled.{forms}
use Rattle.sgml_theory_full.specs.Conforming.{IsPlain, mode_in}
use Rattle.sgml_theory_full.specs.Following.{waits, has_events, DataHolds, HasRecordEnds, StringHolds, MeaningHolds, bared, datum, LikeContexts, Follows}
use Rattle.sgml_theory_full.proofs.Plain.{if-true, if-false}
use Rattle.sgml_theory_full.proofs.RawParts.{put}
use Rattle.sgml_theory_full.proofs.Following.{Written, Staying, Step, DatumWritten, Quiet, quiet-rest, record-ends-stay, context-of, as-datum, datum-again, datum-unnoticed, unnoticed, data-unnoticed, data-next, data-same, bared-stays, bared-same, mode-like, like-after, released, told-one, then-written, none-written, body-written, char-stays, char-token, re-stays, silent-step, char-step, live-step, dead-step, pi-like}
use Rattle.sgml_theory_full.proofs.ExternalFollowed.{external-written}

pub string-stays : (string : Text) (m : Meaning) → Staying (ShortRef string m)
unfolding effect declares is_start is_omitted_start
string-stays string m = record { stays = refl; types = λ d. refl; no_start = refl; visible = refl }

-- A RECORD START at the head of a string that is mapped
start-quiet : (string : Text) (f : Facts) → (all_noted f (start_item string)).waiting ≡ f.waiting
unfolding noted
start-quiet [] f = refl
start-quiet (b ∷ bs) f = by (b == 10)
  where
    by : (t : Bool) → (all_noted f (if t then RecordStart ∷ [] else [])).waiting ≡ f.waiting
    by true = refl
    by false = refl

start-told : (string : Text) (f : Facts) (xs : List Shown) → told_by f (silent (start_item string) ++ xs) ≡ told_by (all_noted f (start_item string)) xs
start-told [] f xs = refl
start-told (b ∷ bs) f xs = by (b == 10)
  where
    by : (t : Bool) → told_by f (silent (if t then RecordStart ∷ [] else []) ++ xs) ≡ told_by (all_noted f (if t then RecordStart ∷ [] else [])) xs
    by true = refl
    by false = refl

after-start : (string : Text) (f : Facts) (is : List Item) → all_noted f (start_item string ++ is) ≡ all_noted (all_noted f (start_item string)) is
after-start [] f is = refl
after-start (b ∷ bs) f is = by (b == 10)
  where
    by : (t : Bool) → all_noted f ((if t then RecordStart ∷ [] else []) ++ is) ≡ all_noted (all_noted f (if t then RecordStart ∷ [] else [])) is
    by true = refl
    by false = refl

data-last : (string : Text) (f : Facts) → (all_noted f (start_item string ++ DataItem ∷ [])).waiting ≡ false
unfolding noted
data-last string f = ap (λ (g : Facts). g.waiting) (after-start string f (DataItem ∷ []))

markup-last : (string : Text) (f : Facts) → (all_noted f (start_item string ++ Markup ∷ [])).waiting ≡ f.waiting
unfolding noted
markup-last string f = ap (λ (g : Facts). g.waiting) (after-start string f (Markup ∷ [])) ∙ start-quiet string f

start-alone : (string : Text) (f : Facts) → told_by f (silent (start_item string)) ≡ []
start-alone string f =
    ap (told_by f) (sym (append-nil (silent (start_item string)))) ∙ start-told string f []

data-told : (string : Text) (f : Facts) (es : List Said) → told_by f (silent (start_item string) ++ record { item = Some DataItem; events = es } ∷ []) ≡ put f.waiting ++ es
data-told string f es =
    start-told string f (record { item = Some DataItem; events = es } ∷ [])
    ∙ told-one (all_noted f (start_item string)) es
    ∙ ap (λ t. put t ++ es) (start-quiet string f)

instruction-told : (string : Text) (f : Facts) (es : List Said) → told_by f (silent (start_item string) ++ record { item = Some Markup; events = es } ∷ []) ≡ es
instruction-told string f es = start-told string f (record { item = Some Markup; events = es } ∷ []) ∙ append-nil es

-- DATA, whose first event stands behind what is put out
first-quiet : (is : List Item) (fs : List Facts) → ((f : Facts) → (all_noted f is).waiting ≡ false) → (facts_in (first_noted is fs)).waiting ≡ false
first-quiet is [] q = refl
first-quiet is (f ∷ fs) q = q f

follows-datum : (p : Piece) (a c : State) → Staying p.kind → token p.kind ≡ Some Pcdata → ((f : Facts) → (all_noted f (items_of p.kind)).waiting ≡ false) → Quiet (without_first a.record_ends) → IsPlain c
    → c.context ≡ context_after datum (bared a.context) → Follows (after_piece p a) c
follows-datum p a c s t n q plain e =
    let ends = record-ends-stay p a (items_of p.kind) s.stays refl in
    let none : waits (after_piece p a) ≡ false = ap (λ fs. (facts_in fs).waiting) ends ∙ first-quiet (items_of p.kind) a.record_ends n in record {
      plain = plain;
      quiet = subst (λ fs. Quiet (without_first fs)) (sym ends) (quiet-rest (items_of p.kind) a.record_ends q);
      like = subst (λ w. LikeContexts w (after_piece p a) c) (sym none)
          (e ∙ bared-stays p datum a.context s (char-stays 0) (char-token 0 ∙ sym t) ∙ ap bared (sym (context-of p a)));
    }

data-like : (d : Doctype) (a b : State) (p : Piece) (es : List Said) → Staying p.kind → token p.kind ≡ Some Pcdata → ((f : Facts) → (all_noted f (items_of p.kind)).waiting ≡ false)
    → events_at forms a p ≡ put (waits a) ++ es → Follows a b → ((r : State) → IsPlain r → r.context ≡ bared a.context → DatumWritten d r es) → Step d a p b
data-like d a b p es s t n told f write =
    let r = released d a b f in
    let one = write r.after r.plain r.context_is in record {
      after = one.after;
      written = subst (λ es. Written d b es one.after) (sym told) (then-written d b r.after one.after (put (waits a)) es r.written one.written);
      follows = follows-datum p a one.after s t n f.quiet one.plain (one.context_is ∙ ap (context_after datum) r.context_is);
    }

-- A STRING THAT IS MAPPED
text-step : (d : Doctype) (a b : State) (p : Piece) (string : Text) (e : ℕ) → p.kind ≡ ShortRef string (ToText e) → Follows a b → Step d a p b
unfolding token items_of shown
text-step d a b p string e k f =
    silent-step d a b p (subst Staying (sym k) (string-stays string (ToText e))) (ap token k)
    (subst (λ k. (f : Facts) → (all_noted f (items_of k)).waiting ≡ f.waiting) (sym k) (start-quiet string))
    (ap (λ k. told_by (facts_in a.record_ends) (shown forms a k)) k ∙ start-alone string (facts_in a.record_ends)) f

entity-step : (d : Doctype) (a b : State) (p : Piece) (string : Text) (e : ℕ) → p.kind ≡ ShortRef string (ToData e) → Follows a b → DataHolds a
    → has_events (body_events e (body_of a.context.doctype e)) ≡ true → Step d a p b
unfolding token items_of shown
entity-step d a b p string e k f h n =
    let es = body_events e (body_of a.context.doctype e) in
    data-like d a b p es (subst Staying (sym k) (string-stays string (ToData e))) (ap token k)
    (subst (λ k. (f : Facts) → (all_noted f (items_of k)).waiting ≡ false) (sym k) (data-last string))
    (ap (λ k. told_by (facts_in a.record_ends) (shown forms a k)) k ∙ data-told string (facts_in a.record_ends) es) f
    (λ r plain same. body-written d r e (body_of a.context.doctype e) n plain (data-same a r same h))

outside-step : (d : Doctype) (a b : State) (p : Piece) (string : Text) (e : ℕ) → p.kind ≡ ShortRef string (ToExternalData e) → Follows a b → DataHolds a → mode_in a ≡ mode.Con → Step d a p b
unfolding token items_of shown
outside-step d a b p string e k f h m =
    data-like d a b p (External e ∷ []) (subst Staying (sym k) (string-stays string (ToExternalData e))) (ap token k)
    (subst (λ k. (f : Facts) → (all_noted f (items_of k)).waiting ≡ false) (sym k) (data-last string))
    (ap (λ k. told_by (facts_in a.record_ends) (shown forms a k)) k ∙ data-told string (facts_in a.record_ends) (External e ∷ [])) f
    (λ r plain same. external-written d r e plain (data-same a r same h) (mode-like a r false same ∙ m))

instruction-step : (d : Doctype) (a b : State) (p : Piece) (string : Text) (e : ℕ) (text : Text) → p.kind ≡ ShortRef string (ToInstruction e text) → Follows a b → mode_in a ≡ mode.Con → Step d a p b
unfolding token items_of shown
instruction-step d a b p string e text k f m =
    pi-like d a b p text (Some e) (subst Staying (sym k) (string-stays string (ToInstruction e text))) (ap token k)
    (subst (λ k. (f : Facts) → (all_noted f (items_of k)).waiting ≡ f.waiting) (sym k) (markup-last string))
    (ap (λ k. told_by (facts_in a.record_ends) (shown forms a k)) k ∙ instruction-told string (facts_in a.record_ends) (Instruction text (Some e) ∷ [])) f m

-- ONE BYTE of a string that stands for itself, as a piece
record ByteStep (d : Doctype) (a : State) (f : Facts) (x : ℕ) (b : State) : Type 0 where
  piece : Piece
  stays : Staying piece.kind
  token_is : token piece.kind ≡ text_if (is_content_byte f x)
  items_are : items_of piece.kind ≡ byte_item x ∷ []
  shows : shown forms a piece.kind ≡ shown_byte x (byte_item x) ∷ []
  step : Step d a piece b

rs-stays : Staying Rs
unfolding effect declares is_start is_omitted_start
rs-stays = record { stays = refl; types = λ d. refl; no_start = refl; visible = refl }

rs-step : (d : Doctype) (a b : State) → Follows a b → Step d a (piece_of Rs) b
unfolding token items_of shown noted
rs-step d a b f = silent-step d a b (piece_of Rs) rs-stays refl (λ f. refl) refl f

end-byte : (d : Doctype) (a b : State) (f : Facts) (x : ℕ) (live : Bool) → takes_end f ≡ live → (x == 13) ≡ true → Step d a (piece_of (Re live)) b → ByteStep d a f x b
unfolding token items_of shown
end-byte d a b f x live l e s =
    let item : byte_item x ≡ RecordEnd = if-true (x == 13) RecordEnd _ e in record {
      piece = piece_of (Re live);
      stays = re-stays live;
      token_is = ap text_if (sym (if-true (x == 13) (takes_end f) _ e ∙ l));
      items_are = ap (λ i. i ∷ []) (sym item);
      shows = ap (λ i. shown_byte x i ∷ []) (sym item);
      step = s;
    }

start-byte : (d : Doctype) (a b : State) (f : Facts) (x : ℕ) → (x == 13) ≡ false → (x == 10) ≡ true → Follows a b → ByteStep d a f x b
unfolding token items_of shown
start-byte d a b f x e s h =
    let item : byte_item x ≡ RecordStart = if-false (x == 13) RecordEnd _ e ∙ if-true (x == 10) RecordStart _ s in record {
      piece = piece_of Rs;
      stays = rs-stays;
      token_is = ap text_if (sym (if-false (x == 13) (takes_end f) _ e ∙ if-true (x == 10) false _ s));
      items_are = ap (λ i. i ∷ []) (sym item);
      shows = ap (λ i. shown_byte x i ∷ []) (sym item);
      step = rs-step d a b h;
    }

data-byte : (d : Doctype) (a b : State) (f : Facts) (x : ℕ) → (x == 13) ≡ false → (x == 10) ≡ false → Follows a b → (is_content_byte f x ≡ true → DataHolds a) → ByteStep d a f x b
unfolding token items_of shown
data-byte d a b f x e s h may =
    let item : byte_item x ≡ DataItem = if-false (x == 13) RecordEnd _ e ∙ if-false (x == 10) RecordStart DataItem s in
    let content : is_content_byte f x ≡ true = if-false (x == 13) (takes_end f) _ e ∙ if-false (x == 10) false true s in record {
      piece = piece_of (Char x);
      stays = char-stays x;
      token_is = ap text_if (sym content);
      items_are = ap (λ i. i ∷ []) (sym item);
      shows = ap (λ i. shown_byte x i ∷ []) (sym item);
      step = char-step d a b (piece_of (Char x)) x refl h (may content);
    }

byte-step : (d : Doctype) (a b : State) (f : Facts) (fs : List Facts) (x : ℕ) → a.record_ends ≡ f ∷ fs → Follows a b → (is_content_byte f x ≡ true → DataHolds a) → ByteStep d a f x b
byte-step d a b f fs x ends h may = by (x == 13) refl
  where
    first : facts_in a.record_ends ≡ f
    first = ap facts_in ends

    ended : (live : Bool) → takes_end f ≡ live → (x == 13) ≡ true → ByteStep d a f x b
    ended true l e =
        end-byte d a b f x true l e
        (live-step d a b (piece_of (Re true)) refl h (ap takes_end first ∙ l) (may (if-true (x == 13) (takes_end f) _ e ∙ l)))
    ended false l e = end-byte d a b f x false l e (dead-step d a b (piece_of (Re false)) refl h (ap takes_end first ∙ l))

    other : (t : Bool) → (x == 10) ≡ t → (x == 13) ≡ false → ByteStep d a f x b
    other true s e = start-byte d a b f x e s h
    other false s e = data-byte d a b f x e s h may

    by : (t : Bool) → (x == 13) ≡ t → ByteStep d a f x b
    by true e = ended (takes_end f) refl e
    by false e = other (x == 10) refl e

-- ALL ITS BYTES, one after another: one datum of the string is as good as one of each byte
abbrev with_datum : Bool → Context → Context
with_datum t c = if t then context_after datum c else c

data-after : (a : State) (q : Piece) (t rest : Bool) → Staying q.kind → token q.kind ≡ text_if t → ((t || rest) ≡ true → DataHolds a) → rest ≡ true → DataHolds (after_piece q a)
data-after a q true rest s e may r = data-next a (after_piece q a) (context-of q a ∙ as-datum q a.context s e) (may refl)
data-after a q false rest s e may r = data-unnoticed a (after_piece q a) (context-of q a ∙ unnoticed q a.context s e) (may r)

context-after : (a : State) (q : Piece) (t rest : Bool) → Staying q.kind → token q.kind ≡ text_if t
    → bared (with_datum rest (after_piece q a).context) ≡ bared (with_datum (t || rest) a.context)
context-after a q true true s e = ap (λ c. bared (context_after datum c)) (context-of q a ∙ as-datum q a.context s e) ∙ ap bared (datum-again a.context)
context-after a q true false s e = ap bared (context-of q a ∙ as-datum q a.context s e)
context-after a q false true s e = ap (λ c. bared (context_after datum c)) (context-of q a ∙ unnoticed q a.context s e) ∙ ap bared (datum-unnoticed a.context)
context-after a q false false s e = ap bared (context-of q a ∙ unnoticed q a.context s e)

told-first : (f : Facts) (x : Shown) (xs : List Shown) → told_by f (x ∷ xs) ≡ told_by f (x ∷ []) ++ told_by (noted_option f x.item) xs
told-first f x xs = ap (λ es. es ++ told_by (noted_option f x.item) xs) (sym (append-nil (told_item_by f x.item ++ x.events)))

byte-item : (x : ℕ) (item : Item) → (shown_byte x item).item ≡ Some item
byte-item x DataItem = refl
byte-item x _ = refl

bytes-told : (a : State) (q : Piece) (f : Facts) (fs : List Facts) (x : ℕ) (xs : Text) → a.record_ends ≡ f ∷ fs → shown forms a q.kind ≡ shown_byte x (byte_item x) ∷ []
    → told_by f (shown_bytes (x ∷ xs)) ≡ events_at forms a q ++ told_by (noted f (byte_item x)) (shown_bytes xs)
bytes-told a q f fs x xs ends shows =
    told-first f (shown_byte x (byte_item x)) (shown_bytes xs)
    ∙ ap (λ o. told_by f (shown_byte x (byte_item x) ∷ []) ++ told_by (noted_option f o) (shown_bytes xs)) (byte-item x (byte_item x))
    ∙ ap (λ g. told_by g (shown_byte x (byte_item x) ∷ []) ++ told_by (noted f (byte_item x)) (shown_bytes xs)) (sym (ap facts_in ends))
    ∙ ap (λ ss. told_by (facts_in a.record_ends) ss ++ told_by (noted f (byte_item x)) (shown_bytes xs)) (sym shows)

record BytesWritten (d : Doctype) (a : State) (f : Facts) (fs : List Facts) (xs : Text) (b : State) : Type 0 where
  read : State
  ends : read.record_ends ≡ all_noted f (byte_items xs) ∷ fs
  context_is : bared read.context ≡ bared (with_datum (some_content f xs) a.context)
  after : State
  written : Written d b (told_by f (shown_bytes xs)) after
  follows : Follows read after

bytes-written : (d : Doctype) (a b : State) (f : Facts) (fs : List Facts) (xs : Text) → a.record_ends ≡ f ∷ fs → Follows a b → (some_content f xs ≡ true → DataHolds a) → BytesWritten d a f fs xs b
bytes-written d a b f fs [] ends h may = record { read = a; ends = ends; context_is = refl; after = b; written = none-written d b; follows = h }
bytes-written d a b f fs (x ∷ xs) ends h may =
    let rest = some_content (noted f (byte_item x)) xs in
    let one = byte-step d a b f fs x ends h (λ e. may (ap (λ t. t || rest) e)) in
    let next = after_piece one.piece a in
    let ends1 = record-ends-stay one.piece a (byte_item x ∷ []) one.stays.stays one.items_are ∙ ap (first_noted (byte_item x ∷ [])) ends in
    let more = bytes-written d next one.step.after (noted f (byte_item x)) fs xs ends1 one.step.follows (data-after a one.piece (is_content_byte f x) rest one.stays one.token_is may) in record {
      read = more.read;
      ends = more.ends;
      context_is = more.context_is ∙ context-after a one.piece (is_content_byte f x) rest one.stays one.token_is;
      after = more.after;
      written = subst (λ es. Written d b es more.after) (sym (bytes-told a one.piece f fs x xs ends one.shows))
          (then-written d b one.step.after more.after (events_at forms a one.piece) (told_by (noted f (byte_item x)) (shown_bytes xs)) one.step.written more.written);
      follows = more.follows;
    }

-- A STRING THAT STANDS FOR ITSELF
follows-as : (x y c : State) → x.record_ends ≡ y.record_ends → bared x.context ≡ bared y.context → Follows x c → Follows y c
follows-as x y c e k f = record {
  plain = f.plain;
  quiet = subst (λ fs. Quiet (without_first fs)) e f.quiet;
  like = subst (λ w. LikeContexts w y c) (ap (λ fs. (facts_in fs).waiting) e) (like-after x y c (waits x) (sym k) f.like);
}

with-content : (p : Piece) (c : Context) (t : Bool) → Staying p.kind → token p.kind ≡ text_if t → bared (context_after p c) ≡ bared (with_datum t c)
with-content p c true s e = ap bared (as-datum p c s e)
with-content p c false s e = bared-same p c s e

items-same : (a b c d : Bool) → Ordinary a b ≡ Ordinary c d → (a ≡ c) × (b ≡ d)
items-same a b c d e = (cc, cc)

ordinary-is : (s : State) (string : Text) (items content : Bool) → ordinary s string ≡ Ordinary items content → (has_items s string ≡ items) × ((items && some_content (facts_in s.record_ends) string) ≡ content)
unfolding ordinary
ordinary-is s string items content e =
    let q = items-same (has_items s string) (has_items s string && some_content (facts_in s.record_ends) string) items content e in
    (q.0, ap (λ t. t && some_content (facts_in s.record_ends) string) (sym q.0) ∙ q.1)

ignored-step : (d : Doctype) (a b : State) (p : Piece) (string : Text) (content : Bool) → p.kind ≡ ShortRef string (Ordinary false content) → content ≡ false → Follows a b → Step d a p b
unfolding token items_of shown
ignored-step d a b p string content k c f =
    silent-step d a b p (subst Staying (sym k) (string-stays string (Ordinary false content))) (ap token k ∙ ap text_if c)
    (subst (λ k. (f : Facts) → (all_noted f (items_of k)).waiting ≡ f.waiting) (sym k) (λ f. refl))
    (ap (λ k. told_by (facts_in a.record_ends) (shown forms a k)) k) f

itself-step : (d : Doctype) (a b : State) (p : Piece) (string : Text) (content : Bool) → p.kind ≡ ShortRef string (Ordinary true content) → some_content (facts_in a.record_ends) string ≡ content
    → HasRecordEnds a → (content ≡ true → DataHolds a) → Follows a b → Step d a p b
unfolding token items_of shown
itself-step d a b p string content k c element may f =
    let first = element.0 in
    let same : some_content first string ≡ content = ap (λ fs. some_content (facts_in fs) string) (sym element.2) ∙ c in
    let run = bytes-written d a b first element.1 string element.2 f (λ e. may (sym same ∙ e)) in
    let s = subst Staying (sym k) (string-stays string (Ordinary true content)) in
    let ends : (after_piece p a).record_ends ≡ all_noted first (byte_items string) ∷ element.1 = record-ends-stay p a (byte_items string) s.stays (ap items_of k) ∙ ap (first_noted (byte_items string)) element.2 in
    let told : events_at forms a p ≡ told_by first (shown_bytes string) =
    ap (λ k. told_by (facts_in a.record_ends) (shown forms a k)) k ∙ ap (λ fs. told_by (facts_in fs) (shown_bytes string)) element.2 in record {
      after = run.after;
      written = subst (λ es. Written d b es run.after) (sym told) run.written;
      follows = follows-as run.read (after_piece p a) run.after (run.ends ∙ sym ends)
          (run.context_is ∙ ap (λ t. bared (with_datum t a.context)) same ∙ sym (with-content p a.context content s (ap token k)) ∙ ap bared (sym (context-of p a)))
          run.follows;
    }

ordinary-step : (d : Doctype) (a b : State) (p : Piece) (string : Text) (items content : Bool) → p.kind ≡ ShortRef string (Ordinary items content) → Follows a b → StringHolds a string items content → Step d a p b
ordinary-step d a b p string true content k f h = itself-step d a b p string content k (ordinary-is a string true content h.noted).1 (h.within refl) h.may f
ordinary-step d a b p string false content k f h = ignored-step d a b p string content k (sym (ordinary-is a string false content h.noted).1) f

-- EITHER
pub string-step : (d : Doctype) (a b : State) (p : Piece) (string : Text) (m : Meaning) → p.kind ≡ ShortRef string m → Follows a b → mode_in a ≡ mode.Con → MeaningHolds a string m → Step d a p b
string-step d a b p string (Ordinary items content) k f m h = ordinary-step d a b p string items content k f h
string-step d a b p string (ToText e) k f m h = text-step d a b p string e k f
string-step d a b p string (ToData e) k f m h = entity-step d a b p string e k f h.0 h.1
string-step d a b p string (ToExternalData e) k f m h = outside-step d a b p string e k f h m
string-step d a b p string (ToInstruction e text) k f m h = instruction-step d a b p string e text k f m
