-- Short reference strings that stand for themselves, where they are read (9.4.6).
use Rattle.std.proofs.Common.{◌≡◌, ℕ, Bool, true, false, ◌&&◌, ◌||◌, ◌==◌, List, [], ◌∷◌, None, Some, refl, sym, ap, ◌∙◌, subst, if◌then◌else◌, arith}
use Rattle.std.specs.List.{list_all}
use Rattle.std.proofs.lemmas.Bool.Decides.{nat_tests}
use Rattle.sgml_theory_full.specs.text.Characters.{is_separator}
use Rattle.sgml_theory_full.specs.records.Items.{Item, RecordEnd, RecordStart, Data as DataItem, Subelement, Markup}
use Rattle.sgml_theory_full.specs.records.Facts.{Facts, takes_end, noted}
use Rattle.sgml_theory_full.specs.theory_reading.Pieces.{Piece, Meaning, Ordinary, ToText, ToData, ToExternalData, ToInstruction, Kind, Start, Re, ShortRef, SubsetEnd, History}
use Rattle.sgml_theory_full.specs.theory_reading.Facets.{Pcdata, byte_item, token}
use Rattle.sgml_theory_full.specs.theory_reading.Context.{Context, context}
use Rattle.sgml_theory_full.specs.theory_reading.Omission.{leaves}
use Rattle.sgml_theory_full.specs.theory_reading.Runs.{LongestRun, after_run}
use Rattle.sgml_theory_full.specs.theory_reading.Unread.{Input}
use Rattle.sgml_theory_full.specs.theory_reading.State.{State, state}
use Rattle.sgml_theory_full.specs.theory_reading.Characters.{has_text, facts_in, is_content_byte, some_content, has_items, ordinary, meaning_noted, kind_noted}
use Rattle.sgml_theory_full.specs.theory_reading.Reads.{Move, Reads, judged}
use Rattle.sgml_theory_full.specs.theory_spelling.Spelled.{forms}
use Rattle.sgml_theory_full.specs.Standing.{PieceStands}
use Rattle.sgml_theory_full.proofs.Plain.{if-true, if-false}
use Rattle.sgml_theory_again.specs.Strings.{begins_with_end, is_live_end, StringEndStays}
use Rattle.sgml_theory_again.proofs.Texts.{true-false}
use Rattle.sgml_theory_again.proofs.Standing.{EachIs, read-stands}
use Rattle.sgml_theory_again.proofs.Instance.{Spelt, spelt, no-run}

-- WHAT IS CONTENT in a string: it doesn't depend on whether a record end waits
record Alike (f g : Facts) : Type 0 where
  begun : f.begun ≡ g.begun
  after_record : f.after_record ≡ g.after_record
  content : f.content ≡ g.content

alike-takes : (f g : Facts) → Alike f g → takes_end f ≡ takes_end g
alike-takes f g a = λ i. a.begun i && (a.after_record i || a.content i)

alike-noted : (f g : Facts) (item : Item) → Alike f g → Alike (noted f item) (noted g item)
unfolding noted
alike-noted f g RecordEnd a = record { begun = refl; after_record = refl; content = refl }
alike-noted f g RecordStart a = record { begun = refl; after_record = refl; content = refl }
alike-noted f g DataItem a = record { begun = refl; after_record = refl; content = refl }
alike-noted f g Subelement a = record { begun = refl; after_record = refl; content = refl }
alike-noted f g Markup a = record { begun = a.begun; after_record = refl; content = a.content }

alike-content : (f g : Facts) (bs : List ℕ) → Alike f g → some_content f bs ≡ some_content g bs
alike-content f g [] a = refl
alike-content f g (b ∷ bs) a =
    ap (λ t. (if b == 13 then t else (if b == 10 then false else true)) || some_content (noted f (byte_item b)) bs) (alike-takes f g a)
    ∙ ap (λ t. is_content_byte g b || t) (alike-content (noted f (byte_item b)) (noted g (byte_item b)) bs (alike-noted f g (byte_item b) a))

after-start : (f g : Facts) → Alike (noted f RecordStart) (noted g RecordStart)
unfolding noted
after-start f g = record { begun = refl; after_record = refl; content = refl }

or-first : (a b : Bool) → a ≡ true → (a || b) ≡ true
or-first a b e = ap (λ t. t || b) e

or-second : (a b : Bool) → b ≡ true → (a || b) ≡ true
or-second true b e = refl
or-second false b e = e

-- A STRING IS DATA ELSEWHERE TOO, if a record end at its head is
start-content : (f g : Facts) (b : ℕ) (bs : List ℕ) → (b == 13) ≡ false → (b == 10) ≡ true → some_content f (b ∷ bs) ≡ true → some_content g (b ∷ bs) ≡ true
start-content f g b bs e s h =
    let item : byte_item b ≡ RecordStart = if-false (b == 13) RecordEnd _ e ∙ if-true (b == 10) RecordStart _ s in
    let none : (k : Facts) → is_content_byte k b ≡ false = λ k. if-false (b == 13) (takes_end k) _ e ∙ if-true (b == 10) false _ s in
    let rest : (k : Facts) → some_content k (b ∷ bs) ≡ some_content (noted k RecordStart) bs = λ k. ap (λ t. t || some_content (noted k (byte_item b)) bs) (none k) ∙ ap (λ i. some_content (noted k i) bs) item in
    rest g ∙ sym (alike-content (noted f RecordStart) (noted g RecordStart) bs (after-start f g)) ∙ sym (rest f) ∙ h

still-content : (f g : Facts) (string : List ℕ) → some_content f string ≡ true → (begins_with_end string ≡ true → takes_end g ≡ true) → some_content g string ≡ true
still-content f g [] h k = h
still-content f g (b ∷ bs) h k = by (b == 13) refl
  where
    rest : Bool
    rest = some_content (noted g (byte_item b)) bs

    other : (t : Bool) → (b == 10) ≡ t → (b == 13) ≡ false → some_content g (b ∷ bs) ≡ true
    other true s e = start-content f g b bs e s h
    other false s e = or-first (is_content_byte g b) rest (if-false (b == 13) (takes_end g) _ e ∙ if-false (b == 10) false true s)

    by : (t : Bool) → (b == 13) ≡ t → some_content g (b ∷ bs) ≡ true
    by true e = or-first (is_content_byte g b) rest (if-true (b == 13) (takes_end g) _ e ∙ k e)
    by false e = other (b == 10) refl e

-- WHERE IT HAS ITEMS: a byte that is no separator is content
no-end : (b : ℕ) → is_separator b ≡ false → (b == 13) ≡ false
no-end b h = grind (arith, nat_tests)

no-start : (b : ℕ) → is_separator b ≡ false → (b == 10) ≡ false
no-start b h = grind (arith, nat_tests)

other-content : (f : Facts) (b : ℕ) (bs : List ℕ) (t : Bool) → is_separator b ≡ t → (t && list_all is_separator bs) ≡ false
    → (list_all is_separator bs ≡ false → some_content (noted f (byte_item b)) bs ≡ true) → some_content f (b ∷ bs) ≡ true
other-content f b bs true e h more = or-second (is_content_byte f b) (some_content (noted f (byte_item b)) bs) (more h)
other-content f b bs false e h more =
    or-first (is_content_byte f b) (some_content (noted f (byte_item b)) bs) (if-false (b == 13) (takes_end f) _ (no-end b e) ∙ if-false (b == 10) false true (no-start b e))

others-content : (f : Facts) (string : List ℕ) → list_all is_separator string ≡ false → some_content f string ≡ true
others-content f [] h = true-false h
others-content f (b ∷ bs) h = other-content f b bs (is_separator b) refl h (others-content (noted f (byte_item b)) bs)

items-there : (s : State) (string : List ℕ) → has_text s ≡ true → has_items s string ≡ true
items-there s string text = by (list_all is_separator string)
  where
    by : (t : Bool) → (if t then has_text s else true) ≡ true
    by true = text
    by false = refl

same-parts : (a b c d : Bool) → Ordinary a b ≡ Ordinary c d → (a ≡ c) × (b ≡ d)
same-parts a b c d e = (cc, cc)

record OrdinaryIs (s : State) (string : List ℕ) (items content : Bool) : Type 0 where
  has : has_items s string ≡ items
  is_content : (items && some_content (facts_in s.record_ends) string) ≡ content

ordinary-is : (s : State) (string : List ℕ) (items content : Bool) → ordinary s string ≡ Ordinary items content → OrdinaryIs s string items content
unfolding ordinary
ordinary-is s string items content e =
    let q = same-parts (has_items s string) (has_items s string && some_content (facts_in s.record_ends) string) items content e in
    record { has = q.0; is_content = ap (λ t. t && some_content (facts_in s.record_ends) string) (sym q.0) ∙ q.1 }

is-ordinary : (s : State) (string : List ℕ) → has_items s string ≡ true → some_content (facts_in s.record_ends) string ≡ true → ordinary s string ≡ Ordinary true true
unfolding ordinary
is-ordinary s string a b = λ i. Ordinary (a i) (a i && b i)

both : (a b : Bool) → (a && b) ≡ true → (a ≡ true) × (b ≡ true)
both true b e = (refl, e)
both false b e = true-false (sym e)

-- a string with items stands in an element with #PCDATA
pub text-there : (s : State) (string : List ℕ) (content : Bool) → ordinary s string ≡ Ordinary true content → (content ≡ true → has_text s ≡ true) → has_text s ≡ true
text-there s string content e allowed = by (list_all is_separator string) refl
  where
    o : OrdinaryIs s string true content
    o = ordinary-is s string true content e

    by : (t : Bool) → list_all is_separator string ≡ t → has_text s ≡ true
    by true a = sym (ap (λ t. if t then has_text s else true) a) ∙ o.has
    by false a = allowed (sym o.is_content ∙ others-content (facts_in s.record_ends) string a)

-- WHAT IS NOTED of a string where it is read
string-parts : (a b : List ℕ) (m n : Meaning) → ShortRef a m ≡ ShortRef b n → (a ≡ b) × (m ≡ n)
string-parts a b m n e = (cc, cc)

noted-by : (s : State) (string : List ℕ) (m : Meaning) (items content : Bool) → meaning_noted s string m ≡ Ordinary items content → ordinary s string ≡ Ordinary items content
noted-by s string (Ordinary a b) items content e = e
noted-by s string (ToText n) items content e = absurd (cc)
noted-by s string (ToData n) items content e = absurd (cc)
noted-by s string (ToExternalData n) items content e = absurd (cc)
noted-by s string (ToInstruction n text) items content e = absurd (cc)

noted-string : (s : State) (c : Context) (k : Kind) (string : List ℕ) (items content : Bool) → judged c (kind_noted s k) ≡ ShortRef string (Ordinary items content)
    → (kind_noted s k ≡ ShortRef string (Ordinary items content)) × (ordinary s string ≡ Ordinary items content)
unfolding kind_noted
noted-string s c (ShortRef bytes m) string items content e =
    let q = string-parts bytes string (meaning_noted s bytes m) (Ordinary items content) e in
    (e, noted-by s string m items content (ap (λ x. meaning_noted s x m) (sym q.0) ∙ q.1))
noted-string s c (Start n ss how p b) string items content e = absurd (cc)
noted-string s c (Re live) string items content e = absurd (cc)
noted-string s c (SubsetEnd reads) string items content e = absurd (cc)
noted-string s c k string items content e = absurd (cc)

ignored-token : (string : List ℕ) (items : Bool) → token (ShortRef string (Ordinary items false)) ≡ None
unfolding token
ignored-token string items = refl

ignored-leaves : (c : Context) (string : List ℕ) (items : Bool) → leaves c (ShortRef string (Ordinary items false)) ≡ false
unfolding leaves token
ignored-leaves c string items = refl

data-token : (string : List ℕ) (items : Bool) → token (ShortRef string (Ordinary items true)) ≡ Some Pcdata
unfolding token
data-token string items = refl

last-stands : (h : History) (os : List Piece) (v : Piece) → EachIs PieceStands h os v → PieceStands (state (after_run h os)) v.kind
last-stands h [] v e = e
last-stands h (o ∷ os) v e = last-stands (o ∷ h) os v e.1

still-ordinary : (s t : State) (string : List ℕ) (items : Bool) → ordinary s string ≡ Ordinary items true → has_text t ≡ true → (begins_with_end string ≡ true → takes_end (facts_in t.record_ends) ≡ true)
    → ordinary t string ≡ Ordinary items true
still-ordinary s t string items e text live =
    let o = ordinary-is s string items true e in
    let q = both items (some_content (facts_in s.record_ends) string) o.is_content in
    is-ordinary t string (items-there t string text) (still-content (facts_in s.record_ends) (facts_in t.record_ends) string q.1 live)
    ∙ ap (λ i. Ordinary i true) (sym q.0)

pub read-string : (I : Input) (h : History) (m : Move) (string : List ℕ) (items content : Bool) → Reads forms I h m → m.visible.kind ≡ ShortRef string (Ordinary items content) → StringEndStays h m
    → ordinary (state (after_run h m.omitted)) string ≡ Ordinary items content
read-string I h m string items content r is stays = by content is
  where
    old : State
    old = state (after_run h m.omitted)

    s : Spelt I h m
    s = spelt I h m r

    by : (content : Bool) → m.visible.kind ≡ ShortRef string (Ordinary items content) → ordinary old string ≡ Ordinary items content
    by true is =
        let n = noted-string (state h) (context (after_run h m.omitted)) s.p.kind string items true (sym s.visible ∙ is) in
        let stands = subst (PieceStands old) is (last-stands h m.omitted m.visible (read-stands I h m r)) in
        still-ordinary (state h) old string items n.1 (stands (data-token string items)).text (λ e. stays (ap is_live_end is ∙ e))
    by false is =
        let n = noted-string (state h) (context (after_run h m.omitted)) s.p.kind string items false (sym s.visible ∙ is) in
        let none = no-run h (ShortRef string (Ordinary items false)) m.omitted (ignored-token string items) (ignored-leaves (context h) string items) (subst (λ k. LongestRun h k m.omitted) n.0 s.longest) in
        ap (λ qs. ordinary (state (after_run h qs)) string) none ∙ n.1
