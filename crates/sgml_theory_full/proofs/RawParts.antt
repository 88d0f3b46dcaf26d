-- What is written in CDATA content is read so, one piece after another.
use Rattle.std.proofs.Common.{◌≡◌, inr, ℕ, Bool, true, false, not, ◌&&◌, ◌||◌, ◌==◌, List, [], ◌∷◌, ◌++◌, refl, sym, ◌∙◌, ap, subst, append_assoc, append-nil, if◌then◌else◌}
use Rattle.std.proofs.lemmas.Bool.{eqb-true}
use Rattle.sgml_theory_values.specs.records.Items.{Item, RecordEnd, RecordStart, Data as DataItem}
use Rattle.sgml_theory_values.specs.records.Facts.{Facts, takes_end, noted}
use Rattle.sgml_theory_values.specs.delim.declared.delim.Mode.TheVariants as mode
use Rattle.sgml_theory_values.specs.scan.Classes.{is_data}
use Rattle.sgml_theory_values.specs.dtd.Doctypes.{Doctype}
use Rattle.sgml_theory_values.specs.theory_reading.Names.{Name, Text}
use Rattle.sgml_theory_values.specs.theory_reading.Types.{Content, Model, Any, Cdata, Rcdata, Void, content_of, type_of}
use Rattle.sgml_theory_values.specs.theory_reading.Pieces.{Piece, Kind, Char, Re, Rs, End, Tag}
use Rattle.sgml_theory_values.specs.theory_reading.Facets.{Pcdata, Stays, effect, items_of, token, stage_after, border, map_set, declares, is_start, is_finish, turn}
use Rattle.sgml_theory_values.specs.theory_reading.Nest.{without_first}
use Rattle.sgml_theory_values.specs.theory_reading.Context.{Level, Context, context_after, levels_after, levels_with}
use Rattle.sgml_theory_values.specs.theory_reading.Omission.{level_content, fits_content, fits_in, is_excluded, is_excluded_in, allowed}
use Rattle.sgml_theory_values.specs.theory_reading.Unread.{Outside}
use Rattle.sgml_theory_values.specs.theory_reading.State.{State, after_piece, ends_after, first_noted}
use Rattle.sgml_theory_values.specs.theory_reading.Characters.{has_text, level_has_text, content_has_text, kind_noted, facts_in}
use Rattle.sgml_theory_values.specs.theory_reading.Reads.{pieces}
use Rattle.sgml_theory_values.specs.theory_reading.Events.{Event as Said, Byte, Ended, shown, told_by, events_at, events_of_run}
use Rattle.sgml_theory_values.specs.theory_spelling.Attributes.{unvalued}
use Rattle.sgml_theory_values.specs.theory_spelling.Places.{content_mode, element_mode}
use Rattle.sgml_theory_values.specs.theory_spelling.Spelled.{forms}
use Rattle.sgml_theory_values.specs.full.Spelled.{end_tag}
use Rattle.sgml_theory_full.specs.Named.{AllAre, IsGeneralName}
use Rattle.sgml_theory_full.specs.Spellings.{Spelling, spelling, text_of, line_end, raw}
use Rattle.sgml_theory_full.specs.Raw.{begins_end_tag, is_raw}
use Rattle.sgml_theory_full.specs.Written.{StandsThere, piece_in, IsReadThere, AreReadThere, moves_of, state_by}
use Rattle.sgml_theory_full.specs.Conforming.{IsPlain, mode_in, EndMayBe}
use Rattle.sgml_theory_full.proofs.Plain.{true-false, if-false}
use Rattle.sgml_theory_full.proofs.RawCharacters.{raw-characters, line-ends}
use Rattle.sgml_theory_full.proofs.Starts.{end-tags-are-spelled}
use Rattle.sgml_theory_full.proofs.Conforming.{point, Settled, settled-content, Keeping, stays-settled}

-- A RECORD END THAT WAITS
abbrev pub put : Bool → List Said
put w = if w then Byte 13 ∷ [] else []

-- PARTS of what is written, before this text: they are read so, and tell these events
pub record Part (outside : Outside) (spent : ℕ) (s : State) (xs : List Spelling) (rest : Text) (es : List Said) : Type 0 where
  pub are : AreReadThere outside spent s xs rest
  pub told : events_of_run forms s (pieces (moves_of s xs)) ≡ es

text-append : (xs ys : List Spelling) → text_of (xs ++ ys) ≡ text_of xs ++ text_of ys
text-append [] ys = refl
text-append (x ∷ xs) ys = ap (λ t. x.text ++ t) (text-append xs ys) ∙ sym (append_assoc x.text (text_of xs) (text_of ys))

then-are : (outside : Outside) (spent : ℕ) (s : State) (xs ys : List Spelling) (rest : Text) → AreReadThere outside spent s xs (text_of ys ++ rest) → AreReadThere outside spent (state_by s xs) ys rest
    → AreReadThere outside spent s (xs ++ ys) rest
then-are outside spent s [] ys rest h k = k
then-are outside spent s (x ∷ xs) ys rest h k = (
  subst (IsReadThere outside spent s x) (sym (ap (λ t. t ++ rest) (text-append xs ys) ∙ append_assoc (text_of xs) (text_of ys) rest)) h.0,
  then-are outside spent (after_piece (piece_in s x) s) xs ys rest h.1 k,
)

then-told : (s : State) (xs ys : List Spelling)
    → events_of_run forms s (pieces (moves_of s (xs ++ ys))) ≡ events_of_run forms s (pieces (moves_of s xs)) ++ events_of_run forms (state_by s xs) (pieces (moves_of (state_by s xs) ys))
then-told s [] ys = refl
then-told s (x ∷ xs) ys =
    let p = piece_in s x in
    let t = after_piece p s in
    ap (λ es. events_at forms s p ++ es) (then-told t xs ys)
    ∙ sym (append_assoc (events_at forms s p) (events_of_run forms t (pieces (moves_of t xs))) (events_of_run forms (state_by t xs) (pieces (moves_of (state_by t xs) ys))))

pub then-state : (s : State) (xs ys : List Spelling) → state_by s (xs ++ ys) ≡ state_by (state_by s xs) ys
then-state s [] ys = refl
then-state s (x ∷ xs) ys = then-state (after_piece (piece_in s x) s) xs ys

pub then-part : (outside : Outside) (spent : ℕ) (s : State) (xs ys : List Spelling) (rest : Text) (es fs : List Said) → Part outside spent s xs (text_of ys ++ rest) es → Part outside spent (state_by s xs) ys rest fs
    → Part outside spent s (xs ++ ys) rest (es ++ fs)
then-part outside spent s xs ys rest es fs p q = record {
  are = then-are outside spent s xs ys rest p.are q.are;
  told = then-told s xs ys ∙ ap (λ l. l ++ events_of_run forms (state_by s xs) (pieces (moves_of (state_by s xs) ys))) p.told ∙ ap (λ l. es ++ l) q.told;
}

-- what is read of events up to their end, where it is told
pub record Goes (outside : Outside) (spent : ℕ) (s : State) (xs : List Spelling) (rest : Text) (es : List Said) : Type 0 where
  pub are : AreReadThere outside spent s xs rest
  pub told : events_of_run forms s (pieces (moves_of s xs)) ≡ es
  pub plain : IsPlain (state_by s xs)

pub then-goes : (outside : Outside) (spent : ℕ) (s : State) (xs ys : List Spelling) (rest : Text) (es fs : List Said) → Part outside spent s xs (text_of ys ++ rest) es → Goes outside spent (state_by s xs) ys rest fs
    → Goes outside spent s (xs ++ ys) rest (es ++ fs)
then-goes outside spent s xs ys rest es fs p q =
    let both = then-part outside spent s xs ys rest es fs p (record { are = q.are; told = q.told }) in
    record { are = both.are; told = both.told; plain = subst IsPlain (sym (then-state s xs ys)) q.plain }

one-part : (outside : Outside) (spent : ℕ) (s : State) (x : Spelling) (rest : Text) (es : List Said) → IsReadThere outside spent s x rest → events_at forms s (piece_in s x) ≡ es → Part outside spent s (x ∷ []) rest es
one-part outside spent s x rest es r t = record { are = (r, tt); told = append-nil (events_at forms s (piece_in s x)) ∙ t }

-- THE STATE in CDATA content: whether something of it was written, and whether a record end waits
pub record InRaw (d : Doctype) (s : State) (begun w : Bool) : Type 0 where
  pub types : s.context.doctype ≡ d
  pub settled : Settled s
  pub mode : mode_in s ≡ mode.Cdt
  pub facts : Facts
  pub outer : List Facts
  pub ends : s.record_ends ≡ facts ∷ outer
  pub quiet : AllAre (λ (f : Facts). f.waiting ≡ false) outer
  pub waits : facts.waiting ≡ w
  pub live : takes_end facts ≡ begun

-- DATA MAY STAND there
pub not-con : {A : Type 0} → mode.Con ≡ mode.Cdt → A
not-con e = absurd (never e)
  where
    never : mode.Con ≡ mode.Cdt → ⊥
    never e = cc

not-rcd : {A : Type 0} → mode.Rcd ≡ mode.Cdt → A
not-rcd e = absurd (never e)
  where
    never : mode.Rcd ≡ mode.Cdt → ⊥
    never e = cc

pub cdata-content : (c : Content) → content_mode c ≡ mode.Cdt → c ≡ Cdata
cdata-content (Model term) e = not-con e
cdata-content Any e = not-con e
cdata-content Cdata e = refl
cdata-content Rcdata e = not-rcd e
cdata-content Void e = not-con e

cdata-text : (d : Doctype) (ls : List Level) → element_mode d ls ≡ mode.Cdt → level_has_text d ls ≡ true
cdata-text d [] e = not-con e
cdata-text d (l ∷ ls) e = ap content_has_text (cdata-content (content_of (type_of d l.element)) e)

pub raw-text : (s : State) → mode_in s ≡ mode.Cdt → has_text s ≡ true
unfolding has_text
raw-text s e = cdata-text s.context.doctype s.context.levels e

cdata-fits : (c : Context) (ls : List Level) → element_mode c.doctype ls ≡ mode.Cdt → fits_in c ls Pcdata ≡ true
cdata-fits c [] e = not-con e
cdata-fits c (l ∷ ls) e = ap (λ x. fits_content c x Pcdata) (cdata-content (level_content c l) e)

not-excluded : (d : Doctype) (ls : List Level) → is_excluded_in d ls Pcdata ≡ false
not-excluded d [] = refl
not-excluded d (l ∷ ls) = not-excluded d ls

raw-allowed : (s : State) → mode_in s ≡ mode.Cdt → allowed s.context Pcdata ≡ true
unfolding allowed
raw-allowed s e =
    ap (λ t. t && not (is_excluded s.context Pcdata)) (cdata-fits s.context s.context.levels e)
    ∙ ap not (not-excluded s.context.doctype s.context.levels)

char-stands : (s : State) (b : ℕ) → mode_in s ≡ mode.Cdt → StandsThere s (kind_noted s (Char b))
unfolding kind_noted token unvalued turn is_finish is_start
char-stands s b m = record { declared = refl; stands = (raw-allowed s m, λ e. true-false (sym e)); valued = refl; within = refl; goes_on = refl }

re-stands-by : (s : State) (live : Bool) → mode_in s ≡ mode.Cdt → StandsThere s (Re live)
unfolding token unvalued turn is_finish is_start
re-stands-by s true m = record { declared = refl; stands = (raw-allowed s m, λ e. true-false (sym e)); valued = refl; within = refl; goes_on = refl }
re-stands-by s false m = record { declared = refl; stands = tt; valued = refl; within = refl; goes_on = refl }

re-stands : (s : State) → mode_in s ≡ mode.Cdt → StandsThere s (kind_noted s (Re true))
unfolding kind_noted
re-stands s m = re-stands-by s (takes_end (facts_in s.record_ends)) m

rs-stands : (s : State) → StandsThere s (kind_noted s Rs)
unfolding kind_noted token unvalued turn is_finish
rs-stands s = record { declared = refl; stands = tt; valued = refl; within = refl; goes_on = refl }

-- WHAT STAYS after a piece of it
with-mode : (d : Doctype) (k : Kind) (ls : List Level) → element_mode d (levels_with k ls) ≡ element_mode d ls
with-mode d k [] = refl
with-mode d k (l ∷ ls) = refl

mode-stays : (s : State) (p : Piece) → Keeping p.kind → effect p.kind ≡ Stays → mode_in (after_piece p s) ≡ mode_in s
unfolding after_piece context_after
mode-stays s p k e =
    let d = s.context.doctype in
    let ls = s.context.levels in
    ap (λ f. element_mode (declares p.kind d) (levels_after d f p.kind ls)) e
    ∙ ap (λ x. element_mode x (levels_with p.kind ls)) (k.types d)
    ∙ with-mode d p.kind ls

ends-stay : (s : State) (p : Piece) (item : Item) (f : Facts) (fs : List Facts) → effect p.kind ≡ Stays → items_of p.kind ≡ item ∷ [] → s.record_ends ≡ f ∷ fs
    → (after_piece p s).record_ends ≡ noted f item ∷ fs
unfolding after_piece
ends-stay s p item f fs e i r =
    ap (λ x. ends_after x p.kind s.record_ends) e ∙ ap (λ is. first_noted is s.record_ends) i ∙ ap (first_noted (item ∷ [])) r

types-stay : (s : State) (p : Piece) → Keeping p.kind → (after_piece p s).context.doctype ≡ s.context.doctype
unfolding after_piece context_after
types-stay s p k = k.types s.context.doctype

-- each piece of it
record Inner (k : Kind) (item : Item) : Type 0 where
  keeping : Keeping k
  stays : effect k ≡ Stays
  item_is : items_of k ≡ item ∷ []

re-inner : (live : Bool) → Inner (Re live) RecordEnd
unfolding stage_after border map_set items_of effect declares
re-inner live = record { keeping = record { stage = refl; no_border = refl; no_map = refl; no_slash = tt; types = λ d. refl }; stays = refl; item_is = refl }

rs-inner : Inner Rs RecordStart
unfolding stage_after border map_set items_of effect declares
rs-inner = record { keeping = record { stage = refl; no_border = refl; no_map = refl; no_slash = tt; types = λ d. refl }; stays = refl; item_is = refl }

char-inner : (b : ℕ) → Inner (Char b) DataItem
unfolding stage_after border map_set items_of effect declares
char-inner b = record { keeping = record { stage = refl; no_border = refl; no_map = refl; no_slash = tt; types = λ d. refl }; stays = refl; item_is = refl }

-- what is read of it, and the state then
pub record Datum (d : Doctype) (outside : Outside) (spent : ℕ) (s : State) (xs : List Spelling) (rest : Text) (w : Bool) (b : ℕ) : Type 0 where
  pub told_now : List Said
  pub waits_now : Bool
  pub part : Part outside spent s xs rest told_now
  pub all_told : (es : List Said) → told_now ++ (put waits_now ++ es) ≡ put w ++ (Byte b ∷ es)
  pub after : InRaw d (state_by s xs) true waits_now

-- A RECORD END
abbrev re_spelling : Spelling
re_spelling = spelling (Re true) (13 ∷ [])

abbrev rs_spelling : Spelling
rs_spelling = spelling Rs (10 ∷ [])

-- A CHARACTER
abbrev char_spelling : ℕ → Spelling
char_spelling b = spelling (Char b) (b ∷ [])

-- THE END of the element
abbrev end_spelling : Name → Spelling
end_spelling n = spelling (End n Tag) (end_tag n)

re-kind : (s : State) → (piece_in s re_spelling).kind ≡ Re (takes_end (facts_in s.record_ends))
unfolding kind_noted
re-kind s = refl

rs-kind : (s : State) → (piece_in s rs_spelling).kind ≡ Rs
unfolding kind_noted
rs-kind s = refl

char-kind : (s : State) (b : ℕ) → (piece_in s (spelling (Char b) (b ∷ []))).kind ≡ Char b
unfolding kind_noted
char-kind s b = refl

rs-told : (s : State) → events_at forms s (piece_in s rs_spelling) ≡ []
unfolding shown items_of
rs-told s = ap (λ k. told_by (facts_in s.record_ends) (shown forms s k)) (rs-kind s)

pub end-kind : (s : State) (n : Name) → (piece_in s (end_spelling n)).kind ≡ End n Tag
unfolding kind_noted
end-kind s n = refl

end-noted : (s : State) (n : Name) → StandsThere s (End n Tag) → StandsThere s (kind_noted s (End n Tag))
unfolding kind_noted
end-noted s n h = h

end-told : (s : State) (n : Name) → events_at forms s (piece_in s (end_spelling n)) ≡ Ended n ∷ []
unfolding shown
end-told s n = ap (λ k. told_by (facts_in s.record_ends) (shown forms s k)) (end-kind s n)

pub end-keeps : (n : Name) → Keeping (End n Tag)
unfolding stage_after border map_set effect declares
end-keeps n = record { stage = refl; no_border = refl; no_map = refl; no_slash = tt; types = λ d. refl }

pub ends-close : (s : State) (p : Piece) (n : Name) → p.kind ≡ End n Tag → (after_piece p s).record_ends ≡ without_first s.record_ends
unfolding after_piece effect
ends-close s p n e = ap (λ k. ends_after (effect k) k s.record_ends) e

-- what stands for a datum whose raw byte this is
abbrev made : ℕ → ℕ → List Spelling
made b n = if n == 10 then line_end else char_spelling b ∷ []

-- THE DATUM of an event that may stand as it is
data-byte : (b : ℕ) → is_data b ≡ true → raw b ≡ char_spelling b ∷ []
data-byte b h = by (b == 13) refl
  where
    not-line : (n : ℕ) → n ≡ 13 → is_data n ≡ true → false ≡ true
    not-line n e h = ap is_data (sym e) ∙ h

    not-start : (n : ℕ) → n ≡ 10 → is_data n ≡ true → false ≡ true
    not-start n e h = ap is_data (sym e) ∙ h

    plain : (t : Bool) → (b == 10) ≡ t → made b b ≡ char_spelling b ∷ []
    plain true e = true-false (sym (not-start b (eqb-true b 10 e) h))
    plain false e = if-false (b == 10) _ _ e

    by : (t : Bool) → (b == 13) ≡ t → made b (if b == 13 then 10 else b) ≡ char_spelling b ∷ []
    by true e = true-false (sym (not-line b (eqb-true b 13 e) h))
    by false e = ap (made b) (if-false (b == 13) 10 b e) ∙ plain (b == 10) refl

module _ (d : Doctype) where
  raw-after : (s : State) (begun w : Bool) (p : Piece) (item : Item) (b v : Bool) → Keeping p.kind → effect p.kind ≡ Stays → items_of p.kind ≡ item ∷ [] → (r : InRaw d s begun w)
      → takes_end (noted r.facts item) ≡ b → (noted r.facts item).waiting ≡ v → InRaw d (after_piece p s) b v
  raw-after s begun w p item b v k e i r l q = record {
    types = types-stay s p k ∙ r.types;
    settled = stays-settled p s k r.settled;
    mode = mode-stays s p k e ∙ r.mode;
    facts = noted r.facts item;
    outer = r.outer;
    ends = ends-stay s p item r.facts r.outer e i r.ends;
    quiet = r.quiet;
    waits = q;
    live = l;
  }

  inner-after : (s : State) (begun w : Bool) (p : Piece) (k : Kind) (item : Item) (b v : Bool) → p.kind ≡ k → Inner k item → (r : InRaw d s begun w)
      → takes_end (noted r.facts item) ≡ b → (noted r.facts item).waiting ≡ v → InRaw d (after_piece p s) b v
  inner-after s begun w p k item b v e n r l q =
      let m = subst (λ k. Inner k item) (sym e) n in
      raw-after s begun w p item b v m.keeping m.stays m.item_is r l q

  first-of : (s : State) (begun w : Bool) (r : InRaw d s begun w) → facts_in s.record_ends ≡ r.facts
  first-of s begun w r = ap facts_in r.ends

  re-told : (s : State) (begun w : Bool) → InRaw d s begun w → events_at forms s (piece_in s re_spelling) ≡ put (begun && w)
  unfolding shown items_of
  re-told s begun w r =
      let f = facts_in s.record_ends in
      let is = first-of s begun w r in
      ap (λ k. told_by f (shown forms s k)) (re-kind s)
      ∙ ap (λ t. (put (t && f.waiting) ++ []) ++ []) (ap takes_end is ∙ r.live)
      ∙ ap (λ t. (put (begun && t) ++ []) ++ []) (ap (λ (f : Facts). f.waiting) is ∙ r.waits)
      ∙ append-nil (put (begun && w) ++ [])
      ∙ append-nil (put (begun && w))

  re-read : (outside : Outside) (spent : ℕ) (s : State) (begun w : Bool) (rest : Text) → InRaw d s begun w → IsReadThere outside spent s re_spelling rest
  re-read outside spent s begun w rest r = record {
    spelled_is = (line-ends (point outside s spent) (settled-content outside s spent mode.Cdt r.settled r.mode) (raw-text s r.mode)).0 rest;
    stands = re-stands s r.mode;
  }

  rs-read : (outside : Outside) (spent : ℕ) (s : State) (begun w : Bool) (rest : Text) → InRaw d s begun w → IsReadThere outside spent s rs_spelling rest
  rs-read outside spent s begun w rest r = record {
    spelled_is = (line-ends (point outside s spent) (settled-content outside s spent mode.Cdt r.settled r.mode) (raw-text s r.mode)).1 rest;
    stands = rs-stands s;
  }

  re-after : (s : State) (begun w : Bool) → InRaw d s begun w → InRaw d (after_piece (piece_in s re_spelling) s) true (begun || w)
  unfolding noted
  re-after s begun w r =
      inner-after s begun w (piece_in s re_spelling) (Re (takes_end (facts_in s.record_ends))) RecordEnd true (begun || w) (re-kind s) (re-inner (takes_end (facts_in s.record_ends))) r refl
      (ap (λ t. t || r.facts.waiting) r.live ∙ ap (λ t. begun || t) r.waits)

  rs-after : (s : State) (begun w : Bool) → InRaw d s begun w → InRaw d (after_piece (piece_in s rs_spelling) s) true w
  unfolding noted
  rs-after s begun w r = inner-after s begun w (piece_in s rs_spelling) Rs RecordStart true w (rs-kind s) rs-inner r refl r.waits

  -- A LINE ENDS: the record end that waits is put out, and this one waits where something stands before it
  pub line-part : (outside : Outside) (spent : ℕ) (s : State) (begun w : Bool) (rest : Text) → InRaw d s begun w → Part outside spent s line_end rest (put (begun && w))
  line-part outside spent s begun w rest r =
      let p = piece_in s re_spelling in
      let t = after_piece p s in record {
        are = (re-read outside spent s begun w (10 ∷ rest) r, (rs-read outside spent t true (begun || w) rest (re-after s begun w r), tt));
        told = ap (λ es. events_at forms s p ++ (es ++ [])) (rs-told t) ∙ append-nil (events_at forms s p) ∙ re-told s begun w r;
      }

  pub line-after : (s : State) (begun w : Bool) → InRaw d s begun w → InRaw d (state_by s line_end) true (begun || w)
  line-after s begun w r = rs-after (after_piece (piece_in s re_spelling) s) true (begun || w) (re-after s begun w r)

  char-told : (s : State) (begun w : Bool) (b : ℕ) → InRaw d s begun w → events_at forms s (piece_in s (char_spelling b)) ≡ put w ++ Byte b ∷ []
  unfolding shown items_of
  char-told s begun w b r =
      let f = facts_in s.record_ends in
      ap (λ k. told_by f (shown forms s k)) (char-kind s b)
      ∙ append-nil (put f.waiting ++ Byte b ∷ [])
      ∙ ap (λ t. put t ++ Byte b ∷ []) (ap (λ (f : Facts). f.waiting) (first-of s begun w r) ∙ r.waits)

  pub char-part : (outside : Outside) (spent : ℕ) (s : State) (begun w : Bool) (b : ℕ) (rest : Text) → InRaw d s begun w → is_data b ≡ true → begins_end_tag d.syntax (b ∷ rest) ≡ false
      → Part outside spent s (char_spelling b ∷ []) rest (put w ++ Byte b ∷ [])
  char-part outside spent s begun w b rest r h none =
      one-part outside spent s (char_spelling b) rest (put w ++ Byte b ∷ [])
      (record {
        spelled_is = raw-characters (point outside s spent) b rest (settled-content outside s spent mode.Cdt r.settled r.mode) (raw-text s r.mode) h (ap (λ x. begins_end_tag x.syntax (b ∷ rest)) r.types ∙ none);
        stands = char-stands s b r.mode;
      })
      (char-told s begun w b r)

  pub char-after : (s : State) (begun w : Bool) (b : ℕ) → InRaw d s begun w → InRaw d (state_by s (char_spelling b ∷ [])) true false
  unfolding noted
  char-after s begun w b r = inner-after s begun w (piece_in s (char_spelling b)) (Char b) DataItem true false (char-kind s b) (char-inner b) r refl refl

  datum-by : (outside : Outside) (spent : ℕ) (s : State) (w : Bool) (b : ℕ) (rest : Text) (data_is line : Bool) → is_data b ≡ data_is → (b == 13) ≡ line → (data_is || line) ≡ true → InRaw d s true w
      → begins_end_tag d.syntax (b ∷ rest) ≡ false → Datum d outside spent s (raw b) rest w b
  datum-by outside spent s w b rest true line e f h r none =
      subst (λ xs. Datum d outside spent s xs rest w b) (sym (data-byte b e)) (record {
        told_now = put w ++ Byte b ∷ [];
        waits_now = false;
        part = char-part outside spent s true w b rest r e none;
        all_told = λ es. append_assoc (put w) (Byte b ∷ []) es;
        after = char-after s true w b r;
      })
  datum-by outside spent s w b rest false true e f h r none =
      subst (λ n. Datum d outside spent s (raw n) rest w n) (sym (eqb-true b 13 f)) (record {
        told_now = put w;
        waits_now = true;
        part = line-part outside spent s true w rest r;
        all_told = λ es. refl;
        after = line-after s true w r;
      })
  datum-by outside spent s w b rest false false e f h r none = true-false (sym h)

  pub raw-datum : (outside : Outside) (spent : ℕ) (s : State) (w : Bool) (b : ℕ) (rest : Text) → is_raw b ≡ true → InRaw d s true w → begins_end_tag d.syntax (b ∷ rest) ≡ false
      → Datum d outside spent s (raw b) rest w b
  raw-datum outside spent s w b rest h = datum-by outside spent s w b rest (is_data b) (b == 13) refl refl h

  pub end-part : (outside : Outside) (spent : ℕ) (s : State) (begun w : Bool) (n : Name) (rest : Text) → InRaw d s begun w → IsGeneralName d.syntax n → EndMayBe s n
      → Part outside spent s (end_spelling n ∷ []) rest (Ended n ∷ [])
  end-part outside spent s begun w n rest r g k =
      one-part outside spent s (end_spelling n) rest (Ended n ∷ [])
      (record {
        spelled_is = end-tags-are-spelled (point outside s spent) mode.Cdt n (settled-content outside s spent mode.Cdt r.settled r.mode) (inr refl) (subst (λ x. IsGeneralName x.syntax n) (sym r.types) g) rest;
        stands = end-noted s n k.stands;
      })
      (end-told s n)

  pub end-types : (s : State) (begun w : Bool) (n : Name) → InRaw d s begun w → (state_by s (end_spelling n ∷ [])).context.doctype ≡ d
  end-types s begun w n r = types-stay s (piece_in s (end_spelling n)) (subst Keeping (sym (end-kind s n)) (end-keeps n)) ∙ r.types

  pub end-after : (s : State) (begun w : Bool) (n : Name) → InRaw d s begun w → IsPlain (state_by s (end_spelling n ∷ []))
  end-after s begun w n r =
      let p = piece_in s (end_spelling n) in
      let h = stays-settled p s (subst Keeping (sym (end-kind s n)) (end-keeps n)) r.settled in record {
        over = h.over;
        no_section = h.no_section;
        no_net = h.no_net;
        no_setting = h.no_setting;
        none_waits = subst (AllAre (λ (f : Facts). f.waiting ≡ false)) (sym (ends-close s p n (end-kind s n) ∙ ap (λ (fs : List Facts). without_first fs) r.ends)) r.quiet;
      }
