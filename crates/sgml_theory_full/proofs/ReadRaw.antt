-- The data of what was read in CDATA content stands as it is, where it is written.
use Rattle.std.proofs.Common.{◌≡◌, ◌⊎◌, inl, inr, ℕ, Bool, true, false, ◌==◌, ◌&&◌, ◌||◌, List, [], ◌∷◌, ◌++◌, map, drop, Some, None, refl, sym, ◌∙◌, ap, subst, append-nil, if◌then◌else◌, arith}
use Rattle.std.proofs.lemmas.Bool.Decides.{nat_tests}
use Rattle.std.proofs.lemmas.Bool.{eqb-true}
use Rattle.sgml_theory_values.specs.text.NameCharacters.{is_marked, is_name_start}
use Rattle.sgml_theory_values.specs.text.declared.name_set.NameSet.{NameSet}
use Rattle.sgml_theory_values.specs.records.Items.{Item, RecordEnd, RecordStart, Data as DataItem, Subelement, Markup}
use Rattle.sgml_theory_values.specs.records.Facts.{Facts, takes_end, noted}
use Rattle.sgml_theory_values.specs.entity.declared.kinds.Body.TheVariants as body
use Rattle.sgml_theory_values.specs.syntax.declared.syntax.Syntax.{Syntax}
use Rattle.sgml_theory_values.specs.delim.declared.delim.Need.TheVariants.{NameStartOrTagc}
use Rattle.sgml_theory_values.specs.delim.declared.delim.Mode.TheVariants as mode
use Rattle.sgml_theory_values.specs.delim.Tables.{begins, follows, stands}
use Rattle.sgml_theory_values.specs.scan.Classes.{is_data}
use Rattle.sgml_theory_values.specs.dtd.Doctypes.{Doctype}
use Rattle.sgml_theory_values.specs.theory_reading.Names.{Name, Text}
use Rattle.sgml_theory_values.specs.theory_reading.Types.{body_of}
use Rattle.sgml_theory_values.specs.theory_reading.Pieces.{Piece, Kind, Meaning, Ordinary, ToText, ToData, ToExternalData, ToInstruction, Start, End, Char, Data, DataRef, Re, Rs, ShortRef, Pi, How}
use Rattle.sgml_theory_values.specs.theory_reading.Facets.{Effect, Opens, Closes, Stays, effect, items_of, sub_or_mark, byte_item, start_item}
use Rattle.sgml_theory_values.specs.theory_reading.Nest.{without_first}
use Rattle.sgml_theory_values.specs.theory_reading.Context.{Level, Context, context_after, levels_after, levels_with}
use Rattle.sgml_theory_values.specs.theory_reading.State.{State, after_piece, ends_after, first_noted}
use Rattle.sgml_theory_values.specs.theory_reading.Characters.{facts_in}
use Rattle.sgml_theory_values.specs.theory_reading.Reads.{Attribute}
use Rattle.sgml_theory_values.specs.theory_reading.Events.{Event as Said, Started, Ended, Byte, SpecificData, External, Instruction, Shown, silent, shown_byte, shown_bytes, shown_data, shown_external, shown_instruction, shown_meaning, told_item_by, noted_option, body_events, ended_at_once, shown, told_by, events_at, events_of_run}
use Rattle.sgml_theory_values.specs.theory_reading.Outcome.{state_after}
use Rattle.sgml_theory_values.specs.theory_spelling.Places.{element_mode}
use Rattle.sgml_theory_values.specs.theory_spelling.Spelled.{forms}
use Rattle.sgml_theory_values.specs.full.Spelled.{raw_byte}
use Rattle.sgml_theory_values.specs.full.declared.inside.Inside.{Inside}
use Rattle.sgml_theory_values.specs.full.declared.inside.Inside.TheVariants as inside
use Rattle.sgml_theory_values.specs.full.Full.{after_said}
use Rattle.sgml_theory_full.specs.Named.{AllAre, IsWritten}
use Rattle.sgml_theory_full.specs.Spellings.{Spelling, spelling, text_of, line_end, raw, after_all, spellings}
use Rattle.sgml_theory_full.specs.Raw.{begins_end_tag, is_raw, RawStands, AllRawStand}
use Rattle.sgml_theory_full.specs.ReadRaw.{with_character, characters, is_record_end, EachInCdata, IsReadRaw}
use Rattle.sgml_theory_full.specs.Points.{HasReferences}
use Rattle.sgml_theory_full.specs.Conforming.{mode_in, Within, InContent, AtEnd, InCdata, inside_for}
use Rattle.sgml_theory_full.specs.Following.{waits, Holds, AllHold, FollowsAt}
use Rattle.sgml_theory_full.proofs.Plain.{true-false, if-false}
use Rattle.sgml_theory_full.proofs.RawParts.{put}
use Rattle.sgml_theory_full.proofs.Restarted.{ValuesStay}
use Rattle.sgml_theory_full.proofs.Following.{Staying, char-stays, re-stays, context-stays, context-of, record-ends-stay, live-waits, dead-waits}
use Rattle.sgml_theory_full.proofs.Followed.{rs-stays, told-char, told-live, told-dead, told-start, no-data-in, types-stay, piece-step, front-are, rest-are}

-- THE TEXT BEHIND A CHARACTER goes on as what was read, up to a record end
abbrev pub Like : Text → Text → Type 0
Like [] [] = ⊥
Like [] (b ∷ bs) = b ≡ 13
Like (x ∷ xs) [] = ⊥
Like (x ∷ xs) (b ∷ bs) = (b ≡ 13) ⊎ ((b ≡ x) × Like xs bs)

-- no name begins with a record end
none-marked : (marks : List Bool) → is_marked marks 13 ≡ false
none-marked [] = refl
none-marked (a ∷ []) = refl
none-marked (a ∷ b ∷ []) = refl
none-marked (a ∷ b ∷ c ∷ []) = refl
none-marked (a ∷ b ∷ c ∷ d ∷ []) = refl
none-marked (a ∷ b ∷ c ∷ d ∷ e ∷ more) = refl

no-name : (names : NameSet) → is_name_start names 13 ≡ false
no-name names = none-marked names.start

and-none : (a : Bool) → (a && false) ≡ false
and-none true = refl
and-none false = refl

abbrev after_tag : Syntax → Text → Bool
after_tag s t = follows s NameStartOrTagc t

no-tag-after : (s : Syntax) (t : Text) → after_tag s (13 ∷ t) ≡ false
no-tag-after s t = λ i. (no-name s.names i || and-none s.shorttag i) || false

-- the test of an end-tag, by what follows the first character
abbrev tag_by : Syntax → ℕ → Text → Bool
tag_by s b t = ((60 == b) && begins (47 ∷ []) t) && after_tag s (drop 1 t)

tag-by : (s : Syntax) (b : ℕ) (t : Text) → begins_end_tag s (b ∷ t) ≡ tag_by s b t
unfolding stands
tag-by s b t = refl

not-second : (a b : Bool) → ((a && false) && b) ≡ false
not-second true b = refl
not-second false b = refl

second-ends : (s : Syntax) (b c : ℕ) (t : Text) → c ≡ 13 → tag_by s b (c ∷ t) ≡ false
second-ends s b c t e = ap (λ x. tag_by s b (x ∷ t)) e ∙ not-second (60 == b) (after_tag s t)

third-ends : (s : Syntax) (b c x : ℕ) (t : Text) → x ≡ 13 → tag_by s b (c ∷ x ∷ t) ≡ false
third-ends s b c x t e =
    ap (λ x. tag_by s b (c ∷ x ∷ t)) e
    ∙ ap (λ u. ((60 == b) && ((47 == c) && true)) && u) (no-tag-after s t)
    ∙ and-none ((60 == b) && ((47 == c) && true))

third-like : (s : Syntax) (b c : ℕ) (xs t rest : Text) → Like xs t → tag_by s b (c ∷ xs) ≡ false → tag_by s b (c ∷ (t ++ rest)) ≡ false
third-like s b c [] [] rest l h = absurd l
third-like s b c [] (y ∷ t) rest l h = third-ends s b c y (t ++ rest) l
third-like s b c (x ∷ xs) [] rest l h = absurd l
third-like s b c (x ∷ xs) (y ∷ t) rest (inl e) h = third-ends s b c y (t ++ rest) e
third-like s b c (x ∷ xs) (y ∷ t) rest (inr e) h = ap (λ z. tag_by s b (c ∷ z ∷ (t ++ rest))) e.0 ∙ h

second-like : (s : Syntax) (b : ℕ) (xs t rest : Text) → Like xs t → tag_by s b xs ≡ false → tag_by s b (t ++ rest) ≡ false
second-like s b [] [] rest l h = absurd l
second-like s b [] (y ∷ t) rest l h = second-ends s b y (t ++ rest) l
second-like s b (x ∷ xs) [] rest l h = absurd l
second-like s b (x ∷ xs) (y ∷ t) rest (inl e) h = second-ends s b y (t ++ rest) e
second-like s b (x ∷ xs) (y ∷ t) rest (inr e) h =
    ap (λ z. tag_by s b (z ∷ (t ++ rest))) e.0 ∙ third-like s b x xs t rest e.1 h

pub still-no-tag : (s : Syntax) (b : ℕ) (xs t rest : Text) → Like xs t → begins_end_tag s (b ∷ xs) ≡ false → begins_end_tag s (b ∷ (t ++ rest)) ≡ false
still-no-tag s b xs t rest l h = tag-by s b (t ++ rest) ∙ second-like s b xs t rest l (sym (tag-by s b xs) ∙ h)

-- what begins none with a text begins none with a front of it
abbrev pub Fronts : Text → Text → Type 0
Fronts [] ys = Unit {0}
Fronts (x ∷ xs) [] = ⊥
Fronts (x ∷ xs) (y ∷ ys) = (y ≡ x) × Fronts xs ys

third-front : (s : Syntax) (b c : ℕ) (xs ys : Text) → Fronts xs ys → tag_by s b (c ∷ ys) ≡ false → tag_by s b (c ∷ xs) ≡ false
third-front s b c [] ys f h = and-none ((60 == b) && ((47 == c) && true))
third-front s b c (x ∷ xs) [] f h = absurd f
third-front s b c (x ∷ xs) (y ∷ ys) f h = sym (ap (λ z. tag_by s b (c ∷ z ∷ xs)) f.0) ∙ h

second-front : (s : Syntax) (b : ℕ) (xs ys : Text) → Fronts xs ys → tag_by s b ys ≡ false → tag_by s b xs ≡ false
second-front s b [] ys f h = not-second (60 == b) (after_tag s [])
second-front s b (x ∷ xs) [] f h = absurd f
second-front s b (x ∷ xs) (y ∷ ys) f h = third-front s b x xs ys f.1 (sym (ap (λ z. tag_by s b (z ∷ ys)) f.0) ∙ h)

pub front-no-tag : (s : Syntax) (b : ℕ) (xs ys : Text) → Fronts xs ys → begins_end_tag s (b ∷ ys) ≡ false → begins_end_tag s (b ∷ xs) ≡ false
front-no-tag s b xs ys f h = tag-by s b xs ∙ second-front s b xs ys f (sym (tag-by s b ys) ∙ h)

-- a record end begins none
end-no-tag : (s : Syntax) (t : Text) → begins_end_tag s (13 ∷ t) ≡ false
unfolding stands
end-no-tag s t = refl

like-any : (xs t : Text) → Like [] t → Like xs t
like-any [] t h = h
like-any (x ∷ xs) [] h = absurd h
like-any (x ∷ xs) (y ∷ t) h = inl h

-- A CHARACTER as it is written
no-start : (b : ℕ) → is_data b ≡ true → (b == 10) ≡ false
no-start b h = grind (arith, nat_tests)

or-else : (a b : Bool) → (a || b) ≡ true → b ≡ false → a ≡ true
or-else true b h e = refl
or-else false b h e = true-false (sym h ∙ e)

raw-like : (x : ℕ) (xs : List Spelling) (ys : Text) → is_raw x ≡ true → Like ys (text_of xs) → Like (x ∷ ys) (text_of (raw x ++ xs))
raw-like x xs ys r l = by (x == 13) refl
  where
    by : (t : Bool) → (x == 13) ≡ t → Like (x ∷ ys) (text_of (raw x ++ xs))
    by true e = subst (λ y. Like (y ∷ ys) (text_of (raw y ++ xs))) (sym (eqb-true x 13 e)) (inl refl)
    by false e =
        let same : raw_byte x ≡ x = if-false (x == 13) 10 x e in
        let is : raw x ≡ spelling (Char x) (x ∷ []) ∷ [] =
        ap (λ y. if y == 10 then line_end else spelling (Char x) (x ∷ []) ∷ []) same
        ∙ if-false (x == 10) line_end (spelling (Char x) (x ∷ []) ∷ []) (no-start x (or-else (is_data x) (x == 13) r e)) in
        subst (λ zs. Like (x ∷ ys) (text_of (zs ++ xs))) (sym is) (inr (refl, l))

-- WHAT STAYS after a piece in the element
with-mode : (d : Doctype) (k : Kind) (ls : List Level) → element_mode d (levels_with k ls) ≡ element_mode d ls
with-mode d k [] = refl
with-mode d k (l ∷ ls) = refl

mode-kept : (a : State) (p : Piece) → Staying p.kind → mode_in (after_piece p a) ≡ mode_in a
mode-kept a p s =
    ap (λ (c : Context). element_mode c.doctype c.levels) (context-of p a ∙ context-stays p a.context s)
    ∙ with-mode a.context.doctype p.kind a.context.levels

kept : (a : State) (p : Piece) (k : Kind) → p.kind ≡ k → Staying k → mode_in a ≡ mode.Cdt → mode_in (after_piece p a) ≡ mode.Cdt
kept a p k e s m = mode-kept a p (subst Staying (sym e) s) ∙ m

facts-after : (a : State) (p : Piece) (k : Kind) (is : List Item) → p.kind ≡ k → Staying k → items_of k ≡ is → facts_in (after_piece p a).record_ends ≡ facts_in (first_noted is a.record_ends)
facts-after a p k is e s i = ap facts_in (record-ends-stay p a is (subst Staying (sym e) s).stays (ap items_of e ∙ i))

start-waits : (fs : List Facts) → (facts_in (first_noted (RecordStart ∷ []) fs)).waiting ≡ (facts_in fs).waiting
unfolding noted
start-waits [] = refl
start-waits (f ∷ fs) = refl

-- after a datum none waits, and the next isn't ignored
data-waits : (fs : List Facts) → (facts_in (first_noted (DataItem ∷ []) fs)).waiting ≡ false
unfolding noted
data-waits [] = refl
data-waits (f ∷ fs) = refl

abbrev HasFacts : List Facts → Type 0
HasFacts [] = ⊥
HasFacts (f ∷ fs) = Unit {0}

data-takes : (fs : List Facts) → HasFacts fs → takes_end (facts_in (first_noted (DataItem ∷ []) fs)) ≡ true
unfolding noted
data-takes [] h = absurd h
data-takes (f ∷ fs) h = refl

takes-has : (fs : List Facts) → takes_end (facts_in fs) ≡ true → HasFacts fs
takes-has [] h = true-false (sym h)
takes-has (f ∷ fs) h = tt

char-items : (x : ℕ) → items_of (Char x) ≡ DataItem ∷ []
unfolding items_of
char-items x = refl

re-items : (live : Bool) → items_of (Re live) ≡ RecordEnd ∷ []
unfolding items_of
re-items live = refl

rs-items : items_of Rs ≡ RecordStart ∷ []
unfolding items_of
rs-items = refl

told-end : (a : State) (p : Piece) (n : Name) (how : How) → p.kind ≡ End n how → events_at forms a p ≡ Ended n ∷ []
unfolding shown
told-end a p n how e = ap (λ k. told_by (facts_in a.record_ends) (shown forms a k)) e

-- THE TEXT of the events of these pieces, within lines
abbrev lined : Doctype → State → List Piece → Text
lined d a ps = text_of (spellings d inside.Lines (events_of_run forms a ps))

-- where a record end waits it begins with one
waiting-by : (d : Doctype) (a : State) (p : Piece) (ps : List Piece) (z : Bool) (k : Kind) → p.kind ≡ k → mode_in a ≡ mode.Cdt → waits a ≡ true → Holds a k
    → IsReadRaw a.context.doctype.syntax z (characters ps) k
    → (mode_in (after_piece p a) ≡ mode.Cdt → waits (after_piece p a) ≡ true → Like [] (lined d (after_piece p a) ps))
    → Like [] (lined d a (p ∷ ps))
waiting-by d a p ps z (Char x) e m w (inl h) r next = no-data-in a m h.mode
waiting-by d a p ps z (Char x) e m w (inr h) r next =
    subst (λ es. Like [] (text_of (spellings d inside.Lines (es ++ events_of_run forms (after_piece p a) ps))))
    (sym (told-char a p x e ∙ ap (λ t. put t ++ Byte x ∷ []) w)) refl
waiting-by d a p ps z (Re true) e m w h r next =
    subst (λ es. Like [] (text_of (spellings d inside.Lines (es ++ events_of_run forms (after_piece p a) ps))))
    (sym (told-live a p e (sym h.0) ∙ ap put w)) refl
waiting-by d a p ps z (Re false) e m w h r next =
    subst (λ es. Like [] (text_of (spellings d inside.Lines (es ++ events_of_run forms (after_piece p a) ps))))
    (sym (told-dead a p e (sym h.0)))
    (next (kept a p (Re false) e (re-stays false) m)
    (ap (λ (f : Facts). f.waiting) (facts-after a p (Re false) (RecordEnd ∷ []) e (re-stays false) (re-items false)) ∙ dead-waits a.record_ends (sym h.0) ∙ w))
waiting-by d a p ps z Rs e m w h r next =
    subst (λ es. Like [] (text_of (spellings d inside.Lines (es ++ events_of_run forms (after_piece p a) ps))))
    (sym (told-start a p e))
    (next (kept a p Rs e rs-stays m)
    (ap (λ (f : Facts). f.waiting) (facts-after a p Rs (RecordStart ∷ []) e rs-stays rs-items) ∙ start-waits a.record_ends ∙ w))
waiting-by d a p ps z (End n how) e m w h r next =
    subst (λ es. Like [] (text_of (spellings d inside.Lines (es ++ events_of_run forms (after_piece p a) ps)))) (sym (told-end a p n how e)) refl
waiting-by d a p ps z _ e m w h r next = absurd r

waiting-text : (d : Doctype) (a : State) (z : Bool) (ps : List Piece) → mode_in a ≡ mode.Cdt → waits a ≡ true → AllHold a ps → EachInCdata IsReadRaw z a ps → HasReferences (mode_in (state_after a ps))
    → Like [] (lined d a ps)
waiting-text d a z [] m w h r e = no-data-in a m e
waiting-text d a z (p ∷ ps) m w h r e =
    waiting-by d a p ps z p.kind refl m w h.0 (r.0 m) (λ m w. waiting-text d (after_piece p a) (is_record_end p.kind) ps m w h.1 r.1 e)

-- behind a datum it goes on as the characters that were read
record AfterDatum (a : State) : Type 0 where
  mode : mode_in a ≡ mode.Cdt
  none_waits : waits a ≡ false
  takes : takes_end (facts_in a.record_ends) ≡ true

after-datum : (a : State) (p : Piece) (x : ℕ) → p.kind ≡ Char x → mode_in a ≡ mode.Cdt → HasFacts a.record_ends → AfterDatum (after_piece p a)
after-datum a p x e m n =
    let is = facts-after a p (Char x) (DataItem ∷ []) e (char-stays x) (char-items x) in record {
      mode = kept a p (Char x) e (char-stays x) m;
      none_waits = ap (λ (f : Facts). f.waiting) is ∙ data-waits a.record_ends;
      takes = ap takes_end is ∙ data-takes a.record_ends n;
    }

data-by : (d : Doctype) (a : State) (p : Piece) (ps : List Piece) (k : Kind) → p.kind ≡ k → AfterDatum a → Holds a k → IsReadRaw a.context.doctype.syntax false (characters ps) k
    → ((x : ℕ) → p.kind ≡ Char x → AfterDatum (after_piece p a) → Like (characters ps) (lined d (after_piece p a) ps))
    → (mode_in (after_piece p a) ≡ mode.Cdt → waits (after_piece p a) ≡ true → Like [] (lined d (after_piece p a) ps))
    → Like (with_character k (characters ps)) (lined d a (p ∷ ps))
data-by d a p ps (Char x) e m (inl h) r more end = no-data-in a m.mode h.mode
data-by d a p ps (Char x) e m (inr h) r more end =
    let es = events_of_run forms (after_piece p a) ps in
    subst (λ fs. Like (x ∷ characters ps) (text_of (spellings d inside.Lines (fs ++ es))))
    (sym (told-char a p x e ∙ ap (λ t. put t ++ Byte x ∷ []) m.none_waits))
    (raw-like x (spellings d inside.Lines es) (characters ps) h.character (more x e (after-datum a p x e m.mode (takes-has a.record_ends m.takes))))
data-by d a p ps (Re true) e m h r more end =
    subst (λ es. Like [] (text_of (spellings d inside.Lines (es ++ events_of_run forms (after_piece p a) ps))))
    (sym (told-live a p e (sym h.0) ∙ ap put m.none_waits))
    (end (kept a p (Re true) e (re-stays true) m.mode)
    (ap (λ (f : Facts). f.waiting) (facts-after a p (Re true) (RecordEnd ∷ []) e (re-stays true) (re-items true)) ∙ live-waits a.record_ends m.takes))
data-by d a p ps (Re false) e m h r more end = true-false (sym m.takes ∙ sym h.0)
data-by d a p ps Rs e m h r more end = true-false (sym r)
data-by d a p ps (End n how) e m h r more end =
    subst (λ es. Like [] (text_of (spellings d inside.Lines (es ++ events_of_run forms (after_piece p a) ps)))) (sym (told-end a p n how e)) refl
data-by d a p ps _ e m h r more end = absurd r

after-character : (p : Piece) (a : State) (ps : List Piece) (x : ℕ) → p.kind ≡ Char x → EachInCdata IsReadRaw (is_record_end p.kind) a ps → EachInCdata IsReadRaw false a ps
after-character p a ps x e r = subst (λ k. EachInCdata IsReadRaw (is_record_end k) a ps) e r

data-text : (d : Doctype) (a : State) (ps : List Piece) → AfterDatum a → AllHold a ps → EachInCdata IsReadRaw false a ps → HasReferences (mode_in (state_after a ps)) → Like (characters ps) (lined d a ps)
data-text d a [] m h r e = no-data-in a m.mode e
data-text d a (p ∷ ps) m h r e =
    data-by d a p ps p.kind refl m h.0 (r.0 m.mode)
    (λ x k n. data-text d (after_piece p a) ps n h.1 (after-character p (after_piece p a) ps x k r.1) e)
    (λ m w. waiting-text d (after_piece p a) (is_record_end p.kind) ps m w h.1 r.1 e)

-- EVENTS BEFORE OTHERS stand as they are
abbrev FrontStands : Doctype → Inside → List Said → List Said → Type 0
FrontStands d i [] more = Unit {0}
FrontStands d i (e ∷ es) more = RawStands d i e (text_of (spellings d (after_said d i e) (es ++ more))) × FrontStands d (after_said d i e) es more

front-stands : (d : Doctype) (i : Inside) (es more : List Said) → FrontStands d i es more → AllRawStand d (after_all d i es) more → AllRawStand d i (es ++ more)
front-stands d i [] more f h = h
front-stands d i (e ∷ es) more f h = (f.0, front-stands d (after_said d i e) es more f.1 h)

-- where references are recognised each does
abbrev IsContentSaid : Said → Type 0
IsContentSaid (Started n vs) = ⊥
IsContentSaid e = Unit {0}

content-front : (d : Doctype) (es more : List Said) → AllAre IsContentSaid es → FrontStands d inside.Mixed es more
content-front d [] more h = tt
content-front d (Started n vs ∷ es) more h = absurd h.0
content-front d (Ended n ∷ es) more h = (tt, content-front d es more h.1)
content-front d (Byte b ∷ es) more h = (tt, content-front d es more h.1)
content-front d (SpecificData e text ∷ es) more h = (tt, content-front d es more h.1)
content-front d (External e ∷ es) more h = (tt, content-front d es more h.1)
content-front d (Instruction text e ∷ es) more h = (tt, content-front d es more h.1)

append-are : (P : Said → Type 0) (xs ys : List Said) → AllAre P xs → AllAre P ys → AllAre P (xs ++ ys)
append-are P [] ys h k = k
append-are P (x ∷ xs) ys h k = (h.0, append-are P xs ys h.1 k)

put-content : (t : Bool) → AllAre IsContentSaid (if t then Byte 13 ∷ [] else [])
put-content true = (tt, tt)
put-content false = tt

item-content : (f : Facts) (o : _) → AllAre IsContentSaid (told_item_by f o)
item-content f None = tt
item-content f (Some RecordEnd) = put-content (takes_end f && f.waiting)
item-content f (Some DataItem) = put-content f.waiting
item-content f (Some Subelement) = put-content f.waiting
item-content f (Some RecordStart) = tt
item-content f (Some Markup) = tt

abbrev AllShown : List Shown → Type 0
AllShown [] = Unit {0}
AllShown (s ∷ ss) = AllAre IsContentSaid s.events × AllShown ss

told-content : (f : Facts) (ss : List Shown) → AllShown ss → AllAre IsContentSaid (told_by f ss)
told-content f [] h = tt
told-content f (s ∷ ss) h =
    append-are IsContentSaid (told_item_by f s.item ++ s.events) (told_by (noted_option f s.item) ss)
    (append-are IsContentSaid (told_item_by f s.item) s.events (item-content f s.item) h.0) (told-content (noted_option f s.item) ss h.1)

silent-content : (is : List Item) → AllShown (silent is)
silent-content [] = tt
silent-content (i ∷ is) = (tt, silent-content is)

bytes-content : (bs : Text) → AllAre IsContentSaid (map (λ b. Byte b) bs)
bytes-content [] = tt
bytes-content (b ∷ bs) = (tt, bytes-content bs)

body-content : (e : ℕ) (o : _) → AllAre IsContentSaid (body_events e o)
body-content e None = tt
body-content e (Some (body.Cdata text)) = bytes-content text
body-content e (Some (body.Sdata text)) = (tt, tt)
body-content e (Some _) = tt

byte-content : (b : ℕ) (i : Item) → AllAre IsContentSaid (shown_byte b i).events
byte-content b DataItem = (tt, tt)
byte-content b _ = tt

string-content : (bs : Text) → AllShown (shown_bytes bs)
string-content [] = tt
string-content (b ∷ bs) = (byte-content b (byte_item b), string-content bs)

with-content : (xs ys : List Shown) → AllShown xs → AllShown ys → AllShown (xs ++ ys)
with-content [] ys h k = k
with-content (x ∷ xs) ys h k = (h.0, with-content xs ys h.1 k)

meaning-content : (d : Doctype) (string : Text) (m : Meaning) → AllShown (shown_meaning d string m)
meaning-content d string (Ordinary true content) = string-content string
meaning-content d string (Ordinary false content) = tt
meaning-content d string (ToText e) = silent-content (start_item string)
meaning-content d string (ToData e) =
    with-content (silent (start_item string)) (shown_data d e ∷ []) (silent-content (start_item string)) (body-content e (body_of d e), tt)
meaning-content d string (ToExternalData e) = with-content (silent (start_item string)) (shown_external e ∷ []) (silent-content (start_item string)) ((tt, tt), tt)
meaning-content d string (ToInstruction e text) =
    with-content (silent (start_item string)) (shown_instruction text (Some e) ∷ []) (silent-content (start_item string)) ((tt, tt), tt)

-- a start tells nothing but its events and the record end before it
started-front : (d : Doctype) (n : Name) (vs : List Attribute) (once : Bool) (i : Inside) (more : List Said) → FrontStands d i (ended_at_once n once) more
started-front d n vs false i more = tt
started-front d n vs true inside.Mixed more = (tt, tt)
started-front d n vs true inside.Nothing more = (tt, tt)
started-front d n vs true inside.Characters more = (tt, tt)
started-front d n vs true inside.Lines more = (tt, tt)

put-front : (d : Doctype) (t : Bool) (n : Name) (vs : List Attribute) (once : Bool) (more : List Said)
    → FrontStands d inside.Mixed ((if t then Byte 13 ∷ [] else []) ++ Started n vs ∷ ended_at_once n once) more
put-front d true n vs once more = (tt, (tt, started-front d n vs once (after_said d inside.Mixed (Started n vs)) more))
put-front d false n vs once more = (tt, started-front d n vs once (after_said d inside.Mixed (Started n vs)) more)

start-front : (d : Doctype) (f : Facts) (proper : Bool) (n : Name) (vs : List Attribute) (once : Bool) (more : List Said)
    → FrontStands d inside.Mixed (told_item_by f (Some (sub_or_mark proper)) ++ Started n vs ∷ ended_at_once n once) more
start-front d f true n vs once more = put-front d f.waiting n vs once more
start-front d f false n vs once more = put-front d false n vs once more

-- WHERE REFERENCES ARE RECOGNISED
plain-front : (d : Doctype) (f : Facts) (ss : List Shown) (more : List Said) → AllShown ss → FrontStands d inside.Mixed (told_by f ss) more
plain-front d f ss more h = content-front d (told_by f ss) more (told-content f ss h)

kind-front : (d : Doctype) (a : State) (k : Kind) (more : List Said) → Holds a k → FrontStands d inside.Mixed (told_by (facts_in a.record_ends) (shown forms a k)) more
unfolding shown
kind-front d a (Start n ss how proper once) more h =
    let f = facts_in a.record_ends in
    let vs = forms.valued a (Start n ss how proper once) in
    subst (λ es. FrontStands d inside.Mixed es more) (sym (append-nil (told_item_by f (Some (sub_or_mark proper)) ++ Started n vs ∷ ended_at_once n once)))
    (start-front d f proper n vs once more)
kind-front d a (End n how) more h = (tt, tt)
kind-front d a (Char b) more h = plain-front d (facts_in a.record_ends) (shown forms a (Char b)) more ((tt, tt), tt)
kind-front d a (Data e) more h = plain-front d (facts_in a.record_ends) (shown forms a (Data e)) more (body-content e (body_of a.context.doctype e), tt)
kind-front d a (DataRef e) more h = plain-front d (facts_in a.record_ends) (shown forms a (DataRef e)) more ((tt, tt), tt)
kind-front d a (Pi text e) more h = plain-front d (facts_in a.record_ends) (shown forms a (Pi text e)) more ((tt, tt), tt)
kind-front d a (ShortRef string m) more h = plain-front d (facts_in a.record_ends) (shown_meaning a.context.doctype string m) more (meaning-content a.context.doctype string m)
kind-front d a k more h = plain-front d (facts_in a.record_ends) (silent (items_of k)) more (silent-content (items_of k))

-- IN CDATA CONTENT
byte-stands : (d : Doctype) (t : Bool) (x : ℕ) (text : Text) → ((rest : Text) → begins_end_tag d.syntax (x ∷ (text ++ rest)) ≡ false) → RawStands d (inside_for (InCdata t)) (Byte x) text
byte-stands d true x text h = h
byte-stands d false x text h = h

put-stands : (d : Doctype) (t w : Bool) (more : List Said) → FrontStands d (inside_for (InCdata t)) (put w) more
put-stands d true true more = (λ rest. end-no-tag d.syntax _, tt)
put-stands d false true more = (λ rest. end-no-tag d.syntax _, tt)
put-stands d t false more = tt

data-stands : (d : Doctype) (t w : Bool) (x : ℕ) (more : List Said) → ((rest : Text) → begins_end_tag d.syntax (x ∷ (text_of (spellings d inside.Lines more) ++ rest)) ≡ false)
    → FrontStands d (inside_for (InCdata t)) (put w ++ Byte x ∷ []) more
data-stands d true true x more h = (λ rest. end-no-tag d.syntax _, (h, tt))
data-stands d false true x more h = (λ rest. end-no-tag d.syntax _, (h, tt))
data-stands d true false x more h = (h, tt)
data-stands d false false x more h = (h, tt)

end-stands : (d : Doctype) (t : Bool) (n : Name) (more : List Said) → FrontStands d (inside_for (InCdata t)) (Ended n ∷ []) more
end-stands d true n more = (tt, tt)
end-stands d false n more = (tt, tt)

cdata-front : (d : Doctype) (t : Bool) (a : State) (p : Piece) (k : Kind) (z : Bool) (ps : List Piece) (more : List Said) → p.kind ≡ k → mode_in a ≡ mode.Cdt → Holds a k
    → IsReadRaw d.syntax z (characters ps) k → ((x : ℕ) → p.kind ≡ Char x → Like (characters ps) (text_of (spellings d inside.Lines more)))
    → FrontStands d (inside_for (InCdata t)) (events_at forms a p) more
cdata-front d t a p (Char x) z ps more e m (inl h) r text = no-data-in a m h.mode
cdata-front d t a p (Char x) z ps more e m (inr h) r text =
    subst (λ es. FrontStands d (inside_for (InCdata t)) es more) (sym (told-char a p x e))
    (data-stands d t (waits a) x more (λ rest. still-no-tag d.syntax x (characters ps) (text_of (spellings d inside.Lines more)) rest (text x e) r))
cdata-front d t a p (Re true) z ps more e m h r text =
    subst (λ es. FrontStands d (inside_for (InCdata t)) es more) (sym (told-live a p e (sym h.0))) (put-stands d t (waits a) more)
cdata-front d t a p (Re false) z ps more e m h r text =
    subst (λ es. FrontStands d (inside_for (InCdata t)) es more) (sym (told-dead a p e (sym h.0))) tt
cdata-front d t a p Rs z ps more e m h r text = subst (λ es. FrontStands d (inside_for (InCdata t)) es more) (sym (told-start a p e)) tt
cdata-front d t a p (End n how) z ps more e m h r text = subst (λ es. FrontStands d (inside_for (InCdata t)) es more) (sym (told-end a p n how e)) (end-stands d t n more)
cdata-front d t a p _ z ps more e m h r text = absurd r

-- EACH OPEN ELEMENT has its record ends
abbrev pub AsMany : List Facts → List Level → Type 0
AsMany [] [] = Unit {0}
AsMany [] (l ∷ ls) = ⊥
AsMany (f ∷ fs) [] = ⊥
AsMany (f ∷ fs) (l ∷ ls) = AsMany fs ls

many-with : (is : List Item) (k : Kind) (fs : List Facts) (ls : List Level) → AsMany fs ls → AsMany (first_noted is fs) (levels_with k ls)
many-with is k [] [] h = tt
many-with is k [] (l ∷ ls) h = h
many-with is k (f ∷ fs) [] h = h
many-with is k (f ∷ fs) (l ∷ ls) h = h

many-inside : (fs : List Facts) (ls : List Level) → AsMany fs ls → AsMany (without_first fs) (without_first ls)
many-inside [] [] h = tt
many-inside [] (l ∷ ls) h = absurd h
many-inside (f ∷ fs) [] h = absurd h
many-inside (f ∷ fs) (l ∷ ls) h = h

many-by : (d : Doctype) (x : Effect) (k : Kind) (fs : List Facts) (ls : List Level) → AsMany fs ls → AsMany (ends_after x k fs) (levels_after d x k ls)
many-by d (Opens n slash) k fs ls h = many-with (items_of k) k fs ls h
many-by d Closes k fs ls h = many-inside fs ls h
many-by d Stays k fs ls h = many-with (items_of k) k fs ls h

pub as-many : (p : Piece) (a : State) → AsMany a.record_ends a.context.levels → AsMany (after_piece p a).record_ends (after_piece p a).context.levels
unfolding after_piece context_after
as-many p a h = many-by a.context.doctype (effect p.kind) p.kind a.record_ends a.context.levels h

has-facts : (fs : List Facts) (ls : List Level) (l : Level) (o : List Level) → AsMany fs ls → ls ≡ l ∷ o → HasFacts fs
has-facts fs ls l o h e = by fs (subst (AsMany fs) e h)
  where
    by : (fs : List Facts) → AsMany fs (l ∷ o) → HasFacts fs
    by [] h = h
    by (f ∷ fs) h = tt

-- ALL OF THEM
place-front : (d : Doctype) (w : Within) (a b : State) (p : Piece) (z : Bool) (ps : List Piece) (more : List Said) → a.context.doctype ≡ d → FollowsAt w a b → AsMany a.record_ends a.context.levels → Holds a p.kind
    → (mode_in a ≡ mode.Cdt → IsReadRaw a.context.doctype.syntax z (characters ps) p.kind)
    → (AfterDatum (after_piece p a) → (x : ℕ) → p.kind ≡ Char x → Like (characters ps) (text_of (spellings d inside.Lines more)))
    → FrontStands d (inside_for w) (events_at forms a p) more
place-front d InContent a b p z ps more y f n h r text = kind-front d a p.kind more h
place-front d (AtEnd name) a b p z ps more y f n h r text = absurd f
place-front d (InCdata t) a b p z ps more y f n h r text =
    cdata-front d t a p p.kind z ps more refl f.mode h (subst (λ (e : Doctype). IsReadRaw e.syntax z (characters ps) p.kind) y (r f.mode))
    (λ x e. text (after-datum a p x e f.mode (has-facts a.record_ends a.context.levels f.innermost f.outer n f.levels)) x e)

pub all-raw : ValuesStay → (d : Doctype) (w : Within) (a b : State) (z : Bool) (ps : List Piece) → a.context.doctype ≡ d → FollowsAt w a b → AsMany a.record_ends a.context.levels → AllHold a ps
    → AllAre (IsWritten d) (events_of_run forms a ps) → EachInCdata IsReadRaw z a ps → HasReferences (mode_in (state_after a ps)) → AllRawStand d (inside_for w) (events_of_run forms a ps)
all-raw l d w a b z [] y f n h c r e = tt
all-raw l d w a b z (p ∷ ps) y f n h c r e =
    let next = after_piece p a in
    let more = events_of_run forms next ps in
    let s = piece-step l d w a b p y h.0 (front-are (IsWritten d) (events_at forms a p) more c) f in
    let rest = all-raw l d s.place next s.after (is_record_end p.kind) ps (types-stay p a h.0 ∙ y) s.follows (as-many p a n) h.1 (rest-are (IsWritten d) (events_at forms a p) more c) r.1 e in
    front-stands d (inside_for w) (events_at forms a p) more
    (place-front d w a b p z ps more y f n h.0 r.0 (λ m x k. data-text d next ps m h.1 (after-character p next ps x k r.1) e))
    (subst (λ i. AllRawStand d i more) (sym s.written.inside_is) rest)
