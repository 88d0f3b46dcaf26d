-- The events of all that was read may be written, one piece after another.
use Rattle.std.proofs.Common.{◌≡◌, ◌⊎◌, inl, inr, ℕ, Bool, true, false, map, List, [], ◌∷◌, ◌++◌, Option, None, refl, sym, ◌∙◌, ap, subst}
use Rattle.sgml_theory_values.specs.records.Facts.{Facts, takes_end, noted, all_noted}
use Rattle.sgml_theory_values.specs.delim.declared.delim.Mode.TheVariants as mode
use Rattle.sgml_theory_values.specs.marked.declared.status.Status.{Status}
use Rattle.sgml_theory_values.specs.dtd.Doctypes.{Doctype}
use Rattle.sgml_theory_values.specs.theory_reading.Pieces.{Piece, Kind, Sgml, Head, Declare, SubsetEnd, Start, End, Char, Data, DataRef, Re, Rs, Sep, ShortRef, Ref, EntityEnd, SectionStart, SectionEnd, Skipped, Pi, Comment, UseMap, Finish}
use Rattle.sgml_theory_values.specs.theory_reading.Facets.{items_of, token, effect, declares, is_start, is_omitted_start}
use Rattle.sgml_theory_values.specs.theory_reading.Context.{Level, context_after}
use Rattle.sgml_theory_values.specs.theory_reading.State.{State, after_piece}
use Rattle.sgml_theory_values.specs.theory_reading.Characters.{facts_in}
use Rattle.sgml_theory_values.specs.theory_reading.Events.{Event as Said, Byte, shown, told_by, events_at, events_of_run}
use Rattle.sgml_theory_values.specs.theory_reading.Outcome.{state_after}
use Rattle.sgml_theory_values.specs.theory_spelling.Places.{element_mode}
use Rattle.sgml_theory_values.specs.theory_spelling.Spelled.{forms}
use Rattle.sgml_theory_full.specs.Named.{AllAre, IsWritten}
use Rattle.sgml_theory_full.specs.Points.{HasReferences}
use Rattle.sgml_theory_full.specs.Conforming.{mode_in, Within, InContent, AtEnd, InCdata}
use Rattle.sgml_theory_full.specs.Following.{waits, DataHolds, Holds, AllHold, mode_of, AreReferring, IsReferring, Follows, FollowsInCdata, FollowsAt, WrittenTo, ReadMayBeWritten}
use Rattle.sgml_theory_full.proofs.EndFollowed.{end-step}
use Rattle.sgml_theory_full.proofs.Restarted.{ValuesStay, no-references}
use Rattle.sgml_theory_full.proofs.RawFollowed.{StepAt, char-raw, live-raw, silent-raw, raw-end, refers-stays, refers-ended, at-plain}
use Rattle.sgml_theory_full.proofs.StartFollowed.{each-start}
use Rattle.sgml_theory_full.proofs.RawParts.{put, not-con}
use Rattle.sgml_theory_full.proofs.Following.{Staying, Step, told-one, none-from, then-from, live-told, dead-told, char-stays, data-stays, re-stays, pi-stays, silent-step, char-step, data-step, live-step, dead-step, pi-step}
use Rattle.sgml_theory_full.proofs.ExternalFollowed.{external-stays, external-step}
use Rattle.sgml_theory_full.proofs.StringFollowed.{string-stays, string-step}

-- KINDS THAT TELL NOTHING and are nothing to a model
record Silent (k : Kind) : Type 0 where
  stays : Staying k
  no_token : token k ≡ None
  quiet : (f : Facts) → (all_noted f (items_of k)).waiting ≡ f.waiting
  silent : (a : State) → told_by (facts_in a.record_ends) (shown forms a k) ≡ []

silently : (d : Doctype) (a b : State) (p : Piece) (k : Kind) → p.kind ≡ k → Silent k → Follows a b → Step d a p b
silently d a b p k e s f =
    silent-step d a b p (subst Staying (sym e) s.stays) (ap token e ∙ s.no_token) (subst (λ k. (f : Facts) → (all_noted f (items_of k)).waiting ≡ f.waiting) (sym e) s.quiet)
    (ap (λ k. told_by (facts_in a.record_ends) (shown forms a k)) e ∙ s.silent a) f

rs-silent : Silent Rs
unfolding effect declares is_start is_omitted_start token items_of shown noted
rs-silent = record { stays = record { stays = refl; types = λ d. refl; no_start = refl; visible = refl }; no_token = refl; quiet = λ f. refl; silent = λ a. refl }

sep-silent : (b : ℕ) → Silent (Sep b)
unfolding effect declares is_start is_omitted_start token items_of shown noted
sep-silent b = record { stays = record { stays = refl; types = λ d. refl; no_start = refl; visible = refl }; no_token = refl; quiet = λ f. refl; silent = λ a. refl }

ref-silent : (e : ℕ) → Silent (Ref e)
unfolding effect declares is_start is_omitted_start token items_of shown noted
ref-silent e = record { stays = record { stays = refl; types = λ d. refl; no_start = refl; visible = refl }; no_token = refl; quiet = λ f. refl; silent = λ a. refl }

entity-end-silent : Silent EntityEnd
unfolding effect declares is_start is_omitted_start token items_of shown noted
entity-end-silent = record { stays = record { stays = refl; types = λ d. refl; no_start = refl; visible = refl }; no_token = refl; quiet = λ f. refl; silent = λ a. refl }

section-start-silent : (s : Status) → Silent (SectionStart s)
unfolding effect declares is_start is_omitted_start token items_of shown noted
section-start-silent s = record { stays = record { stays = refl; types = λ d. refl; no_start = refl; visible = refl }; no_token = refl; quiet = λ f. refl; silent = λ a. refl }

section-end-silent : Silent SectionEnd
unfolding effect declares is_start is_omitted_start token items_of shown noted
section-end-silent = record { stays = record { stays = refl; types = λ d. refl; no_start = refl; visible = refl }; no_token = refl; quiet = λ f. refl; silent = λ a. refl }

skipped-silent : (b : ℕ) → Silent (Skipped b)
unfolding effect declares is_start is_omitted_start token items_of shown noted
skipped-silent b = record { stays = record { stays = refl; types = λ d. refl; no_start = refl; visible = refl }; no_token = refl; quiet = λ f. refl; silent = λ a. refl }

comment-silent : Silent Comment
unfolding effect declares is_start is_omitted_start token items_of shown noted
comment-silent = record { stays = record { stays = refl; types = λ d. refl; no_start = refl; visible = refl }; no_token = refl; quiet = λ f. refl; silent = λ a. refl }

use-map-silent : (m : Option ℕ) → Silent (UseMap m)
unfolding effect declares is_start is_omitted_start token items_of shown noted
use-map-silent m = record { stays = record { stays = refl; types = λ d. refl; no_start = refl; visible = refl }; no_token = refl; quiet = λ f. refl; silent = λ a. refl }

-- ONE PIECE, and the document type stays
no-types : (k : Kind) (s : State) (d : Doctype) → Holds s k → declares k d ≡ d
unfolding declares
no-types (Sgml syntax) s d h = absurd h
no-types (Head head base) s d h = absurd h
no-types (Declare lexemes says base) s d h = absurd h
no-types _ s d h = refl

pub types-stay : (p : Piece) (s : State) → Holds s p.kind → (after_piece p s).context.doctype ≡ s.context.doctype
unfolding after_piece context_after
types-stay p s h = no-types p.kind s s.context.doctype h

abbrev CanBeWritten : Doctype → State → Piece → Type 0
CanBeWritten d a p = AllAre (IsWritten d) (events_at forms a p)

-- WHERE REFERENCES ARE RECOGNISED
not-cdata-in : {A : Type 0} (d : Doctype) (ls : List Level) → AreReferring (map (mode_of d) ls) → element_mode d ls ≡ mode.Cdt → A
not-cdata-in d [] r e = not-con e
not-cdata-in d (l ∷ ls) r e = no-references (subst HasReferences e r.0)

stays-at : (d : Doctype) (a b : State) (p : Piece) (k : Kind) → p.kind ≡ k → Staying k → IsReferring a.context → Step d a p b → StepAt d InContent a p b
stays-at d a b p k e s r t = at-plain d a b p t (refers-stays a p (subst Staying (sym e) s) r)

silent-at : (d : Doctype) (a b : State) (p : Piece) (k : Kind) → p.kind ≡ k → Silent k → Follows a b × IsReferring a.context → StepAt d InContent a p b
silent-at d a b p k e s f = stays-at d a b p k e s.stays f.1 (silently d a b p k e s f.0)

content-step : ValuesStay → (d : Doctype) (a b : State) (p : Piece) (k : Kind) → a.context.doctype ≡ d → p.kind ≡ k → Holds a k → CanBeWritten d a p → Follows a b × IsReferring a.context → StepAt d InContent a p b
content-step l d a b p (Char x) y e (inl h) w f = stays-at d a b p (Char x) e (char-stays x) f.1 (char-step d a b p x e f.0 h)
content-step l d a b p (Char x) y e (inr h) w f = not-cdata-in a.context.doctype a.context.levels f.1 h.mode
content-step l d a b p (Data x) y e h w f = stays-at d a b p (Data x) e (data-stays x) f.1 (data-step d a b p x e f.0 h.0 h.1)
content-step l d a b p (DataRef x) y e h w f = stays-at d a b p (DataRef x) e (external-stays x) f.1 (external-step d a b p x e f.0 h.0 h.1)
content-step l d a b p (Re true) y e h w f = by (h.1 refl)
  where
    by : DataHolds a ⊎ (mode_in a ≡ mode.Cdt) → StepAt d InContent a p b
    by (inl g) = stays-at d a b p (Re true) e (re-stays true) f.1 (live-step d a b p e f.0 (sym h.0) g)
    by (inr m) = not-cdata-in a.context.doctype a.context.levels f.1 m
content-step l d a b p (Re false) y e h w f = stays-at d a b p (Re false) e (re-stays false) f.1 (dead-step d a b p e f.0 (sym h.0))
content-step l d a b p (Pi text x) y e h w f = stays-at d a b p (Pi text x) e (pi-stays text x) f.1 (pi-step d a b p text x e f.0 h)
content-step l d a b p Rs y e h w f = silent-at d a b p Rs e rs-silent f
content-step l d a b p (Sep x) y e h w f = silent-at d a b p (Sep x) e (sep-silent x) f
content-step l d a b p (Ref x) y e h w f = silent-at d a b p (Ref x) e (ref-silent x) f
content-step l d a b p EntityEnd y e h w f = silent-at d a b p EntityEnd e entity-end-silent f
content-step l d a b p (SectionStart x) y e h w f = silent-at d a b p (SectionStart x) e (section-start-silent x) f
content-step l d a b p SectionEnd y e h w f = silent-at d a b p SectionEnd e section-end-silent f
content-step l d a b p (Skipped x) y e h w f = silent-at d a b p (Skipped x) e (skipped-silent x) f
content-step l d a b p Comment y e h w f = silent-at d a b p Comment e comment-silent f
content-step l d a b p (UseMap x) y e h w f = silent-at d a b p (UseMap x) e (use-map-silent x) f
content-step l d a b p (Start n ss how proper at_once) y e h w f =
    subst (λ d. CanBeWritten d a p → StepAt d InContent a p b) y (each-start l a b p n ss how proper at_once e f.0 f.1 h) w
content-step l d a b p (End n how) y e h w f = at-plain d a b p (subst (λ d. Step d a p b) y (end-step a b p n how e f.0 h)) (refers-ended a p n how e f.1)
content-step l d a b p (Sgml syntax) y e h w f = absurd h
content-step l d a b p (Head head base) y e h w f = absurd h
content-step l d a b p (Declare lexemes says base) y e h w f = absurd h
content-step l d a b p (SubsetEnd reads) y e h w f = absurd h
content-step l d a b p (ShortRef string meaning) y e h w f = stays-at d a b p (ShortRef string meaning) e (string-stays string meaning) f.1 (string-step d a b p string meaning e f.0 h.0 h.1)
content-step l d a b p Finish y e h w f = absurd h

-- IN CDATA CONTENT
pub rs-stays : Staying Rs
rs-stays = rs-silent.stays

pub told-start : (a : State) (p : Piece) → p.kind ≡ Rs → events_at forms a p ≡ []
told-start a p e = ap (λ k. told_by (facts_in a.record_ends) (shown forms a k)) e ∙ rs-silent.silent a

pub told-char : (a : State) (p : Piece) (x : ℕ) → p.kind ≡ Char x → events_at forms a p ≡ put (waits a) ++ Byte x ∷ []
unfolding shown items_of
told-char a p x e = ap (λ k. told_by (facts_in a.record_ends) (shown forms a k)) e ∙ told-one (facts_in a.record_ends) (Byte x ∷ [])

pub told-live : (a : State) (p : Piece) → p.kind ≡ Re true → takes_end (facts_in a.record_ends) ≡ true → events_at forms a p ≡ put (waits a)
unfolding shown items_of
told-live a p e h = ap (λ k. told_by (facts_in a.record_ends) (shown forms a k)) e ∙ live-told (facts_in a.record_ends) h

pub told-dead : (a : State) (p : Piece) → p.kind ≡ Re false → takes_end (facts_in a.record_ends) ≡ false → events_at forms a p ≡ []
unfolding shown items_of
told-dead a p e h = ap (λ k. told_by (facts_in a.record_ends) (shown forms a k)) e ∙ dead-told (facts_in a.record_ends) h

silent-in : (d : Doctype) (t : Bool) (a b : State) (p : Piece) (k : Kind) → a.context.doctype ≡ d → p.kind ≡ k → Silent k → FollowsInCdata a b → StepAt d (InCdata t) a p b
silent-in d t a b p k y e s f =
    silent-raw d t a b p y (subst Staying (sym e) s.stays) (ap (λ k. told_by (facts_in a.record_ends) (shown forms a k)) e ∙ s.silent a) f

pub no-data-in : {A : Type 0} (a : State) → mode_in a ≡ mode.Cdt → HasReferences (mode_in a) → A
no-data-in a m h = no-references (subst HasReferences m h)

no-tags-in : {A : Type 0} (a : State) → mode_in a ≡ mode.Cdt → mode_in a ≡ mode.Con → A
no-tags-in a m h = not-con (sym h ∙ m)

cdata-piece : (d : Doctype) (t : Bool) (a b : State) (p : Piece) (k : Kind) → a.context.doctype ≡ d → p.kind ≡ k → Holds a k → FollowsInCdata a b → StepAt d (InCdata t) a p b
cdata-piece d t a b p (Char x) y e (inl h) f = no-data-in a f.mode h.mode
cdata-piece d t a b p (Char x) y e (inr h) f = char-raw d t a b p x y (subst Staying (sym e) (char-stays x)) (told-char a p x e) h.character f
cdata-piece d t a b p (Data x) y e h f = no-data-in a f.mode h.0.mode
cdata-piece d t a b p (DataRef x) y e h f = no-data-in a f.mode h.0.mode
cdata-piece d t a b p (Re true) y e h f = live-raw d t a b p y (subst Staying (sym e) (re-stays true)) (told-live a p e (sym h.0)) f
cdata-piece d t a b p (Re false) y e h f = silent-raw d t a b p y (subst Staying (sym e) (re-stays false)) (told-dead a p e (sym h.0)) f
cdata-piece d t a b p (Pi text x) y e h f = no-tags-in a f.mode h
cdata-piece d t a b p Rs y e h f = silent-in d t a b p Rs y e rs-silent f
cdata-piece d t a b p (Sep x) y e h f = silent-in d t a b p (Sep x) y e (sep-silent x) f
cdata-piece d t a b p (Ref x) y e h f = silent-in d t a b p (Ref x) y e (ref-silent x) f
cdata-piece d t a b p EntityEnd y e h f = silent-in d t a b p EntityEnd y e entity-end-silent f
cdata-piece d t a b p (SectionStart x) y e h f = silent-in d t a b p (SectionStart x) y e (section-start-silent x) f
cdata-piece d t a b p SectionEnd y e h f = silent-in d t a b p SectionEnd y e section-end-silent f
cdata-piece d t a b p (Skipped x) y e h f = silent-in d t a b p (Skipped x) y e (skipped-silent x) f
cdata-piece d t a b p Comment y e h f = silent-in d t a b p Comment y e comment-silent f
cdata-piece d t a b p (UseMap x) y e h f = silent-in d t a b p (UseMap x) y e (use-map-silent x) f
cdata-piece d t a b p (Start n ss how proper at_once) y e h f = no-tags-in a f.mode h.stands.mode
cdata-piece d t a b p (End n how) y e h f = subst (λ d. StepAt d (InCdata t) a p b) y (raw-end t a b p n how e f h)
cdata-piece d t a b p (Sgml syntax) y e h f = absurd h
cdata-piece d t a b p (Head head base) y e h f = absurd h
cdata-piece d t a b p (Declare lexemes says base) y e h f = absurd h
cdata-piece d t a b p (SubsetEnd reads) y e h f = absurd h
cdata-piece d t a b p (ShortRef string meaning) y e h f = no-tags-in a f.mode h.0
cdata-piece d t a b p Finish y e h f = absurd h

-- EITHER
pub piece-step : ValuesStay → (d : Doctype) (w : Within) (a b : State) (p : Piece) → a.context.doctype ≡ d → Holds a p.kind → CanBeWritten d a p → FollowsAt w a b → StepAt d w a p b
piece-step l d InContent a b p y h c f = content-step l d a b p p.kind y refl h c f
piece-step l d (InCdata t) a b p y h c f = cdata-piece d t a b p p.kind y refl h f
piece-step l d (AtEnd n) a b p y h c f = absurd f

-- ALL OF THEM
abbrev RunWritten : Doctype → Within → State → List Piece → State → Type 0
RunWritten d w a ps b = (v : Within) × (c : State) × WrittenTo d w b (events_of_run forms a ps) v c × FollowsAt v (state_after a ps) c

run-written : (d : Doctype) (w : Within) (a b : State) (p : Piece) (ps : List Piece) (s : StepAt d w a p b) → RunWritten d s.place (after_piece p a) ps s.after → RunWritten d w a (p ∷ ps) b
run-written d w a b p ps s m =
    (m.0, m.1, then-from d w s.place m.0 b s.after m.1 (events_at forms a p) (events_of_run forms (after_piece p a) ps) s.written m.2, m.3)

pub front-are : (P : Said → Type 0) (xs ys : List Said) → AllAre P (xs ++ ys) → AllAre P xs
front-are P [] ys h = tt
front-are P (x ∷ xs) ys h = (h.0, front-are P xs ys h.1)

pub rest-are : (P : Said → Type 0) (xs ys : List Said) → AllAre P (xs ++ ys) → AllAre P ys
rest-are P [] ys h = h
rest-are P (x ∷ xs) ys h = rest-are P xs ys h.1

all-written : ValuesStay → (d : Doctype) (w : Within) (a b : State) (ps : List Piece) → a.context.doctype ≡ d → FollowsAt w a b → AllHold a ps → AllAre (IsWritten d) (events_of_run forms a ps)
    → RunWritten d w a ps b
all-written l d w a b [] y f h c = (w, b, none-from d w b, f)
all-written l d w a b (p ∷ ps) y f h c =
    let s = piece-step l d w a b p y h.0 (front-are (IsWritten d) (events_at forms a p) (events_of_run forms (after_piece p a) ps) c) f in
    run-written d w a b p ps s
    (all-written l d s.place (after_piece p a) s.after ps (types-stay p a h.0 ∙ y) s.follows h.1 (rest-are (IsWritten d) (events_at forms a p) (events_of_run forms (after_piece p a) ps) c))

pub read-may-be-written : ValuesStay → ReadMayBeWritten
read-may-be-written l w a b ps = all-written l a.context.doctype w a b ps refl
