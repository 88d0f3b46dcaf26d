-- The start of an element that was read may be written: a record end that waits is put out before it.
use Rattle.std.proofs.Common.{◌≡◌, ◌<◌, inl, inr, Bool, true, false, List, [], ◌∷◌, ◌++◌, map, Some, None, refl, sym, ◌∙◌, ap, subst, append-nil, if◌then◌else◌}
use Rattle.sgml_theory_values.specs.records.Facts.{Facts, noted}
use Rattle.sgml_theory_values.specs.delim.declared.delim.Mode.{Mode}
use Rattle.sgml_theory_values.specs.delim.declared.delim.Mode.TheVariants as mode
use Rattle.sgml_theory_values.specs.dtd.Doctypes.{Doctype}
use Rattle.sgml_theory_values.specs.theory_reading.Names.{Name}
use Rattle.sgml_theory_values.specs.theory_reading.Types.{Content, Model, Any, Cdata, Rcdata, Void, content_of, type_of, is_declared}
use Rattle.sgml_theory_values.specs.theory_reading.Pieces.{Piece, Kind, Specification, How, Start, Tag}
use Rattle.sgml_theory_values.specs.theory_reading.Facets.{is_slash, effect, items_of, sub_or_mark, token, declares, is_start, is_omitted_start, is_finish, turn}
use Rattle.sgml_theory_values.specs.theory_reading.Nest.{without_first}
use Rattle.sgml_theory_values.specs.theory_reading.Context.{Level, Context, context_after, begun_level, levels_with, piece_of}
use Rattle.sgml_theory_values.specs.theory_reading.Omission.{allowed, depth}
use Rattle.sgml_theory_values.specs.theory_reading.State.{State, after_piece, ends_after, first_noted}
use Rattle.sgml_theory_values.specs.theory_reading.Characters.{facts_in, ends_at_once}
use Rattle.sgml_theory_values.specs.theory_reading.Reads.{Attribute, is_proper_in}
use Rattle.sgml_theory_values.specs.theory_reading.Events.{Event as Said, Started, ended_at_once, shown, told_by, events_at}
use Rattle.sgml_theory_values.specs.theory_spelling.Attributes.{unvalued, valued}
use Rattle.sgml_theory_values.specs.theory_spelling.Places.{content_mode, element_mode}
use Rattle.sgml_theory_values.specs.theory_spelling.Spelled.{forms}
use Rattle.sgml_theory_values.specs.full.declared.inside.Inside.TheVariants as inside
use Rattle.sgml_theory_values.specs.full.Full.{after_said}
use Rattle.sgml_theory_values.specs.Full.{value_read}
use Rattle.sgml_theory_values.specs.Starts.{specifications}
use Rattle.sgml_theory_full.specs.Named.{AllAre, IsWritten}
use Rattle.sgml_theory_full.specs.Spellings.{after_all, spellings}
use Rattle.sgml_theory_full.specs.Points.{HasReferences}
use Rattle.sgml_theory_full.specs.Written.{piece_in, state_by}
use Rattle.sgml_theory_full.specs.Conforming.{mode_in, start_kind, StartMayBe, Within, InContent, AtEnd, InCdata, inside_for, within_content, within_after, EventsMayBe}
use Rattle.sgml_theory_written.specs.Alike.{plain_level}
use Rattle.sgml_theory_full.specs.Following.{waits, StartHolds, bared, LikeContexts, Follows, mode_of, IsReferring, WrittenTo}
use Rattle.sgml_theory_full.proofs.Plain.{true-false}
use Rattle.sgml_theory_full.proofs.Conforming.{Plainly, stays-plain, start-plainly}
use Rattle.sgml_theory_full.proofs.RawParts.{put}
use Rattle.sgml_theory_full.proofs.Told.{one_of, written-kind}
use Rattle.sgml_theory_full.proofs.Restarted.{ValuesStay, again-valued, again-at-once, unless_once, again-inside, again-cdata, no-references}
use Rattle.sgml_theory_full.proofs.Following.{Written, Step, Quiet, released, then-from, then-written, context-of, mode-like, bare-with, bare-depth, bare-allowed}
use Rattle.sgml_theory_full.proofs.EndFollowed.{declared-none, quiet-first, quiet-tail}
use Rattle.sgml_theory_full.proofs.RawFollowed.{StepAt, outside-con, started-levels, started-types, refers-started, at-plain}

-- WHAT IT TELLS
start-told : (f : Facts) (proper : Bool) (es : List Said) → (proper ≡ false → f.waiting ≡ false) → told_by f (record { item = Some (sub_or_mark proper); events = es } ∷ []) ≡ put f.waiting ++ es
start-told f true es q = append-nil (put f.waiting ++ es)
start-told f false es q = append-nil es ∙ ap (λ t. put t ++ es) (sym (q refl))

-- IT MAY STAND
start-may : (s : State) (n : Name) (vs : List Attribute) → mode_in s ≡ mode.Con → is_declared s.context.doctype n ≡ true → allowed s.context (Some n) ≡ true → depth s.context < s.context.doctype.syntax.quantities.taglvl
    → (unvalued s (start_kind s.context.doctype n vs) ≡ None) × (valued s (start_kind s.context.doctype n vs) ≡ vs) → StartMayBe s n vs
unfolding token turn is_finish
start-may s n vs m d a r v = record {
  mode = m;
  stands = record { declared = declared-none s.context.doctype n d; stands = (a, λ e. r); valued = v.0; within = refl; goes_on = refl };
  values = v.1;
}

started-may : ValuesStay → (a s : State) (n : Name) (ss : List Specification) (how : How) (proper once : Bool) → s.context ≡ bared a.context → StartHolds a n ss how proper once
    → StartMayBe s n (valued a (Start n ss how proper once))
started-may l a s n ss how proper once e h =
    start-may s n (valued a (Start n ss how proper once)) (mode-like a s false e ∙ h.stands.mode) (ap (λ (c : Context). is_declared c.doctype n) e ∙ h.stands.known)
    (ap (λ c. allowed c (Some n)) e ∙ bare-allowed a.context (Some n) ∙ h.stands.fits)
    (subst (λ (c : Context). depth c < c.doctype.syntax.quantities.taglvl) (sym e) (subst (λ x. x < a.context.doctype.syntax.quantities.taglvl) (sym (bare-depth a.context.levels)) h.stands.room))
    (again-valued l a s n ss how proper once h.has_values (ap (λ (c : Context). c.doctype) e))

-- IT IS WRITTEN, with its end where it ends at once
abbrev over_if : Bool → Name → Within
over_if once n = if once then AtEnd n else InContent

rest-may : (d : Doctype) (c : State) (n : Name) (once : Bool) (more : List Said) → EventsMayBe d InContent c more → EventsMayBe d (over_if once n) c (ended_at_once n once ++ more)
rest-may d c n true more h = (refl, h)
rest-may d c n false more h = h

rest-state : (d : Doctype) (c : State) (n : Name) (once : Bool) (more : List Said)
    → state_by c (spellings d (inside_for (over_if once n)) (ended_at_once n once ++ more)) ≡ state_by c (spellings d inside.Mixed more)
rest-state d c n true more = refl
rest-state d c n false more = refl

rest-inside : (d : Doctype) (n : Name) (once : Bool) → after_all d (inside_for (over_if once n)) (ended_at_once n once) ≡ inside.Mixed
rest-inside d n true = refl
rest-inside d n false = refl

inside-over : (n : Name) (once : Bool) → unless_once once ≡ inside_for (over_if once n)
inside-over n true = refl
inside-over n false = refl

-- where references are recognised no data stands as it is
no-raw : (c : Content) → HasReferences (content_mode c) → within_content c ≡ InContent
no-raw (Model term) h = refl
no-raw Any h = refl
no-raw Cdata h = no-references h
no-raw Rcdata h = refl
no-raw Void h = refl

within-is : (d : Doctype) (n : Name) (vs : List Attribute) (once : Bool) → ends_at_once d n (specifications (value_read d) vs) ≡ once → (once ≡ false → HasReferences (content_mode (content_of (type_of d n))))
    → within_after d (Started n vs) ≡ over_if once n
within-is d n vs true o m = ap (λ t. if t then AtEnd n else within_content (content_of (type_of d n))) o
within-is d n vs false o m = ap (λ t. if t then AtEnd n else within_content (content_of (type_of d n))) o ∙ no-raw (content_of (type_of d n)) (m refl)

start-written : (d : Doctype) (s : State) (n : Name) (vs : List Attribute) (once : Bool) → StartMayBe s n vs → within_after d (Started n vs) ≡ over_if once n
    → after_said d inside.Mixed (Started n vs) ≡ inside_for (over_if once n)
    → Written d s (Started n vs ∷ ended_at_once n once) (after_piece (piece_in s (one_of d (Started n vs))) s)
start-written d s n vs once k o i =
    let c = after_piece (piece_in s (one_of d (Started n vs))) s in record {
      may = λ more m. (
        k,
        i ∙ sym (ap inside_for o),
        subst (λ w. EventsMayBe d w c (ended_at_once n once ++ more)) (sym o) (rest-may d c n once more m),
      );
      state_is = λ more. ap (λ i. state_by c (spellings d i (ended_at_once n once ++ more))) i ∙ rest-state d c n once more;
      inside_is = ap (λ i. after_all d i (ended_at_once n once)) i ∙ rest-inside d n once;
    }

-- THE CONTEXT AFTER IT
start-token : (n : Name) (ss ss' : List Specification) (how how' : How) (p p' o o' : Bool) → token (Start n ss how p o) ≡ token (Start n ss' how' p' o')
unfolding token
start-token n ss ss' how how' p p' o o' = refl

abbrev begun_with : Context → List Level → Context
begun_with c ls = record { doctype = c.doctype; levels = ls; begun = true; inferred = false }

start-kinds : (c : Context) (n : Name) (ss ss' : List Specification) (how : How) (p p' once : Bool)
    → context_after (piece_of (Start n ss' Tag p' once)) (bared c) ≡ bared (context_after (piece_of (Start n ss how p once)) c)
unfolding context_after effect declares is_start is_omitted_start
start-kinds c n ss ss' how p p' true =
    ap (begun_with c) (bare-with (Start n ss how p true) (Start n ss' Tag p' true) c.levels (start-token n ss' ss Tag how p' p true true))
start-kinds c n ss ss' how p p' false =
    ap (λ (ls : List Level). begun_with c (plain_level (begun_level c.doctype n false) ∷ ls)) (bare-with (Start n ss how p false) (Start n ss' Tag p' false) c.levels (start-token n ss' ss Tag how p' p false false))

by-kind : (c : Context) (p : Piece) (k : Kind) → p.kind ≡ k → context_after p c ≡ context_after (piece_of k) c
unfolding context_after
by-kind c p k e = ap (λ k. context_after (piece_of k) c) e

start-like : (c : Context) (p q : Piece) (n : Name) (ss ss' : List Specification) (how : How) (x x' once : Bool) → p.kind ≡ Start n ss how x once → q.kind ≡ Start n ss' Tag x' once
    → context_after q (bared c) ≡ bared (context_after p c)
start-like c p q n ss ss' how x x' once e k =
    by-kind (bared c) q (Start n ss' Tag x' once) k ∙ start-kinds c n ss ss' how x x' once ∙ ap bared (sym (by-kind c p (Start n ss how x once) e))

-- NO RECORD END WAITS after it
start-noted : (proper : Bool) (fs : List Facts) → (proper ≡ false → (facts_in fs).waiting ≡ false) → Quiet (without_first fs) → Quiet (first_noted (sub_or_mark proper ∷ []) fs)
unfolding noted
start-noted proper [] q h = tt
start-noted true (f ∷ fs) q h = (refl, h)
start-noted false (f ∷ fs) q h = (q refl, h)

start-quiet : (n : Name) (ss : List Specification) (how : How) (proper once : Bool) (fs : List Facts) → Quiet (first_noted (sub_or_mark proper ∷ []) fs) → Quiet (ends_after (effect (Start n ss how proper once)) (Start n ss how proper once) fs)
unfolding effect items_of
start-quiet n ss how proper true fs h = h
start-quiet n ss how proper false fs h = (refl, h)

started-quiet : (a : State) (p : Piece) (n : Name) (ss : List Specification) (how : How) (proper once : Bool) → p.kind ≡ Start n ss how proper once → (proper ≡ false → waits a ≡ false) → Quiet (without_first a.record_ends)
    → Quiet (after_piece p a).record_ends
unfolding after_piece
started-quiet a p n ss how proper once e q h =
    subst (λ k. Quiet (ends_after (effect k) k a.record_ends)) (sym e) (start-quiet n ss how proper once a.record_ends (start-noted proper a.record_ends q h))

-- ONE START
-- of which it is known that it can be written
behind-put : (P : Said → Type 0) (w : Bool) (x : Said) (xs : List Said) → AllAre P (put w ++ x ∷ xs) → P x
behind-put P true x xs h = h.1.0
behind-put P false x xs h = h.0

pub start-step : ValuesStay → (a b : State) (p : Piece) (n : Name) (ss : List Specification) (how : How) (proper once : Bool) → p.kind ≡ Start n ss how proper once → Follows a b
    → StartHolds a n ss how proper once → (once ≡ false → HasReferences (content_mode (content_of (type_of a.context.doctype n)))) → AllAre (IsWritten a.context.doctype) (events_at forms a p) → Step a.context.doctype a p b
unfolding shown
start-step l a b p n ss how proper once e f h deep w =
    let d = a.context.doctype in
    let vs = valued a (Start n ss how proper once) in
    let r = released d a b f in
    let s = r.after in
    let q = piece_in s (one_of d (Started n vs)) in
    let x = is_proper_in s.context s.context.levels (Some n) in
    let ends = again-at-once l a n ss how proper once h.has_values h.stands.noted in
    let is = written-kind s d n vs once (ap (λ (c : Context). c.doctype) r.context_is) ends in
    let c = after_piece q s in
    let es = Started n vs ∷ ended_at_once n once in
    let told : events_at forms a p ≡ put (waits a) ++ es = ap (λ k. told_by (facts_in a.record_ends) (shown forms a k)) e ∙ start-told (facts_in a.record_ends) proper es h.quiet in
    let named = behind-put (IsWritten d) (waits a) (Started n vs) (ended_at_once n once) (subst (AllAre (IsWritten d)) told w) in
    let inner = again-inside l a n ss how proper once h.has_values named.0 h.stands.known h.stands.noted deep in
    let quiet = started-quiet a p n ss how proper once e h.quiet f.quiet in
    let none : waits (after_piece p a) ≡ false = quiet-first (after_piece p a).record_ends quiet in record {
      after = c;
      written = subst (λ es. Written d b es c) (sym told)
          (then-written d b s c (put (waits a)) es r.written (start-written d s n vs once (started-may l a s n ss how proper once r.context_is h) (within-is d n vs once ends deep) (inner ∙ inside-over n once)));
      follows = record {
        plain = stays-plain q s (subst Plainly (sym is) (start-plainly n (specifications (value_read d) vs) x once)) r.plain;
        quiet = quiet-tail (after_piece p a).record_ends quiet;
        like = subst (λ w. LikeContexts w (after_piece p a) c) (sym none)
            (context-of q s ∙ ap (context_after q) r.context_is ∙ start-like a.context p q n ss (specifications (value_read d) vs) how proper x once e is ∙ ap bared (sym (context-of p a)));
      };
    }

-- ONE START of an element with CDATA content
cdata-written : (d : Doctype) (s : State) (n : Name) (vs : List Attribute) → StartMayBe s n vs → within_after d (Started n vs) ≡ InCdata false → after_said d inside.Mixed (Started n vs) ≡ inside.Characters
    → WrittenTo d InContent s (Started n vs ∷ []) (InCdata false) (after_piece (piece_in s (one_of d (Started n vs))) s)
cdata-written d s n vs k o i =
    let c = after_piece (piece_in s (one_of d (Started n vs))) s in record {
      may = λ more m. (k, i ∙ sym (ap inside_for o), subst (λ w. EventsMayBe d w c more) (sym o) m);
      state_is = λ more. ap (λ i. state_by c (spellings d i more)) i;
      inside_is = i;
    }

cdata-step : ValuesStay → (a b : State) (p : Piece) (n : Name) (ss : List Specification) (how : How) (proper : Bool) → p.kind ≡ Start n ss how proper false → Follows a b → IsReferring a.context
    → StartHolds a n ss how proper false → content_of (type_of a.context.doctype n) ≡ Cdata → AllAre (IsWritten a.context.doctype) (events_at forms a p) → StepAt a.context.doctype InContent a p b
unfolding shown
cdata-step l a b p n ss how proper e f rf h cd w =
    let d = a.context.doctype in
    let vs = valued a (Start n ss how proper false) in
    let r = released d a b f in
    let s = r.after in
    let q = piece_in s (one_of d (Started n vs)) in
    let x = is_proper_in s.context s.context.levels (Some n) in
    let ends = again-at-once l a n ss how proper false h.has_values h.stands.noted in
    let is = written-kind s d n vs false (ap (λ (c : Context). c.doctype) r.context_is) ends in
    let c = after_piece q s in
    let es = Started n vs ∷ [] in
    let told : events_at forms a p ≡ put (waits a) ++ es = ap (λ k. told_by (facts_in a.record_ends) (shown forms a k)) e ∙ start-told (facts_in a.record_ends) proper es h.quiet in
    let named = behind-put (IsWritten d) (waits a) (Started n vs) [] (subst (AllAre (IsWritten d)) told w) in
    let inner = again-cdata l a n ss how proper h.has_values named.0 h.stands.known h.stands.noted cd in
    let within : within_after d (Started n vs) ≡ InCdata false =
    ap (λ t. if t then AtEnd n else within_content (content_of (type_of d n))) ends ∙ ap within_content cd in
    let quiet = started-quiet a p n ss how proper false e h.quiet f.quiet in
    let plain = stays-plain q s (subst Plainly (sym is) (start-plainly n (specifications (value_read d) vs) x false)) r.plain in
    let like : c.context ≡ bared (after_piece p a).context =
    context-of q s ∙ ap (context_after q) r.context_is ∙ start-like a.context p q n ss (specifications (value_read d) vs) how proper x false e is ∙ ap bared (sym (context-of p a)) in
    let ls = started-levels a p n ss how proper e in
    let t = started-types a p n ss how proper false e in record {
      place = InCdata false;
      after = c;
      written = subst (λ es. WrittenTo d InContent b es (InCdata false) c) (sym told)
          (then-from d InContent InContent (InCdata false) b s c (put (waits a)) es r.written (cdata-written d s n vs (started-may l a s n ss how proper false r.context_is h) within inner));
      follows = record {
        innermost = begun_level d n (is_slash how);
        outer = levels_with (Start n ss how proper false) a.context.levels;
        levels = ls;
        mode = ap (element_mode (after_piece p a).context.doctype) ls ∙ ap (λ y. content_mode (content_of (type_of y n))) t ∙ ap content_mode cd;
        outer_modes = subst (λ y. AllAre (λ (n : Mode). n ≡ mode.Con) (map (mode_of y) (levels_with (Start n ss how proper false) a.context.levels))) (sym t)
            (outside-con a (Start n ss how proper false) h.stands.mode rf);
        quiet = quiet-tail (after_piece p a).record_ends quiet;
        written = record {
          types = ap (λ (c : Context). c.doctype) like;
          level = plain_level (begun_level d n (is_slash how));
          levels = ap (λ (c : Context). c.levels) like ∙ ap (map plain_level) ls;
          its = refl;
          begun_is = ap (λ (c : Context). c.begun) like;
          over = plain.over;
          no_section = plain.no_section;
          no_net = plain.no_net;
          no_setting = plain.no_setting;
          none_waits = quiet-tail c.record_ends plain.none_waits;
        };
      };
    }

-- EACH START
plain-start : ValuesStay → (a b : State) (p : Piece) (n : Name) (ss : List Specification) (how : How) (proper once : Bool) → p.kind ≡ Start n ss how proper once → Follows a b → IsReferring a.context
    → StartHolds a n ss how proper once → (once ≡ false → HasReferences (content_mode (content_of (type_of a.context.doctype n)))) → AllAre (IsWritten a.context.doctype) (events_at forms a p)
    → StepAt a.context.doctype InContent a p b
plain-start l a b p n ss how proper once e f rf h deep w =
    at-plain a.context.doctype a b p (start-step l a b p n ss how proper once e f h deep w) (refers-started a p n ss how proper once e h.stands.mode deep rf)

start-by : ValuesStay → (a b : State) (p : Piece) (n : Name) (ss : List Specification) (how : How) (proper once : Bool) (c : Content) → content_of (type_of a.context.doctype n) ≡ c
    → p.kind ≡ Start n ss how proper once → Follows a b → IsReferring a.context → StartHolds a n ss how proper once → AllAre (IsWritten a.context.doctype) (events_at forms a p)
    → StepAt a.context.doctype InContent a p b
start-by l a b p n ss how proper true c is e f rf h w = plain-start l a b p n ss how proper true e f rf h (λ o. true-false o) w
start-by l a b p n ss how proper false Cdata is e f rf h w = cdata-step l a b p n ss how proper e f rf h is w
start-by l a b p n ss how proper false (Model term) is e f rf h w = plain-start l a b p n ss how proper false e f rf h (λ o. subst (λ c. HasReferences (content_mode c)) (sym is) (inl refl)) w
start-by l a b p n ss how proper false Any is e f rf h w = plain-start l a b p n ss how proper false e f rf h (λ o. subst (λ c. HasReferences (content_mode c)) (sym is) (inl refl)) w
start-by l a b p n ss how proper false Rcdata is e f rf h w = plain-start l a b p n ss how proper false e f rf h (λ o. subst (λ c. HasReferences (content_mode c)) (sym is) (inr refl)) w
start-by l a b p n ss how proper false Void is e f rf h w = plain-start l a b p n ss how proper false e f rf h (λ o. subst (λ c. HasReferences (content_mode c)) (sym is) (inl refl)) w

pub each-start : ValuesStay → (a b : State) (p : Piece) (n : Name) (ss : List Specification) (how : How) (proper once : Bool) → p.kind ≡ Start n ss how proper once → Follows a b → IsReferring a.context
    → StartHolds a n ss how proper once → AllAre (IsWritten a.context.doctype) (events_at forms a p) → StepAt a.context.doctype InContent a p b
each-start l a b p n ss how proper once = start-by l a b p n ss how proper once (content_of (type_of a.context.doctype n)) refl
