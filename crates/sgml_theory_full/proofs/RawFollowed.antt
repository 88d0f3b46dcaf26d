-- What was read in CDATA content may be written as it stands.
use Rattle.std.proofs.Common.{◌≡◌, inl, inr, ℕ, Bool, true, false, not, ◌||◌, ◌==◌, List, [], ◌∷◌, ◌++◌, map, refl, sym, ◌∙◌, ap, subst, if◌then◌else◌}
use Rattle.std.specs.Prelude.{bytes_eq}
use Rattle.sgml_theory_values.specs.records.Facts.{Facts}
use Rattle.sgml_theory_values.specs.model.Term.{done}
use Rattle.sgml_theory_values.specs.delim.declared.delim.Mode.{Mode}
use Rattle.sgml_theory_values.specs.delim.declared.delim.Mode.TheVariants as mode
use Rattle.sgml_theory_values.specs.dtd.Doctypes.{Doctype}
use Rattle.sgml_theory_values.specs.theory_reading.Names.{Name}
use Rattle.sgml_theory_values.specs.theory_reading.Types.{Content, Cdata, content_of, type_of, is_declared, has_model}
use Rattle.sgml_theory_values.specs.theory_reading.Pieces.{Piece, Kind, Specification, Char, Re, Rs, Start, End, How, Tag}
use Rattle.sgml_theory_values.specs.theory_reading.Facets.{Stays, effect, items_of, stage_after, border, map_set, declares, is_start, is_slash}
use Rattle.sgml_theory_values.specs.theory_reading.Nest.{without_first}
use Rattle.sgml_theory_values.specs.theory_reading.Context.{Level, Context, context_after, levels_after, levels_with, level_with, begun_level}
use Rattle.sgml_theory_values.specs.theory_reading.Omission.{finished}
use Rattle.sgml_theory_values.specs.theory_reading.State.{State, after_piece, ends_after, first_noted}
use Rattle.sgml_theory_values.specs.theory_reading.Characters.{kind_noted, facts_in}
use Rattle.sgml_theory_values.specs.theory_reading.Events.{Event as Said, Byte, Ended, shown, told_by, events_at}
use Rattle.sgml_theory_values.specs.theory_spelling.Places.{content_mode, element_mode}
use Rattle.sgml_theory_values.specs.theory_spelling.Spelled.{forms}
use Rattle.sgml_theory_values.specs.full.declared.inside.Inside.TheVariants as inside
use Rattle.sgml_theory_values.specs.full.Spelled.{raw_byte, end_tag}
use Rattle.sgml_theory_values.specs.full.Full.{after_said}
use Rattle.sgml_theory_written.specs.Alike.{plain_level}
use Rattle.sgml_theory_full.specs.Named.{AllAre}
use Rattle.sgml_theory_full.specs.Spellings.{Spelling, spelling, line_end, raw, spellings_of, spellings}
use Rattle.sgml_theory_full.specs.Raw.{is_raw}
use Rattle.sgml_theory_full.specs.Points.{HasReferences}
use Rattle.sgml_theory_full.specs.Written.{piece_in, state_by}
use Rattle.sgml_theory_full.specs.Conforming.{IsPlain, mode_in, EndMayBe, Within, InContent, InCdata, inside_for, lines_ended}
use Rattle.sgml_theory_full.specs.Following.{waits, mode_of, AreReferring, IsReferring, LikeContexts, IsInCdata, FollowsInCdata, FollowsAt, bared, EndHolds, WrittenTo}
use Rattle.sgml_theory_full.proofs.Conforming.{Settled, Keeping, stays-settled}
use Rattle.sgml_theory_full.proofs.RawParts.{put, then-state, cdata-content, end-kind, end-keeps, ends-close}
use Rattle.sgml_theory_full.proofs.Following.{Staying, Step, Quiet, with_levels, context-stays, context-of, quiet-rest, none-from, then-from}
use Rattle.sgml_theory_full.proofs.EndFollowed.{head-of, quiet-first, quiet-tail, end-may, ends-ended, state-ended, finished-of, innermost-ended}

-- ONE PIECE of what was read, wherever it stands
pub record StepAt (d : Doctype) (w : Within) (a : State) (p : Piece) (b : State) : Type 0 where
  pub place : Within
  pub after : State
  pub written : WrittenTo d w b (events_at forms a p) place after
  pub follows : FollowsAt place (after_piece p a) after

-- WHAT IS WRITTEN stays in the element
abbrev IsInner : Kind → Type 0
IsInner k = Keeping k × (effect k ≡ Stays) × (is_start k ≡ false)

abbrev InnerSpelling : Spelling → Type 0
InnerSpelling x = (s : State) → IsInner (piece_in s x).kind

re-inner : InnerSpelling (spelling (Re true) (13 ∷ []))
unfolding kind_noted stage_after border map_set effect declares is_start
re-inner s = (record { stage = refl; no_border = refl; no_map = refl; no_slash = tt; types = λ d. refl }, refl, refl)

rs-inner : InnerSpelling (spelling Rs (10 ∷ []))
unfolding kind_noted stage_after border map_set effect declares is_start
rs-inner s = (record { stage = refl; no_border = refl; no_map = refl; no_slash = tt; types = λ d. refl }, refl, refl)

char-inner : (b : ℕ) → InnerSpelling (spelling (Char b) (b ∷ []))
unfolding kind_noted stage_after border map_set effect declares is_start
char-inner b s = (record { stage = refl; no_border = refl; no_map = refl; no_slash = tt; types = λ d. refl }, refl, refl)

lines-inner : AllAre InnerSpelling line_end
lines-inner = (re-inner, (rs-inner, tt))

raw-inner : (b : ℕ) → AllAre InnerSpelling (raw b)
raw-inner b = by (raw_byte b == 10)
  where
    by : (t : Bool) → AllAre InnerSpelling (if t then line_end else spelling (Char b) (b ∷ []) ∷ [])
    by true = lines-inner
    by false = (char-inner b, tt)

settled-of : (d : Doctype) (e : Name) (o : List Level) (g : Bool) (b : State) → IsInCdata d e o g b → Settled b
settled-of d e o g b h = record { over = h.over; no_section = h.no_section; no_net = h.no_net; no_setting = h.no_setting }

types-keep : (p : Piece) (b : State) → Keeping p.kind → (after_piece p b).context.doctype ≡ b.context.doctype
unfolding after_piece context_after
types-keep p b k = k.types b.context.doctype

levels-keep : (p : Piece) (b : State) → effect p.kind ≡ Stays → (after_piece p b).context.levels ≡ levels_with p.kind b.context.levels
unfolding after_piece context_after
levels-keep p b e = ap (λ x. levels_after b.context.doctype x p.kind b.context.levels) e

begun-keep : (p : Piece) (b : State) → is_start p.kind ≡ false → (after_piece p b).context.begun ≡ b.context.begun
unfolding after_piece context_after
begun-keep p b e = ap (λ t. t || b.context.begun) e

ends-keep : (p : Piece) (b : State) → effect p.kind ≡ Stays → (after_piece p b).record_ends ≡ first_noted (items_of p.kind) b.record_ends
unfolding after_piece
ends-keep p b e = ap (λ x. ends_after x p.kind b.record_ends) e

inner-keeps : (d : Doctype) (e : Name) (o : List Level) (g : Bool) (p : Piece) (b : State) → IsInner p.kind → IsInCdata d e o g b → IsInCdata d e o g (after_piece p b)
inner-keeps d e o g p b i h =
    let s = stays-settled p b i.0 (settled-of d e o g b h) in record {
      types = types-keep p b i.0 ∙ h.types;
      level = level_with p.kind h.level;
      levels = levels-keep p b i.1 ∙ ap (levels_with p.kind) h.levels;
      its = h.its;
      begun_is = begun-keep p b i.2 ∙ h.begun_is;
      over = s.over;
      no_section = s.no_section;
      no_net = s.no_net;
      no_setting = s.no_setting;
      none_waits = subst (λ fs. AllAre (λ (f : Facts). f.waiting ≡ false) (without_first fs)) (sym (ends-keep p b i.1)) (quiet-rest (items_of p.kind) b.record_ends h.none_waits);
    }

all-keep : (d : Doctype) (e : Name) (o : List Level) (g : Bool) (xs : List Spelling) (b : State) → AllAre InnerSpelling xs → IsInCdata d e o g b → IsInCdata d e o g (state_by b xs)
all-keep d e o g [] b i h = h
all-keep d e o g (x ∷ xs) b i h = all-keep d e o g xs (after_piece (piece_in b x) b) i.1 (inner-keeps d e o g (piece_in b x) b (i.0 b) h)

both-inner : (xs ys : List Spelling) → AllAre InnerSpelling xs → AllAre InnerSpelling ys → AllAre InnerSpelling (xs ++ ys)
both-inner [] ys h k = k
both-inner (x ∷ xs) ys h k = (h.0, both-inner xs ys h.1 k)

datum-inner : (d : Doctype) (t : Bool) (x : ℕ) → AllAre InnerSpelling (spellings_of d (inside_for (InCdata t)) (Byte x))
datum-inner d true x = raw-inner x
datum-inner d false x = both-inner line_end (raw x) lines-inner (raw-inner x)

-- its mode
cdata-mode : (d : Doctype) (e : Name) (o : List Level) (g : Bool) (b : State) → content_mode (content_of (type_of d e)) ≡ mode.Cdt → IsInCdata d e o g b → mode_in b ≡ mode.Cdt
cdata-mode d e o g b m h =
    ap (element_mode b.context.doctype) h.levels
    ∙ ap (λ x. content_mode (content_of (type_of x h.level.element))) h.types
    ∙ ap (λ n. content_mode (content_of (type_of d n))) h.its
    ∙ m

-- ONE BYTE, and several
pub record BytesWritten (d : Doctype) (e : Name) (o : List Level) (g : Bool) (w : Within) (b : State) (es : List Said) : Type 0 where
  pub place : Bool
  pub after : State
  pub written : WrittenTo d w b es (InCdata place) after
  pub inside_it : IsInCdata d e o g after

after-raw : (d : Doctype) (t : Bool) (x : ℕ) → after_said d (inside_for (InCdata t)) (Byte x) ≡ inside.Lines
after-raw d true x = refl
after-raw d false x = refl

byte-written : (d : Doctype) (e : Name) (o : List Level) (g t : Bool) (b : State) (x : ℕ) → content_mode (content_of (type_of d e)) ≡ mode.Cdt → is_raw x ≡ true → IsInCdata d e o g b
    → BytesWritten d e o g (InCdata t) b (Byte x ∷ [])
byte-written d e o g t b x m r h =
    let xs = spellings_of d (inside_for (InCdata t)) (Byte x) in record {
      place = true;
      after = state_by b xs;
      written = record {
        may = λ more k. (record { mode = cdata-mode d e o g b m h; character = r }, k);
        state_is = λ more.
            then-state b xs (spellings d (after_said d (inside_for (InCdata t)) (Byte x)) more)
            ∙ ap (λ i. state_by (state_by b xs) (spellings d i more)) (after-raw d t x);
        inside_is = after-raw d t x;
      };
      inside_it = all-keep d e o g xs b (datum-inner d t x) h;
    }

put-written : (d : Doctype) (e : Name) (o : List Level) (g t v : Bool) (b : State) → content_mode (content_of (type_of d e)) ≡ mode.Cdt → IsInCdata d e o g b → BytesWritten d e o g (InCdata t) b (put v)
put-written d e o g t true b m h = byte-written d e o g t b 13 m refl h
put-written d e o g t false b m h = record { place = t; after = b; written = none-from d (InCdata t) b; inside_it = h }

data-written : (d : Doctype) (e : Name) (o : List Level) (g t v : Bool) (b : State) (x : ℕ) → content_mode (content_of (type_of d e)) ≡ mode.Cdt → is_raw x ≡ true → IsInCdata d e o g b
    → BytesWritten d e o g (InCdata t) b (put v ++ Byte x ∷ [])
data-written d e o g t v b x m r h =
    let one = put-written d e o g t v b m h in
    let two = byte-written d e o g one.place one.after x m r one.inside_it in record {
      place = two.place;
      after = two.after;
      written = then-from d (InCdata t) (InCdata one.place) (InCdata two.place) b one.after two.after (put v) (Byte x ∷ []) one.written two.written;
      inside_it = two.inside_it;
    }

-- WHAT WAS READ in it
its-mode : (a b : State) (f : FollowsInCdata a b) → content_mode (content_of (type_of a.context.doctype f.innermost.element)) ≡ mode.Cdt
its-mode a b f = sym (ap (element_mode a.context.doctype) f.levels) ∙ f.mode

follows-stays : (a b c : State) (p : Piece) → Staying p.kind → (f : FollowsInCdata a b) → IsInCdata a.context.doctype f.innermost.element (map plain_level f.outer) a.context.begun c → FollowsInCdata (after_piece p a) c
follows-stays a b c p s f i =
    let is : (after_piece p a).context ≡ with_levels a.context (levels_with p.kind a.context.levels) = context-of p a ∙ context-stays p a.context s in
    let t = ap (λ (x : Context). x.doctype) is in
    let l : (after_piece p a).context.levels ≡ level_with p.kind f.innermost ∷ f.outer = ap (λ (x : Context). x.levels) is ∙ ap (levels_with p.kind) f.levels in
    let g = ap (λ (x : Context). x.begun) is in record {
      innermost = level_with p.kind f.innermost;
      outer = f.outer;
      levels = l;
      mode = ap (element_mode (after_piece p a).context.doctype) l ∙ ap (λ d. content_mode (content_of (type_of d f.innermost.element))) t ∙ its-mode a b f;
      outer_modes = subst (λ d. AllAre (λ (n : Mode). n ≡ mode.Con) (map (mode_of d) f.outer)) (sym t) f.outer_modes;
      quiet = subst (λ fs. AllAre (λ (f : Facts). f.waiting ≡ false) (without_first fs)) (sym (ends-keep p a s.stays)) (quiet-rest (items_of p.kind) a.record_ends f.quiet);
      written = subst (λ g. IsInCdata (after_piece p a).context.doctype f.innermost.element (map plain_level f.outer) g c) (sym g)
          (subst (λ d. IsInCdata d f.innermost.element (map plain_level f.outer) a.context.begun c) (sym t) i);
    }

-- a piece that tells these bytes
pub told-step : (d : Doctype) (t : Bool) (a b : State) (p : Piece) (es : List Said) → a.context.doctype ≡ d → Staying p.kind → events_at forms a p ≡ es → (f : FollowsInCdata a b)
    → BytesWritten a.context.doctype f.innermost.element (map plain_level f.outer) a.context.begun (InCdata t) b es → StepAt d (InCdata t) a p b
told-step d t a b p es y s told f w = subst (λ d. StepAt d (InCdata t) a p b) y (record {
  place = InCdata w.place;
  after = w.after;
  written = subst (λ es. WrittenTo a.context.doctype (InCdata t) b es (InCdata w.place) w.after) (sym told) w.written;
  follows = follows-stays a b w.after p s f w.inside_it;
})

pub char-raw : (d : Doctype) (t : Bool) (a b : State) (p : Piece) (x : ℕ) → a.context.doctype ≡ d → Staying p.kind → events_at forms a p ≡ put (waits a) ++ Byte x ∷ [] → is_raw x ≡ true → FollowsInCdata a b
    → StepAt d (InCdata t) a p b
char-raw d t a b p x y s told r f =
    told-step d t a b p (put (waits a) ++ Byte x ∷ []) y s told f
    (data-written a.context.doctype f.innermost.element (map plain_level f.outer) a.context.begun t (waits a) b x (its-mode a b f) r f.written)

pub live-raw : (d : Doctype) (t : Bool) (a b : State) (p : Piece) → a.context.doctype ≡ d → Staying p.kind → events_at forms a p ≡ put (waits a) → FollowsInCdata a b → StepAt d (InCdata t) a p b
live-raw d t a b p y s told f =
    told-step d t a b p (put (waits a)) y s told f (put-written a.context.doctype f.innermost.element (map plain_level f.outer) a.context.begun t (waits a) b (its-mode a b f) f.written)

pub silent-raw : (d : Doctype) (t : Bool) (a b : State) (p : Piece) → a.context.doctype ≡ d → Staying p.kind → events_at forms a p ≡ [] → FollowsInCdata a b → StepAt d (InCdata t) a p b
silent-raw d t a b p y s told f =
    told-step d t a b p [] y s told f (record { place = t; after = b; written = none-from a.context.doctype (InCdata t) b; inside_it = f.written })

-- THE END of the element
ending : (d : Doctype) (t : Bool) (n : Name) (more : List Said) → spellings d (inside_for (InCdata t)) (Ended n ∷ more) ≡ spellings_of d (inside_for (InCdata t)) (Ended n) ++ spellings d inside.Mixed more
ending d true n more = refl
ending d false n more = refl

lines-keep : (d : Doctype) (e : Name) (o : List Level) (g t : Bool) (b : State) → IsInCdata d e o g b → IsInCdata d e o g (state_by b (lines_ended t))
lines-keep d e o g true b h = all-keep d e o g line_end b lines-inner h
lines-keep d e o g false b h = h

end-of : (d : Doctype) (t : Bool) (n : Name) (b : State)
    → state_by b (spellings_of d (inside_for (InCdata t)) (Ended n)) ≡ state_by (state_by b (lines_ended t)) (spellings_of d inside.Mixed (Ended n))
end-of d true n b = refl
end-of d false n b = refl

no-model : (c : Content) → c ≡ Cdata → not (has_model c) ≡ true
no-model c e = ap (λ x. not (has_model x)) e

raw-finished : (d : Doctype) (e : Name) (o : List Level) (g : Bool) (b : State) → content_mode (content_of (type_of d e)) ≡ mode.Cdt → IsInCdata d e o g b → finished b.context ≡ true
raw-finished d e o g b m h =
    finished-of b.context h.level o h.levels
    ∙ ap (λ t. t || done h.level.left) (no-model (content_of (type_of b.context.doctype h.level.element)) (cdata-content (content_of (type_of b.context.doctype h.level.element)) (sym (ap (element_mode b.context.doctype) h.levels) ∙ cdata-mode d e o g b m h)))

pub modes-con : (d : Doctype) (ls : List Level) → AllAre (λ (n : Mode). n ≡ mode.Con) (map (mode_of d) ls) → AreReferring (map (mode_of d) ls)
modes-con d [] h = tt
modes-con d (l ∷ ls) h = (inl h.0, h.1)

raw-may : (d : Doctype) (e : Name) (o : List Level) (g : Bool) (b : State) (n : Name) → content_mode (content_of (type_of d e)) ≡ mode.Cdt → is_declared d n ≡ true → bytes_eq n e ≡ true → IsInCdata d e o g b → EndMayBe b n
raw-may d e o g b n m k t i =
    end-may b n (ap (λ x. is_declared x n) i.types ∙ k) (inr (cdata-mode d e o g b m i)) (innermost-ended b.context n i.level o i.levels (ap (bytes_eq n) i.its ∙ t)) (raw-finished d e o g b m i)

raw-plain : (d : Doctype) (e : Name) (o : List Level) (g : Bool) (b : State) (n : Name) → IsInCdata d e o g b → IsPlain (state_by b (spellings_of d inside.Mixed (Ended n)))
raw-plain d e o g b n i =
    let p = piece_in b (spelling (End n Tag) (end_tag n)) in
    let h = stays-settled p b (subst Keeping (sym (end-kind b n)) (end-keeps n)) (settled-of d e o g b i) in record {
      over = h.over;
      no_section = h.no_section;
      no_net = h.no_net;
      no_setting = h.no_setting;
      none_waits = subst (AllAre (λ (f : Facts). f.waiting ≡ false)) (sym (ends-close b p n (end-kind b n))) i.none_waits;
    }

raw-outside : (a b : State) (l : Level) (o : List Level) → a.context.levels ≡ l ∷ o → IsInCdata a.context.doctype l.element (map plain_level o) a.context.begun b
    → with_levels b.context (without_first b.context.levels) ≡ bared (with_levels a.context (without_first a.context.levels))
raw-outside a b l o k i = λ j. record {
  doctype = i.types j;
  levels = (ap (λ (ls : List Level). without_first ls) i.levels ∙ ap (λ (ls : List Level). map plain_level (without_first ls)) (sym k)) j;
  begun = i.begun_is j;
  inferred = false;
}

pub raw-end : (t : Bool) (a b : State) (p : Piece) (n : Name) (how : How) → p.kind ≡ End n how → FollowsInCdata a b → EndHolds a n → StepAt a.context.doctype (InCdata t) a p b
unfolding shown
raw-end t a b p n how e f h =
    let d = a.context.doctype in
    let o = map plain_level f.outer in
    let m = its-mode a b f in
    let its : bytes_eq n f.innermost.element ≡ true = subst (λ (l : Level). bytes_eq n l.element ≡ true) (head-of h.stands.innermost f.innermost h.stands.outer f.outer (sym h.stands.levels ∙ f.levels)) h.stands.its in
    let b1 = state_by b (lines_ended t) in
    let i = lines-keep d f.innermost.element o a.context.begun t b f.written in
    let xs = spellings_of d (inside_for (InCdata t)) (Ended n) in
    let c = state_by b xs in
    let may = raw-may d f.innermost.element o a.context.begun b1 n m h.stands.known its i in
    let told : events_at forms a p ≡ Ended n ∷ [] = ap (λ k. told_by (facts_in a.record_ends) (shown forms a k)) e in
    let ends = ends-ended a p n how e in
    let none : waits (after_piece p a) ≡ false = ap (λ fs. (facts_in fs).waiting) ends ∙ quiet-first (without_first a.record_ends) f.quiet in
    let same : c ≡ state_by b1 (spellings_of d inside.Mixed (Ended n)) = end-of d t n b in
    let outside : c.context ≡ bared (after_piece p a).context =
    ap (λ (s : State). s.context) same
    ∙ state-ended b1 (piece_in b1 (spelling (End n Tag) (end_tag n))) n Tag (end-kind b1 n)
    ∙ raw-outside a b1 f.innermost f.outer f.levels i
    ∙ ap bared (sym (state-ended a p n how e)) in record {
      place = InContent;
      after = c;
      written = subst (λ es. WrittenTo d (InCdata t) b es InContent c) (sym told) (record {
        may = λ more k. (may, k);
        state_is = λ more. ap (state_by b) (ending d t n more) ∙ then-state b xs (spellings d inside.Mixed more);
        inside_is = refl;
      });
      follows = (
        record {
          plain = subst IsPlain (sym same) (raw-plain d f.innermost.element o a.context.begun b1 n i);
          quiet = subst (λ fs. Quiet (without_first fs)) (sym ends) (quiet-tail (without_first a.record_ends) f.quiet);
          like = subst (λ w. LikeContexts w (after_piece p a) c) (sym none) outside;
        },
        subst IsReferring (sym (state-ended a p n how e)) (subst (λ ls. AreReferring (map (mode_of d) (without_first ls))) (sym f.levels) (modes-con d f.outer f.outer_modes)),
      );
    }

-- WHERE REFERENCES ARE RECOGNISED, the element and those outside it stay so
modes-with : (d : Doctype) (k : Kind) (ls : List Level) → map (mode_of d) (levels_with k ls) ≡ map (mode_of d) ls
modes-with d k [] = refl
modes-with d k (l ∷ ls) = refl

pub refers-stays : (a : State) (p : Piece) → Staying p.kind → IsReferring a.context → IsReferring (after_piece p a).context
refers-stays a p s r =
    subst IsReferring (sym (context-of p a ∙ context-stays p a.context s)) (subst AreReferring (sym (modes-with a.context.doctype p.kind a.context.levels)) r)

outer-refers : (d : Doctype) (ls : List Level) → AreReferring (map (mode_of d) ls) → AreReferring (map (mode_of d) (without_first ls))
outer-refers d [] r = tt
outer-refers d (l ∷ []) r = tt
outer-refers d (l ∷ m ∷ ms) r = (inl r.1.0, r.1.1)

pub refers-ended : (a : State) (p : Piece) (n : Name) (how : How) → p.kind ≡ End n how → IsReferring a.context → IsReferring (after_piece p a).context
refers-ended a p n how e r = subst IsReferring (sym (state-ended a p n how e)) (outer-refers a.context.doctype a.context.levels r)

all-con : (d : Doctype) (ls : List Level) → element_mode d ls ≡ mode.Con → AreReferring (map (mode_of d) ls) → AllAre (λ (n : Mode). n ≡ mode.Con) (map (mode_of d) ls)
all-con d [] e r = tt
all-con d (l ∷ ls) e r = (e, r.1)

pub outside-con : (a : State) (k : Kind) → mode_in a ≡ mode.Con → IsReferring a.context → AllAre (λ (n : Mode). n ≡ mode.Con) (map (mode_of a.context.doctype) (levels_with k a.context.levels))
outside-con a k m r =
    subst (AllAre (λ (n : Mode). n ≡ mode.Con)) (sym (modes-with a.context.doctype k a.context.levels)) (all-con a.context.doctype a.context.levels m r)

-- where a start was read
pub started-levels : (a : State) (p : Piece) (n : Name) (ss : List Specification) (how : How) (x : Bool) → p.kind ≡ Start n ss how x false
    → (after_piece p a).context.levels ≡ begun_level a.context.doctype n (is_slash how) ∷ levels_with (Start n ss how x false) a.context.levels
unfolding after_piece context_after effect
started-levels a p n ss how x e = ap (λ k. levels_after a.context.doctype (effect k) k a.context.levels) e

pub started-types : (a : State) (p : Piece) (n : Name) (ss : List Specification) (how : How) (x once : Bool) → p.kind ≡ Start n ss how x once → (after_piece p a).context.doctype ≡ a.context.doctype
unfolding after_piece context_after declares
started-types a p n ss how x once e = ap (λ k. declares k a.context.doctype) e

once-levels : (a : State) (p : Piece) (n : Name) (ss : List Specification) (how : How) (x : Bool) → p.kind ≡ Start n ss how x true
    → (after_piece p a).context.levels ≡ levels_with (Start n ss how x true) a.context.levels
unfolding after_piece context_after effect
once-levels a p n ss how x e = ap (λ k. levels_after a.context.doctype (effect k) k a.context.levels) e

referring-by : (c : Context) (d : Doctype) (ls : List Level) → c.doctype ≡ d → c.levels ≡ ls → AreReferring (map (mode_of d) ls) → IsReferring c
referring-by c d ls e k r = subst (λ x. AreReferring (map (mode_of x) c.levels)) (sym e) (subst (λ l. AreReferring (map (mode_of d) l)) (sym k) r)

pub refers-started : (a : State) (p : Piece) (n : Name) (ss : List Specification) (how : How) (x once : Bool) → p.kind ≡ Start n ss how x once → mode_in a ≡ mode.Con
    → (once ≡ false → HasReferences (content_mode (content_of (type_of a.context.doctype n)))) → IsReferring a.context → IsReferring (after_piece p a).context
refers-started a p n ss how x true e m deep r =
    referring-by (after_piece p a).context a.context.doctype (levels_with (Start n ss how x true) a.context.levels) (started-types a p n ss how x true e) (once-levels a p n ss how x e)
    (subst AreReferring (sym (modes-with a.context.doctype (Start n ss how x true) a.context.levels)) r)
refers-started a p n ss how x false e m deep r =
    referring-by (after_piece p a).context a.context.doctype (begun_level a.context.doctype n (is_slash how) ∷ levels_with (Start n ss how x false) a.context.levels)
    (started-types a p n ss how x false e) (started-levels a p n ss how x e) (deep refl, outside-con a (Start n ss how x false) m r)

pub at-plain : (d : Doctype) (a b : State) (p : Piece) → Step d a p b → IsReferring (after_piece p a).context → StepAt d InContent a p b
at-plain d a b p s r = record { place = InContent; after = s.after; written = s.written; follows = (s.follows, r) }
