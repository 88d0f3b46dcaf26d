-- The end of an element that was read may be written. A record end that waits in the element is ignored (7.6.1): what is
-- left of its model where the datum was not written may end too.
use Rattle.std.proofs.Common.{◌≡◌, Bool, true, false, not, ◌||◌, List, [], ◌∷◌, map, Some, None, refl, sym, ◌∙◌, ap, subst, if◌then◌else◌}
use Rattle.std.specs.Prelude.{bytes_eq}
use Rattle.sgml_theory_values.specs.records.Facts.{Facts}
use Rattle.sgml_theory_values.specs.model.Term.{done}
use Rattle.sgml_theory_values.specs.text.declared.reason.Reason.TheVariants.{Undefined}
use Rattle.sgml_theory_values.specs.dtd.Doctypes.{Doctype}
use Rattle.sgml_theory_values.specs.theory_reading.Names.{Name}
use Rattle.sgml_theory_values.specs.theory_reading.Types.{is_declared, content_of, type_of, has_model}
use Rattle.sgml_theory_values.specs.theory_reading.Pieces.{Piece, End, Char, How, Tag}
use Rattle.sgml_theory_values.specs.theory_reading.Facets.{effect, token, declares, is_start, is_omitted_start, is_finish, turn}
use Rattle.sgml_theory_values.specs.theory_reading.Nest.{without_first}
use Rattle.sgml_theory_values.specs.theory_reading.Context.{Level, Context, context_after, levels_with, levels_after, token_taken}
use Rattle.sgml_theory_values.specs.theory_reading.Omission.{left_in, finished, finished_in, inside_of_ended, inside_of_first, counted, ended_by}
use Rattle.sgml_theory_values.specs.theory_reading.State.{State, after_piece, ends_after}
use Rattle.sgml_theory_values.specs.theory_reading.Characters.{kind_noted, facts_in}
use Rattle.sgml_theory_values.specs.theory_reading.Reads.{judged, unless_declared}
use Rattle.sgml_theory_values.specs.theory_reading.Events.{Ended, shown, told_by, events_at}
use Rattle.sgml_theory_values.specs.theory_spelling.Attributes.{unvalued}
use Rattle.sgml_theory_values.specs.theory_spelling.Spelled.{forms}
use Rattle.sgml_theory_full.specs.Points.{HasEndTags}
use Rattle.sgml_theory_full.specs.Written.{piece_in}
use Rattle.sgml_theory_full.specs.Conforming.{mode_in, EndMayBe}
use Rattle.sgml_theory_written.specs.Alike.{plain_level}
use Rattle.sgml_theory_full.specs.Following.{waits, EndHolds, bared, datum, LikeContexts, Follows}
use Rattle.sgml_theory_full.proofs.Conforming.{Plainly, stays-plain, end-plainly}
use Rattle.sgml_theory_full.proofs.Told.{one_of}
use Rattle.sgml_theory_full.proofs.Endable.{text-done}
use Rattle.sgml_theory_full.proofs.Following.{Written, Step, Quiet, with_levels, context-stays, char-stays, char-token, mode-like}

-- THE INNERMOST ELEMENT of the written state, and those outside it
record Innermost (b : State) (d : Doctype) (l : Level) (outer : List Level) (begun : Bool) : Type 0 where
  level : Level
  levels : b.context.levels ≡ level ∷ map plain_level outer
  element : level.element ≡ l.element
  types : b.context.doctype ≡ d
  begun_is : b.context.begun ≡ begun
  ends : done l.left ≡ true → done level.left ≡ true

pub head-of : (k l : Level) (ks ls : List Level) → k ∷ ks ≡ l ∷ ls → k ≡ l
head-of k l ks ls e = cc

tail-of : (k l : Level) (ks ls : List Level) → k ∷ ks ≡ l ∷ ls → ks ≡ ls
tail-of k l ks ls e = cc

none-is : {A : Type 0} (l : Level) (ls : List Level) → [] ≡ l ∷ ls → A
none-is l ls e = absurd (never e)
  where
    never : [] ≡ l ∷ ls → ⊥
    never e = cc

-- where a datum was left out
with-datum : (b : State) (ks : List Level) (l : Level) (outer : List Level) (d : Doctype) (begun : Bool) → b.context.levels ≡ ks → levels_with (Char 0) ks ≡ plain_level l ∷ map plain_level outer
    → b.context.doctype ≡ d → b.context.begun ≡ begun → Innermost b d l outer begun
with-datum b [] l outer d begun k e t g = none-is (plain_level l) (map plain_level outer) e
with-datum b (m ∷ ms) l outer d begun k e t g =
    let taken : Level = record { element = m.element; left = token_taken (token (Char 0)) m.left; slash = m.slash } in
    let same : taken ≡ plain_level l = head-of taken (plain_level l) ms (map plain_level outer) e in record {
      level = m;
      levels = k ∙ ap (λ x. m ∷ x) (tail-of taken (plain_level l) ms (map plain_level outer) e);
      element = ap (λ (x : Level). x.element) same;
      types = t;
      begun_is = g;
      ends = λ h. text-done m.left (ap done (sym (ap (λ t. token_taken t m.left) (char-token 0)) ∙ ap (λ (x : Level). x.left) same) ∙ h);
    }

innermost : (a b : State) (w : Bool) (l : Level) (outer : List Level) → a.context.levels ≡ l ∷ outer → LikeContexts w a b → Innermost b a.context.doctype l outer a.context.begun
innermost a b false l outer k e = record {
  level = plain_level l;
  levels = ap (λ (c : Context). c.levels) e ∙ ap (map plain_level) k;
  element = refl;
  types = ap (λ (c : Context). c.doctype) e;
  begun_is = ap (λ (c : Context). c.begun) e;
  ends = λ h. h;
}
innermost a b true l outer k e =
    let is : with_levels b.context (levels_with (Char 0) b.context.levels) ≡ bared a.context = sym (context-stays datum b.context (char-stays 0)) ∙ e.0 in
    with-datum b b.context.levels l outer a.context.doctype a.context.begun refl (ap (λ (c : Context). c.levels) is ∙ ap (map plain_level) k)
    (ap (λ (c : Context). c.doctype) is) (ap (λ (c : Context). c.begun) is)

-- IT MAY END, as the one that was read
finished-at : (c : Context) (ks : List Level) (l : Level) (ls : List Level) → c.levels ≡ ks → ks ≡ l ∷ ls → finished_in c ks ≡ (not (has_model (content_of (type_of c.doctype l.element))) || done l.left)
finished-at c [] l ls k e = none-is l ls e
finished-at c (m ∷ ms) l ls k e =
    ap (λ x. not (has_model (content_of (type_of c.doctype m.element))) || done (left_in c.doctype x c.begun)) k
    ∙ ap (λ (x : Level). not (has_model (content_of (type_of c.doctype x.element))) || done x.left) (head-of m l ms ls e)

pub finished-of : (c : Context) (l : Level) (ls : List Level) → c.levels ≡ l ∷ ls → finished c ≡ (not (has_model (content_of (type_of c.doctype l.element))) || done l.left)
unfolding finished
finished-of c l ls e = finished-at c c.levels l ls refl e

or-then : (m t u : Bool) → (m || t) ≡ true → (t ≡ true → u ≡ true) → (m || u) ≡ true
or-then true t u h k = refl
or-then false t u h k = k h

ends-too : (a b : State) (l : Level) (outer : List Level) → a.context.levels ≡ l ∷ outer → Innermost b a.context.doctype l outer a.context.begun → finished a.context ≡ true → finished b.context ≡ true
ends-too a b l outer k i h =
    let content = content_of (type_of a.context.doctype l.element) in
    finished-of b.context i.level (map plain_level outer) i.levels
    ∙ ap (λ x. not (has_model (content_of (type_of x i.level.element))) || done i.level.left) i.types
    ∙ ap (λ x. not (has_model (content_of (type_of a.context.doctype x))) || done i.level.left) i.element
    ∙ or-then (not (has_model content)) (done l.left) (done i.level.left) (sym (finished-of a.context l outer k) ∙ h) i.ends

pub innermost-ended : (c : Context) (n : Name) (l : Level) (ls : List Level) → c.levels ≡ l ∷ ls → bytes_eq n l.element ≡ true → inside_of_ended c (End n Tag) ≡ Some 0
unfolding inside_of_ended
innermost-ended c n l ls e h = ap (ended_by n Tag) e ∙ ap (λ t. counted t (inside_of_first (λ (l : Level). bytes_eq n l.element) ls)) h

pub declared-none : (d : Doctype) (n : Name) → is_declared d n ≡ true → unless_declared d n ≡ None
declared-none d n h = ap (λ t. if t then None else Some Undefined) h

pub end-may : (b : State) (n : Name) → is_declared b.context.doctype n ≡ true → HasEndTags (mode_in b) → inside_of_ended b.context (End n Tag) ≡ Some 0 → finished b.context ≡ true → EndMayBe b n
unfolding token unvalued turn is_finish
end-may b n d m i f = record { mode = m; stands = record { declared = declared-none b.context.doctype n d; stands = (i, f); valued = refl; within = refl; goes_on = refl } }

end-noted : (b : State) (n : Name) → kind_noted b (End n Tag) ≡ End n Tag
unfolding kind_noted
end-noted b n = refl

-- AFTER IT
context-ended : (c : Context) (p : Piece) (n : Name) (how : How) → p.kind ≡ End n how → context_after p c ≡ with_levels c (without_first c.levels)
unfolding context_after effect declares is_start is_omitted_start
context-ended c p n how e = λ i. record {
  doctype = declares (e i) c.doctype;
  levels = levels_after c.doctype (effect (e i)) (e i) c.levels;
  begun = is_start (e i) || c.begun;
  inferred = is_omitted_start (e i);
}

pub state-ended : (s : State) (p : Piece) (n : Name) (how : How) → p.kind ≡ End n how → (after_piece p s).context ≡ with_levels s.context (without_first s.context.levels)
unfolding after_piece
state-ended s p n how e = context-ended s.context p n how e

pub ends-ended : (s : State) (p : Piece) (n : Name) (how : How) → p.kind ≡ End n how → (after_piece p s).record_ends ≡ without_first s.record_ends
unfolding after_piece effect
ends-ended s p n how e = ap (λ k. ends_after (effect k) k s.record_ends) e

pub quiet-first : (fs : List Facts) → Quiet fs → (facts_in fs).waiting ≡ false
quiet-first [] h = refl
quiet-first (f ∷ fs) h = h.0

pub quiet-tail : (fs : List Facts) → Quiet fs → Quiet (without_first fs)
quiet-tail [] h = tt
quiet-tail (f ∷ fs) h = h.1

like-ended : (a b : State) (l : Level) (outer : List Level) → a.context.levels ≡ l ∷ outer → Innermost b a.context.doctype l outer a.context.begun
    → with_levels b.context (without_first b.context.levels) ≡ bared (with_levels a.context (without_first a.context.levels))
like-ended a b l outer k i = λ j. record {
  doctype = i.types j;
  levels = (ap (λ (ls : List Level). without_first ls) i.levels ∙ ap (λ (ls : List Level). map plain_level (without_first ls)) (sym k)) j;
  begun = i.begun_is j;
  inferred = false;
}

-- ONE END
pub end-step : (a b : State) (p : Piece) (n : Name) (how : How) → p.kind ≡ End n how → Follows a b → EndHolds a n → Step a.context.doctype a p b
unfolding shown
end-step a b p n how e f h =
    let d = a.context.doctype in
    let i = innermost a b (waits a) h.stands.innermost h.stands.outer h.stands.levels f.like in
    let q = piece_in b (one_of d (Ended n)) in
    let is : q.kind ≡ End n Tag = ap (judged b.context) (end-noted b n) in
    let c = after_piece q b in
    let may = end-may b n (ap (λ x. is_declared x n) i.types ∙ h.stands.known) (subst HasEndTags (sym (mode-like a b (waits a) f.like)) h.mode)
    (innermost-ended b.context n i.level (map plain_level h.stands.outer) i.levels (ap (bytes_eq n) i.element ∙ h.stands.its))
    (ends-too a b h.stands.innermost h.stands.outer h.stands.levels i h.stands.done) in
    let told : events_at forms a p ≡ Ended n ∷ [] = ap (λ k. told_by (facts_in a.record_ends) (shown forms a k)) e in
    let ends = ends-ended a p n how e in
    let none : waits (after_piece p a) ≡ false = ap (λ fs. (facts_in fs).waiting) ends ∙ quiet-first (without_first a.record_ends) f.quiet in record {
      after = c;
      written = subst (λ es. Written d b es c) (sym told) (record { may = λ more k. (may, refl, k); state_is = λ more. refl; inside_is = refl });
      follows = record {
        plain = stays-plain q b (subst Plainly (sym is) (end-plainly n)) f.plain;
        quiet = subst (λ fs. Quiet (without_first fs)) (sym ends) (quiet-tail (without_first a.record_ends) f.quiet);
        like = subst (λ w. LikeContexts w (after_piece p a) c) (sym none)
            (state-ended b q n Tag is ∙ like-ended a b h.stands.innermost h.stands.outer h.stands.levels i ∙ ap bared (sym (state-ended a p n how e)));
      };
    }
