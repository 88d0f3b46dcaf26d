-- Markup that stands alone is a move that stands next, and what is kept after it holds what is held after it.
use Rattle.std.specs.Prelude.{◌≡◌, ℕ, ◌<◌, ◌≤◌, Bool, true, false, List, [], ◌∷◌, zero, suc, length, take, All, ◌++◌, Ok, Err, None}
use Rattle.std.proofs.Common.{refl, sym, ap, ◌∙◌, subst, arith, append-nil}
use Rattle.sgml_inside.specs.records.Items.{Markup}
use Rattle.sgml_scan.specs.declared.state.ScanState.{ScanState}
use Rattle.sgml_scan.specs.declared.state.Token.{Token}
use Rattle.sgml_scan.specs.markup.declared.kinds.TokenKind.TheVariants as kind
use Rattle.sgml_dtd_maps.specs.declared.uses.MapOf.{MapOf}
use Rattle.sgml_dtd_maps.specs.declared.uses.MapOf.TheVariants as map_of
use Rattle.sgml_text.specs.declared.place.Place.{Place}
use Rattle.sgml_events.specs.declared.event.Event.{Event}
use Rattle.sgml_events.specs.declared.event.Event.TheVariants as event
use Rattle.sgml_said.specs.Told.{all_said}
use Rattle.sgml_theory_starts.specs.theory_reading.Names.{Text}
use Rattle.sgml_theory_starts.specs.theory_reading.Pieces.{Piece, Kind, Pi, Comment}
use Rattle.sgml_theory_starts.specs.theory_reading.Facets.{AfterSubset, effect, token, items_of, is_finish, is_omitted, map_set, stage_after}
use Rattle.sgml_theory_starts.specs.theory_reading.Context.{Context}
use Rattle.sgml_theory_starts.specs.theory_reading.Unread.{Outside}
use Rattle.sgml_theory_starts.specs.theory_reading.Maps.{first_set}
use Rattle.sgml_theory_starts.specs.theory_reading.State.{first_noted}
use Rattle.sgml_theory_starts.specs.theory_reading.Characters.{piece_noted}
use Rattle.sgml_theory_starts.specs.theory_reading.Reads.{length_of_first, top_place}
use Rattle.sgml_theory_starts.specs.theory_reading.Events.{Instruction, shown}
use Rattle.sgml_theory_starts.specs.theory_spelling.Content.{instruction}
use Rattle.sgml_theory_starts.specs.theory_spelling.Sized.{sized}
use Rattle.sgml_theory_starts.specs.theory_standing.Kept.{Kept, given}
use Rattle.sgml_theory_starts.specs.theory_standing.Prologs.{alone}
use Rattle.sgml_theory_starts.specs.theory_standing.Next.{IsThere, after, left_to_read}
use Rattle.sgml_theory_starts.specs.theory_standing.Held.{Held, state_of, is_of_content, IsSpelledIn}
use Rattle.sgml_theory_starts.specs.theory_standing.Moves.{stands_alone, IsMove, held_after, told_by_moves}
use Rattle.sgml_theory_starts.specs.theory_standing.ContentLaws.{held_alone}
use Rattle.sgml_theory_starts.proofs.theory_standing.Alone.{alone-moves, alone-keeps}
use Rattle.sgml_inside.proofs.Forced.{noted-is-after, stays}
use Rattle.sgml_prolog_steps.specs.Found.{rest_in, moved_on}
use Rattle.sgml_prolog_steps.proofs.Shared.{IsPlain, comment-plain, pi-plain, there-plain, after-plain-in, first-length, falls-places}
use Rattle.sgml_prolog_steps.specs.declared.stepping.Stop.TheVariants as stop
use Rattle.sgml_content_steps.specs.Standing.{IsInInstance, IsSpelledNext}
use Rattle.sgml_content_steps.specs.Found.{IsTokenThere}
use Rattle.sgml_content_steps.proofs.Told.{instance-moved}
use Rattle.sgml_content_steps.proofs.Pieces.{comments-are-pieces, instructions-are-pieces}
use Rattle.sgml_content_steps.specs.Content.{Content, Holds, IsContent, context_of, marked_up}
use Rattle.sgml_content_steps.specs.Steps.{entities_of, entities_told, Goes, IsAt, LeavesAsItWas, Takes, Tells, IsStep}

-- A PIECE THAT STANDS ALONE
pub alone-goes : (outside : Outside) (texts : List (ℕ × Text)) (ended : Bool) (x : Held) (new : Content) (told : List Event) (p : Piece)
    → IsSpelledIn outside x texts ended (Ok p) → stands_alone p.kind ≡ true → is_of_content p.kind ≡ true → is_omitted p.kind ≡ false
    → piece_noted (state_of x) p ≡ p → IsThere outside x.kept texts p → Holds new (held_alone outside p x)
    → all_said new.kept.doctype told ≡ told_by_moves x (alone p ∷ []) → entities_told told ≡ entities_of (p ∷ []) → Goes outside texts ended x new told
alone-goes outside texts ended x new told p s a c w n there h t e = record {
  moves = alone p ∷ [];
  now = held_after outside (alone p) x;
  next = (
    record {
      piece = p;
      spelled = s;
      moves = subst (λ (q : Piece). IsMove (state_of x) q (alone p)) (sym n) (alone-moves (state_of x) p a);
      of_content = c;
      written = w;
      there = there;
    },
    refl,
  );
  holds = subst (λ (y : Held). Holds new y) (sym (alone-keeps outside x p a)) h;
  said = t;
  entities = e;
  starts = refl;
}

-- MARKUP (7.6.1) that changes neither the texts nor the sections
pub record IsMarkup (x : Kind) : Type 0 where
  pub plain : IsPlain x
  pub alone : stands_alone x ≡ true
  pub of_content : is_of_content x ≡ true
  pub written : is_omitted x ≡ false
  pub items : items_of x ≡ Markup ∷ []
  pub sets_none : map_set x ≡ map_of.Parent
  pub stage : stage_after x AfterSubset ≡ AfterSubset

-- one that tells nothing
pub record IsSilent (x : Kind) : Type 0 where
  pub tells : (y : Held) (n : ℕ) → told_by_moves y (alone (sized n x) ∷ []) ≡ []

pub comment-markup : IsMarkup Comment
unfolding token effect is_finish is_omitted items_of map_set stage_after
comment-markup = record { plain = comment-plain; alone = refl; of_content = refl; written = refl; items = refl; sets_none = refl; stage = refl }

pub comment-silent : IsSilent Comment
unfolding shown items_of
comment-silent = record { tells = λ y n. refl }

first-parent : (ss : List MapOf) → first_set map_of.Parent ss ≡ ss
first-parent [] = refl
first-parent (s ∷ ss) = refl

-- what is kept of the texts after it
marked-kept : (outside : Outside) (k : Kept) (x : Kind) (n : ℕ) → IsInInstance k → IsMarkup x → after outside (sized n x) k ≡ moved_on n k
marked-kept outside k x n h is =
    after-plain-in outside k (sized n x) n k.stage h.levels is.plain refl refl (ap (stage_after x) h.stage ∙ (is.stage ∙ sym h.stage))

abbrev held-context : Held → Kept → Context
held-context x k = record { doctype = k.doctype; levels = x.levels; begun = x.begun; inferred = false }

marked-holds : (outside : Outside) (c : Content) (x : Held) (y : Kind) (n : ℕ) → IsContent c → Holds c x → IsMarkup y
    → Holds (marked_up n c) (held_alone outside (sized n y) x)
marked-holds outside c x y n is h m =
    let kept : after outside (sized n y) x.kept ≡ moved_on n x.kept = marked-kept outside x.kept y n (subst (λ (k : Kept). IsInInstance k) (sym h.kept) is.instance) m in
    record {
      kept = kept ∙ ap (moved_on n) h.kept;
      context = ap (held-context x) kept ∙ h.context;
      record_ends = ap (λ items. first_noted items x.record_ends) m.items
          ∙ (ap (first_noted (Markup ∷ [])) h.record_ends ∙ sym (noted-is-after Markup c.inside.elements).0);
      map_settings = ap (λ s. first_set s x.map_settings) m.sets_none ∙ (first-parent x.map_settings ∙ (h.map_settings ∙ sym (noted-is-after Markup c.inside.elements).1));
      ended = h.ended;
      currents = h.currents;
      apart = h.apart;
    }

marked-content : (c : Content) (n : ℕ) → IsContent c → IsContent (marked_up n c)
marked-content c n is = record {
  instance = instance-moved n c.kept is.instance;
  tree = is.tree;
  maps = (stays c.kept.doctype (context_of c).levels c.inside.elements is.maps).noted Markup;
  room = is.room;
  ended = is.ended;
  lists = is.lists;
}

marked-falls : (k : Kept) (texts : List (ℕ × Text)) (n : ℕ) → IsInInstance k → 0 < n → n ≤ length (rest_in k texts) → left_to_read (moved_on n k) texts < left_to_read k texts
unfolding left_to_read given
marked-falls k texts n h some m = falls-places k.doctype.entities texts n k.stack.expand k.stack.spent k.stack.places h.document some m

length-first-in : (k : Kept) (texts : List (ℕ × Text)) → IsInInstance k → length_of_first (given k texts).rests ≡ length (rest_in k texts)
unfolding given
length-first-in k texts h = first-length k.doctype.entities texts k.stack.places h.document

marked-there : (outside : Outside) (k : Kept) (texts : List (ℕ × Text)) (x : Kind) (n : ℕ) → IsInInstance k → IsMarkup x → n ≤ length (rest_in k texts)
    → IsThere outside k texts (sized n x)
marked-there outside k texts x n h is l =
    there-plain outside k texts (sized n x) is.plain (subst (λ m. n ≤ m) (sym (length-first-in k texts h)) l)

-- SUCH A STEP
pub markup-step : (y : Kind) (texts : List (ℕ × Text)) (t : Token) (old new : Content) (told : List Event)
    → IsMarkup y → IsContent old → new ≡ marked_up t.length old
    → ((st : ScanState) (ended : Bool) → IsTokenThere old.kept st texts ended t → IsSpelledNext old.kept st texts ended (λ outside s. Ok (sized t.length y)))
    → ((x : Held) → all_said old.kept.doctype told ≡ told_by_moves x (alone (sized t.length y) ∷ []))
    → entities_told told ≡ entities_of (sized t.length y ∷ [])
    → Takes texts t old new told (Ok tt)
markup-step y texts t old new told m is e spelled said entities c st ended there =
    subst (λ (z : Content). IsStep c st texts ended old z told (Ok tt)) (sym e) (record {
      steps = λ outside x o h held.
          let p = sized t.length y in
          let instance = subst (λ (k : Kept). IsInInstance k) (sym h.kept) is.instance in
          alone-goes outside texts ended x (marked_up t.length old) told p (spelled st ended there outside x held) m.alone m.of_content m.written
          (λ i. record { kind = m.plain.noted (state_of x) i; size = p.size; spent = p.spent })
          (marked-there outside x.kept texts y t.length instance m (subst (λ (k : Kept). t.length ≤ length (rest_in k texts)) (sym h.kept) there.within))
          (marked-holds outside old x y t.length is h m)
          (said x) entities;
      falls = marked-falls old.kept texts t.length is.instance there.some there.within;
      left = tt;
      content = marked-content old t.length is;
      doctype = refl;
      expand = refl;
    })

pub comment-step : (texts : List (ℕ × Text)) (t : Token) (old new : Content) → IsContent old → t.kind ≡ kind.Comment → new ≡ marked_up t.length old
    → Takes texts t old new [] (Ok tt)
comment-step texts t old new is k e =
    markup-step Comment texts t old new [] comment-markup is e
    (λ st ended there. comments-are-pieces old.kept st texts ended t there k)
    (λ x. sym (comment-silent.tells x t.length)) refl

-- AN INSTRUCTION

pub pi-markup : (text : Text) → IsMarkup (Pi text None)
unfolding token effect is_finish is_omitted items_of map_set stage_after
pi-markup text = record { plain = pi-plain text None; alone = refl; of_content = refl; written = refl; items = refl; sets_none = refl; stage = refl }

pi-told : (y : Held) (n : ℕ) (text : Text) → told_by_moves y (alone (sized n (Pi text None)) ∷ []) ≡ Instruction text None ∷ []
unfolding shown
pi-told y n text = refl

pub instruction-step : (texts : List (ℕ × Text)) (t : Token) (old new : Content) (text : Text) (place : Place)
    → IsContent old → t.kind ≡ kind.Pi → text ≡ instruction (take t.length (rest_in old.kept texts)) → new ≡ marked_up t.length old
    → Takes texts t old new (event.Pi text None place ∷ []) (Ok tt)
instruction-step texts t old new text place is k w e =
    markup-step (Pi text None) texts t old new (event.Pi text None place ∷ []) (pi-markup text) is e
    (λ st ended there. subst (λ (z : Text). IsSpelledNext old.kept st texts ended (λ outside s. Ok (sized t.length (Pi z None)))) (sym w)
    (instructions-are-pieces old.kept st texts ended t there k))
    (λ x. sym (pi-told x t.length text)) refl

at-none : (place : Place) → All (IsAt place) []
at-none place k d l = absurd (omega (arith, l))

at-one : (place : Place) (e : Event) → IsAt place e → All (IsAt place) (e ∷ [])
at-one place e at zero d l = at
at-one place e at (suc k) d l = absurd (omega (arith, l))

pub instruction-tells : (texts : List (ℕ × Text)) (t : Token) (old new : Content) (before after : List Event) (text : Text) (place : Place)
    → IsContent old → t.kind ≡ kind.Pi → text ≡ instruction (take t.length (rest_in old.kept texts)) → place ≡ top_place old.kept.stack.places
    → new ≡ marked_up t.length old → {room : List Event} → room ≡ before → after ≡ room ++ (event.Pi text None place ∷ []) → Tells texts t old new before after (Ok tt)
instruction-tells texts t old new before after text place is k w p e same told = (
  event.Pi text None place ∷ [],
  told ∙ ap (λ es. es ++ event.Pi text None place ∷ []) same,
  at-one (top_place old.kept.stack.places) (event.Pi text None place) p,
  instruction-step texts t old new text place is k w e,
)

-- WHAT AN ERROR LEAVES
pub leaves-itself : (c : Content) → LeavesAsItWas c c []
leaves-itself c = record { holds = λ x h. h; kept = refl; silent = refl }

-- without memory nothing is said
pub memory-tells : (texts : List (ℕ × Text)) (t : Token) (old : Content) (before after : List Event) → IsContent old → after ≡ before
    → Tells texts t old old before after (Err stop.Memory)
memory-tells texts t old before after is e = (
  [],
  e ∙ sym (append-nil before),
  at-none (top_place old.kept.stack.places),
  λ c st ended there. record {
    steps = λ outside x o h held. tt;
    falls = tt;
    left = leaves-itself old;
    content = is;
    doctype = refl;
    expand = refl;
  },
)
