-- What is kept once a run was taken.
use Rattle.std.specs.Prelude.{◌≡◌, ◌+◌, ◌<◌, ◌≤◌, ◌++◌, true, List, [], ◌∷◌, IfSome, All, length}
use Rattle.std.proofs.Common.{refl, sym, ap, ◌∙◌, subst, arith}
use Rattle.std.proofs.lemmas.List.{append_assoc}
use Rattle.std.proofs.lemmas.List.Concat.{flat_map-append}
use Rattle.sgml_text.specs.declared.place.Place.{Place}
use Rattle.sgml_attr.specs.declared.value.AttrValue.{AttrValue}
use Rattle.sgml_infer.specs.sgml_dtd.Doctypes.{Doctype}
use Rattle.sgml_events.specs.declared.event.Event.{Event}
use Rattle.sgml_said.specs.Told.{said, all_said}
use Rattle.sgml_theory_starts.specs.theory_reading.Pieces.{Piece}
use Rattle.sgml_theory_starts.specs.theory_reading.Context.{Context}
use Rattle.sgml_theory_starts.specs.theory_reading.Runs.{context_after_run}
use Rattle.sgml_theory_starts.specs.theory_reading.Reads.{top_place}
use Rattle.sgml_theory_starts.specs.theory_reading.State.{State, after_piece}
use Rattle.sgml_theory_starts.specs.theory_reading.Events.{events_at, events_of_run}
use Rattle.sgml_theory_starts.specs.theory_spelling.Spelled.{forms}
use Rattle.sgml_theory_starts.specs.theory_standing.Held.{Held, state_of, state_after_run}
use Rattle.sgml_infer.specs.Tables.{IsNumber}
use Rattle.sgml_infer.specs.Seen.{started, ended}
use Rattle.sgml_infer.specs.declared.tree.Tree.{Tree}
use Rattle.sgml_infer.specs.declared.visible.Visible.{Visible}
use Rattle.sgml_infer.specs.declared.visible.Chain.{Chain}
use Rattle.sgml_infer.specs.Trees.{context_in, IsTreeOf}
use Rattle.sgml_infer.specs.Visibles.{IsVisible, IsJudged, after_left_out, after_judged, begins_element}
use Rattle.sgml_infer.proofs.Points.{run-append}
use Rattle.sgml_inside.specs.Inside.{Inside}
use Rattle.sgml_inside.specs.Laws.{AreInForce}
use Rattle.sgml_content_steps.specs.Content.{Content, Holds, IsContent}
use Rattle.sgml_content_steps.specs.Steps.{entities_told, IsAt}
use Rattle.sgml_content_steps.specs.declared.run.Run.{Run}
use Rattle.sgml_content_steps.specs.Runs.{IsRun, run_of, state_left, state_ended}
use Rattle.sgml_content_steps.specs.Begun.{all_ended_in, ends_told, all_begun_in, starts_told}
use Rattle.sgml_content_steps.specs.Taken.{IsJudgedBefore, HoldsLeft, IsRunTaken, TakesRun}
use Rattle.sgml_content_steps.proofs.Between.{run-then}
use Rattle.sgml_content_steps.proofs.Standing.{left-by}
use Rattle.sgml_content_steps.proofs.Ended.{IsOf, ends-inside, ends-forced, ends-doctype, ends-said}
use Rattle.sgml_content_steps.proofs.Begun.{starts-inside, starts-forced, starts-said}
use Rattle.sgml_content_steps.proofs.Bounds.{as-deep, ended-length, ended-room, begun-room, begun-ended, ended-number, run-entities, run-at}

-- WHAT STANDS INSIDE the open elements of a tree
pub record AreOpen (d : Doctype) (tree : Tree) (v : Inside) : Type 0 where
  pub maps : AreInForce d (context_in d tree).levels v.elements
  pub room : d.syntax.quantities.taglvl ≤ v.room
  pub ended : IfSome v.ended (IsNumber d)

-- what taking made of the open elements
pub record IsTreeTaken (d : Doctype) (visible : Visible) (old new : Tree) : Type 0 where
  pub context : (p : Piece) → IsVisible d visible p.kind → context_in d new ≡ after_judged d old p
  pub began : begins_element d visible ≡ true → 0 < new.depth
  pub tree : IsTreeOf d new

-- of the run
abbrev inside_left : Doctype → Tree → Inside → Inside
inside_left d tree v = all_begun_in d tree.starts.items (all_ended_in tree.ended.items v)

abbrev told_left : Doctype → Tree → Inside → Place → List (List AttrValue) → List Event
told_left d tree v place values = ends_told tree.ended.items ++ starts_told d place (all_ended_in tree.ended.items v) tree.starts.items values

pub record IsLeft (d : Doctype) (visible : Visible) (place : Place) (values : List (List AttrValue)) (tree : Tree) (v : Inside) (new : Content) (told : List Event) : Type 0 where
  pub inside : new.inside ≡ inside_left d tree v
  pub tells : told ≡ told_left d tree v place values
  pub doctype : new.kept.doctype ≡ d
  pub taken : IsTreeTaken d visible tree new.tree
  pub before : AreOpen d tree v

-- the same where it was judged
pub left-before : (visible : Visible) (place : Place) (values : List (List AttrValue)) (judged old new : Content) (told : List Event) → IsJudgedBefore judged old
    → IsLeft old.kept.doctype visible place values old.tree old.inside new told
    → IsLeft judged.kept.doctype visible place values judged.tree judged.inside new told
left-before visible place values judged old new told e is =
    subst (λ (z : Doctype). IsLeft z visible place values judged.tree judged.inside new told) e.doctype
    (subst (λ (z : Tree). IsLeft old.kept.doctype visible place values z judged.inside new told) e.tree
    (subst (λ (z : Inside). IsLeft old.kept.doctype visible place values old.tree z new told) e.inside is))

events-then : (os ps : List Piece) (s : State) → events_of_run forms s (os ++ ps) ≡ events_of_run forms s os ++ events_of_run forms (state_after_run os s) ps
events-then [] ps s = refl
events-then (o ∷ os) ps s =
    ap (λ es. events_at forms s o ++ es) (events-then os ps (after_piece o s))
    ∙ sym (append_assoc (events_at forms s o) (events_of_run forms (after_piece o s) os) (events_of_run forms (state_after_run os (after_piece o s)) ps))

module _ (c new : Content) (visible : Visible) (place : Place) (run : Run) (told : List Event)
    (is : IsRun c visible run) (left : IsLeft c.kept.doctype visible place run.values.items c.tree c.inside new told) (at : place ≡ top_place c.kept.stack.places) where
  abbrev d : Doctype
  d = c.kept.doctype

  abbrev ended_inside : Inside
  ended_inside = all_ended_in c.tree.ended.items c.inside

  abbrev left_inside : Inside
  left_inside = inside_left d c.tree c.inside

  -- the state after the run
  left-state : (x : Held) → state_left c x ≡ state_after_run (started d c.tree.starts.items) (state_ended c x)
  left-state x = run-then (ended d c.tree.ended.items) (started d c.tree.starts.items) (state_of x)

  ended-of : (x : Held) → Holds c x → IsOf d ended_inside (state_ended c x)
  ended-of x h =
      ends-inside d c.tree.ended.items c.inside (state_of x) (record { record_ends = h.record_ends; map_settings = h.map_settings; ended = h.ended })

  left-of : (x : Held) → Holds c x → IsOf d left_inside (state_left c x)
  left-of x h =
      subst (λ (s : State). IsOf d left_inside s) (sym (left-state x))
      (starts-inside d c.tree.starts.items ended_inside (state_ended c x) (ended-of x h))

  -- what it tells
  run-said : (x : Held) → Holds c x → all_said d (told_left d c.tree c.inside place run.values.items) ≡ events_of_run forms (state_of x) (run_of c)
  run-said x h =
      flat_map-append (said d) (ends_told c.tree.ended.items) (starts_told d place ended_inside c.tree.starts.items run.values.items)
      ∙ ((λ i. ends-said d c.tree.ended.items (state_of x) i
      ++ starts-said d place c.tree.starts.items run.values.items ended_inside (state_ended c x) (ended-of x h) (is.valued x h) i)
      ∙ sym (events-then (ended d c.tree.ended.items) (started d c.tree.starts.items) (state_of x)))

  holds-left : (x : Held) → Holds c x → HoldsLeft c new x told
  holds-left x h =
      let inside = sym left.inside in
      let of = subst (λ (v : Inside). IsOf d v (state_left c x)) inside (left-of x h) in
      record {
        record_ends = of.record_ends;
        map_settings = of.map_settings;
        ended = of.ended;
        currents = (left-by c x h).currents;
        said = ap (all_said d) left.tells ∙ run-said x h;
      }

  left-forced : AreInForce d (after_left_out d c.tree).levels left_inside.elements
  left-forced =
      let ends = context_after_run (context_in d c.tree) (ended d c.tree.ended.items) in
      subst (λ (k : Context). AreInForce d k.levels left_inside.elements)
      (sym (run-append (context_in d c.tree) (ended d c.tree.ended.items) (started d c.tree.starts.items)))
      (starts-forced d c.tree.starts.items ended_inside ends (ends-doctype d c.tree.ended.items (context_in d c.tree))
      (ends-forced d c.tree.ended.items c.inside (context_in d c.tree) left.before.maps))

  pub run-taken : IsRunTaken c new visible told
  run-taken = record {
    holds = holds-left;
    context = λ p v. (λ i. context_in (left.doctype i) new.tree) ∙ left.taken.context p v;
    began = left.taken.began;
    tree = left.taken.tree;
    maps = subst (λ (v : Inside). AreInForce d (after_left_out d c.tree).levels v.elements) (sym left.inside) left-forced;
    room = subst (λ n. d.syntax.quantities.taglvl ≤ n)
        (sym (ap (λ (v : Inside). v.room) left.inside
        ∙ (begun-room d c.tree.starts.items ended_inside ∙ ended-room c.tree.ended.items c.inside)))
        left.before.room;
    ended = subst (λ o. IfSome o (IsNumber d))
        (sym (ap (λ (v : Inside). v.ended) left.inside ∙ begun-ended d c.tree.starts.items ended_inside))
        (ended-number d c.tree.ended.items c.inside is.judged.ended_numbers left.before.ended);
    entities = ap entities_told left.tells ∙ run-entities d place ended_inside c.tree.ended.items c.tree.starts.items run.values.items;
    at = subst (λ (es : List Event). All (IsAt (top_place c.kept.stack.places)) es) (sym left.tells)
        (subst (λ (z : Place). All (IsAt z) (told_left d c.tree c.inside place run.values.items)) at
        (run-at d place ended_inside c.tree.ended.items c.tree.starts.items run.values.items));
  }

-- after what was told before
pub takes-run : (judged old new : Content) (visible : Visible) (place : Place) (run : Run) (before after told : List Event)
    → IsJudgedBefore judged old → IsRun judged visible run → place ≡ top_place judged.kept.stack.places
    → IsLeft old.kept.doctype visible place run.values.items old.tree old.inside new told → after ≡ before ++ told
    → TakesRun judged new visible before after
takes-run judged old new visible place run before after told e is at left grown =
    (told, grown, run-taken judged new visible place run told is (left-before visible place run.values.items judged old new told e left) at)

-- BY THE CALLS, one after another
pub places-left : (z old : Content) (visible : Visible) (chain : Chain) (mid : Inside) → z ≡ old → IsContent old
    → IsJudged old.kept.doctype old.tree visible chain → mid ≡ all_ended_in z.tree.ended.items z.inside
    → length mid.elements + length z.tree.starts.items ≤ mid.room
places-left z old visible chain mid same content is =
    subst (λ (c : Content). mid ≡ all_ended_in c.tree.ended.items c.inside → length mid.elements + length c.tree.starts.items ≤ mid.room) (sym same)
    (λ ends.
    let open_ones = as-deep old.kept.doctype old.tree old.inside.elements content.tree content.maps in
    let stays = ap (λ (v : Inside). length v.elements) ends ∙ ended-length old.tree.ended.items old.inside in
    let places = ap (λ (v : Inside). v.room) ends ∙ ended-room old.tree.ended.items old.inside in
    omega (arith, open_ones, stays, places, is.room, is.ends, is.starts, is.within, content.room))

left-here : (z new : Content) (visible : Visible) (place : Place) (values : List (List AttrValue)) (mid : Inside) → AreOpen z.kept.doctype z.tree z.inside
    → mid ≡ all_ended_in z.tree.ended.items z.inside → new.inside ≡ all_begun_in z.kept.doctype z.tree.starts.items mid
    → new.kept.doctype ≡ z.kept.doctype → IsTreeTaken z.kept.doctype visible z.tree new.tree
    → IsLeft z.kept.doctype visible place values z.tree z.inside new (told_left z.kept.doctype z.tree z.inside place values)
left-here z new visible place values mid before ends starts doctype taken = record {
  inside = starts ∙ ap (all_begun_in z.kept.doctype z.tree.starts.items) ends;
  tells = refl;
  doctype = doctype;
  taken = taken;
  before = before;
}

told-here : (z : Content) (place : Place) (values : List (List AttrValue)) (mid : Inside) (before between after : List Event)
    → mid ≡ all_ended_in z.tree.ended.items z.inside → between ≡ before ++ ends_told z.tree.ended.items
    → after ≡ between ++ starts_told z.kept.doctype place mid z.tree.starts.items values
    → after ≡ before ++ told_left z.kept.doctype z.tree z.inside place values
told-here z place values mid before between after ends told_ends told_starts =
    told_starts
    ∙ ((λ i. told_ends i ++ starts_told z.kept.doctype place (ends i) z.tree.starts.items values)
    ∙ append_assoc before (ends_told z.tree.ended.items) (starts_told z.kept.doctype place (all_ended_in z.tree.ended.items z.inside) z.tree.starts.items values))

pub run-leaves : (judged z old new : Content) (visible : Visible) (place : Place) (run : Run) (mid : Inside) (before between after : List Event)
    → z ≡ old → IsContent old → IsJudgedBefore judged old → IsRun judged visible run → place ≡ top_place judged.kept.stack.places
    → mid ≡ all_ended_in z.tree.ended.items z.inside → between ≡ before ++ ends_told z.tree.ended.items
    → new.inside ≡ all_begun_in z.kept.doctype z.tree.starts.items mid
    → after ≡ between ++ starts_told z.kept.doctype place mid z.tree.starts.items run.values.items
    → new.kept.doctype ≡ z.kept.doctype → IsTreeTaken z.kept.doctype visible z.tree new.tree
    → TakesRun judged new visible before after
run-leaves judged z old new visible place run mid before between after same content e is at ends told_ends starts told_starts doctype taken =
    let open_before : AreOpen z.kept.doctype z.tree z.inside =
    subst (λ (c : Content). AreOpen c.kept.doctype c.tree c.inside) (sym same) (record { maps = content.maps; room = content.room; ended = content.ended }) in
    let told = told_left z.kept.doctype z.tree z.inside place run.values.items in
    let left = subst (λ (c : Content). IsLeft c.kept.doctype visible place run.values.items c.tree c.inside new told) same
    (left-here z new visible place run.values.items mid open_before ends starts doctype taken) in
    takes-run judged old new visible place run before after told e is at left (told-here z place run.values.items mid before between after ends told_ends told_starts)
