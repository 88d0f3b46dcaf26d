-- A tag that ends an element is a move that stands next, and what is kept after it holds what is held after it.
use Rattle.std.specs.Prelude.{◌≡◌, ℕ, ◌≤◌, Bool, false, List, [], ◌∷◌, ◌++◌, length, Some, None, Ok, Err}
use Rattle.std.proofs.Common.{refl, sym, ap, ◌∙◌, subst, arith, append_assoc}
use Rattle.std.proofs.lemmas.List.Elements.{All-append}
use Rattle.sgml_text.specs.declared.place.Place.{Place}
use Rattle.sgml_text.specs.declared.reason.Reason.{Reason}
use Rattle.sgml_events.specs.declared.event.Event.{Event}
use Rattle.sgml_events.specs.declared.event.Event.TheVariants as event
use Rattle.sgml_theory_spelling.specs.theory_reading.Names.{Name, Text}
use Rattle.sgml_theory_spelling.specs.theory_reading.Pieces.{Piece, End, How}
use Rattle.sgml_theory_spelling.specs.theory_reading.Facets.{effect, ended_type, specified, is_omitted}
use Rattle.sgml_theory_spelling.specs.theory_reading.Nest.{without_first}
use Rattle.sgml_theory_spelling.specs.theory_reading.Context.{Context, Level, context_after}
use Rattle.sgml_theory_spelling.specs.theory_reading.Unread.{Outside}
use Rattle.sgml_theory_spelling.specs.theory_reading.State.{State, after_piece}
use Rattle.sgml_theory_spelling.specs.theory_reading.Reads.{undefined, unless_declared, top_place}
use Rattle.sgml_theory_spelling.specs.theory_reading.Events.{Ended, shown, events_at}
use Rattle.sgml_theory_spelling.specs.Attributes.{unvalued}
use Rattle.sgml_theory_spelling.specs.Sized.{sized}
use Rattle.sgml_theory_spelling.specs.Spelled.{forms}
use Rattle.sgml_declared.specs.theory_standing.Kept.{Kept}
use Rattle.sgml_declared.specs.theory_standing.Next.{IsThere, after}
use Rattle.sgml_content_steps.specs.theory_starts.Starts.{Table}
use Rattle.sgml_declared.specs.theory_standing.Held.{Held, state_of, IsSpelledIn}
use Rattle.sgml_declared.specs.theory_standing.Moves.{held_after}
use Rattle.sgml_infer.specs.Tables.{name_at, IsNumber}
use Rattle.sgml_infer.specs.declared.tree.Tree.{Tree}
use Rattle.sgml_infer.specs.declared.visible.Visible.{Visible}
use Rattle.sgml_infer.specs.declared.visible.Visible.TheVariants as visible
use Rattle.sgml_dtd.specs.Doctypes.{Doctype}
use Rattle.sgml_dtd.specs.dtd_elements.Laws.{AreDistinct}
use Rattle.sgml_content_steps.proofs.Told.{instance-moved}
use Rattle.sgml_infer.specs.Trees.{context_in}
use Rattle.sgml_infer.specs.Visibles.{IsVisible, after_left_out}
use Rattle.sgml_inside.specs.Laws.{AreInForce}
use Rattle.sgml_inside.proofs.Forced.{ended-is-after, stays}
use Rattle.sgml_prolog_steps.specs.Found.{rest_in, moved_on}
use Rattle.sgml_prolog_steps.specs.declared.stepping.Stop.{Stop}
use Rattle.sgml_prolog_steps.specs.declared.stepping.Stop.TheVariants as stop
use Rattle.sgml_content_steps.specs.Standing.{IsInInstance}
use Rattle.sgml_content_steps.specs.Content.{Content, Holds, IsContent, context_of}
use Rattle.sgml_content_steps.specs.Steps.{Goes, IsAt, ToldAt, LeavesAsItWas, IsStep}
use Rattle.sgml_content_steps.specs.declared.run.Run.{Run}
use Rattle.sgml_content_steps.specs.Runs.{IsRun, state_left, move_of}
use Rattle.sgml_content_steps.specs.Judged.{MayStand, JudgedMayStand, IsRefusedFor, IsJudgedStop}
use Rattle.sgml_content_steps.specs.Taken.{IsRunTaken}
use Rattle.sgml_content_tags.specs.Ends.{how_ended, end_kind, closed, EndsElement, TellsEnd}
use Rattle.sgml_content_tags.proofs.Numbered.{name-said, name-declared, defined}
use Rattle.sgml_content_tags.proofs.Still.{IsStill, end-still, noted-still, after-sized, there-still, falls-read}
use Rattle.sgml_content_tags.proofs.Going.{IsToldOf, visible-goes}
use Rattle.sgml_content_tags.proofs.Stopping.{at-one, silent, stop-step, refused-next}

-- WHAT WAS JUDGED differs in the open elements' own notes and in nothing that is held
abbrev pub judged_from : Content → Tree → Table → Content
judged_from old tree table = record old { tree = tree; currents = table }

pub record IsJudgedFor (old : Content) (tree : Tree) (table : Table) (visible : Visible) (run : Run) : Type 0 where
  pub judged : IsRun (judged_from old tree table) visible run
  pub holds : (x : Held) → Holds old x → Holds (judged_from old tree table) x
  pub content : IsContent (judged_from old tree table)

pub judged-for : (old c : Content) (visible : Visible) (run : Run) → c ≡ judged_from old c.tree c.currents → IsRun c visible run
    → ((x : Held) → Holds old x → Holds c x) → IsContent c → IsJudgedFor old c.tree c.currents visible run
judged-for old c visible run e r holds is = record {
  judged = subst (λ (z : Content). IsRun z visible run) e r;
  holds = λ x h. subst (λ (z : Content). Holds z x) e (holds x h);
  content = subst IsContent e is;
}

-- the place where it was judged
pub judged-place : (old c : Content) (place : Place) → c ≡ judged_from old c.tree c.currents → place ≡ top_place old.kept.stack.places → place ≡ top_place c.kept.stack.places
judged-place old c place e p = p ∙ ap (λ (z : Content). top_place z.kept.stack.places) (sym e)

-- what is known of the open elements is that of what is kept
pub context-held : (k : Kept) (c : Context) (new : Content) → k.doctype ≡ new.kept.doctype → c ≡ context_of new
    → record { doctype = k.doctype; levels = c.levels; begun = c.begun; inferred = false } ≡ context_of new
context-held k c new d e = λ i. record { doctype = d i; levels = (e i).levels; begun = (e i).begun; inferred = false }

-- an end has no values
end-valued : (s : State) (n : Name) (how : How) → unvalued s (End n how) ≡ None
unfolding unvalued
end-valued s n how = refl

end-shown : (s : State) (n : Name) (how : How) (size : ℕ) → events_at forms s (sized size (End n how)) ≡ Ended n ∷ []
unfolding shown
end-shown s n how size = refl

end-written : (n : Name) (visible : Visible) → is_omitted (End n (how_ended visible)) ≡ false
unfolding is_omitted
end-written n (visible.Start i) = refl
end-written n visible.Chars = refl
end-written n (visible.EndTag i) = refl
end-written n visible.EndCurrent = refl
end-written n visible.Net = refl
end-written n visible.EndDocument = refl

-- THE TAG IS TAKEN: `t` is what is kept once its run was, of which this was told
module _ (texts : List (ℕ × Text)) (n number : ℕ) (visible : Visible) (old t : Content) (tree : Tree) (table : Table) (run : Run) (told : List Event)
    (law : JudgedMayStand) (j : IsJudgedFor old tree table visible run)
    (numbered : IsNumber old.kept.doctype number) (sees : IsVisible old.kept.doctype visible (end_kind old.kept.doctype visible number))
    (kept : t.kept ≡ old.kept) (currents : t.currents ≡ table) (taken : IsRunTaken (judged_from old tree table) t visible told) where
  abbrev d : Doctype
  d = old.kept.doctype

  abbrev c : Content
  c = judged_from old tree table

  abbrev piece : Piece
  piece = sized n (end_kind d visible number)

  is-still : IsStill (end_kind d visible number)
  is-still = end-still (name_at d number) (how_ended visible)

  instance : IsInInstance old.kept
  instance = j.content.instance

  defined-here : (x : Held) → Holds old x → undefined (state_of x).context piece.kind ≡ None
  defined-here x h =
      ap (λ (k : Kept). unless_declared k.doctype (name_at d number)) h.kept
      ∙ defined d (name_at d number) (name-declared d number j.content.tree.distinct numbered)

  may : (x : Held) → Holds old x → MayStand c visible x piece
  may x h = law c visible run x piece j.content j.judged (j.holds x h) sees (defined-here x h)

  abbrev after_tag : Content
  after_tag = record {
    kept = moved_on n old.kept;
    tree = t.tree;
    inside = record t.inside { elements = without_first t.inside.elements; ended = Some number };
    currents = table;
  }

  tag-closed : closed n number t ≡ after_tag
  tag-closed = λ i. record {
    kept = moved_on n (kept i);
    tree = t.tree;
    inside = record t.inside { elements = without_first t.inside.elements; ended = Some number };
    currents = currents i;
  }

  context-taken : context_in d t.tree ≡ context_after piece (after_left_out d tree)
  context-taken = ap (λ (k : Kept). context_in k.doctype t.tree) (sym kept) ∙ taken.context piece sees

  context-left : (x : Held) → Holds old x → context_after piece (state_left c x).context ≡ context_in d t.tree
  context-left x h = ap (context_after piece) (may x h).left ∙ sym context-taken

  kept-after : (outside : Outside) (x : Held) → Holds old x → after outside piece x.kept ≡ moved_on n old.kept
  kept-after outside x h = ap (after outside piece) h.kept ∙ after-sized outside old.kept (end_kind d visible number) n instance is-still

  holds-after : (outside : Outside) (x : Held) → Holds old x → Holds after_tag (held_after outside (move_of c x piece) x)
  unfolding after_piece effect ended_type specified
  holds-after outside x h =
      let left = taken.holds x (j.holds x h) in
      let moved = kept-after outside x h in
      record {
        kept = moved;
        context = context-held (after outside piece x.kept) (context_after piece (state_left c x).context) after_tag (ap (λ (k : Kept). k.doctype) moved) (context-left x h);
        record_ends = ap without_first left.record_ends ∙ sym (ended-is-after t.inside.elements).0;
        map_settings = ap without_first left.map_settings ∙ sym (ended-is-after t.inside.elements).1;
        ended = refl;
        currents = left.currents;
        apart = h.apart;
      }

  levels-after : (context_in d t.tree).levels ≡ without_first (after_left_out d tree).levels
  unfolding context_after effect
  levels-after = ap (λ (s : Context). s.levels) context-taken

  content-after : IsContent after_tag
  content-after = record {
    instance = instance-moved n old.kept instance;
    tree = taken.tree;
    maps = subst (λ (ls : List Level). AreInForce d ls (without_first t.inside.elements)) (sym levels-after)
        (stays d (after_left_out d tree).levels t.inside.elements taken.maps).closed;
    room = taken.room;
    ended = numbered;
    lists = j.content.lists;
  }

  tag-told : (x : Held) → Holds old x → IsToldOf c x piece d told (event.End number ∷ [])
  tag-told x h = record {
    run_said = (taken.holds x (j.holds x h)).said;
    run_entities = taken.entities;
    said = ap (λ (m : Name). Ended m ∷ []) (name-said d number) ∙ sym (end-shown (state_left c x) (name_at d number) (how_ended visible) n);
    entities = refl;
  }

  tag-goes : (outside : Outside) (more : Bool) (x : Held) → Holds old x → n ≤ length (rest_in old.kept texts) → IsSpelledIn outside x texts more (Ok piece)
      → Goes outside texts more x after_tag (told ++ event.End number ∷ [])
  tag-goes outside more x h within s =
      visible-goes outside texts more x c after_tag piece piece told (event.End number ∷ []) s
      (noted-still (state_of x) piece is-still) refl (end-written (name_at d number) visible)
      ((may x h).moves (end-valued (state_left c x) (name_at d number) (how_ended visible)))
      (subst (λ (k : Kept). IsThere outside k texts piece) (sym h.kept) (there-still outside old.kept texts piece instance is-still within))
      (holds-after outside x h) (tag-told x h)

  pub end-step : EndsElement texts n visible number old (closed n number t) (told ++ event.End number ∷ []) (Ok tt)
  end-step o st more some within s =
      subst (λ (z : Content). IsStep o st texts more old z (told ++ event.End number ∷ []) (Ok tt)) (sym tag-closed) (record {
        steps = λ outside x options h held. tag-goes outside more x h within (s outside x h held);
        falls = falls-read n old.kept.stack.spent old.kept texts instance some within (omega arith);
        left = tt;
        content = content-after;
        doctype = refl;
        expand = refl;
      })

  pub end-content : IsContent (closed n number t)
  end-content = subst IsContent (sym tag-closed) content-after

  told-at : ToldAt old.kept (told ++ event.End number ∷ [])
  told-at = All-append (IsAt (top_place old.kept.stack.places)) told (event.End number ∷ []) taken.at (at-one (top_place old.kept.stack.places) (event.End number) tt)

  pub end-tells : (before run_told after : List Event) → run_told ≡ before ++ told → after ≡ run_told ++ event.End number ∷ []
      → TellsEnd texts n visible number old (closed n number t) before after (Ok tt)
  end-tells before run_told after r a = (
    told ++ event.End number ∷ [],
    a ∙ (ap (λ es. es ++ event.End number ∷ []) r ∙ append_assoc before told (event.End number ∷ [])),
    told-at,
    end-step,
  )

-- WHERE NOTHING IS TAKEN
module _ (texts : List (ℕ × Text)) (n number : ℕ) (visible : Visible) (old new : Content)
    (distinct : AreDistinct old.kept.doctype.elements)
    (numbered : IsNumber old.kept.doctype number) (sees : IsVisible old.kept.doctype visible (end_kind old.kept.doctype visible number)) where
  undeclared-not : (x : Held) → Holds old x → undefined (state_of x).context (end_kind old.kept.doctype visible number) ≡ None
  undeclared-not x h =
      ap (λ (k : Kept). unless_declared k.doctype (name_at old.kept.doctype number)) h.kept
      ∙ defined old.kept.doctype (name_at old.kept.doctype number) (name-declared old.kept.doctype number distinct numbered)

  refused-steps : (r : Reason) → ((x : Held) → Holds old x → IsRefusedFor old.kept.doctype visible (state_of x) r)
      → LeavesAsItWas old new [] → IsContent new → EndsElement texts n visible number old new [] (Err (stop.Refused r))
  refused-steps r why left is o st more some within s =
      stop-step o st texts more old new (stop.Refused r)
      (λ outside x options h held. let p = sized n (end_kind old.kept.doctype visible number) in
      refused-next outside x texts more p r (s outside x h held)
      (noted-still (state_of x) p (end-still (name_at old.kept.doctype number) (how_ended visible)))
      (why x h p sees (undeclared-not x h)))
      left is

  memory-steps : LeavesAsItWas old new [] → IsContent new → EndsElement texts n visible number old new [] (Err stop.Memory)
  memory-steps left is o st more some within s = stop-step o st texts more old new stop.Memory (λ outside x options h held. tt) left is

  stops-by : (e : Stop) → IsJudgedStop e → ((r : Reason) → e ≡ stop.Refused r → (x : Held) → Holds old x → IsRefusedFor old.kept.doctype visible (state_of x) r)
      → LeavesAsItWas old new [] → IsContent new → EndsElement texts n visible number old new [] (Err e)
  stops-by (stop.Refused r) judged why left is = refused-steps r (why r refl) left is
  stops-by stop.Memory judged why left is = memory-steps left is
  stops-by (stop.Wanted entity file) judged why left is = absurd judged
  stops-by stop.More judged why left is = absurd judged

  pub end-memory : (before after : List Event) → ((x : Held) → Holds old x → Holds new x) → new.kept ≡ old.kept → IsContent new → after ≡ before
      → TellsEnd texts n visible number old new before after (Err stop.Memory)
  end-memory before after holds kept is t =
      silent (λ told. EndsElement texts n visible number old new told (Err stop.Memory)) old.kept before after t
      (memory-steps (record { holds = holds; kept = kept; silent = refl }) is)

  pub end-stops : (e : Stop) (before after : List Event) → IsJudgedStop e
      → ((r : Reason) → e ≡ stop.Refused r → (x : Held) → Holds old x → IsRefusedFor old.kept.doctype visible (state_of x) r)
      → ((x : Held) → Holds old x → Holds new x) → new.kept ≡ old.kept → IsContent new → after ≡ before
      → TellsEnd texts n visible number old new before after (Err e)
  end-stops e before after judged why holds kept is t =
      silent (λ told. EndsElement texts n visible number old new told (Err e)) old.kept before after t
      (stops-by e judged why (record { holds = holds; kept = kept; silent = refl }) is)
