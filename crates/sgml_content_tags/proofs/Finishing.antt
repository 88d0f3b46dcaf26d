-- The end of the document is a move that stands next, with the elements that end before it.
use Rattle.std.specs.Prelude.{◌≡◌, ℕ, ◌==◌, Bool, true, false, List, [], ◌∷◌, ◌++◌, length, None, Ok, Err}
use Rattle.std.proofs.Common.{refl, sym, ap, ◌∙◌, subst, append-nil, inl}
use Rattle.sgml_text.specs.declared.reason.Reason.{Reason}
use Rattle.sgml_text.specs.declared.reason.Reason.TheVariants as reason
use Rattle.sgml_scan.specs.declared.state.ScanState.{ScanState}
use Rattle.sgml_prolog_steps.specs.decl_lexemes.Readings.{entity_of}
use Rattle.sgml_prolog_steps.specs.marked.Opened.{is_open_at}
use Rattle.sgml_dtd.specs.Doctypes.{Doctype}
use Rattle.sgml_events.specs.declared.event.Event.{Event}
use Rattle.sgml_content_steps.specs.said.Told.{all_said}
use Rattle.sgml_theory_spelling.specs.theory_reading.Names.{Text}
use Rattle.sgml_theory_spelling.specs.theory_reading.Pieces.{Piece, Finish}
use Rattle.sgml_theory_spelling.specs.theory_reading.Facets.{effect, token, items_of}
use Rattle.sgml_theory_spelling.specs.theory_reading.Context.{Context, Level, levels_with, context_after}
use Rattle.sgml_theory_spelling.specs.theory_reading.Unread.{Outside}
use Rattle.sgml_theory_spelling.specs.theory_reading.State.{State}
use Rattle.sgml_theory_spelling.specs.theory_reading.Events.{shown, events_at}
use Rattle.sgml_theory_spelling.specs.Attributes.{unvalued}
use Rattle.sgml_theory_spelling.specs.Sized.{sized}
use Rattle.sgml_theory_spelling.specs.Spelled.{forms}
use Rattle.sgml_declared.specs.theory_standing.Kept.{Kept}
use Rattle.sgml_content_steps.specs.theory_starts.Starts.{Table}
use Rattle.sgml_declared.specs.theory_standing.Held.{Held, state_of, IsSpelledIn}
use Rattle.sgml_declared.specs.theory_standing.Moves.{IsMove}
use Rattle.sgml_infer.specs.declared.tree.Tree.{Tree}
use Rattle.sgml_infer.specs.declared.visible.Visible.TheVariants as visible
use Rattle.sgml_infer.specs.Trees.{context_in}
use Rattle.sgml_infer.specs.Visibles.{after_left_out}
use Rattle.sgml_inside.specs.Laws.{AreInForce}
use Rattle.sgml_prolog_steps.specs.declared.stepping.Stop.{Stop}
use Rattle.sgml_prolog_steps.specs.declared.stepping.Stop.TheVariants as stop
use Rattle.sgml_content_steps.specs.Standing.{IsHeld}
use Rattle.sgml_content_steps.specs.Found.{IsEndThere}
use Rattle.sgml_content_steps.specs.Laws.{text_ended}
use Rattle.sgml_content_steps.proofs.Pieces.{ends-are-pieces}
use Rattle.sgml_content_steps.specs.Content.{Content, Holds, IsContent}
use Rattle.sgml_content_steps.specs.Steps.{LeavesAsItWas, entities_told}
use Rattle.sgml_content_steps.specs.declared.run.Run.{Run}
use Rattle.sgml_content_steps.specs.Runs.{state_left, move_of}
use Rattle.sgml_content_steps.specs.Judged.{MayStand, JudgedMayStand, IsRefusedFor, IsJudgedStop}
use Rattle.sgml_content_steps.specs.Taken.{IsRunTaken}
use Rattle.sgml_content_tags.specs.Finish.{Finishes, FinishesBy, IsLastStep, EndsDocument, TellsDocumentEnd}
use Rattle.sgml_content_tags.proofs.Still.{finish-still, noted-still}
use Rattle.sgml_content_tags.proofs.Going.{IsToldOf, move-said, move-entities}
use Rattle.sgml_content_tags.proofs.Stopping.{silent, leaves-itself, refused-next}
use Rattle.sgml_content_tags.proofs.Ending.{judged_from, IsJudgedFor}

abbrev the_end : Piece
the_end = sized 0 Finish

-- WHAT IS SPELLED at the end of the document's text
ended-as : (old : Content) (is_open : Bool) → entity_of old.kept.stack.places ≡ 0 → is_open_at (length old.kept.stack.places) old.kept.sections ≡ is_open
    → text_ended (entity_of old.kept.stack.places == 0) (is_open_at (length old.kept.stack.places) old.kept.sections) ≡ text_ended true is_open
ended-as old is_open document e =
    ap (λ (m : ℕ). text_ended (m == 0) (is_open_at (length old.kept.stack.places) old.kept.sections)) document ∙ ap (text_ended true) e

spelled-end : (old : Content) (is_open : Bool) → IsContent old → entity_of old.kept.stack.places ≡ 0 → is_open_at (length old.kept.stack.places) old.kept.sections ≡ is_open
    → (texts : List (ℕ × Text)) (st : ScanState) (more : Bool) → IsEndThere old.kept st texts more → (outside : Outside) (x : Held) → IsHeld old.kept st x
    → IsSpelledIn outside x texts more (text_ended true is_open)
spelled-end old is_open is document e texts st more there outside x held =
    subst (IsSpelledIn outside x texts more) (ended-as old is_open document e) (ends-are-pieces old.kept st texts more is.instance there outside x held)

-- the end tells nothing and has no values
end-silent : (s : State) → events_at forms s the_end ≡ []
unfolding shown items_of
end-silent s = refl

end-unvalued : (s : State) → unvalued s Finish ≡ None
unfolding unvalued
end-unvalued s = refl

same-levels : (ls : List Level) → levels_with Finish ls ≡ ls
unfolding token
same-levels [] = refl
same-levels (l ∷ ls) = refl

module _ (texts : List (ℕ × Text)) (old t : Content) (tree : Tree) (table : Table) (run : Run) (told : List Event)
    (law : JudgedMayStand) (j : IsJudgedFor old tree table visible.EndDocument run) (is : IsContent old)
    (document : entity_of old.kept.stack.places ≡ 0) (no_section : is_open_at (length old.kept.stack.places) old.kept.sections ≡ false)
    (kept : t.kept ≡ old.kept) (currents : t.currents ≡ table) (taken : IsRunTaken (judged_from old tree table) t visible.EndDocument told) where
  abbrev d : Doctype
  d = old.kept.doctype

  abbrev c : Content
  c = judged_from old tree table

  may : (x : Held) → Holds old x → MayStand c visible.EndDocument x the_end
  may x h = law c visible.EndDocument run x the_end j.content j.judged (j.holds x h) refl refl

  finish-told : (x : Held) → Holds old x → IsToldOf c x the_end d told []
  finish-told x h = record {
    run_said = (taken.holds x (j.holds x h)).said;
    run_entities = taken.entities;
    said = sym (end-silent (state_left c x));
    entities = refl;
  }

  finishes : (st : ScanState) (more : Bool) → IsEndThere old.kept st texts more → (outside : Outside) (x : Held) → Holds old x → IsHeld old.kept st x
      → Finishes outside texts more x d told
  finishes st more there outside x h held = record {
    move = move_of c x the_end;
    next = record {
      piece = the_end;
      spelled = spelled-end old false is document no_section texts st more there outside x held;
      moves = subst (λ (q : Piece). IsMove (state_of x) q (move_of c x the_end)) (sym (noted-still (state_of x) the_end finish-still))
          ((may x h).moves (end-unvalued (state_left c x)));
      finishes = refl;
    };
    said = ap (all_said d) (sym (append-nil told)) ∙ move-said c x the_end d told [] (finish-told x h);
    entities = ap entities_told (sym (append-nil told)) ∙ move-entities c x the_end d told [] (finish-told x h);
  }

  levels-after : (context_in d t.tree).levels ≡ (after_left_out d tree).levels
  unfolding context_after effect
  levels-after =
      ap (λ (s : Context). s.levels) (ap (λ (k : Kept). context_in k.doctype t.tree) (sym kept) ∙ taken.context the_end refl)
      ∙ same-levels (after_left_out d tree).levels

  content-after : IsContent t
  content-after = subst IsContent (λ i. record { kept = sym kept i; tree = t.tree; inside = t.inside; currents = sym currents i }) (record {
    instance = is.instance;
    tree = taken.tree;
    maps = subst (λ (ls : List Level). AreInForce d ls t.inside.elements) (sym levels-after) taken.maps;
    room = taken.room;
    ended = taken.ended;
    lists = j.content.lists;
  })

  pub finish-tells : (before after : List Event) → after ≡ before ++ told → TellsDocumentEnd texts old t before after (Ok tt)
  finish-tells before after e = (
    told,
    e,
    taken.at,
    λ st more there. record { finishes = finishes st more there; left = tt; content = content-after; kept = kept },
  )

-- WHERE IT MAY NOT STAND
last-stop : (st : ScanState) (texts : List (ℕ × Text)) (more : Bool) (old new : Content) (e : Stop)
    → ((outside : Outside) (x : Held) → Holds old x → IsHeld old.kept st x → FinishesBy outside texts more x old.kept.doctype [] (Err e))
    → LeavesAsItWas old new [] → IsContent new → IsLastStep st texts more old new [] (Err e)
last-stop st texts more old new e f left is = record { finishes = f; left = left; content = is; kept = left.kept }

module _ (texts : List (ℕ × Text)) (old new : Content) (is : IsContent old)
    (document : entity_of old.kept.stack.places ≡ 0) (no_section : is_open_at (length old.kept.stack.places) old.kept.sections ≡ false) where
  stops-by : (e : Stop) → IsJudgedStop e → ((r : Reason) → e ≡ stop.Refused r → (x : Held) → Holds old x → IsRefusedFor old.kept.doctype visible.EndDocument (state_of x) r)
      → LeavesAsItWas old new [] → IsContent new → EndsDocument texts old new [] (Err e)
  stops-by (stop.Refused r) judged why left now st more there =
      last-stop st texts more old new (stop.Refused r)
      (λ outside x h held. refused-next outside x texts more the_end r (spelled-end old false is document no_section texts st more there outside x held)
      (noted-still (state_of x) the_end finish-still) (why r refl x h the_end refl refl))
      left now
  stops-by stop.Memory judged why left now st more there = last-stop st texts more old new stop.Memory (λ outside x h held. tt) left now
  stops-by (stop.Wanted entity file) judged why left now st more there = absurd judged
  stops-by stop.More judged why left now st more there = absurd judged

  pub finish-stops : (e : Stop) (before after : List Event) → IsJudgedStop e
      → ((r : Reason) → e ≡ stop.Refused r → (x : Held) → Holds old x → IsRefusedFor old.kept.doctype visible.EndDocument (state_of x) r)
      → ((x : Held) → Holds old x → Holds new x) → new.kept ≡ old.kept → IsContent new → after ≡ before
      → TellsDocumentEnd texts old new before after (Err e)
  finish-stops e before after judged why holds kept now t =
      silent (λ told. EndsDocument texts old new told (Err e)) old.kept before after t
      (stops-by e judged why (record { holds = holds; kept = kept; silent = refl }) now)

-- a section is open (10.4)
pub open-tells : (texts : List (ℕ × Text)) (old : Content) (told : List Event) → IsContent old → entity_of old.kept.stack.places ≡ 0
    → is_open_at (length old.kept.stack.places) old.kept.sections ≡ true → TellsDocumentEnd texts old old told told (Err (stop.Refused reason.SectionOpen))
open-tells texts old told is document e =
    silent (λ told. EndsDocument texts old old told (Err (stop.Refused reason.SectionOpen))) old.kept told told refl
    (λ st more there. last-stop st texts more old old (stop.Refused reason.SectionOpen)
    (λ outside x h held. inl (spelled-end old true is document e texts st more there outside x held)) (leaves-itself old) is)

pub memory-tells : (texts : List (ℕ × Text)) (old new : Content) (before after : List Event) → ((x : Held) → Holds old x → Holds new x) → new.kept ≡ old.kept
    → IsContent new → after ≡ before → TellsDocumentEnd texts old new before after (Err stop.Memory)
memory-tells texts old new before after holds kept is e =
    silent (λ told. EndsDocument texts old new told (Err stop.Memory)) old.kept before after e
    (λ st more there. last-stop st texts more old new stop.Memory (λ outside x h held. tt) (record { holds = holds; kept = kept; silent = refl }) is)
