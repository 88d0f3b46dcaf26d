-- What is kept once a run was taken: the open elements are those after the visible piece, and all else is as after
-- the run, before that piece.
use Rattle.std.specs.Prelude.{◌≡◌, ◌<◌, ◌≤◌, ◌++◌, List, [], true, option_map, IfSome}
use Rattle.sgml_events.specs.declared.event.Event.{Event}
use Rattle.sgml_said.specs.Told.{all_said}
use Rattle.sgml_theory_starts.specs.theory_reading.Pieces.{Piece}
use Rattle.sgml_theory_starts.specs.theory_reading.Currents.{AreCurrents}
use Rattle.sgml_theory_starts.specs.theory_reading.Events.{events_of_run}
use Rattle.sgml_theory_starts.specs.theory_spelling.Spelled.{forms}
use Rattle.sgml_theory_starts.specs.theory_standing.Held.{Held, state_of}
use Rattle.sgml_infer.specs.Tables.{name_at, IsNumber}
use Rattle.sgml_infer.specs.Trees.{IsTreeOf}
use Rattle.sgml_infer.specs.declared.visible.Visible.{Visible}
use Rattle.sgml_infer.specs.Visibles.{IsVisible, after_left_out, after_judged, begins_element}
use Rattle.sgml_inside.specs.Inside.{ends_in, settings_in}
use Rattle.sgml_inside.specs.Laws.{AreInForce}
use Rattle.sgml_content_steps.specs.Content.{Content, Holds, context_of}
use Rattle.sgml_content_steps.specs.Steps.{entities_told, ToldAt}
use Rattle.sgml_content_steps.specs.Runs.{run_of, state_left, IsRun}
use Rattle.sgml_text.specs.declared.place.Place.{Place}
use Rattle.sgml_theory_starts.specs.theory_reading.Reads.{top_place}
use Rattle.sgml_content_steps.specs.declared.run.Run.{Run}

-- SINCE A RUN WAS JUDGED nothing was taken but values of the visible piece: the texts may be read further, and there
-- may be other current values
pub record IsJudgedBefore (judged now : Content) : Type 0 where
  pub doctype : now.kept.doctype ≡ judged.kept.doctype
  pub tree : now.tree ≡ judged.tree
  pub inside : now.inside ≡ judged.inside

-- of what was held where it was judged
pub record HoldsLeft (old new : Content) (x : Held) (told : List Event) : Type 0 where
  pub record_ends : (state_left old x).record_ends ≡ ends_in new.inside.elements
  pub map_settings : (state_left old x).map_settings ≡ settings_in new.inside.elements
  pub ended : (state_left old x).ended ≡ option_map (name_at old.kept.doctype) new.inside.ended
  pub currents : AreCurrents old.kept.doctype old.currents (state_left old x).currents
  pub said : all_said old.kept.doctype told ≡ events_of_run forms (state_of x) (run_of old)

pub record IsRunTaken (old new : Content) (visible : Visible) (told : List Event) : Type 0 where
  pub holds : (x : Held) → Holds old x → HoldsLeft old new x told
  -- the open elements, after the visible piece
  pub context : (p : Piece) → IsVisible old.kept.doctype visible p.kind → context_of new ≡ after_judged old.kept.doctype old.tree p
  pub began : begins_element old.kept.doctype visible ≡ true → 0 < new.tree.depth
  pub tree : IsTreeOf old.kept.doctype new.tree
  -- what stands inside them, before it
  pub maps : AreInForce old.kept.doctype (after_left_out old.kept.doctype old.tree).levels new.inside.elements
  pub room : old.kept.doctype.syntax.quantities.taglvl ≤ new.inside.room
  pub ended : IfSome new.inside.ended (IsNumber old.kept.doctype)
  -- what it told
  pub entities : entities_told told ≡ []
  pub at : ToldAt old.kept told

-- what it tells comes after what was told before
abbrev pub TakesRun : Content → Content → Visible → List Event → List Event → Type 0
TakesRun old new visible before after = (told : List Event) × (after ≡ before ++ told) × IsRunTaken old new visible told

-- once it was judged, wherever that was at this place
abbrev pub TakesJudged : Content → Content → Place → Visible → Run → List Event → List Event → Type 0
TakesJudged old new place visible run before after =
    (judged : Content) → IsJudgedBefore judged old → IsRun judged visible run → place ≡ top_place judged.kept.stack.places
    → TakesRun judged new visible before after
