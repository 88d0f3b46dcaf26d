-- What is kept after a piece that opens and closes nothing, and what its data tells.
use Rattle.std.specs.Prelude.{◌≡◌, ℕ, Bool, true, false, Option, Some, None, List, [], ◌∷◌, ◌++◌}
use Rattle.sgml_text.specs.Units.{characters}
use Rattle.sgml_text.specs.declared.unit.Unit.{Unit as AnyUnit}
use Rattle.sgml_inside.specs.records.Items.{Item, Data}
use Rattle.sgml_infer.specs.theory_reading.Events.{releases_by}
use Rattle.sgml_infer.specs.declared.visible.Visible.TheVariants as visible
use Rattle.sgml_inside.specs.declared.inside.Inner.{Inner}
use Rattle.sgml_inside.specs.Inside.{facts_of, noted_in}
use Rattle.sgml_prolog_steps.specs.Found.{moved_on}
use Rattle.sgml_events.specs.declared.event.Event.{Event}
use Rattle.sgml_events.specs.declared.event.Event.TheVariants as event
use Rattle.sgml_content_steps.specs.Content.{Content}
use Rattle.sgml_content_steps.specs.Taken.{TakesRun}

abbrev pub noted_if : Option Item → List Inner → List Inner
noted_if None xs = xs
noted_if (Some i) xs = noted_in i xs

-- after so many bytes, with an item or without one
abbrev pub with_item : ℕ → Option Item → Content → Content
with_item n it c = record c { kept = moved_on n c.kept; inside = record c.inside { elements = noted_if it c.inside.elements } }

-- A RECORD END that waited is data directly before what puts it out (7.6.1)
abbrev pub put_out : Bool → List Event
put_out true = event.Chars (characters (13 ∷ [])) ∷ []
put_out false = []

abbrev pub data_told : Bool → List AnyUnit → List Event
data_told released units = put_out released ++ (event.Chars units ∷ [])

-- A PIECE OF CONTENT WAS TAKEN after the run that was judged: so many bytes, with this item, which puts a record end
-- out or not
pub record IsTaken (judged new : Content) (n : ℕ) (item : Item) (before after : List Event) (released : Bool) : Type 0 where
  pub after_run : Content
  pub run : TakesRun judged after_run visible.Chars before after
  pub texts : after_run.kept ≡ judged.kept
  pub currents : after_run.currents ≡ judged.currents
  pub kept : new ≡ with_item n (Some item) after_run
  pub puts_out : released ≡ releases_by (facts_of after_run.inside.elements) item

-- data, which is told behind what the run tells
pub record IsDataTaken (judged new : Content) (n : ℕ) (units : List AnyUnit) (before after : List Event) : Type 0 where
  pub run_told : List Event
  pub released : Bool
  pub taken : IsTaken judged new n Data before run_told released
  pub told : after ≡ run_told ++ data_told released units
