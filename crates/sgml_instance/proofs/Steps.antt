-- A step of content, in the state in which content is scanned there.
use Rattle.std.specs.Prelude.{ℕ, Bool, List, Result, Ok, Err, OnErr}
use Rattle.sgml_events.specs.declared.event.Event.{Event}
use Rattle.sgml_scan.specs.declared.state.ScanState.{ScanState}
use Rattle.sgml_declared.specs.theory_reading.Names.{Text}
use Rattle.sgml_declared.specs.theory_reading.Unread.{Outside}
use Rattle.sgml_declared.specs.theory_standing.Held.{Held}
use Rattle.sgml_declared.specs.Files.{Choices}
use Rattle.sgml_prolog_steps.specs.declared.stepping.Stop.{Stop}
use Rattle.sgml_prolog_steps.specs.declared.stepping.Stop.TheVariants as stop
use Rattle.sgml_content_tags.specs.sgml_content_steps.Content.{Content}
use Rattle.sgml_content_tags.specs.sgml_content_steps.Steps.{StepsBy, LeavesAsItWas, IsStep, ToldAt}
use Rattle.sgml_instance.specs.Stepping.{StepsTo, Falls, IsStepOn, on}
use Rattle.sgml_content_tags.specs.sgml_content_steps.Plainly.{IsScannedIn}

steps-on : (outside : Outside) (texts : List (ℕ × Text)) (ended : Bool) (x : Held) (new : Content) (told : List Event) (result : Result (Unit {0}) Stop)
    → StepsBy outside texts ended x new told result → StepsTo outside texts ended x new told (on result)
steps-on outside texts ended x new told (Ok done) s = s
steps-on outside texts ended x new told (Err (stop.Refused r)) s = s
steps-on outside texts ended x new told (Err (stop.Wanted number file)) s = s
steps-on outside texts ended x new told (Err stop.More) s = s
steps-on outside texts ended x new told (Err stop.Memory) s = s

falls-on : (c : Choices) (st : ScanState) (texts : List (ℕ × Text)) (ended : Bool) (old new : Content) (told : List Event) (result : Result (Unit {0}) Stop)
    → IsStep c st texts ended old new told result → Falls texts old new (on result)
falls-on c st texts ended old new told (Ok done) s = s.falls
falls-on c st texts ended old new told (Err e) s = tt

left-on : (c : Choices) (st : ScanState) (texts : List (ℕ × Text)) (ended : Bool) (old new : Content) (told : List Event) (result : Result (Unit {0}) Stop)
    → IsStep c st texts ended old new told result → OnErr (on result) (LeavesAsItWas old new told)
left-on c st texts ended old new told (Ok done) s = tt
left-on c st texts ended old new told (Err e) s = s.left

pub step-on : (c : Choices) (st : ScanState) (texts : List (ℕ × Text)) (ended : Bool) (old new : Content) (told : List Event) (result : Result (Unit {0}) Stop)
    → IsScannedIn st old → ToldAt old.kept told → IsStep c st texts ended old new told result → IsStepOn c texts ended old new told (on result)
step-on c st texts ended old new told result held at s = record {
  steps = λ outside x o h. steps-on outside texts ended x new told result (s.steps outside x o h (held x h));
  falls = falls-on c st texts ended old new told result s;
  left = left-on c st texts ended old new told result s;
  placed = at;
  content = s.content;
  doctype = s.doctype;
  expand = s.expand;
}
