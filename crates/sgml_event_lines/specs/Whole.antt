-- What writing all events leaves in a sink.
use Rattle.std.specs.Prelude.{◌≡◌, ℕ, Bool, Option, List, Result, Ok, Err}
use Rattle.std.specs.Io.KnownBytes.{Appends}
use Rattle.sgml_io.specs.Causes.{Rose}
use Rattle.sgml_io.specs.Writes.{AppendsFront}
use Rattle.sgml_esis.specs.Spelling.{spell_lines}
use Rattle.sgml_dtd.specs.Doctypes.{Doctype}
use Rattle.sgml_events.specs.declared.event.Event.{Event}
use Rattle.sgml_event_lines.specs.declared.whole.EventsError.{EventsError}
use Rattle.sgml_event_lines.specs.declared.whole.EventsError.TheVariants as errors
use Rattle.sgml_event_lines.specs.Lines.{lines_told}

-- all the lines; at a fault a front of them; without memory nothing
abbrev pub WritesAll : {T : Type 0} → Doctype → List Event → Bool → Option (List ℕ) → ℕ → Option (List ℕ) → ℕ → Result T EventsError → Type 0
WritesAll d es conforming taken faults taken_new faults_new (Ok x) = Appends taken taken_new (spell_lines (lines_told d es conforming))
WritesAll d es conforming taken faults taken_new faults_new (Err errors.Fault) = AppendsFront taken taken_new (spell_lines (lines_told d es conforming)) × Rose faults faults_new
WritesAll d es conforming taken faults taken_new faults_new (Err errors.Memory) = (taken_new ≡ taken) × (faults_new ≡ faults)

-- into a sink of which it is told what it has taken and how often it failed
abbrev pub WritesAllInto : {S T : Type 0} → Doctype → List Event → Bool → (S → Option (List ℕ)) → (S → ℕ) → S → S → Result T EventsError → Type 0
WritesAllInto d es conforming taken faults sink sink_now result = WritesAll d es conforming (taken sink) (faults sink) (taken sink_now) (faults sink_now) result
