-- The values of a visible start, and why it has none (7.9, 11.3).
use Rattle.std.specs.Prelude.{◌≡◌, ℕ, Option, Some, None, List}
use Rattle.sgml_text.specs.declared.reason.Reason.TheVariants as reason
use Rattle.sgml_starts.specs.declared.error.StartError.{StartError}
use Rattle.sgml_starts.specs.declared.error.StartError.TheVariants as error
use Rattle.sgml_theory_spelling.specs.theory_reading.Names.{Name, Text}
use Rattle.sgml_theory_spelling.specs.theory_reading.Unread.{file_of}
use Rattle.sgml_declared.specs.theory_standing.Kept.{Kept, sources_of}
use Rattle.sgml_declared.specs.Files.{Choices, InEach}
use Rattle.sgml_prolog_steps.specs.declared.stepping.Stop.{Stop}
use Rattle.sgml_prolog_steps.specs.declared.stepping.Stop.TheVariants as stop
use Rattle.sgml_starts.specs.Specified.{Specified, specified}
use Rattle.sgml_starts.specs.Values.{Start}
use Rattle.sgml_starts.specs.Starts.{start_of, after, HasValues}
use Rattle.sgml_content_steps.specs.theory_starts.There.{input_at}
use Rattle.sgml_content_steps.specs.theory_starts.Starts.{Table}
use Rattle.sgml_content_steps.specs.Content.{Content}
use Rattle.sgml_starts.specs.declared.starts.StartValues.{StartValues}

-- the text of an entity is in this file, or in none, in each outside of a run with these options
abbrev pub IsFileOf : Choices → Kept → ℕ → Option Name → Type 0
IsFileOf c k number file = InEach c (λ outside. file_of outside (sources_of k) number) file

-- A TEXT IS WANTED: its file is to be fetched first; without one the text is none that can be read (10.1.6)
abbrev pub WantsBy : Choices → Kept → ℕ → Stop → Type 0
WantsBy c k number (stop.Wanted m file) = (m ≡ number) × IsFileOf c k number (Some file)
WantsBy c k number (stop.Refused r) = (r ≡ reason.Unresolved) × IsFileOf c k number None
WantsBy c k number stop.More = ⊥
WantsBy c k number stop.Memory = Unit {0}

-- why nothing is taken of a start that has no values
abbrev pub StopsFor : Choices → Kept → StartError → Stop → Type 0
StopsFor c k (error.Refused r) s = s ≡ stop.Refused r
StopsFor c k (error.Wanted number) s = WantsBy c k number s
StopsFor c k error.Memory s = s ≡ stop.Memory

-- A START of the type of this number where this is kept, and what its tag of so many bytes specifies
abbrev pub start_for : Content → ℕ → Start
start_for c number = start_of c.kept.doctype.syntax c.kept.doctype number c.currents

abbrev pub specified_in : Content → List (ℕ × Text) → Option ℕ → Specified
specified_in c texts tag = specified (input_at c.kept texts) tag

-- after its tag, with these current values
abbrev pub after_tag : Content → List (ℕ × Text) → Option ℕ → Table → Content
after_tag c texts tag currents =
    record c { kept = record c.kept { stack = after c.kept.stack (specified_in c texts tag).spent tag }; currents = currents }

abbrev pub HasValuesOf : Content → List (ℕ × Text) → ℕ → Option ℕ → StartValues → Table → Type 0
HasValuesOf c texts number tag start currents = HasValues (start_for c number) (specified_in c texts tag) start currents
