-- Ends of elements (7.5): what a tag that ends one is, and what is kept after it.
use Rattle.std.specs.Prelude.{◌<◌, ◌≤◌, ℕ, Bool, List, Some, length, Result, Ok}
use Rattle.sgml_scan.specs.declared.state.ScanState.{ScanState}
use Rattle.sgml_events.specs.declared.event.Event.{Event}
use Rattle.sgml_theory_spelling.specs.theory_reading.Names.{Text}
use Rattle.sgml_theory_spelling.specs.theory_reading.Pieces.{Kind, End, How, Tag, Short, Net}
use Rattle.sgml_theory_spelling.specs.theory_reading.Nest.{without_first}
use Rattle.sgml_theory_spelling.specs.theory_reading.Unread.{Outside}
use Rattle.sgml_theory_spelling.specs.Sized.{sized}
use Rattle.sgml_declared.specs.theory_standing.Held.{Held, IsSpelledIn}
use Rattle.sgml_dtd.specs.Doctypes.{Doctype}
use Rattle.sgml_infer.specs.Tables.{name_at}
use Rattle.sgml_infer.specs.declared.visible.Visible.{Visible}
use Rattle.sgml_infer.specs.declared.visible.Visible.TheVariants as visible
use Rattle.sgml_declared.specs.Files.{Choices}
use Rattle.sgml_prolog_steps.specs.Found.{rest_in, moved_on}
use Rattle.sgml_prolog_steps.specs.declared.stepping.Stop.{Stop}
use Rattle.sgml_content_steps.specs.Standing.{IsHeld}
use Rattle.sgml_content_steps.specs.Content.{Content, Holds}
use Rattle.sgml_content_steps.specs.Steps.{IsStep, TellsBy}

-- how it is written
abbrev pub how_ended : Visible → How
how_ended visible.EndCurrent = Short
how_ended visible.Net = Net
how_ended _ = Tag

-- the end of an element of the type of this number
abbrev pub end_kind : Doctype → Visible → ℕ → Kind
end_kind d visible number = End (name_at d number) (how_ended visible)

-- THE INNERMOST ELEMENT ENDED, which is of this type, with markup of so many bytes
abbrev pub closed : ℕ → ℕ → Content → Content
closed n number c = record c {
  kept = moved_on n c.kept;
  inside = record c.inside { elements = without_first c.inside.elements; ended = Some number };
}

-- so many bytes are spelled as that end, whatever is held
abbrev pub IsEndSpelled : Content → ScanState → List (ℕ × Text) → Bool → ℕ → Visible → ℕ → Type 0
IsEndSpelled c st texts ended n visible number =
    (outside : Outside) (x : Held) → Holds c x → IsHeld c.kept st x → IsSpelledIn outside x texts ended (Ok (sized n (end_kind c.kept.doctype visible number)))

-- THE STEP that such an end is, where it is spelled
abbrev pub EndsElement : List (ℕ × Text) → ℕ → Visible → ℕ → Content → Content → List Event → Result (Unit {0}) Stop → Type 0
EndsElement texts n visible number old new told result =
    (c : Choices) (st : ScanState) (ended : Bool) → 0 < n → n ≤ length (rest_in old.kept texts) → IsEndSpelled old st texts ended n visible number
    → IsStep c st texts ended old new told result

abbrev pub TellsEnd : List (ℕ × Text) → ℕ → Visible → ℕ → Content → Content → List Event → List Event → Result (Unit {0}) Stop → Type 0
TellsEnd texts n visible number old new before after result = TellsBy (λ told. EndsElement texts n visible number old new told result) old.kept before after
