-- What a short reference comes to in content (9.4.6, 11.6).
use Rattle.std.specs.Prelude.{◌≡◌, ℕ, ◌==◌, Bool, true, false, List, [], ◌∷◌, take, Option, Some, None, Result, Ok, Err}
use Rattle.sgml_text.specs.declared.reason.Reason.{Reason}
use Rattle.sgml_text.specs.declared.reason.Reason.TheVariants as reason
use Rattle.sgml_theory_reading.specs.records.Items.{Markup, RecordStart}
use Rattle.sgml_entity.specs.declared.kinds.Space.TheVariants as space
use Rattle.sgml_scan.specs.declared.state.ScanState.{ScanState}
use Rattle.sgml_scan.specs.declared.state.Token.{Token}
use Rattle.sgml_dtd.specs.Doctypes.{Doctype}
use Rattle.sgml_events.specs.declared.event.Event.{Event}
use Rattle.sgml_events.specs.declared.event.Event.TheVariants as event
use Rattle.sgml_theory_reading.specs.Names.{Name, Text}
use Rattle.sgml_theory_reading.specs.Types.{entity_number}
use Rattle.sgml_theory_reading.specs.Pieces.{Meaning, ToText, ToData, ToExternalData, ToInstruction, ShortRef}
use Rattle.sgml_theory_reading.specs.Unread.{Outside, Sources}
use Rattle.sgml_theory_reading.specs.State.{State}
use Rattle.sgml_theory_reading.specs.Characters.{ordinary}
use Rattle.sgml_declared.specs.theory_spelling.Stacked.{Stacked}
use Rattle.sgml_declared.specs.theory_spelling.Sized.{sized}
use Rattle.sgml_declared.specs.theory_spelling.References.{unless}
use Rattle.sgml_declared.specs.theory_spelling.Content.{entity_of_string}
use Rattle.sgml_declared.specs.theory_standing.Kept.{Kept}
use Rattle.sgml_declared.specs.theory_standing.Held.{Held, state_of, IsSpelledIn}
use Rattle.sgml_inside.specs.declared.inside.Inner.{Inner}
use Rattle.sgml_inside.specs.Inside.{map_in, noted_in}
use Rattle.sgml_declared.specs.Files.{Choices}
use Rattle.sgml_declared.specs.Opening.{unopened_of}
use Rattle.sgml_prolog_steps.specs.Found.{moved_on, rest_in}
use Rattle.sgml_prolog_steps.specs.declared.stepping.Stop.{Stop}
use Rattle.sgml_content_steps.specs.Standing.{IsHeld}
use Rattle.sgml_content_steps.specs.Found.{IsTokenThere}
use Rattle.sgml_content_steps.specs.Content.{Content, Holds}
use Rattle.sgml_content_steps.specs.Steps.{TellsIn}
use Rattle.sgml_content_references.specs.declared.entity.Said.{Said}
use Rattle.sgml_content_references.specs.declared.entity.Said.TheVariants as said
use Rattle.sgml_content_references.specs.declared.mapping.Mapped.{Mapped}
use Rattle.sgml_content_references.specs.declared.mapping.Mapped.TheVariants as mapped
use Rattle.sgml_content_references.specs.declared.string.Strung.{Strung}
use Rattle.sgml_content_references.specs.declared.string.Strung.TheVariants as strung
use Rattle.sgml_content_references.specs.Referring.{said_of_number}
use Rattle.sgml_theory_reading.specs.Reads.{top_place}

-- the entity of the name that a map gives to a string
abbrev pub numbered : Option ℕ → Mapped
numbered None = mapped.Undeclared
numbered (Some number) = mapped.To number

abbrev pub mapped_to : Doctype → Option Name → Mapped
mapped_to d None = mapped.Nothing
mapped_to d (Some n) = numbered (entity_number d space.General n)

-- by the map in force
abbrev pub mapped_in : Content → ℕ → Mapped
mapped_in c i = mapped_to c.kept.doctype (entity_of_string c.kept.doctype (map_in c.inside.elements) i)

-- what it stands for, by what that entity is
abbrev pub meaning_said : Outside → Sources → Stacked → ℕ → Said → Result Meaning Reason
meaning_said outside k t number said.Nothing = Err reason.Undeclared
meaning_said outside k t number said.Reads = unless (unopened_of outside k t number) (ToText number)
meaning_said outside k t number said.IsData = Ok (ToData number)
meaning_said outside k t number said.IsExternal = Ok (ToExternalData number)
meaning_said outside k t number (said.Instructs text) = Ok (ToInstruction number text)
meaning_said outside k t number said.TooLong = Err reason.PiLength

-- the bytes of the string
abbrev pub string_in : Kept → List (ℕ × Text) → ℕ → Text
string_in k texts n = take n (rest_in k texts)

-- it begins with a record start, which is one in the element beside what it stands for (7.6.1)
abbrev pub starts_record : Text → Bool
starts_record [] = false
starts_record (b ∷ bytes) = b == 10

abbrev pub started : Bool → List Inner → List Inner
started true xs = noted_in RecordStart xs
started false xs = xs

-- AFTER ONE that stands for an instruction, of so many bytes
abbrev pub instructed_by : Bool → ℕ → Content → Content
instructed_by starts n c = record c { kept = moved_on n c.kept; inside = record c.inside { elements = noted_in Markup (started starts c.inside.elements) } }

-- ONE STANDS NEXT that stands for this
abbrev pub StandsFor : List (ℕ × Text) → Token → Content → (State → Text → Meaning) → Type 0
StandsFor texts t old meaning =
    (st : ScanState) (ended : Bool) → IsTokenThere old.kept st texts ended t → (outside : Outside) (x : Held) → Holds old x → IsHeld old.kept st x
    → IsSpelledIn outside x texts ended (Ok (sized t.length (ShortRef (string_in old.kept texts t.length) (meaning (state_of x) (string_in old.kept texts t.length)))))

-- WHAT IS ANSWERED, where a run has these options: it is taken; or it stands for its bytes, or for data, and nothing is
abbrev pub TellsString : Choices → List (ℕ × Text) → Token → Content → Content → List Event → List Event → Result Strung Stop → Type 0
TellsString c texts t old new before after (Ok strung.Taken) = TellsIn c texts t old new before after (Ok tt)
TellsString c texts t old new before after (Ok strung.Ordinary) = (new ≡ old) × (after ≡ before) × StandsFor texts t old (λ s own. ordinary s own)
TellsString c texts t old new before after (Ok (strung.Data number)) =
    (new ≡ old) × (after ≡ before) × (said_of_number old.kept.doctype number ≡ said.IsData) × StandsFor texts t old (λ s own. ToData number)
TellsString c texts t old new before after (Ok (strung.External number)) =
    (new ≡ old) × (after ≡ before) × (said_of_number old.kept.doctype number ≡ said.IsExternal) × StandsFor texts t old (λ s own. ToExternalData number)
TellsString c texts t old new before after (Err s) = TellsIn c texts t old new before after (Err s)

-- the instruction of an entity, where it is told
abbrev pub instruction_told : Content → Text → ℕ → Event
instruction_told c text number = event.Pi text (Some number) (top_place c.kept.stack.places)

-- the record start of a string comes in the innermost element, where there is one
abbrev pub inside_started : Bool → Content → Content
inside_started starts c = record c { inside = record c.inside { elements = started starts c.inside.elements } }
