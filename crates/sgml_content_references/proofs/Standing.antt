-- What is answered of a short reference.
use Rattle.std.proofs.Common.{◌≡◌, ℕ, ◌<◌, ◌==◌, Bool, true, false, List, [], ◌∷◌, ◌++◌, Option, None, Some, Result, Ok, Err, length, refl, sym, ◌∙◌, ap, subst, append-nil, if◌then◌else◌}
use Rattle.std.specs.Prelude.{reverse}
use Rattle.std.proofs.lemmas.List.{reverse-reverse}
use Rattle.sgml_text.specs.declared.place.Place.{Place}
use Rattle.sgml_text.specs.declared.reason.Reason.{Reason}
use Rattle.sgml_text.specs.declared.reason.Reason.TheVariants as reason
use Rattle.sgml_theory_reading.specs.records.Items.{Markup, RecordStart}
use Rattle.sgml_theory_reading.specs.records.Facts.{Facts}
use Rattle.sgml_scan.specs.markup.declared.kinds.TokenKind.TheVariants as kind
use Rattle.sgml_scan.specs.declared.state.ScanState.{ScanState}
use Rattle.sgml_scan.specs.declared.state.Token.{Token}
use Rattle.sgml_events.specs.declared.event.Event.{Event}
use Rattle.sgml_events.specs.declared.event.Event.TheVariants as event
use Rattle.sgml_theory_reading.specs.Names.{Text}
use Rattle.sgml_theory_reading.specs.Pieces.{Kind, Meaning, ShortRef, ToText, ToInstruction}
use Rattle.sgml_theory_reading.specs.Facets.{turn, border, declares, subset_named, stage_after, effect, token, is_finish, is_omitted}
use Rattle.sgml_theory_reading.specs.Events.{Instruction, shown, silent, told_by, shown_instruction}
use Rattle.sgml_theory_reading.specs.Sections.{sections_after}
use Rattle.sgml_theory_reading.specs.Characters.{kind_noted, facts_in}
use Rattle.sgml_theory_reading.specs.Reads.{top_place}
use Rattle.sgml_theory_reading.specs.Unread.{Outside, Sources}
use Rattle.sgml_declared.specs.theory_spelling.Stacked.{Stacked}
use Rattle.sgml_declared.specs.theory_spelling.Sized.{sized, sized_spent, sized_ok}
use Rattle.sgml_declared.specs.theory_spelling.References.{unless}
use Rattle.sgml_declared.specs.theory_spelling.Content.{kind_of_string}
use Rattle.sgml_declared.specs.theory_standing.Kept.{Kept, sources_of}
use Rattle.sgml_declared.specs.theory_standing.Prologs.{alone}
use Rattle.sgml_declared.specs.theory_standing.Held.{Held, state_of, IsSpelledIn}
use Rattle.sgml_declared.specs.theory_standing.Moves.{told_by_moves}
use Rattle.sgml_inside.specs.Inside.{noted_in}
use Rattle.sgml_declared.specs.Files.{Choices}
use Rattle.sgml_declared.specs.Taking.{stacked_on}
use Rattle.sgml_prolog_steps.specs.declared.stepping.Stop.{Stop}
use Rattle.sgml_prolog_steps.specs.declared.stepping.Stop.TheVariants as stop
use Rattle.sgml_content_steps.specs.Found.{IsTokenThere}
use Rattle.sgml_content_steps.specs.Content.{Content, IsContent}
use Rattle.sgml_content_steps.specs.Steps.{IsStep, TakesIn, TellsIn}
use Rattle.sgml_content_sections.specs.Changes.{further}
use Rattle.sgml_content_sections.proofs.Quiet.{IsAlone, IsQuiet, refused-step, memory-step, now-kept}
use Rattle.sgml_content_sections.proofs.Steady.{IsSteady, plain-stack, told-step}
use Rattle.sgml_content_references.specs.declared.entity.Said.{Said}
use Rattle.sgml_content_references.specs.declared.entity.Said.TheVariants as said
use Rattle.sgml_content_references.specs.declared.mapping.Mapped.TheVariants as mapped
use Rattle.sgml_content_references.specs.Referring.{said_of_number, IsTextOpened, IsTextShut}
use Rattle.sgml_content_references.specs.Strings.{mapped_in, meaning_said, string_in, starts_record, started, instructed_by, StandsFor}
use Rattle.sgml_content_references.proofs.Entering.{SpellsText, IsOpener, turns-to, opened-step, shut-step}
use Rattle.sgml_content_references.proofs.Stringing.{undeclared-spelled, mapped-spelled, text-inside, instruction-inside, started-in-force, marked-in-force}
use Rattle.sgml_content_references.proofs.Telling.{at-none, at-one}

-- WHERE NOTHING IS TOLD
pub quietly : (c : Choices) (texts : List (ℕ × Text)) (t : Token) (old new : Content) (before after : List Event) (r : Result (Unit {0}) Stop) → after ≡ before
    → TakesIn c texts t old new [] r → TellsIn c texts t old new before after r
quietly c texts t old new before after r e takes = ([], e ∙ sym (append-nil before), at-none (top_place old.kept.stack.places), takes)

pub memory-in : (c : Choices) (texts : List (ℕ × Text)) (t : Token) (old new : Content) → IsContent old → new ≡ old → TakesIn c texts t old new [] (Err stop.Memory)
memory-in c texts t old new is e st ended there = subst (λ (z : Content). IsStep c st texts ended old z [] (Err stop.Memory)) (sym e) (memory-step c st texts ended old is)

-- WHY IT ISN'T TAKEN
pub undeclared-in : (c : Choices) (texts : List (ℕ × Text)) (t : Token) (old : Content) (i : ℕ) → IsContent old → t.kind ≡ kind.ShortRef i → mapped_in old i ≡ mapped.Undeclared
    → TakesIn c texts t old old [] (Err (stop.Refused reason.Undeclared))
undeclared-in c texts t old i is k named st ended there =
    refused-step c st texts ended old reason.Undeclared is (λ outside x o h held. undeclared-spelled st texts ended t old outside x i is there k h held named)

pub none-in : (c : Choices) (texts : List (ℕ × Text)) (t : Token) (old : Content) (i number : ℕ) (s : Said) (r : Reason) → IsContent old → t.kind ≡ kind.ShortRef i → mapped_in old i ≡ mapped.To number
    → s ≡ said_of_number old.kept.doctype number → ((outside : Outside) (k : Sources) (on : Stacked) → meaning_said outside k on number s ≡ Err r) → TakesIn c texts t old old [] (Err (stop.Refused r))
none-in c texts t old i number s r is k named what none st ended there =
    refused-step c st texts ended old r is
    (λ outside x o h held.
    subst (λ (a : Result Meaning Reason). IsSpelledIn outside x texts ended (sized_ok t.length (kind_of_string (string_in old.kept texts t.length) a))) (none outside (sources_of old.kept) (stacked_on old.kept.stack))
    (mapped-spelled st texts ended t old outside x i number s is there k h held named what))

-- DATA
pub data-stands : (texts : List (ℕ × Text)) (t : Token) (old : Content) (i number : ℕ) (s : Said) (m : Meaning) → IsContent old → t.kind ≡ kind.ShortRef i → mapped_in old i ≡ mapped.To number
    → s ≡ said_of_number old.kept.doctype number → ((outside : Outside) (k : Sources) (on : Stacked) → meaning_said outside k on number s ≡ Ok m) → StandsFor texts t old (λ z own. m)
data-stands texts t old i number s m is k named what is_data st ended there outside x h held =
    subst (λ (a : Result Meaning Reason). IsSpelledIn outside x texts ended (sized_ok t.length (kind_of_string (string_in old.kept texts t.length) a))) (is_data outside (sources_of old.kept) (stacked_on old.kept.stack))
    (mapped-spelled st texts ended t old outside x i number s is there k h held named what)

-- A TEXT
text-silent : (f : Facts) (b : Bool) → told_by f (silent (if b then RecordStart ∷ [] else [])) ++ [] ≡ []
text-silent f true = refl
text-silent f false = refl

text-tells : (y : Held) (n spent number : ℕ) (own : Text) → told_by_moves y (alone (sized_spent n spent (ShortRef own (ToText number))) ∷ []) ≡ []
unfolding shown
text-tells y n spent number [] = refl
text-tells y n spent number (b ∷ bytes) = text-silent (facts_in (state_of y).record_ends) (b == 10)

text-quiet : (own : Text) (number : ℕ) → IsQuiet (ShortRef own (ToText number))
unfolding token effect is_finish is_omitted kind_noted
text-quiet own number = record {
  is_alone = record { stands = refl; of_content = refl; written = refl; noted = λ s. refl };
  tells = λ y n spent. text-tells y n spent number own;
  names_none = refl;
}

text-opens : (own : Text) (number : ℕ) → 1 < number → IsOpener (ShortRef own (ToText number)) number
unfolding turn border declares subset_named stage_after
text-opens own number l = record {
  quiet = text-quiet own number;
  turn_is = turns-to number l;
  border_is = refl;
  declares_none = λ d. refl;
  names_none = refl;
  stays = refl;
}

unless-string : (own : Text) (number : ℕ) (o : Option Reason) → kind_of_string own (unless o (ToText number)) ≡ unless o (ShortRef own (ToText number))
unless-string own number None = refl
unless-string own number (Some r) = refl

text-spelled : (st : ScanState) (texts : List (ℕ × Text)) (ended : Bool) (t : Token) (old : Content) (i number : ℕ) → IsContent old → t.kind ≡ kind.ShortRef i → mapped_in old i ≡ mapped.To number
    → said.Reads ≡ said_of_number old.kept.doctype number → IsTokenThere old.kept st texts ended t → SpellsText st texts ended t old (ShortRef (string_in old.kept texts t.length) (ToText number)) number
text-spelled st texts ended t old i number is k named reads there outside x o h held w =
    let own = string_in old.kept texts t.length in
    subst (λ (a : Result Kind Reason). IsSpelledIn outside x texts ended (sized_ok t.length a))
    (ap (λ r. kind_of_string own (unless r (ToText number))) w ∙ unless-string own number o)
    (mapped-spelled st texts ended t old outside x i number said.Reads is there k h held named reads)

-- of what was shown before it was opened, or wasn't
pub text-taken : (c : Choices) (texts : List (ℕ × Text)) (t : Token) (shown old new : Content) (k : Kept) (i number : ℕ) (starts : Bool) (before : List Event) → shown ≡ old → IsContent old → t.kind ≡ kind.ShortRef i
    → mapped_in old i ≡ mapped.To number → said.Reads ≡ said_of_number old.kept.doctype number → starts ≡ starts_record (string_in shown.kept texts t.length)
    → IsTextOpened c texts t.length number shown.kept k
    → new ≡ record shown { kept = k; inside = record shown.inside { elements = started starts shown.inside.elements } } → TellsIn c texts t old new before before (Ok tt)
text-taken c texts t shown old new k i number starts before e is entity named reads begins opened same =
    let own = string_in old.kept texts t.length in
    let at : starts ≡ starts_record own = begins ∙ ap (λ (z : Content). starts_record (string_in z.kept texts t.length)) e in
    quietly c texts t old new before before (Ok tt) refl
    (λ st. opened-step c st texts t old new k (ShortRef own (ToText number)) number (started (starts_record own) old.inside.elements) is reads
    (λ ended there. text-spelled st texts ended t old i number is entity named reads there) (text-opens own number) (text-inside own number old.inside.elements)
    (started-in-force old (starts_record own) is) (subst (λ (z : Content). IsTextOpened c texts t.length number z.kept k) e opened)
    (same ∙ (λ j. record (e j) { kept = k; inside = record (e j).inside { elements = started (at j) (e j).inside.elements } })))

pub text-left : (c : Choices) (texts : List (ℕ × Text)) (t : Token) (shown old : Content) (k : Kept) (i number : ℕ) (before : List Event) (s : Stop) → shown ≡ old → IsContent old → t.kind ≡ kind.ShortRef i
    → mapped_in old i ≡ mapped.To number → said.Reads ≡ said_of_number old.kept.doctype number → IsTextShut c texts t.length number shown.kept s → k ≡ shown.kept
    → TellsIn c texts t old (record shown { kept = k }) before before (Err s)
text-left c texts t shown old k i number before s e is entity named reads shut left =
    let own = string_in old.kept texts t.length in
    quietly c texts t old (record shown { kept = k }) before before (Err s) refl
    (λ st. shut-step c st texts t old (record shown { kept = k }) (ShortRef own (ToText number)) number s is reads
    (λ ended there. text-spelled st texts ended t old i number is entity named reads there) (subst (λ (z : Content). IsTextShut c texts t.length number z.kept s) e shut) (now-kept k shown old e left))

-- AN INSTRUCTION
pi-alone : (own : Text) (number : ℕ) (text : Text) → IsAlone (ShortRef own (ToInstruction number text))
unfolding token effect is_finish is_omitted kind_noted
pi-alone own number text = record { stands = refl; of_content = refl; written = refl; noted = λ s. refl }

pi-steady : (own : Text) (number : ℕ) (text : Text) → IsSteady (ShortRef own (ToInstruction number text))
unfolding turn declares subset_named stage_after
pi-steady own number text = record { turn_is = refl; declares_none = λ d. refl; names_none = refl; stays = refl }

pi-said : (f : Facts) (text : Text) (number : ℕ) (b : Bool) → told_by f (silent (if b then RecordStart ∷ [] else []) ++ (shown_instruction text (Some number) ∷ [])) ++ [] ≡ Instruction text (Some number) ∷ []
pi-said f text number true = refl
pi-said f text number false = refl

pi-told : (y : Held) (n spent number : ℕ) (own text : Text) → told_by_moves y (alone (sized_spent n spent (ShortRef own (ToInstruction number text))) ∷ []) ≡ Instruction text (Some number) ∷ []
unfolding shown
pi-told y n spent number [] text = refl
pi-told y n spent number (b ∷ bytes) text = pi-said (facts_in (state_of y).record_ends) text number (b == 10)

pi-sections : (old : Content) (own text : Text) (number : ℕ)
    → reverse (sections_after (border (ShortRef own (ToInstruction number text))) (length old.kept.stack.places) (reverse old.kept.sections)) ≡ old.kept.sections
unfolding border
pi-sections old own text number = reverse-reverse old.kept.sections

instruction-in : (c : Choices) (texts : List (ℕ × Text)) (t : Token) (old new : Content) (i number : ℕ) (text : Text) (place : Place) → IsContent old → t.kind ≡ kind.ShortRef i → mapped_in old i ≡ mapped.To number
    → said.Instructs text ≡ said_of_number old.kept.doctype number → new ≡ instructed_by (starts_record (string_in old.kept texts t.length)) t.length old
    → TakesIn c texts t old new (event.Pi text (Some number) place ∷ []) (Ok tt)
instruction-in c texts t old new i number text place is k named what e st ended there =
    let own = string_in old.kept texts t.length in
    let y = ShortRef own (ToInstruction number text) in
    let at = plain-stack t.length old.kept.stack in
    subst (λ (z : Content). IsStep c st texts ended old z (event.Pi text (Some number) place ∷ []) (Ok tt)) (sym e)
    (told-step c st texts ended t old y (further t.length old.kept.stack) old.kept.sections (noted_in Markup (started (starts_record own) old.inside.elements)) (event.Pi text (Some number) place ∷ []) 0
    is there (pi-alone own number text) (pi-steady own number text) (pi-sections old own text number) (instruction-inside own number text old.inside.elements) (marked-in-force old (starts_record own) is) at
    (λ x n spent. sym (pi-told x n spent number own text)) refl
    (λ outside x o h held. (sized t.length y, refl, refl, at, mapped-spelled st texts ended t old outside x i number (said.Instructs text) is there k h held named what)))

pub instruction-told : (c : Choices) (texts : List (ℕ × Text)) (t : Token) (shown old new : Content) (i number : ℕ) (text : Text) (starts : Bool) (before after : List Event) → shown ≡ old → IsContent old → t.kind ≡ kind.ShortRef i
    → mapped_in old i ≡ mapped.To number → said.Instructs text ≡ said_of_number old.kept.doctype number → starts ≡ starts_record (string_in shown.kept texts t.length)
    → new ≡ instructed_by starts t.length old → after ≡ before ++ event.Pi text (Some number) (top_place old.kept.stack.places) ∷ [] → TellsIn c texts t old new before after (Ok tt)
instruction-told c texts t shown old new i number text starts before after e is k named what begins same told_is =
    let place = top_place old.kept.stack.places in
    let at = begins ∙ ap (λ (z : Content). starts_record (string_in z.kept texts t.length)) e in (
      event.Pi text (Some number) place ∷ [],
      told_is,
      at-one place (event.Pi text (Some number) place) refl,
      instruction-in c texts t old new i number text place is k named what (same ∙ ap (λ b. instructed_by b t.length old) at),
    )
