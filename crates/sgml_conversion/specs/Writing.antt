-- What is written of events, and what is noted of their identifiers.
use Rattle.std.specs.Prelude.{◌≡◌, ℕ, true, false, Bool, List, [], ◌∷◌, ◌++◌, Option, Some, None, is_none, Result, Ok, Err, ⊤}
use Rattle.std.specs.Io.KnownBytes.{Appends}
use Rattle.sgml_text.specs.declared.reason.Reason.TheVariants.{Repeated, Dangling}
use Rattle.sgml_io.specs.Writes.{AppendsFront}
use Rattle.sgml_event_lines.specs.esis.Spelling.{spell_lines}
use Rattle.sgml_dtd.specs.Doctypes.{Doctype}
use Rattle.sgml_events.specs.declared.event.Event.{Event}
use Rattle.sgml_said.specs.Told.{all_said}
use Rattle.sgml_idents.specs.declared.idents.Idents.{Idents}
use Rattle.sgml_idents.specs.declared.idents.IdError.{IdError}
use Rattle.sgml_idents.specs.declared.idents.IdError.TheVariants as errors
use Rattle.sgml_idents.specs.Judged.{HasNoted, IsFaultAt}
use Rattle.sgml_said.specs.theory_reading.Identifiers.{id_fault}
use Rattle.sgml_event_lines.specs.declared.writer.Writer.{Writer}
use Rattle.sgml_event_lines.specs.Lines.{lines_told}
use Rattle.sgml_event_lines.specs.Standing.{StandsAfter}
use Rattle.sgml_conversion.specs.declared.answer.Failure.{Failure}
use Rattle.sgml_conversion.specs.declared.answer.Failure.TheVariants as failure
use Rattle.sgml_conversion.specs.declared.answer.Ending.{Ending}
use Rattle.sgml_conversion.specs.declared.answer.Ending.TheVariants as ending
use Rattle.sgml_conversion.specs.Lines.{AppendsSome}
use Rattle.sgml_io.specs.Causes.{HasCause}

-- THESE EVENTS were written, and their identifiers noted
pub record StandAfter (start : Option (List ℕ)) (count : ℕ) (taken : Option (List ℕ)) (faults : ℕ) (w : Writer) (i : Idents) (d : Doctype) (es : List Event) : Type 0 where
  pub lines : StandsAfter start count taken faults w d es
  pub identifiers : HasNoted i d es

-- WRITTEN they all were, or a front of their lines
abbrev pub WrittenOr : Type 0 → Option (List ℕ) → Option (List ℕ) → Doctype → List Event → Result ⊤ Failure → Type 0
WrittenOr Stand start taken d es (Ok x) = Stand
WrittenOr Stand start taken d es (Err e) = AppendsSome start taken d (all_said d es)

-- one event more
abbrev pub TakesEvent : Option (List ℕ) → ℕ → Writer → Idents → Option (List ℕ) → ℕ → Writer → Idents → Doctype → Event → Result ⊤ Failure → Type 0
TakesEvent taken faults w i taken' faults' w' i' d e result =
    (start : Option (List ℕ)) (count : ℕ) (es : List Event) → StandAfter start count taken faults w i d es
    → WrittenOr (StandAfter start count taken' faults' w' i' d (es ++ e ∷ [])) start taken' d (es ++ e ∷ []) result

-- these events more
abbrev pub TakesEvents : Option (List ℕ) → ℕ → Writer → Idents → Option (List ℕ) → ℕ → Writer → Idents → Doctype → List Event → Result ⊤ Failure → Type 0
TakesEvents taken faults w i taken' faults' w' i' d gained result =
    (start : Option (List ℕ)) (count : ℕ) (es : List Event) → StandAfter start count taken faults w i d es
    → WrittenOr (StandAfter start count taken' faults' w' i' d (es ++ gained)) start taken' d (es ++ gained) result

-- what is answered of a document that was read to its end, by the identifiers of its events
abbrev pub is_conforming : Ending → Bool
is_conforming ending.Conforming = true
is_conforming (ending.Refused r) = false

abbrev pub IsJudgedBy : Doctype → List Event → Ending → Type 0
IsJudgedBy d es ending.Conforming = id_fault (all_said d es) ≡ None
IsJudgedBy d es (ending.Refused r) = IsFaultAt d es r.place r.reason

-- by the answer of identifiers
abbrev pub ending_of : {T : Type 0} → Result T IdError → Option Ending
ending_of (Ok x) = Some ending.Conforming
ending_of (Err (errors.Repeated place)) = Some (ending.Refused (record { place = place; reason = Repeated }))
ending_of (Err (errors.Dangling place)) = Some (ending.Refused (record { place = place; reason = Dangling }))
ending_of (Err errors.Memory) = None

-- and written, or a front of it
abbrev pub Finishes : Option (List ℕ) → Option (List ℕ) → Doctype → List Event → Result Ending Failure → Type 0
Finishes start taken d es (Ok a) = IsJudgedBy d es a × Appends start taken (spell_lines (lines_told d es (is_conforming a)))
Finishes start taken d es (Err e) = AppendsFront start taken (spell_lines (lines_told d es (is_none (id_fault (all_said d es)))))

-- INTO A SINK of which it is told what it has taken and how often it failed: one event more, these events more, and
-- these since the sink stood so
abbrev pub TakesEventInto : {S : Type 0} → (S → Option (List ℕ)) → (S → ℕ) → S → Writer → Idents → S → Writer → Idents → Doctype → Event → Result ⊤ Failure → Type 0
TakesEventInto taken faults out w i out' w' i' d e result = TakesEvent (taken out) (faults out) w i (taken out') (faults out') w' i' d e result

abbrev pub TakesInto : {S : Type 0} → (S → Option (List ℕ)) → (S → ℕ) → S → Writer → Idents → S → Writer → Idents → Doctype → List Event → Result ⊤ Failure → Type 0
TakesInto taken faults out w i out' w' i' d es result = TakesEvents (taken out) (faults out) w i (taken out') (faults out') w' i' d es result

abbrev pub StandSince : {S : Type 0} → (S → Option (List ℕ)) → (S → ℕ) → S → S → Writer × Idents → Doctype → List Event → Type 0
StandSince taken faults out out' made d es = StandAfter (taken out) (faults out) (taken out') (faults out') made.0 made.1 d es

-- a fault of the sink is one that it counted, since any time before
abbrev pub FaultIsCounted : {S T : Type 0} → Doctype → (S → Option (List ℕ)) → (S → ℕ) → S → Writer → Idents → S → Result T Failure → Type 0
FaultIsCounted d taken faults out w i out' result =
    (start : Option (List ℕ)) (count : ℕ) (es : List Event)
    → StandAfter start count (taken out) (faults out) w i d es → HasCause failure.Sink count (faults out') result

-- THE LINES ARE ENDED, whatever was written
abbrev pub FinishesInto : {S : Type 0} → (S → Option (List ℕ)) → (S → ℕ) → S → Writer → Idents → S → Result Ending Failure → Type 0
FinishesInto taken faults out w i out' result =
    (start : Option (List ℕ)) (count : ℕ) (d : Doctype) (es : List Event)
    → StandAfter start count (taken out) (faults out) w i d es → Finishes start (taken out') d es result

abbrev pub FinishesByCause : {S T : Type 0} → (S → Option (List ℕ)) → (S → ℕ) → S → Writer → Idents → S → Result T Failure → Type 0
FinishesByCause taken faults out w i out' result =
    (start : Option (List ℕ)) (count : ℕ) (d : Doctype) (es : List Event)
    → StandAfter start count (taken out) (faults out) w i d es → HasCause failure.Sink count (faults out') result

-- of the lines alone
abbrev pub EndsByFault : {S T : Type 0} → (S → Option (List ℕ)) → (S → ℕ) → S → Writer → S → Result T Failure → Type 0
EndsByFault taken faults out w out' result =
    (start : Option (List ℕ)) (count : ℕ) (d : Doctype) (es : List Event)
    → StandsAfter start count (taken out) (faults out) w d es → HasCause failure.Sink count (faults out') result
