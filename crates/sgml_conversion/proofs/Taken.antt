-- What is written of events one after another, and what is noted of their identifiers.
use Rattle.std.specs.Prelude.{IfOk, Result, Ok, Err, is_none}
use Rattle.std.proofs.Common.{◌≡◌, ◌+◌, ◌<◌, ◌≤◌, ℕ, Bool, Option, List, [], ◌∷◌, ◌++◌, refl, sym, ap, ◌∙◌, subst, length, take, drop, get_or, append_assoc, append-nil, take-append-drop}
use Rattle.std.proofs.lemmas.Grind.{flat_map-append}
use Rattle.std.proofs.lemmas.List.{take_more, take_all}
use Rattle.std.specs.Io.KnownBytes.{Appends}
use Rattle.sgml_io.specs.Causes.{HasCause}
use Rattle.sgml_io.specs.Writes.{AppendsFront, Writes}
use Rattle.sgml_event_lines.specs.esis.Spelling.{spell_lines}
use Rattle.sgml_dtd.specs.Doctypes.{Doctype}
use Rattle.sgml_events.specs.declared.event.Event.{Event}
use Rattle.sgml_said.specs.Told.{said, all_said}
use Rattle.sgml_said.specs.theory_reading.Events.{Event as Said}
use Rattle.sgml_said.specs.theory_reading.Identifiers.{id_fault}
use Rattle.sgml_idents.specs.declared.idents.Idents.{Idents}
use Rattle.sgml_event_lines.specs.declared.writer.Writer.{Writer}
use Rattle.sgml_event_lines.specs.Lines.{lines_said, lines_told}
use Rattle.sgml_event_lines.specs.Shown.{all_shown}
use Rattle.sgml_conversion.specs.declared.answer.Failure.{Failure}
use Rattle.sgml_conversion.specs.declared.answer.Failure.TheVariants as failure
use Rattle.sgml_conversion.specs.declared.answer.Ending.{Ending}
use Rattle.sgml_conversion.specs.declared.answer.Ending.TheVariants as ending
use Rattle.sgml_conversion.specs.Lines.{AppendsSome}
use Rattle.sgml_conversion.specs.Writing.{StandAfter, IsJudgedBy, Finishes, is_conforming}
use Rattle.sgml_conversion.proofs.Written.{put-is-front}

-- FAULTS
-- the same failure, answered by a caller
again : {S T : Type 0} (fault e : Failure) (r : Result S Failure) (q : Result T Failure) → r ≡ Err e → q ≡ Err e → q ≡ Err fault → r ≡ Err fault
again fault e r q x y z = cc

pub same-cause : {S T : Type 0} (fault e : Failure) (before now : ℕ) → HasCause {T = S} fault before now (Err e) → HasCause {T = T} fault before now (Err e)
same-cause {S = S} {T = T} fault e before now h = record { later = h.later; failed = λ p. h.failed (again {S = S} {T = T} fault e (Err e) (Err e) refl refl p) }

never : {T : Type 0} (a : T) → Ok a ≡ Err failure.Sink → ⊥
never a e = cc

-- and a call that told none
pub without-cause : {T : Type 0} (before now : ℕ) (a : T) → before ≤ now → HasCause {T = T} {E = Failure} failure.Sink before now (Ok a)
without-cause {T = T} before now a later = record { later = later; failed = λ e. absurd (never {T = T} a e) }

-- A FRONT of the lines of some events is one of those of more events
all-more : (d : Doctype) (es rest : List Event) (more : List Said) → all_said d es ++ (all_said d rest ++ more) ≡ all_said d (es ++ rest) ++ more
all-more d es rest more = sym (append_assoc (all_said d es) (all_said d rest) more) ∙ ap (λ z. z ++ more) (sym (flat_map-append (said d) es rest))

pub some-more : (start taken : Option (List ℕ)) (d : Doctype) (es rest : List Event) → AppendsSome start taken d (all_said d es) → AppendsSome start taken d (all_said d (es ++ rest))
some-more start taken d es rest h = λ more conforming.
    subst (λ (z : List Said). AppendsFront start taken (spell_lines (all_shown (lines_said d z conforming)))) (all-more d es rest more) (h (all_said d rest ++ more) conforming)

pub some-put : (start : Option (List ℕ)) (count : ℕ) (taken : Option (List ℕ)) (faults : ℕ) (w : Writer) (i : Idents) (d : Doctype) (es rest : List Event) → StandAfter start count taken faults w i d es → AppendsSome start taken d (all_said d (es ++ rest))
some-put start count taken faults w i d es rest s = some-more start taken d es rest (put-is-front start count taken faults w d es s.lines)

-- SEVERAL EVENTS, one after another
pub none-further : (start : Option (List ℕ)) (count : ℕ) (taken : Option (List ℕ)) (faults : ℕ) (w : Writer) (x : Idents) (d : Doctype) (es : List Event) → StandAfter start count taken faults w x d es
    → StandAfter start count taken faults w x d (es ++ [])
none-further start count taken faults w x d es s = subst (λ (z : List Event). StandAfter start count taken faults w x d z) (sym (append-nil es)) s

one-of-more : (es gained : List Event) (i : ℕ) (e : Event) → i < length gained → e ≡ get_or gained i e → (es ++ take i gained) ++ e ∷ [] ≡ es ++ take (i + 1) gained
one-of-more es gained i e lt is =
    append_assoc es (take i gained) (e ∷ []) ∙ ap (λ (z : List Event). es ++ z) (ap (λ (z : Event). take i gained ++ z ∷ []) is ∙ sym (take_more gained i e lt))

pub one-further : (start : Option (List ℕ)) (count : ℕ) (taken : Option (List ℕ)) (faults : ℕ) (w : Writer) (x : Idents) (d : Doctype) (es gained : List Event) (i : ℕ) (e : Event)
    → i < length gained → e ≡ get_or gained i e → StandAfter start count taken faults w x d ((es ++ take i gained) ++ e ∷ []) → StandAfter start count taken faults w x d (es ++ take (i + 1) gained)
one-further start count taken faults w x d es gained i e lt is s =
    subst (λ (z : List Event). StandAfter start count taken faults w x d z) (one-of-more es gained i e lt is) s

pub one-failed : (start taken : Option (List ℕ)) (d : Doctype) (es gained : List Event) (i : ℕ) (e : Event) → i < length gained → e ≡ get_or gained i e → AppendsSome start taken d (all_said d ((es ++ take i gained) ++ e ∷ []))
    → AppendsSome start taken d (all_said d (es ++ gained))
one-failed start taken d es gained i e lt is h =
    subst (λ (z : List Event). AppendsSome start taken d (all_said d z))
    (ap (λ (z : List Event). z ++ drop (i + 1) gained) (one-of-more es gained i e lt is) ∙ append_assoc es (take (i + 1) gained) (drop (i + 1) gained) ∙ ap (λ (z : List Event). es ++ z) (take-append-drop (i + 1) gained))
    (some-more start taken d ((es ++ take i gained) ++ e ∷ []) (drop (i + 1) gained) h)

pub all-further : (start : Option (List ℕ)) (count : ℕ) (taken : Option (List ℕ)) (faults : ℕ) (w : Writer) (x : Idents) (d : Doctype) (es gained : List Event) (n : ℕ) → length gained ≤ n
    → StandAfter start count taken faults w x d (es ++ take n gained) → StandAfter start count taken faults w x d (es ++ gained)
all-further start count taken faults w x d es gained n long s = subst (λ (z : List Event). StandAfter start count taken faults w x d (es ++ z)) (take_all n gained long) s

-- THE END
pub conforming-is : (d : Doctype) (es : List Event) (o : Ending) → IsJudgedBy d es o → is_conforming o ≡ is_none (id_fault (all_said d es))
conforming-is d es ending.Conforming j = sym (ap (λ z. is_none z) j)
conforming-is d es (ending.Refused r) j = sym (ap (λ z. is_none z) j.1)

pub finished-as : (start taken : Option (List ℕ)) (d : Doctype) (es : List Event) (o : Ending) (result : Result Ending Failure) → IsJudgedBy d es o
    → Writes start taken result (spell_lines (lines_told d es (is_conforming o))) → IfOk result (λ a. a ≡ o) → Finishes start taken d es result
finished-as start taken d es o (Ok a) j w e = (
  subst (IsJudgedBy d es) (sym e) j,
  subst (λ (z : Ending). Appends start taken (spell_lines (lines_told d es (is_conforming z)))) (sym e) w,
)
finished-as start taken d es o (Err f) j w e =
    subst (λ (z : Bool). AppendsFront start taken (spell_lines (lines_told d es z))) (conforming-is d es o j) w
