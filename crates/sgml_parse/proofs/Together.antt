-- What a parser tells of many events at once, by what its readers do.
use Rattle.std.proofs.Common.{◌≡◌, Bool, true, false, ◌&&◌, ℕ, List, [], ◌∷◌, ◌++◌, Option, Some, None, Result, Ok, Err, ◌⊎◌, inl, inr, refl, sym, ap, ◌∙◌, subst, append-nil}
use Rattle.std.specs.Prelude.{IsSome, IfSome, IfOk, IfErr, OnOk, OnErr}
use Rattle.sgml_text.specs.declared.place.Place.{Place}
use Rattle.sgml_text.specs.declared.reason.Reason.{Reason}
use Rattle.sgml_text.specs.declared.place.Refusal.{Refusal}
use Rattle.sgml_io.specs.declared.records.RecordReader.{RecordReader}
use Rattle.sgml_entity.specs.Texts.{text_of}
use Rattle.sgml_events.specs.declared.event.Event.{Event}
use Rattle.sgml_instance.specs.said.Told.{said, all_said}
use Rattle.sgml_declared.specs.theory_reading.Names.{Text}
use Rattle.sgml_declared.specs.theory_reading.Pieces.{History}
use Rattle.sgml_declared.specs.theory_reading.Unread.{Input}
use Rattle.sgml_declared.specs.theory_reading.Reads.{after_moves, ends_in_finish}
use Rattle.sgml_declared.specs.theory_reading.Events.{Event as Said, events}
use Rattle.sgml_declared.specs.theory_spelling.Spelled.{forms}
use Rattle.sgml_declared.specs.Files.{Choices}
use Rattle.sgml_instance.specs.Reading as content
use Rattle.sgml_instance.specs.Batches as content_batches
use Rattle.sgml_instance.specs.declared.answer.InstancePause.{InstancePause}
use Rattle.sgml_instance.specs.declared.answer.InstancePause.TheVariants as instance_pause
use Rattle.sgml_instance.specs.declared.answer.InstanceStep.TheVariants as instance_step
use Rattle.sgml_instance.specs.declared.answer.InstanceError.{InstanceError}
use Rattle.sgml_instance.specs.declared.answer.InstanceError.TheVariants as instance_error
use Rattle.sgml_parse.specs.declared.answer.ParsePause.{ParsePause}
use Rattle.sgml_parse.specs.declared.answer.ParsePause.TheVariants as pause
use Rattle.sgml_parse.specs.declared.answer.ParseStep.{ParseStep}
use Rattle.sgml_parse.specs.declared.answer.ParseStep.TheVariants as step
use Rattle.sgml_parse.specs.declared.answer.ParseError.{ParseError}
use Rattle.sgml_parse.specs.declared.answer.ParseError.TheVariants as error
use Rattle.sgml_parse.specs.declared.answer.Wanted.{Wanted}
use Rattle.sgml_parse.specs.There.{Reading}
use Rattle.sgml_parse.specs.There as reading
use Rattle.sgml_parse.specs.Locating.{HasSources, KnowsThen}
use Rattle.sgml_parse.specs.Missing.{why_missing}
use Rattle.sgml_parse.specs.Parsing.{Parser, parser, Reads, Awaits, AreMissing, IsParsing, Leads, KeepsDoctype, place_in, AreThoseRead, NextIsParsing, IsSound, GoesOver, doctype_in, is_in_instance, error_in}
use Rattle.sgml_parse.specs.Going.{IsAnswer}
use Rattle.sgml_parse.specs.Batches.{Pauses, UnlessMemory, AreThoseThen, ReadIsParsing, ReadsOn, GoesOverThen, IsWantedThen, WantsUnsuppliedThen, wanted_at, error_of}
use Rattle.sgml_parse.specs.Together.{ReadsMany, IsAnswerThen, IsEvent, IsAppended, IsWantThen, IsNotedThen, IsToldThen, unless_missing_then, checked_then, pause_of_instance}
use Rattle.sgml_parse.proofs.Tables.{reads-sources, reads-tables}
use Rattle.sgml_parse.proofs.Knowing.{IsInputThere}
use Rattle.sgml_parse.proofs.Leading.{all-said-there, instance-leads, instance-tables}
use Rattle.sgml_parse.proofs.Missed.{missing-on}
use Rattle.sgml_parse.proofs.Told.{stands, leads-on, sound-with, place-is, missing-stops, none-is-parsing}

-- IN THE INSTANCE
instance-pauses : (r : content.Reader) (ts : List (ℕ × Text)) (ended : Bool) (I : Input) (more : Text) (h : History) (told : List Said) (answer : Result InstancePause InstanceError)
    → content_batches.Pauses r ts ended I more h told answer → Pauses (reading.Instance r) ts ended I h told (Reads (reading.Instance r) ts ended I more h) (pause_of_instance answer)
instance-pauses r ts ended I more h told (Ok instance_pause.Going) p = (p.0.reading, all-said-there r ts ended I more h told p.0, p.1)
instance-pauses r ts ended I more h told (Ok (instance_pause.Want number file)) p = instance-leads r ts ended I more h told (Ok (instance_step.Want number file)) p
instance-pauses r ts ended I more h told (Ok instance_pause.More) p = instance-leads r ts ended I more h told (Ok instance_step.More) p
instance-pauses r ts ended I more h told (Ok instance_pause.Finished) p = instance-leads r ts ended I more h told (Ok instance_step.Finished) p
instance-pauses r ts ended I more h told (Err (instance_error.Refused x)) p = instance-leads r ts ended I more h told (Err (instance_error.Refused x)) p
instance-pauses r ts ended I more h told (Err instance_error.Memory) p = tt

instance-then : (r : content.Reader) (ts : List (ℕ × Text)) (ended : Bool) (I : Input) (more : Text) (h : History) (told : List Said) (answer : Result InstancePause InstanceError)
    → content_batches.Pauses r ts ended I more h told answer → AreThoseThen (reading.Instance r) h (pause_of_instance answer)
instance-then r ts ended I more h told (Ok instance_pause.Going) p = reads-tables (reading.Instance r) ts ended I more h told p.0.reading
instance-then r ts ended I more h told (Ok (instance_pause.Want number file)) p = instance-tables r ts ended I more h told (Ok (instance_step.Want number file)) p
instance-then r ts ended I more h told (Ok instance_pause.More) p = instance-tables r ts ended I more h told (Ok instance_step.More) p
instance-then r ts ended I more h told (Ok instance_pause.Finished) p = instance-tables r ts ended I more h told (Ok instance_step.Finished) p
instance-then r ts ended I more h told (Err (instance_error.Refused x)) p = instance-tables r ts ended I more h told (Err (instance_error.Refused x)) p
instance-then r ts ended I more h told (Err instance_error.Memory) p = tt

instance-known : (r : content.Reader) (ts : List (ℕ × Text)) (ended : Bool) (I : Input) (more : Text) (h : History) (told : List Said) (answer : Result InstancePause InstanceError)
    → content_batches.Pauses r ts ended I more h told answer → UnlessMemory (pause_of_instance answer) (HasSources (reading.Instance r) ts I h)
instance-known r ts ended I more h told (Ok instance_pause.Going) p = reads-sources (reading.Instance r) ts ended I more h told p.0.reading
instance-known r ts ended I more h told (Ok (instance_pause.Want number file)) p = reads-sources (reading.Instance r) ts ended I more h told p.0.reading
instance-known r ts ended I more h told (Ok instance_pause.More) p = reads-sources (reading.Instance r) ts ended I more h told p.0.reading
instance-known r ts ended I more h told (Ok instance_pause.Finished) p = reads-sources (reading.Instance r) ts ended I more h told p.0.reading
instance-known r ts ended I more h told (Err (instance_error.Refused x)) p = p.3
instance-known r ts ended I more h told (Err instance_error.Memory) p = tt

instance-many : (ts : List (ℕ × Text)) (ended : Bool) (old new : content.Reader) (gained : List Event) (answer : Result InstancePause InstanceError)
    → content_batches.ReadIsReading old new ts ended gained answer → ReadsMany ts ended (reading.Instance old) (reading.Instance new) gained (pause_of_instance answer)
instance-many ts ended old new gained answer n = λ I more h told x.
    let a = n I more h told x in
    let then_told = told ++ all_said new.content.kept.doctype gained in
    record {
      moves = a.moves;
      read = a.read;
      pauses = instance-pauses new ts ended I more (after_moves h a.moves) then_told answer a.pauses;
      placed = a.placed;
      tables = instance-then new ts ended I more (after_moves h a.moves) then_told answer a.pauses;
      sources = instance-known new ts ended I more (after_moves h a.moves) then_told answer a.pauses;
    }

stays-there : (old new : content.Reader) (answer : Result InstancePause InstanceError) → GoesOverThen (reading.Instance old) (reading.Instance new) (pause_of_instance answer)
stays-there old new (Ok instance_pause.Going) = refl
stays-there old new (Ok (instance_pause.Want number file)) = refl
stays-there old new (Ok instance_pause.More) = refl
stays-there old new (Ok instance_pause.Finished) = refl
stays-there old new (Err (instance_error.Refused x)) = refl
stays-there old new (Err instance_error.Memory) = refl

not-before : {A : Type 0} → true ≡ false → A
not-before e = cc

pub instance-answers-many : (c : Choices) (ts : List (ℕ × Text)) (ended : Bool) (there new : Reading) (old after : content.Reader) (before so_far : List Event) (answer : Result InstancePause InstanceError)
    (result : Result ParsePause ParseError) → there ≡ reading.Instance old → new ≡ reading.Instance after → old.options ≡ c → after.options ≡ old.options
    → content_batches.ReadsOn old after ts ended before so_far answer → result ≡ pause_of_instance answer → IsAnswerThen c ts ended there new before so_far result
instance-answers-many c ts ended there new old after before so_far answer result b a o e n t =
    subst (λ (z : Reading). IsAnswerThen c ts ended z new before so_far result) (sym b)
    (subst (λ (z : Reading). IsAnswerThen c ts ended (reading.Instance old) z before so_far result) (sym a)
    (subst (IsAnswerThen c ts ended (reading.Instance old) (reading.Instance after) before so_far) (sym t) (record {
      gained = n.0;
      appended = n.1;
      reads = instance-many ts ended old after n.0 answer n.2;
      early = λ in_prolog. not-before in_prolog;
      over = stays-there old after answer;
      sound = e ∙ o;
    })))

-- BEFORE THE INSTANCE, as one event is told
told-before : (there : Reading) (ts : List (ℕ × Text)) (ended : Bool) (I : Input) (more : Text) (h : History) (told : List Said) → is_in_instance there ≡ false → Reads there ts ended I more h told
    → (events forms h ≡ told) × (ends_in_finish h ≡ false)
told-before (reading.Prolog r) ts ended I more h told f x = (x.1, x.0.stands.goes_on)
told-before (reading.Instance r) ts ended I more h told f x = not-before f
told-before reading.Lost ts ended I more h told f x = absurd x

going-pauses : (there : Reading) (ts : List (ℕ × Text)) (ended : Bool) (I : Input) (more : Text) (h : History) (told : List Said) → is_in_instance there ≡ false → Reads there ts ended I more h told
    → Pauses there ts ended I h told (Reads there ts ended I more h) (Ok pause.Going)
going-pauses there ts ended I more h told f x = let t = told-before there ts ended I more h told f x in (x, t.0, t.1)

one-event : (c : Choices) (ts : List (ℕ × Text)) (ended : Bool) (old new : Reading) (before after : List Event) (e : Event) → is_in_instance old ≡ false → after ≡ before ++ e ∷ []
    → IsAnswer c ts ended old new (Ok (step.Event e)) → IsAnswerThen c ts ended old new before after (Ok pause.Going)
one-event c ts ended old new before after e f is a = record {
  gained = e ∷ [];
  appended = is;
  reads = λ I more h told x.
      let b = a.reads I more h told x in
      let h' = after_moves h b.moves in
      let same : told ++ all_said (doctype_in new) (e ∷ []) ≡ told ++ said (doctype_in new) e =
      ap (λ (z : List Said). told ++ z) (append-nil (said (doctype_in new) e)) in
      record {
        moves = b.moves;
        read = b.read;
        pauses = subst (λ (z : List Said). Pauses new ts ended I h' z (Reads new ts ended I more h') (Ok pause.Going)) (sym same)
            (going-pauses new ts ended I more h' (told ++ said (doctype_in new) e) (a.over ∙ f) b.leads);
        placed = (b.tables.1, tt);
        tables = b.tables.0;
        sources = reads-sources new ts ended I more h' (told ++ said (doctype_in new) e) b.leads;
      };
  early = λ in_prolog. ap (λ (z : Bool). z && true) (a.early in_prolog);
  over = a.over;
  sound = a.sound;
}

-- where it is none, this is answered
none-gained : (c : Choices) (ts : List (ℕ × Text)) (ended : Bool) (old new : Reading) (before after : List Event) (answer : Result ParseStep ParseError) (result : Result ParsePause ParseError)
    → ((I : Input) (more : Text) (h : History) (told : List Said) → Leads new ts ended I h told (Reads new ts ended I more h) answer → Pauses new ts ended I h told (Reads new ts ended I more h) result)
    → ((h : History) (told : List Said) → AreThoseRead new h told answer → AreThoseThen new h result)
    → ((I : Input) (more : Text) (h : History) (told : List Said) → Leads new ts ended I h told (Reads new ts ended I more h) answer → KnowsThen answer (HasSources new ts I h) → UnlessMemory result (HasSources new ts I h))
    → (GoesOver old new answer → GoesOverThen old new result) → (IsSound c new (error_in answer) → IsSound c new (error_of result))
    → after ≡ before → IsAnswer c ts ended old new answer → IsAnswerThen c ts ended old new before after result
none-gained c ts ended old new before after answer result leads tables sources over sound same a = record {
  gained = [];
  appended = same ∙ sym (append-nil before);
  reads = λ I more h told x.
      let b = a.reads I more h told x in
      let h' = after_moves h b.moves in
      record {
        moves = b.moves;
        read = b.read;
        pauses = subst (λ (z : List Said). Pauses new ts ended I h' z (Reads new ts ended I more h') result) (sym (append-nil told)) (leads I more h' told b.leads);
        placed = tt;
        tables = tables h' told b.tables;
        sources = sources I more h' told b.leads b.sources;
      };
  early = λ in_prolog. refl;
  over = over a.over;
  sound = sound a.sound;
}

no-memory : (c : Choices) (ts : List (ℕ × Text)) (ended : Bool) (old new : Reading) (before after : List Event) → after ≡ before → is_in_instance new ≡ is_in_instance old → IsSound c new (Some error.Memory)
    → IsAnswerThen c ts ended old new before after (Err error.Memory)
no-memory c ts ended old new before after same over sound = record {
  gained = [];
  appended = same ∙ sym (append-nil before);
  reads = λ I more h told x. record { moves = []; read = tt; pauses = tt; placed = tt; tables = tt; sources = tt };
  early = λ in_prolog. refl;
  over = over;
  sound = sound;
}

pub lost-answers-many : (c : Choices) (ts : List (ℕ × Text)) (ended : Bool) (old : Reading) (es : List Event) → old ≡ reading.Lost → IsAnswerThen c ts ended old old es es (Err error.Memory)
lost-answers-many c ts ended old es e =
    subst (λ (z : Reading). IsAnswerThen c ts ended z z es es (Err error.Memory)) (sym e) (no-memory c ts ended reading.Lost reading.Lost es es refl refl refl)

never-memory : {A : Type 0} (x : Refusal) → error.Refused x ≡ error.Memory → A
never-memory x e = cc

refusal-alone : (c : Choices) (ts : List (ℕ × Text)) (ended : Bool) (old new : Reading) (before after : List Event) (answer : Result ParseStep ParseError) (x : Refusal)
    → ((answer ≡ Err (error.Refused x)) ⊎ ((error.Refused x ≡ error.Memory) × IsEvent answer)) → after ≡ before → IsAnswer c ts ended old new answer
    → IsAnswerThen c ts ended old new before after (Err (error.Refused x))
refusal-alone c ts ended old new before after answer x (inl e) same a =
    none-gained c ts ended old new before after (Err (error.Refused x)) (Err (error.Refused x)) (λ I more h told l. l) (λ h told t. t) (λ I more h told l k. k) (λ o. o) (λ s. s) same
    (subst (IsAnswer c ts ended old new) e a)
refusal-alone c ts ended old new before after answer x (inr m) same a = never-memory x m.0

event-lost : (c : Choices) (ts : List (ℕ × Text)) (ended : Bool) (old new : Reading) (before after : List Event) (answer : Result ParseStep ParseError) → IsEvent answer → after ≡ before
    → IsAnswer c ts ended old new answer → IsAnswerThen c ts ended old new before after (Err error.Memory)
event-lost c ts ended old new before after (Ok (step.Event e)) i same a = no-memory c ts ended old new before after same a.over (sound-with c new (Some error.Memory) a.sound)
event-lost c ts ended old new before after (Ok step.Prolog) i same a = absurd i
event-lost c ts ended old new before after (Ok (step.Want number file)) i same a = absurd i
event-lost c ts ended old new before after (Ok step.More) i same a = absurd i
event-lost c ts ended old new before after (Ok step.Finished) i same a = absurd i
event-lost c ts ended old new before after (Err e) i same a = absurd i

memory-alone : (c : Choices) (ts : List (ℕ × Text)) (ended : Bool) (old new : Reading) (before after : List Event) (answer : Result ParseStep ParseError)
    → ((answer ≡ Err error.Memory) ⊎ ((error.Memory ≡ error.Memory) × IsEvent answer)) → after ≡ before → IsAnswer c ts ended old new answer → IsAnswerThen c ts ended old new before after (Err error.Memory)
memory-alone c ts ended old new before after answer (inl e) same a =
    let b = subst (IsAnswer c ts ended old new) e a in no-memory c ts ended old new before after same b.over b.sound
memory-alone c ts ended old new before after answer (inr m) same a = event-lost c ts ended old new before after answer m.1 same a

event-alone : (answer : Result ParseStep ParseError) (e : Event) (before after : List Event) (p : ParsePause) → answer ≡ Ok (step.Event e) → p ≡ pause.Going → after ≡ before ++ e ∷ [] → IsAppended answer before after (Ok p)
event-alone answer e before after p is going stands = subst (λ (z : ParsePause). IsAppended answer before after (Ok z)) (sym going) (e, is, stands)

pub event-appended : (answer : Result ParseStep ParseError) (e : Event) (before after : List Event) (result : Result ParsePause ParseError) → answer ≡ Ok (step.Event e) → IfOk result (λ p. p ≡ pause.Going)
    → OnOk result (after ≡ before ++ e ∷ []) → IfErr result (λ x. x ≡ error.Memory) → OnErr result (after ≡ before) → IsAppended answer before after result
event-appended answer e before after (Ok p) is going stands memory none = event-alone answer e before after p is going stands
event-appended answer e before after (Err x) is going stands memory none = (inr (memory, subst IsEvent (sym is) tt), none)

pub appended-answers : (c : Choices) (ts : List (ℕ × Text)) (ended : Bool) (old new : Reading) (before after : List Event) (answer : Result ParseStep ParseError) (result : Result ParsePause ParseError)
    → is_in_instance old ≡ false → IsAnswer c ts ended old new answer → IsAppended answer before after result → IsAnswerThen c ts ended old new before after result
appended-answers c ts ended old new before after answer (Ok pause.Going) f a t = one-event c ts ended old new before after t.0 f t.2 (subst (IsAnswer c ts ended old new) t.1 a)
appended-answers c ts ended old new before after answer (Ok pause.Prolog) f a t =
    none-gained c ts ended old new before after (Ok step.Prolog) (Ok pause.Prolog) (λ I more h told l. l) (λ h told t. t) (λ I more h told l k. reads-sources new ts ended I more h told l.0) (λ o. o) (λ s. s) t.1
    (subst (IsAnswer c ts ended old new) t.0 a)
appended-answers c ts ended old new before after answer (Ok (pause.Want number file)) f a t =
    none-gained c ts ended old new before after (Ok (step.Want number file)) (Ok (pause.Want number file)) (λ I more h told l. l) (λ h told t. t) (λ I more h told l k. reads-sources new ts ended I more h told l.0)
    (λ o. o) (λ s. s) t.1 (subst (IsAnswer c ts ended old new) t.0 a)
appended-answers c ts ended old new before after answer (Ok pause.More) f a t =
    none-gained c ts ended old new before after (Ok step.More) (Ok pause.More) (λ I more h told l. l) (λ h told t. t) (λ I more h told l k. reads-sources new ts ended I more h told l.0) (λ o. o) (λ s. s) t.1
    (subst (IsAnswer c ts ended old new) t.0 a)
appended-answers c ts ended old new before after answer (Ok pause.Finished) f a t =
    none-gained c ts ended old new before after (Ok step.Finished) (Ok pause.Finished) (λ I more h told l. l) (λ h told t. t) (λ I more h told l k. reads-sources new ts ended I more h told l.0) (λ o. o) (λ s. s) t.1
    (subst (IsAnswer c ts ended old new) t.0 a)
appended-answers c ts ended old new before after answer (Err (error.Refused x)) f a t = refusal-alone c ts ended old new before after answer x t.0 t.1 a
appended-answers c ts ended old new before after answer (Err error.Memory) f a t = memory-alone c ts ended old new before after answer t.0 t.1 a

-- WHAT A PARSER STANDS FOR then
unwaited : (there : Reading) (ts : List (ℕ × Text)) (I : Input) (h : History) (told : List Said) (wanted : Option Wanted) → wanted ≡ None → IfSome wanted (Awaits there ts I h told)
unwaited there ts I h told wanted e = subst (λ (z : Option Wanted). IfSome z (Awaits there ts I h told)) (sym e) tt

pauses-on : (c : Choices) (ts : List (ℕ × Text)) (made : RecordReader) (ended : Bool) (there : Reading) (wanted : Option Wanted) (ms : List (ℕ × Reason)) (I : Input) (more : Text) (h : History) (told : List Said) (p : ParsePause)
    → IsSome (text_of ts 0) → IsInputThere c ts I more → AreMissing there I.outside ms → wanted ≡ wanted_at p → Pauses there ts ended I h told (Reads there ts ended I more h) (Ok p)
    → Pauses there ts ended I h told (IsParsing (parser c ts made ended there wanted None ms None) I more h) (Ok p)
pauses-on c ts made ended there wanted ms I more h told pause.Going b d m w l = (stands c ts made ended there wanted ms I more h told b d m (unwaited there ts I h told wanted w) l.0, l.1, l.2)
pauses-on c ts made ended there wanted ms I more h told pause.Prolog b d m w l = leads-on c ts made ended there wanted ms I more h told step.Prolog b d m w l
pauses-on c ts made ended there wanted ms I more h told (pause.Want number file) b d m w l = leads-on c ts made ended there wanted ms I more h told (step.Want number file) b d m w l
pauses-on c ts made ended there wanted ms I more h told pause.More b d m w l = leads-on c ts made ended there wanted ms I more h told step.More b d m w l
pauses-on c ts made ended there wanted ms I more h told pause.Finished b d m w l = leads-on c ts made ended there wanted ms I more h told step.Finished b d m w l

-- the instance isn't left
not-back-then : (old new : Reading) (answer : Result ParsePause ParseError) → GoesOverThen old new answer → is_in_instance new ≡ false → is_in_instance old ≡ false
not-back-then old new (Ok pause.Going) o f = sym o ∙ f
not-back-then old new (Ok pause.Prolog) o f = o.0
not-back-then old new (Ok (pause.Want number file)) o f = sym o ∙ f
not-back-then old new (Ok pause.More) o f = sym o ∙ f
not-back-then old new (Ok pause.Finished) o f = sym o ∙ f
not-back-then old new (Err e) o f = sym o ∙ f

-- the answer that was noted
ok-noted : (c : Choices) (ts : List (ℕ × Text)) (made : RecordReader) (ended : Bool) (old new : Reading) (was wanted : Option Wanted) (ms : List (ℕ × Reason)) (gained : List Event) (p : ParsePause)
    → ReadsMany ts ended old new gained (Ok p) → (is_in_instance new ≡ false → is_in_instance old ≡ false) → KeepsDoctype old new → wanted ≡ wanted_at p
    → ReadIsParsing (parser c ts made ended old was None ms None) (parser c ts made ended new wanted None ms None) gained (Ok p)
ok-noted c ts made ended old new was wanted ms gained p n o k w = λ I more h told x.
    let a = n I more h told x.reads in
    let h' = after_moves h a.moves in
    let m : AreMissing new I.outside ms = missing-on old new I.outside ms o k (x.missing refl) in
    record {
      moves = a.moves;
      read = a.read;
      pauses = pauses-on c ts made ended new wanted ms I more h' (told ++ all_said (doctype_in new) gained) p x.begun (x.of_options, x.document) m w a.pauses;
      placed = a.placed;
      tables = a.tables;
      knows = record { of_options = x.of_options; sources = a.sources; document = x.document };
    }

refused-noted : (c : Choices) (ts : List (ℕ × Text)) (made : RecordReader) (ended : Bool) (old new : Reading) (was wanted : Option Wanted) (ms : List (ℕ × Reason)) (gained : List Event) (r : Refusal)
    → ReadsMany ts ended old new gained (Err (error.Refused r))
    → ReadIsParsing (parser c ts made ended old was None ms None) (parser c ts made ended new wanted None ms (Some (error.Refused r))) gained (Err (error.Refused r))
refused-noted c ts made ended old new was wanted ms gained r n = λ I more h told x.
    let a = n I more h told x.reads in
    record {
      moves = a.moves;
      read = a.read;
      pauses = a.pauses;
      placed = a.placed;
      tables = a.tables;
      knows = record { of_options = x.of_options; sources = a.sources; document = x.document };
    }

lacks-noted : (c : Choices) (ts : List (ℕ × Text)) (made : RecordReader) (ended : Bool) (old new : Reading) (was wanted : Option Wanted) (ms : List (ℕ × Reason)) (gained : List Event) (answer : Result ParsePause ParseError)
    → ReadsMany ts ended old new gained answer → ReadIsParsing (parser c ts made ended old was None ms None) (parser c ts made ended new wanted None ms (Some error.Memory)) gained (Err error.Memory)
lacks-noted c ts made ended old new was wanted ms gained answer n = λ I more h told x.
    let a = n I more h told x.reads in
    record { moves = a.moves; read = a.read; pauses = tt; placed = a.placed; tables = tt; knows = tt }

refused-by : (c : Choices) (ts : List (ℕ × Text)) (made : RecordReader) (ended : Bool) (old new : Reading) (was wanted : Option Wanted) (ms : List (ℕ × Reason)) (gained : List Event) (answer : Result ParsePause ParseError) (r : Refusal)
    → ReadsMany ts ended old new gained answer → ((answer ≡ Err (error.Refused r)) ⊎ ((error.Refused r ≡ error.Memory) × IsWantThen answer))
    → ReadIsParsing (parser c ts made ended old was None ms None) (parser c ts made ended new wanted None ms (Some (error.Refused r))) gained (Err (error.Refused r))
refused-by c ts made ended old new was wanted ms gained answer r n (inl e) = refused-noted c ts made ended old new was wanted ms gained r (subst (ReadsMany ts ended old new gained) e n)
refused-by c ts made ended old new was wanted ms gained answer r n (inr m) = never-memory r m.0

read-by : (c : Choices) (ts : List (ℕ × Text)) (made : RecordReader) (ended : Bool) (old new : Reading) (was wanted : Option Wanted) (ms : List (ℕ × Reason)) (gained : List Event) (answer result : Result ParsePause ParseError)
    → ReadsMany ts ended old new gained answer → GoesOverThen old new answer → KeepsDoctype old new → IsNotedThen answer wanted result
    → ReadIsParsing (parser c ts made ended old was None ms None) (parser c ts made ended new wanted None ms (error_of result)) gained result
read-by c ts made ended old new was wanted ms gained answer (Ok p) n o k t =
    ok-noted c ts made ended old new was wanted ms gained p (subst (ReadsMany ts ended old new gained) t.0 n) (not-back-then old new answer o) k t.1
read-by c ts made ended old new was wanted ms gained answer (Err (error.Refused r)) n o k t = refused-by c ts made ended old new was wanted ms gained answer r n t
read-by c ts made ended old new was wanted ms gained answer (Err error.Memory) n o k t = lacks-noted c ts made ended old new was wanted ms gained answer n

-- WHAT IS WANTED, where it was supplied that it isn't there, is refused
abbrev pub answered-then : Parser → Result ParsePause ParseError → Parser
answered-then p result = record p { failed = error_of result }

missing-refused-then : (p q : Parser) (gained : List Event) (number : ℕ) (file : Text) (why : Reason) → q.gone ≡ None → why_missing q.missing number ≡ Some why → ReadIsParsing p q gained (Ok (pause.Want number file))
    → ReadIsParsing p (record q { failed = Some (error.Refused (record { place = place_in q.reading; reason = why })) }) gained (Err (error.Refused (record { place = place_in q.reading; reason = why })))
missing-refused-then p q gained number file why g m n = λ I more h told x.
    let a = n I more h told x in
    let h' = after_moves h a.moves in
    let now = told ++ all_said (doctype_in q.reading) gained in
    let stop = missing-stops q I more h' now number file why g m a.pauses.0 a.pauses.1 in
    record {
      moves = a.moves;
      read = a.read;
      pauses = (stop, place-is q.reading q.texts q.ended I more h' now why a.pauses.0.reads stop, a.pauses.1.all);
      placed = a.placed;
      tables = a.tables;
      knows = a.knows;
    }

missing-by-then : (p q : Parser) (gained : List Event) (number : ℕ) (file : Text) (o : Option Reason) → q.gone ≡ None → why_missing q.missing number ≡ o
    → ReadIsParsing p (answered-then q (Ok (pause.Want number file))) gained (Ok (pause.Want number file))
    → ReadIsParsing p (answered-then q (unless_missing_then (place_in q.reading) o number file)) gained (unless_missing_then (place_in q.reading) o number file)
missing-by-then p q gained number file None g m n = n
missing-by-then p q gained number file (Some why) g m n = missing-refused-then p (answered-then q (Ok (pause.Want number file))) gained number file why g m n

checked-many : (p q : Parser) (gained : List Event) (answer : Result ParsePause ParseError) → q.gone ≡ None → ReadIsParsing p (answered-then q answer) gained answer
    → ReadIsParsing p (answered-then q (checked_then q.missing (place_in q.reading) answer)) gained (checked_then q.missing (place_in q.reading) answer)
checked-many p q gained (Ok (pause.Want number file)) g n = missing-by-then p q gained number file (why_missing q.missing number) g refl n
checked-many p q gained (Ok pause.Going) g n = n
checked-many p q gained (Ok pause.Prolog) g n = n
checked-many p q gained (Ok pause.More) g n = n
checked-many p q gained (Ok pause.Finished) g n = n
checked-many p q gained (Err e) g n = n

noted-many : (p : Parser) (there : Reading) (wanted : Option Wanted) (gained : List Event) (answer result : Result ParsePause ParseError) → p.failed ≡ None → p.gone ≡ None
    → ReadsMany p.texts p.ended p.reading there gained answer → GoesOverThen p.reading there answer → KeepsDoctype p.reading there → IsNotedThen answer wanted result
    → ReadIsParsing p (record p { reading = there; wanted = wanted; failed = error_of result }) gained result
noted-many p there wanted gained answer result f g n o k t =
    subst (λ (z : Option ParseError). ReadIsParsing (parser p.options p.texts p.records p.ended p.reading p.wanted p.gone p.missing z)
    (parser p.options p.texts p.records p.ended there wanted p.gone p.missing (error_of result)) gained result) (sym f)
    (subst (λ (z : Option Reason). ReadIsParsing (parser p.options p.texts p.records p.ended p.reading p.wanted z p.missing None)
    (parser p.options p.texts p.records p.ended there wanted z p.missing (error_of result)) gained result) (sym g)
    (read-by p.options p.texts p.records p.ended p.reading there p.wanted wanted p.missing gained answer result n o k t))

pub read-answers : (p : Parser) (there : Reading) (wanted : Option Wanted) (before after : List Event) (answer result : Result ParsePause ParseError) → p.failed ≡ None → p.gone ≡ None
    → IsAnswerThen p.options p.texts p.ended p.reading there before after answer → KeepsDoctype p.reading there → IsToldThen p.missing (place_in there) answer wanted result
    → ReadsOn p (record p { reading = there; wanted = wanted; failed = error_of result }) before after result
read-answers p there wanted before after answer result f g a k t = record {
  gained = a.gained;
  appended = a.appended;
  reads = subst (λ (z : Result ParsePause ParseError). ReadIsParsing p (record p { reading = there; wanted = wanted; failed = error_of z }) a.gained z) (sym t.2)
      (checked-many p (record p { reading = there; wanted = wanted }) a.gained t.0 g (noted-many p there wanted a.gained answer t.0 f g a.reads a.over k t.1));
  early = a.early;
}

-- the same of a parser as its code has it
pub read-at : (p inside : Parser) (there : Reading) (wanted : Option Wanted) (failed : Option ParseError) (before after : List Event) (answer result : Result ParsePause ParseError) → inside ≡ p
    → inside.failed ≡ None → inside.gone ≡ None → failed ≡ error_of result → IsAnswerThen inside.options inside.texts inside.ended inside.reading there before after answer → KeepsDoctype inside.reading there
    → IsToldThen inside.missing (place_in there) answer wanted result
    → ReadsOn p (record inside { reading = there; wanted = wanted; failed = failed }) before after result
read-at p inside there wanted failed before after answer result same f g e a k t =
    subst (λ (z : Parser). ReadsOn z (record inside { reading = there; wanted = wanted; failed = failed }) before after result) same
    (subst (λ (z : Option ParseError). ReadsOn inside (record inside { reading = there; wanted = wanted; failed = z }) before after result) (sym e)
    (read-answers inside there wanted before after answer result f g a k t))

-- WHAT WAS NOTED before, where nothing is read
error-reads : (old new : Parser) (e : ParseError) → NextIsParsing old new (Err e) → ReadIsParsing old new [] (Err e)
error-reads old new (error.Refused x) n = λ I more h told y.
    let a = n I more h told y in
    let h' = after_moves h a.moves in
    record {
      moves = a.moves;
      read = a.read;
      pauses = subst (λ (z : List Said). Pauses new.reading new.texts new.ended I h' z (IsParsing new I more h') (Err (error.Refused x))) (sym (append-nil told)) a.leads;
      placed = tt;
      tables = a.tables;
      knows = a.knows;
    }
error-reads old new error.Memory n = λ I more h told y. record { moves = []; read = tt; pauses = tt; placed = tt; tables = tt; knows = tt }

pub error-again : (old new : Parser) (es : List Event) (e : ParseError) → NextIsParsing old new (Err e) → ReadsOn old new es es (Err e)
error-again old new es e n = record { gained = []; appended = sym (append-nil es); reads = error-reads old new e n; early = λ in_prolog. refl }

pub failed-again : (old new : Parser) (es : List Event) (e : ParseError) → old.failed ≡ Some e → ReadsOn old new es es (Err e)
failed-again old new es e f = error-again old new es e (none-is-parsing old new e (Err e) f)

-- what was told, noted
wants-over-then : (old new : Reading) (answer : Result ParsePause ParseError) → IsWantThen answer → GoesOverThen old new answer → GoesOverThen old new (Err error.Memory)
wants-over-then old new (Ok (pause.Want number file)) w o = o
wants-over-then old new (Ok pause.Going) w o = absurd w
wants-over-then old new (Ok pause.Prolog) w o = absurd w
wants-over-then old new (Ok pause.More) w o = absurd w
wants-over-then old new (Ok pause.Finished) w o = absurd w
wants-over-then old new (Err e) w o = absurd w

over-of-error : (old new : Reading) (answer : Result ParsePause ParseError) (e : ParseError) → ((answer ≡ Err e) ⊎ ((e ≡ error.Memory) × IsWantThen answer)) → GoesOverThen old new answer → GoesOverThen old new (Err e)
over-of-error old new answer e (inl s) o = subst (GoesOverThen old new) s o
over-of-error old new answer e (inr m) o = subst (λ (z : ParseError). GoesOverThen old new (Err z)) (sym m.0) (wants-over-then old new answer m.1 o)

over-noted-then : (old new : Reading) (wanted : Option Wanted) (answer result : Result ParsePause ParseError) → IsNotedThen answer wanted result → GoesOverThen old new answer → GoesOverThen old new result
over-noted-then old new wanted answer (Ok p) n o = subst (GoesOverThen old new) n.0 o
over-noted-then old new wanted answer (Err e) n o = over-of-error old new answer e n o

wanted-noted-then : (wanted : Option Wanted) (answer result : Result ParsePause ParseError) → IsNotedThen answer wanted result → IsWantedThen result wanted
wanted-noted-then wanted answer (Ok p) n = n.1
wanted-noted-then wanted answer (Err e) n = tt

wants-sound : (c : Choices) (there : Reading) (answer : Result ParsePause ParseError) → IsWantThen answer → IsSound c there (error_of answer) → IsSound c there None
wants-sound c there (Ok (pause.Want number file)) w s = s
wants-sound c there (Ok pause.Going) w s = absurd w
wants-sound c there (Ok pause.Prolog) w s = absurd w
wants-sound c there (Ok pause.More) w s = absurd w
wants-sound c there (Ok pause.Finished) w s = absurd w
wants-sound c there (Err e) w s = absurd w

sound-of-error : (c : Choices) (there : Reading) (answer : Result ParsePause ParseError) (e : ParseError) → ((answer ≡ Err e) ⊎ ((e ≡ error.Memory) × IsWantThen answer)) → IsSound c there (error_of answer)
    → IsSound c there (Some e)
sound-of-error c there answer e (inl s) i = subst (λ (z : Result ParsePause ParseError). IsSound c there (error_of z)) s i
sound-of-error c there answer e (inr m) i = sound-with c there (Some e) (wants-sound c there answer m.1 i)

sound-noted-then : (c : Choices) (there : Reading) (wanted : Option Wanted) (answer result : Result ParsePause ParseError) → IsNotedThen answer wanted result → IsSound c there (error_of answer)
    → IsSound c there (error_of result)
sound-noted-then c there wanted answer (Ok p) n i = subst (λ (z : Result ParsePause ParseError). IsSound c there (error_of z)) n.0 i
sound-noted-then c there wanted answer (Err e) n i = sound-of-error c there answer e n i

-- AND TOLD
over-unless-then : (old new : Reading) (place : Place) (o : Option Reason) (number : ℕ) (file : Text) → GoesOverThen old new (Ok (pause.Want number file)) → GoesOverThen old new (unless_missing_then place o number file)
over-unless-then old new place None number file g = g
over-unless-then old new place (Some why) number file g = g

over-checked-then : (old new : Reading) (ms : List (ℕ × Reason)) (place : Place) (answer : Result ParsePause ParseError) → GoesOverThen old new answer → GoesOverThen old new (checked_then ms place answer)
over-checked-then old new ms place (Ok (pause.Want number file)) g = over-unless-then old new place (why_missing ms number) number file g
over-checked-then old new ms place (Ok pause.Going) g = g
over-checked-then old new ms place (Ok pause.Prolog) g = g
over-checked-then old new ms place (Ok pause.More) g = g
over-checked-then old new ms place (Ok pause.Finished) g = g
over-checked-then old new ms place (Err e) g = g

pub over-told-then : (old new : Reading) (ms : List (ℕ × Reason)) (place : Place) (wanted : Option Wanted) (answer result : Result ParsePause ParseError) → IsToldThen ms place answer wanted result → GoesOverThen old new answer
    → GoesOverThen old new result
over-told-then old new ms place wanted answer result t o = subst (GoesOverThen old new) (sym t.2) (over-checked-then old new ms place t.0 (over-noted-then old new wanted answer t.0 t.1 o))

sound-unless-then : (c : Choices) (there : Reading) (place : Place) (o : Option Reason) (number : ℕ) (file : Text) → IsSound c there None → IsSound c there (error_of (unless_missing_then place o number file))
sound-unless-then c there place None number file s = s
sound-unless-then c there place (Some why) number file s = sound-with c there (Some (error.Refused (record { place = place; reason = why }))) s

sound-checked-then : (c : Choices) (there : Reading) (ms : List (ℕ × Reason)) (place : Place) (answer : Result ParsePause ParseError) → IsSound c there (error_of answer) → IsSound c there (error_of (checked_then ms place answer))
sound-checked-then c there ms place (Ok (pause.Want number file)) s = sound-unless-then c there place (why_missing ms number) number file s
sound-checked-then c there ms place (Ok pause.Going) s = s
sound-checked-then c there ms place (Ok pause.Prolog) s = s
sound-checked-then c there ms place (Ok pause.More) s = s
sound-checked-then c there ms place (Ok pause.Finished) s = s
sound-checked-then c there ms place (Err e) s = s

pub sound-told-then : (c : Choices) (there : Reading) (ms : List (ℕ × Reason)) (place : Place) (wanted : Option Wanted) (answer result : Result ParsePause ParseError) → IsToldThen ms place answer wanted result
    → IsSound c there (error_of answer) → IsSound c there (error_of result)
sound-told-then c there ms place wanted answer result t s =
    subst (λ (z : Result ParsePause ParseError). IsSound c there (error_of z)) (sym t.2) (sound-checked-then c there ms place t.0 (sound-noted-then c there wanted answer t.0 t.1 s))

wanted-unless-then : (place : Place) (o : Option Reason) (number : ℕ) (file : Text) (wanted : Option Wanted) → IsWantedThen (Ok (pause.Want number file)) wanted → IsWantedThen (unless_missing_then place o number file) wanted
wanted-unless-then place None number file wanted w = w
wanted-unless-then place (Some why) number file wanted w = tt

wanted-checked-then : (ms : List (ℕ × Reason)) (place : Place) (answer : Result ParsePause ParseError) (wanted : Option Wanted) → IsWantedThen answer wanted → IsWantedThen (checked_then ms place answer) wanted
wanted-checked-then ms place (Ok (pause.Want number file)) wanted w = wanted-unless-then place (why_missing ms number) number file wanted w
wanted-checked-then ms place (Ok pause.Going) wanted w = w
wanted-checked-then ms place (Ok pause.Prolog) wanted w = w
wanted-checked-then ms place (Ok pause.More) wanted w = w
wanted-checked-then ms place (Ok pause.Finished) wanted w = w
wanted-checked-then ms place (Err e) wanted w = w

pub wanted-told-then : (ms : List (ℕ × Reason)) (place : Place) (wanted : Option Wanted) (answer result : Result ParsePause ParseError) → IsToldThen ms place answer wanted result → IsWantedThen result wanted
wanted-told-then ms place wanted answer result t = subst (λ (z : Result ParsePause ParseError). IsWantedThen z wanted) (sym t.2) (wanted-checked-then ms place t.0 wanted (wanted-noted-then wanted answer t.0 t.1))

-- it wasn't supplied
unsupplied-unless-then : (ms : List (ℕ × Reason)) (place : Place) (o : Option Reason) (number : ℕ) (file : Text) → why_missing ms number ≡ o → WantsUnsuppliedThen ms (unless_missing_then place o number file)
unsupplied-unless-then ms place None number file e = e
unsupplied-unless-then ms place (Some why) number file e = tt

unsupplied-checked-then : (ms : List (ℕ × Reason)) (place : Place) (answer : Result ParsePause ParseError) → WantsUnsuppliedThen ms (checked_then ms place answer)
unsupplied-checked-then ms place (Ok (pause.Want number file)) = unsupplied-unless-then ms place (why_missing ms number) number file refl
unsupplied-checked-then ms place (Ok pause.Going) = tt
unsupplied-checked-then ms place (Ok pause.Prolog) = tt
unsupplied-checked-then ms place (Ok pause.More) = tt
unsupplied-checked-then ms place (Ok pause.Finished) = tt
unsupplied-checked-then ms place (Err e) = tt

pub unsupplied-told-then : (ms : List (ℕ × Reason)) (place : Place) (wanted : Option Wanted) (answer result : Result ParsePause ParseError) → IsToldThen ms place answer wanted result → WantsUnsuppliedThen ms result
unsupplied-told-then ms place wanted answer result t = subst (WantsUnsuppliedThen ms) (sym t.2) (unsupplied-checked-then ms place t.0)
