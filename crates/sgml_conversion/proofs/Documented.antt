-- A document that was read to its end, as it is written and answered.
use Rattle.std.specs.Prelude.{IfOk, IfSome, OnErr, Result, Ok, Err}
use Rattle.std.proofs.Common.{◌≡◌, ◌<◌, ◌≤◌, ◌+◌, ℕ, zero, suc, true, Option, Some, None, List, [], ◌∷◌, ◌++◌, length, take, drop, slice_get, inl, inr, ◌⊎◌, refl, sym, ap, ◌∙◌, subst, arith}
use Rattle.std.specs.List.{list_all}
use Rattle.std.proofs.lemmas.List.{append_assoc, length-append, take-append-le}
use Rattle.sgml_text.specs.declared.place.Place.{Place}
use Rattle.sgml_text.specs.declared.place.Refusal.{Refusal}
use Rattle.sgml_text.specs.declared.reason.Reason.TheVariants.{PiNotSpelled}
use Rattle.sgml_io.specs.Files.{Finds, file_in}
use Rattle.sgml_io.specs.Records.{records}
use Rattle.sgml_syntax.specs.declared.syntax.Syntax.{Syntax}
use Rattle.sgml_dtd.specs.Doctypes.{Doctype}
use Rattle.sgml_events.specs.declared.event.Event.{Event}
use Rattle.sgml_events.specs.declared.event.Event.TheVariants as event
use Rattle.sgml_said.specs.Told.{all_said}
use Rattle.sgml_storage.specs.Storage.{IsStorageOf}
use Rattle.sgml_full.specs.Full.{full_document, first_unspelled}
use Rattle.sgml_full.specs.Events.{is_spelled}
use Rattle.sgml_full.specs.Writing.{WritesFull}
use Rattle.sgml_full.specs.declared.full.FullError.TheVariants as error
use Rattle.sgml_full.proofs.Said.{none-unspelled, first-said}
use Rattle.sgml_said.specs.theory_reading.Pieces.{History}
use Rattle.sgml_said.specs.theory_reading.Nest.{types}
use Rattle.sgml_said.specs.theory_reading.Unread.{Input, opening}
use Rattle.sgml_said.specs.theory_reading.Reads.{after_moves, stop_place, instruction_places, prolog_of}
use Rattle.sgml_said.specs.theory_reading.Events.{Event as Said, events, instructions}
use Rattle.sgml_said.proofs.theory_reading.Borders.{prolog-stays}
use Rattle.sgml_theory_ending.specs.theory_spelling.Spelled.{forms}
use Rattle.sgml_source.specs.declaring.Files.{Choices}
use Rattle.sgml_source.specs.content_steps.Places.{OfInstructions, places_told}
use Rattle.sgml_source.specs.parse.Parsing.{Parser, doctype_in}
use Rattle.sgml_source.specs.parse.Locating.{IsPositionOf}
use Rattle.sgml_source.specs.declared.source.Phase.{Phase}
use Rattle.sgml_source.specs.declared.source.Phase.TheVariants as phase
use Rattle.sgml_source.specs.Inputs.{Files}
use Rattle.sgml_source.specs.Stopping.{IsStop}
use Rattle.sgml_conversion.specs.Converting.{IsIdFault}
use Rattle.sgml_conversion.specs.declared.answer.Outcome.{Outcome}
use Rattle.sgml_conversion.specs.declared.answer.Outcome.TheVariants as outcome
use Rattle.sgml_conversion.specs.declared.answer.Failure.{Failure}
use Rattle.sgml_conversion.specs.declared.answer.Failure.TheVariants as failure
use Rattle.sgml_conversion.specs.declared.answer.Ending.{Ending}
use Rattle.sgml_conversion.specs.declared.answer.Ending.TheVariants as ending
use Rattle.sgml_conversion.specs.declared.whole.WholeRead.{WholeRead}
use Rattle.sgml_conversion.specs.declared.whole.WholeRead.TheVariants as read
use Rattle.sgml_conversion.specs.Ending.{IsOutcomeOf}
use Rattle.sgml_conversion.specs.Documents.{HasRead, IsFedWhole, source_of}
use Rattle.sgml_conversion.specs.Full.{instance_events, prolog_end, unspelled, IsFullDocument, IsUnspelled, IsFullEnd, FullGains, EndsFull, FailsFull, FullAnswers, FullFile, ConvertsFull}
use Rattle.sgml_conversion.specs.Telling.{StopsFrom, EndsWhole, WholeEnds, ReadsToEnd, HasFull, IsAtPlace, IsUnspelledAmong, WritesDocument, WritesRead, FullFed, FullFound}
use Rattle.sgml_conversion.proofs.Placed.{count-instructions}
use Rattle.sgml_conversion.proofs.Turned.{reads-on, moves-append}

-- THE STORAGE of a front of a text is in more storage bytes
storage-in : (bytes rest whole front : List ℕ) (n : ℕ) → whole ≡ bytes ++ rest → IsStorageOf bytes n front → IsStorageOf whole n front
storage-in bytes rest whole front n all x = record {
  rest = x.rest ++ rest;
  all = all ∙ ap (λ (z : List ℕ). z ++ rest) x.all ∙ append_assoc front x.rest rest;
  reaches = x.reaches;
  shortest = λ m l.
      let within : m ≤ length bytes = omega (arith, l, ap length x.all ∙ length-append front x.rest) in
      subst (λ (z : List ℕ). length (records z) < n) (sym (ap (take m) all ∙ take-append-le m bytes rest within)) (x.shortest m l);
}

-- WHAT WAS WRITTEN
pub all-written : (bytes prolog : List ℕ) (at : ℕ) (d : Doctype) (es : List Event) (before : Option (List ℕ)) (faults : ℕ) (now : Option (List ℕ)) (faults' : ℕ) (done : Unit {0})
    → IsStorageOf bytes at prolog → WritesFull prolog d es before faults now faults' (Ok done) → WritesDocument bytes at d es before now (Ok ending.Conforming)
all-written bytes prolog at d es before faults now faults' done s w =
    (full_document prolog d (all_said d es), record { spelled = w.spelled; prolog = prolog; storage = s; is = refl }, w.written)

pub front-written : (bytes prolog : List ℕ) (at : ℕ) (d : Doctype) (es : List Event) (before : Option (List ℕ)) (faults : ℕ) (now : Option (List ℕ)) (faults' : ℕ)
    → IsStorageOf bytes at prolog → WritesFull prolog d es before faults now faults' (Err error.SinkFault) → WritesDocument bytes at d es before now (Err failure.Sink)
front-written bytes prolog at d es before faults now faults' s w =
    (full_document prolog d (all_said d es), record { spelled = w.spelled; prolog = prolog; storage = s; is = refl }, w.written)

pub none-written : (bytes prolog : List ℕ) (at : ℕ) (d : Doctype) (es : List Event) (before : Option (List ℕ)) (faults : ℕ) (now : Option (List ℕ)) (faults' index : ℕ) (r : Refusal)
    → IsAtPlace (slice_get es index) r.place → r.reason ≡ PiNotSpelled → WritesFull prolog d es before faults now faults' (Err (error.PiNotSpelled index)) → WritesDocument bytes at d es before now (Ok (ending.Refused r))
none-written bytes prolog at d es before faults now faults' index r p e w = (record { index = index; first = w.first; place = p; reason = e }, w.same)

-- AN INSTRUCTION among events has its place among the places of instructions
told-at : (es : List Event) (index : ℕ) (p : Place) → IsAtPlace (slice_get es index) p → slice_get (places_told OfInstructions es) (length (places_told OfInstructions (take index es))) ≡ Some p
told-at [] index p h = absurd h
told-at (event.Pi text entity place ∷ es) zero p h = ap Some h
told-at (event.Start element place values ∷ es) zero p h = absurd h
told-at (event.End element ∷ es) zero p h = absurd h
told-at (event.Chars us ∷ es) zero p h = absurd h
told-at (event.DataRef e ∷ es) zero p h = absurd h
told-at (event.Pi text entity place ∷ es) (suc index) p h = told-at es index p h
told-at (event.Start element place values ∷ es) (suc index) p h = told-at es index p h
told-at (event.End element ∷ es) (suc index) p h = told-at es index p h
told-at (event.Chars us ∷ es) (suc index) p h = told-at es index p h
told-at (event.DataRef e ∷ es) (suc index) p h = told-at es index p h

drop-front : (es more : List Said) → drop (length es) (es ++ more) ≡ more
drop-front [] more = refl
drop-front (e ∷ es) more = drop-front es more

-- A DOCUMENT that was read to its end
module _ (p : Parser) (at : ℕ) (I : Input) (es : List Event) (x : EndsWhole p at I (opening I.outside) es) where
  abbrev prolog_read : History
  prolog_read = after_moves (opening I.outside) x.prolog

  abbrev final : History
  final = after_moves prolog_read x.ends.moves

  abbrev before_instance : ℕ
  before_instance = length (instructions (events forms prolog_read))

  border-is : prolog_of final ≡ prolog_read
  border-is = prolog-stays prolog_read x.ends.moves x.ends.border.first

  instance-is : instance_events final ≡ all_said (types final) es
  instance-is = (λ i. drop (length (events forms (border-is i))) (x.ends.told i)) ∙ drop-front (events forms prolog_read) (all_said (types final) es)

  unspelled-is : unspelled final ≡ first_unspelled before_instance (all_said (types final) es)
  unspelled-is = λ i. first_unspelled (length (instructions (events forms (border-is i)))) (instance-is i)

  end-is : at ≡ prolog_end final
  end-is = x.ends.at_is ∙ ap (λ (h : History). (stop_place h).at) (sym border-is)

  full-is : (bytes rest whole : List ℕ) (d : Doctype) (text : List ℕ) → whole ≡ bytes ++ rest → d ≡ doctype_in p.reading → HasFull bytes at d es text → IsFullDocument whole final text
  full-is bytes rest whole d text all k f =
      let typed : d ≡ types final = k ∙ x.ends.typed in
      record {
        prolog = f.prolog;
        storage = subst (λ (n : ℕ). IsStorageOf whole n f.prolog) end-is (storage-in bytes rest whole f.prolog at all f.storage);
        is = f.is ∙ (ap (λ (z : Doctype). full_document f.prolog z (all_said z es)) typed ∙ ap (full_document f.prolog (types final)) (sym instance-is));
      }

  all-spelled : list_all is_spelled es ≡ true → unspelled final ≡ None
  all-spelled s = unspelled-is ∙ none-unspelled (types final) es before_instance s

  is-unspelled : (r : Refusal) → IsUnspelledAmong es r → IsUnspelled final r
  is-unspelled r u =
      let front = take u.index es in
      record {
        over = x.ends.over;
        agree = x.ends.agree;
        number = before_instance + length (instructions (all_said (types final) front));
        first = unspelled-is ∙ first-said (types final) es u.index before_instance u.first;
        place =
            ap (λ (n : ℕ). slice_get (instruction_places final) (before_instance + n)) (count-instructions (types final) front)
            ∙ x.ends.placed (length (places_told OfInstructions front)) r.place (told-at es u.index r.place u.place);
        reason = u.reason;
      }

  ends-so : (bytes : List ℕ) (a : Outcome) (before now : Option (List ℕ)) → IsFullEnd a I final → FullGains a bytes final before now → EndsFull a bytes I before now
  ends-so bytes a before now e g = record {
    moves = x.prolog ++ x.ends.moves;
    read = reads-on I (opening I.outside) x.prolog x.ends.moves x.read x.ends.read;
    end = subst (IsFullEnd a I) (sym (moves-append (opening I.outside) x.prolog x.ends.moves)) e;
    gained = subst (λ (h : History). FullGains a bytes h before now) (sym (moves-append (opening I.outside) x.prolog x.ends.moves)) g;
  }

  fails-so : (bytes rest whole : List ℕ) (d : Doctype) (before now : Option (List ℕ)) → whole ≡ bytes ++ rest → d ≡ doctype_in p.reading → WritesDocument bytes at d es before now (Err failure.Sink) → FailsFull whole I before now
  fails-so bytes rest whole d before now all k w =
      let same = sym (moves-append (opening I.outside) x.prolog x.ends.moves) in
      record {
        moves = x.prolog ++ x.ends.moves;
        read = reads-on I (opening I.outside) x.prolog x.ends.moves x.read x.ends.read;
        end = subst (IsFullEnd outcome.Conforming I) same ((x.ends.over, x.ends.agree), all-spelled w.1.spelled);
        text = w.0;
        is = subst (λ (h : History). IsFullDocument whole h w.0) same (full-is bytes rest whole d w.0 all k w.1);
        front = w.2;
      }

  answers-whole : (bytes rest whole : List ℕ) (d : Doctype) (before now : Option (List ℕ)) (a : Ending) (o : Outcome) → whole ≡ bytes ++ rest → d ≡ doctype_in p.reading
      → WritesDocument bytes at d es before now (Ok a) → IsOutcomeOf p a o → FullAnswers whole I before now (Ok o)
  answers-whole bytes rest whole d before now ending.Conforming outcome.Conforming all k w t =
      ends-so whole outcome.Conforming before now ((x.ends.over, x.ends.agree), all-spelled w.1.spelled) (w.0, full-is bytes rest whole d w.0 all k w.1, w.2)
  answers-whole bytes rest whole d before now ending.Conforming (outcome.Refused r y) all k w t = absurd t
  answers-whole bytes rest whole d before now ending.Conforming outcome.Absent all k w t = absurd t
  answers-whole bytes rest whole d before now (ending.Refused r) outcome.Conforming all k w t = absurd t
  answers-whole bytes rest whole d before now (ending.Refused r) outcome.Absent all k w t = absurd t
  answers-whole bytes rest whole d before now (ending.Refused r) (outcome.Refused q y) all k w t =
      ends-so whole (outcome.Refused q y) before now
      (inr (subst (IsUnspelled final) (sym t.0) (is-unspelled r w.0), subst (λ (z : Refusal). IsPositionOf I final z.place y) (sym t.0) (t.1 I x.ends.knows.0 final x.ends.knows.1)))
      w.1

refused-answers : (p : Parser) (whole : List ℕ) (I : Input) (before now : Option (List ℕ)) (r : Refusal) (o : Outcome) → StopsFrom p r I (opening I.outside) → now ≡ before → IsOutcomeOf p (ending.Refused r) o → FullAnswers whole I before now (Ok o)
refused-answers p whole I before now r outcome.Conforming x same t = absurd t
refused-answers p whole I before now r outcome.Absent x same t = absurd t
refused-answers p whole I before now r (outcome.Refused q y) x same t = record {
  moves = x.moves;
  read = x.read;
  end =
      let h = after_moves (opening I.outside) x.moves in
      inl (subst (λ (z : Refusal). (IsStop I h z ⊎ IsIdFault h z) × IsPositionOf I h z.place y) (sym t.0) (x.end, t.1 I x.knows.0 h x.knows.1));
  gained = same;
}

same-ok : (a b : Ending) (x y : Result Ending Failure) → x ≡ Ok a → y ≡ Ok b → x ≡ y → a ≡ b
same-ok a b x y e f g = cc

answer-of : (p : Parser) (x : WholeRead) (bytes rest whole : List ℕ) (d : Doctype) (es : List Event) (I : Input) (before now : Option (List ℕ)) (a : Ending) (o : Outcome) → whole ≡ bytes ++ rest → d ≡ doctype_in p.reading
    → WholeEnds p x es I (opening I.outside) → WritesRead bytes d es before now x (Ok a) → IsOutcomeOf p a o → FullAnswers whole I before now (Ok o)
answer-of p (read.Whole from at) bytes rest whole d es I before now a o all k x w t = answers-whole p at I (drop from es) x bytes rest whole d before now a o all k w t
answer-of p (read.Refused r) bytes rest whole d es I before now a o all k x w t = refused-answers p whole I before now r o x w.1 (subst (λ (z : Ending). IsOutcomeOf p z o) (same-ok a (ending.Refused r) (Ok a) (Ok (ending.Refused r)) refl refl w.0) t)

-- a failure
pub same-answer : (whole : List ℕ) (I : Input) (before now : Option (List ℕ)) (e : Failure) → (e ≡ failure.Sink → ⊥) → now ≡ before → FullAnswers whole I before now (Err e)
same-answer whole I before now failure.Store n same = same
same-answer whole I before now failure.Memory n same = same
same-answer whole I before now failure.Sink n same = absurd (n refl)

never-ok : {A B : Type 0} (x : A) (e : Failure) (y : Result A Failure) → y ≡ Err e → y ≡ Ok x → B
never-ok x e y f h = cc

failure-of : (p : Parser) (x : WholeRead) (bytes rest whole : List ℕ) (d : Doctype) (es : List Event) (I : Input) (before now : Option (List ℕ)) (e : Failure) → whole ≡ bytes ++ rest → d ≡ doctype_in p.reading
    → WholeEnds p x es I (opening I.outside) → WritesRead bytes d es before now x (Err e) → FullAnswers whole I before now (Err e)
failure-of p (read.Whole from at) bytes rest whole d es I before now failure.Sink all k x w = fails-so p at I (drop from es) x bytes rest whole d before now all k w
failure-of p (read.Whole from at) bytes rest whole d es I before now failure.Store all k x w = w
failure-of p (read.Whole from at) bytes rest whole d es I before now failure.Memory all k x w = w
failure-of p (read.Refused r) bytes rest whole d es I before now e all k x w = never-ok (ending.Refused r) e (Err e) refl w.0

-- no memory was there for a refusal's position
unanswered : (x : WholeRead) (bytes : List ℕ) (d : Doctype) (es : List Event) (before now : Option (List ℕ)) (a : Ending) → (a ≡ ending.Conforming → ⊥) → WritesRead bytes d es before now x (Ok a) → now ≡ before
unanswered (read.Whole from at) bytes d es before now ending.Conforming n w = absurd (n refl)
unanswered (read.Whole from at) bytes d es before now (ending.Refused r) n w = w.1
unanswered (read.Refused r) bytes d es before now a n w = w.1

-- THE DOCUMENT of an id
first-read : (limit : ℕ) (whole : List ℕ) (left : ℕ → Option (List ℕ)) (id : ℕ) → left id ≡ Some whole → HasRead limit whole (left id) [] phase.Going
first-read limit whole left id l = record { rest = whole; all = refl; in_phase = l }

abbrev pub ReadsOn : ℕ → (ℕ → Option (List ℕ)) → (ℕ → Option (List ℕ)) → ℕ → List ℕ → Phase → Type 0
ReadsOn limit left left' id bytes f = (whole : List ℕ) → HasRead limit whole (left id) [] phase.Going → HasRead limit whole (left' id) bytes f

memory-last : {T : Type 0} (result : Result T Failure) (e : Failure) → result ≡ Err e → result ≡ Err failure.Memory → e ≡ failure.Memory
memory-last result e a b = cc

pub fed-told : (limit : ℕ) (known : Option Files) (left : ℕ → Option (List ℕ)) (id : ℕ) (bytes : List ℕ) (f : Phase) (p p' : Parser) (es : List Event) (x : WholeRead) (d : Doctype)
    (before now : Option (List ℕ)) (a : Ending) (result : Result Outcome Failure) → ReadsToEnd known left (source_of limit id bytes f) p p' es x → d ≡ doctype_in p'.reading → WritesRead bytes d es before now x (Ok a)
    → IfOk result (IsOutcomeOf p' a) → OnErr result (result ≡ Err failure.Memory) → (a ≡ ending.Conforming → OnErr result ⊥) → FullFed limit id bytes f p known left before now result
fed-told limit None left id bytes f p p' es x d before now a result reads t w o m conf = tt
fed-told limit (Some files) left id bytes f p p' es x d before now a (Ok outcome) reads t w o m conf = λ c declaration whole I i r at.
    answer-of p' x bytes r.rest whole d es I before now a outcome r.all t (reads limit c declaration whole I (opening I.outside) i at) w o
fed-told limit (Some files) left id bytes f p p' es x d before now a (Err e) reads t w o m conf = λ c declaration whole I i r at.
    same-answer whole I before now e (λ s. apart (sym s ∙ memory-last (Err e) e refl m)) (unanswered x bytes d es before now a conf w)
  where
    apart : failure.Sink ≡ failure.Memory → ⊥
    apart e = cc

pub fed-failed : (limit : ℕ) (known : Option Files) (left : ℕ → Option (List ℕ)) (id : ℕ) (bytes : List ℕ) (f : Phase) (p p' : Parser) (es : List Event) (x : WholeRead) (d : Doctype)
    (before now : Option (List ℕ)) (e : Failure) → ReadsToEnd known left (source_of limit id bytes f) p p' es x → d ≡ doctype_in p'.reading → WritesRead bytes d es before now x (Err e) → FullFed limit id bytes f p known left before now (Err e)
fed-failed limit None left id bytes f p p' es x d before now e reads t w = tt
fed-failed limit (Some files) left id bytes f p p' es x d before now e reads t w = λ c declaration whole I i r at.
    failure-of p' x bytes r.rest whole d es I before now e r.all t (reads limit c declaration whole I (opening I.outside) i at) w

pub nothing-fed : (limit : ℕ) (known : Option Files) (left : ℕ → Option (List ℕ)) (id : ℕ) (bytes : List ℕ) (f : Phase) (p : Parser) (before : Option (List ℕ)) (e : Failure) → (e ≡ failure.Sink → ⊥) → FullFed limit id bytes f p known left before before (Err e)
nothing-fed limit None left id bytes f p before e n = tt
nothing-fed limit (Some files) left id bytes f p before e n = λ c declaration whole I i r at. same-answer whole I before before e n refl

pub found-fed : (limit : ℕ) (known known' : Option Files) (c : Choices) (declaration : Option Syntax) (left left' : ℕ → Option (List ℕ)) (id : ℕ) (bytes : List ℕ) (f : Phase) (p : Parser)
    (before now : Option (List ℕ)) (result : Result Outcome Failure) → known' ≡ known → ReadsOn limit left left' id bytes f → length bytes ≤ limit → IsFedWhole c declaration bytes f p
    → FullFed limit id bytes f p known' left' before now result → FullFound limit c declaration known left id before now result
found-fed limit None known' c declaration left left' id bytes f p before now result k on within fed x = tt
found-fed limit (Some files) known' c declaration left left' id bytes f p before now result k on within fed x = λ whole I l i.
    let r = on whole (first-read limit whole left id l) in
    let answers = subst (λ (z : Option Files). FullFed limit id bytes f p z left' before now result) k x in
    answers c declaration whole I i r (fed limit files whole I left' id within r i)

pub nothing-found : (limit : ℕ) (known : Option Files) (c : Choices) (declaration : Option Syntax) (left : ℕ → Option (List ℕ)) (id : ℕ) (before : Option (List ℕ)) (e : Failure) → (e ≡ failure.Sink → ⊥) → FullFound limit c declaration known left id before before (Err e)
nothing-found limit None c declaration left id before e n = tt
nothing-found limit (Some files) c declaration left id before e n = λ whole I l i. same-answer whole I before before e n refl

-- THE FILE
pub file-full : (limit : ℕ) (known : Option Files) (c : Choices) (declaration : Option Syntax) (left : ℕ → Option (List ℕ)) (id : ℕ) (before now : Option (List ℕ)) (result : Result Outcome Failure) → Finds known c.base left (Some id)
    → FullFound limit c declaration known left id before now result → IfSome known (λ files. ConvertsFull limit files c declaration before now result)
file-full limit None c declaration left id before now result f x = tt
file-full limit (Some files) c declaration left id before now result f x =
    subst (λ (o : Option (List ℕ)). FullFile limit files c declaration o before now result) (sym f.1) (λ I i. x f.0 I f.2 i)

not-looked-up : (limit : ℕ) (files : Files) (c : Choices) (declaration : Option Syntax) (file : Option (List ℕ)) (before : Option (List ℕ)) (e : Failure) → (e ≡ failure.Sink → ⊥) → FullFile limit files c declaration file before before (Err e)
not-looked-up limit files c declaration None before e n = (tt, refl)
not-looked-up limit files c declaration (Some bytes) before e n = λ I i. same-answer bytes I before before e n refl

pub file-not-found : (limit : ℕ) (known : Option Files) (c : Choices) (declaration : Option Syntax) (before : Option (List ℕ)) (e : Failure) → (e ≡ failure.Sink → ⊥) → IfSome known (λ files. ConvertsFull limit files c declaration before before (Err e))
file-not-found limit None c declaration before e n = tt
file-not-found limit (Some files) c declaration before e n = not-looked-up limit files c declaration (file_in files c.base) before e n

-- no memory
pub not-sink : failure.Memory ≡ failure.Sink → ⊥
not-sink e = cc

pub not-the-sink : {T : Type 0} (e : Failure) (err : Failure → Result T Failure) → (err e ≡ err failure.Sink → ⊥) → e ≡ failure.Sink → ⊥
not-the-sink e err h s = h (ap err s)
