-- What a parser tells, by what its readers do.
use Rattle.std.proofs.Common.{◌≡◌, Bool, true, false, ℕ, List, [], Option, Some, None, Result, Ok, Err, inl, inr, refl, sym, ap, ◌∙◌, subst}
use Rattle.std.specs.Prelude.{IsSome, IfSome}
use Rattle.sgml_text.specs.declared.place.Place.{Place}
use Rattle.sgml_text.specs.declared.reason.Reason.{Reason}
use Rattle.sgml_io.specs.declared.records.RecordReader.{RecordReader}
use Rattle.sgml_entity.specs.Texts.{text_of}
use Rattle.sgml_declared.specs.theory_reading.Names.{Text}
use Rattle.sgml_declared.specs.theory_reading.Pieces.{History}
use Rattle.sgml_declared.specs.theory_reading.Unread.{Input}
use Rattle.sgml_declared.specs.theory_reading.Reads.{Stops, stop_place, top_place, after_moves}
use Rattle.sgml_declared.specs.theory_reading.Events.{Event as Said}
use Rattle.sgml_declared.specs.theory_spelling.Spelled.{forms}
use Rattle.sgml_declared.specs.theory_standing.Kept.{Kept}
use Rattle.sgml_declared.specs.Files.{Choices}
use Rattle.sgml_instance.specs.content_steps.Content.{Content}
use Rattle.sgml_instance.specs.Reading.{KeepsUp}
use Rattle.sgml_parse.specs.declared.answer.ParseStep.{ParseStep}
use Rattle.sgml_parse.specs.declared.answer.ParseStep.TheVariants as step
use Rattle.sgml_parse.specs.declared.answer.ParseError.{ParseError}
use Rattle.sgml_parse.specs.declared.answer.ParseError.TheVariants as error
use Rattle.sgml_parse.specs.declared.answer.Wanted.{Wanted}
use Rattle.sgml_parse.specs.There.{Reading}
use Rattle.sgml_parse.specs.There as reading
use Rattle.sgml_parse.specs.Missing.{why_missing}
use Rattle.sgml_parse.specs.Parsing.{Parser, parser, Reads, Awaits, IsGone, AreMissing, IsParsing, WantsUnsupplied, is_in_instance, Leads, NextIsParsing, IsSound, GoesOver, TellsInstructions, KeepsDoctype, IsWantedBy, is_lost, place_in, error_in, wanted_in}
use Rattle.sgml_parse.specs.Going.{ReadsNext, IsWant, IsNoted, IsToldOf, unless_missing, checked}
use Rattle.sgml_parse.proofs.Missed.{missing-on, missing-file}
use Rattle.sgml_parse.proofs.Tables.{reads-tables}
use Rattle.sgml_parse.proofs.Knowing.{IsInputThere, knows-then, parsing-knows}

-- WHERE READING STOPS is the place of the reader
keeps-place : (over : Bool) (x : Content) (ts : List (ℕ × Text)) (I : Input) (more : Text) (h : History) (why : Reason) → KeepsUp over x ts I more h → Stops forms I h why
    → top_place x.kept.stack.places ≡ stop_place h
keeps-place true x ts I more h why k s = absurd (never (sym k.0 ∙ s.goes_on))
  where
    never : true ≡ false → ⊥
    never e = cc
keeps-place false x ts I more h why k s = ap (λ (z : Kept). top_place z.stack.places) (sym k.1.kept) ∙ ap top_place k.2.stands.places_are

pub place-is : (there : Reading) (ts : List (ℕ × Text)) (ended : Bool) (I : Input) (more : Text) (h : History) (told : List Said) (why : Reason) → Reads there ts ended I more h told → Stops forms I h why
    → place_in there ≡ stop_place h
place-is (reading.Prolog r) ts ended I more h told why x s = ap top_place x.0.stands.places_are
place-is (reading.Instance r) ts ended I more h told why x s = keeps-place r.over r.content ts I more h why x.keeps s
place-is reading.Lost ts ended I more h told why x s = absurd x

-- A TEXT THAT ISN'T THERE
pub gone-is-parsing : (c : Choices) (ts : List (ℕ × Text)) (made : RecordReader) (ended : Bool) (there : Reading) (wanted : Option Wanted) (lack : Option Reason) (ms : List (ℕ × Reason)) (why : Reason) → lack ≡ Some why
    → NextIsParsing (parser c ts made ended there wanted lack ms None)
    (parser c ts made ended there wanted lack ms (Some (error.Refused (record { place = place_in there; reason = why }))))
    (Err (error.Refused (record { place = place_in there; reason = why })))
gone-is-parsing c ts made ended there wanted lack ms why e = λ I more h told x.
    let g : IsGone I h told why = subst (λ (z : Option Reason). IfSome z (IsGone I h told)) e x.gone in
    record { moves = []; read = tt; leads = (g.0, place-is there ts ended I more h told why x.reads g.0, g.1); tables = reads-tables there ts ended I more h told x.reads; knows = parsing-knows (parser c ts made ended there wanted lack ms None) I more h told x }

-- WHAT IS TOLD, of a parser that waits for none
unawaited : (there : Reading) (ts : List (ℕ × Text)) (I : Input) (h : History) (told : List Said) (wanted : Option Wanted) → wanted ≡ None → IfSome wanted (Awaits there ts I h told)
unawaited there ts I h told wanted e = subst (λ (z : Option Wanted). IfSome z (Awaits there ts I h told)) (sym e) tt

pub stands : (c : Choices) (ts : List (ℕ × Text)) (made : RecordReader) (ended : Bool) (there : Reading) (wanted : Option Wanted) (ms : List (ℕ × Reason)) (I : Input) (more : Text) (h : History) (told : List Said) → IsSome (text_of ts 0)
    → IsInputThere c ts I more → AreMissing there I.outside ms → IfSome wanted (Awaits there ts I h told) → Reads there ts ended I more h told → IsParsing (parser c ts made ended there wanted None ms None) I more h told
stands c ts made ended there wanted ms I more h told b d m w r = record { well = refl; of_options = d.0; document = d.1; reads = r; begun = b; awaits = w; gone = tt; missing = λ g. m }

pub leads-on : (c : Choices) (ts : List (ℕ × Text)) (made : RecordReader) (ended : Bool) (there : Reading) (wanted : Option Wanted) (ms : List (ℕ × Reason)) (I : Input) (more : Text) (h : History) (told : List Said) (s : ParseStep) → IsSome (text_of ts 0)
    → IsInputThere c ts I more → AreMissing there I.outside ms → wanted ≡ wanted_in (Ok s) → Leads there ts ended I h told (Reads there ts ended I more h) (Ok s)
    → Leads there ts ended I h told (IsParsing (parser c ts made ended there wanted None ms None) I more h) (Ok s)
leads-on c ts made ended there wanted ms I more h told (step.Event e) b d m w l =
    stands c ts made ended there wanted ms I more h _ b d m (unawaited there ts I h _ wanted w) l
leads-on c ts made ended there wanted ms I more h told step.Prolog b d m w l =
    (stands c ts made ended there wanted ms I more h told b d m (unawaited there ts I h told wanted w) l.0, l.1, l.2)
leads-on c ts made ended there wanted ms I more h told (step.Want number file) b d m w l = (
  stands c ts made ended there wanted ms I more h told b d m (subst (λ (z : Option Wanted). IfSome z (Awaits there ts I h told)) (sym w) l.1) l.0,
  l.1,
  l.2,
)
leads-on c ts made ended there wanted ms I more h told step.More b d m w l =
    (stands c ts made ended there wanted ms I more h told b d m (unawaited there ts I h told wanted w) l.0, l.1, l.2, l.3)
leads-on c ts made ended there wanted ms I more h told step.Finished b d m w l =
    (stands c ts made ended there wanted ms I more h told b d m (unawaited there ts I h told wanted w) l.0, l.1, l.2)

-- the instance isn't left
not-back : (old new : Reading) (answer : Result ParseStep ParseError) → GoesOver old new answer → is_in_instance new ≡ false → is_in_instance old ≡ false
not-back old new (Ok (step.Event e)) o f = sym o ∙ f
not-back old new (Ok step.Prolog) o f = o.0
not-back old new (Ok (step.Want number file)) o f = sym o ∙ f
not-back old new (Ok step.More) o f = sym o ∙ f
not-back old new (Ok step.Finished) o f = sym o ∙ f
not-back old new (Err e) o f = sym o ∙ f

-- the answer that was noted
next-by : (c : Choices) (ts : List (ℕ × Text)) (made : RecordReader) (ended : Bool) (old new : Reading) (was wanted : Option Wanted) (ms : List (ℕ × Reason)) (answer result : Result ParseStep ParseError)
    → ReadsNext ts ended old new answer → GoesOver old new answer → KeepsDoctype old new → IsNoted answer wanted result
    → NextIsParsing (parser c ts made ended old was None ms None) (parser c ts made ended new wanted None ms (error_in result)) result
next-by c ts made ended old new was wanted ms answer (Ok s) n o k t = λ I more h told x.
    let a = subst (ReadsNext ts ended old new) t.0 n I more h told x.reads in
    let m : AreMissing new I.outside ms = missing-on old new I.outside ms (not-back old new answer o) k (x.missing refl) in
    record {
      moves = a.moves;
      read = a.read;
      leads = leads-on c ts made ended new wanted ms I more _ told s x.begun (x.of_options, x.document) m (t.1 ∙ ap wanted_in t.0) a.leads;
      tables = a.tables;
      knows = knows-then c new ts I more (after_moves h a.moves) (Ok s) x.of_options x.document a.sources;
    }
next-by c ts made ended old new was wanted ms answer (Err (error.Refused r)) n o k t = λ I more h told x.
    let a = subst (ReadsNext ts ended old new) t n I more h told x.reads in
    record { moves = a.moves; read = a.read; leads = a.leads; tables = a.tables; knows = knows-then c new ts I more (after_moves h a.moves) (Err (error.Refused r)) x.of_options x.document a.sources }
next-by c ts made ended old new was wanted ms answer (Err error.Memory) n o k t = λ I more h told x. record { moves = []; read = tt; leads = tt; tables = tt; knows = tt }

pub next-is-parsing : (c : Choices) (ts : List (ℕ × Text)) (made : RecordReader) (ended : Bool) (old new : Reading) (was wanted : Option Wanted) (lack : Option Reason) (ms : List (ℕ × Reason)) (answer result : Result ParseStep ParseError) → lack ≡ None
    → ReadsNext ts ended old new answer → GoesOver old new answer → KeepsDoctype old new → IsNoted answer wanted result
    → NextIsParsing (parser c ts made ended old was lack ms None) (parser c ts made ended new wanted lack ms (error_in result)) result
next-is-parsing c ts made ended old new was wanted lack ms answer result e n o k t =
    subst (λ (z : Option Reason). NextIsParsing (parser c ts made ended old was z ms None) (parser c ts made ended new wanted z ms (error_in result)) result) (sym e)
    (next-by c ts made ended old new was wanted ms answer result n o k t)

-- WHAT IS WANTED, where it was supplied that it isn't there, is refused
pub missing-stops : (p : Parser) (I : Input) (more : Text) (h : History) (told : List Said) (number : ℕ) (file : Text) (why : Reason) → p.gone ≡ None → why_missing p.missing number ≡ Some why → IsParsing p I more h told
    → Awaits p.reading p.texts I h told (record { entity = number; name = file }) → Stops forms I h why
missing-stops p I more h told number file why g m x a = a.stops why (missing-file p.reading I.outside p.missing number file why (x.missing g) a.file m)

missing-refused : (p q new : Parser) (number : ℕ) (file : Text) (why : Reason) → q.gone ≡ None → why_missing q.missing number ≡ Some why
    → new ≡ record q { failed = Some (error.Refused (record { place = place_in q.reading; reason = why })) } → NextIsParsing p q (Ok (step.Want number file))
    → NextIsParsing p new (Err (error.Refused (record { place = place_in q.reading; reason = why })))
missing-refused p q new number file why g m e n =
    subst (λ (z : Parser). NextIsParsing p z (Err (error.Refused (record { place = place_in q.reading; reason = why })))) (sym e) (λ I more h told x.
    let a = n I more h told x in
    let h' = after_moves h a.moves in
    let stop = missing-stops q I more h' told number file why g m a.leads.0 a.leads.1 in
    record {
      moves = a.moves;
      read = a.read;
      leads = (stop, place-is q.reading q.texts q.ended I more h' told why a.leads.0.reads stop, a.leads.1.all);
      tables = a.tables;
      knows = parsing-knows q I more h' told a.leads.0;
    })

-- the parser after this answer
abbrev pub answered : Parser → Result ParseStep ParseError → Parser
answered p result = record p { failed = error_in result }

missing-by : (p q : Parser) (number : ℕ) (file : Text) (o : Option Reason) → q.gone ≡ None → why_missing q.missing number ≡ o → NextIsParsing p (answered q (Ok (step.Want number file))) (Ok (step.Want number file))
    → NextIsParsing p (answered q (unless_missing (place_in q.reading) o number file)) (unless_missing (place_in q.reading) o number file)
missing-by p q number file None g m n = n
missing-by p q number file (Some why) g m n = missing-refused p (answered q (Ok (step.Want number file)))
    (answered q (Err (error.Refused (record { place = place_in q.reading; reason = why })))) number file why g m refl n

checked-is-parsing : (p q : Parser) (answer : Result ParseStep ParseError) → q.gone ≡ None → NextIsParsing p (answered q answer) answer
    → NextIsParsing p (answered q (checked q.missing (place_in q.reading) answer)) (checked q.missing (place_in q.reading) answer)
checked-is-parsing p q (Ok (step.Want number file)) g n = missing-by p q number file (why_missing q.missing number) g refl n
checked-is-parsing p q (Ok (step.Event e)) g n = n
checked-is-parsing p q (Ok step.Prolog) g n = n
checked-is-parsing p q (Ok step.More) g n = n
checked-is-parsing p q (Ok step.Finished) g n = n
checked-is-parsing p q (Err e) g n = n

-- AFTER AN ERROR each call answers it again
pub none-is-parsing : (p new : Parser) (e : ParseError) (result : Result ParseStep ParseError) → p.failed ≡ Some e → NextIsParsing p new result
none-is-parsing p new e result f = λ I more h told x. absurd (never (sym x.well ∙ f))
  where
    never : None ≡ Some e → ⊥
    never s = cc

-- WHAT IS LOST is so for want of memory
pub sound-with : (c : Choices) (there : Reading) (failed : Option ParseError) → IsSound c there None → IsSound c there failed
sound-with c (reading.Prolog r) failed s = s
sound-with c (reading.Instance r) failed s = s
sound-with c reading.Lost failed s = absurd (never s)
  where
    never : None ≡ Some error.Memory → ⊥
    never e = cc

pub sound-well : (c : Choices) (there : Reading) (was failed : Option ParseError) → was ≡ None → IsSound c there was → IsSound c there failed
sound-well c there was failed e s = sound-with c there failed (subst (IsSound c there) e s)

sound-noted : (c : Choices) (there : Reading) (wanted : Option Wanted) (answer result : Result ParseStep ParseError) → IsNoted answer wanted result → IsSound c there (error_in answer) → IsSound c there (error_in result)
sound-noted c there wanted answer (Ok s) n i = subst (λ (z : Result ParseStep ParseError). IsSound c there (error_in z)) n.0 i
sound-noted c there wanted answer (Err (error.Refused x)) n i = subst (λ (z : Result ParseStep ParseError). IsSound c there (error_in z)) n i
sound-noted c (reading.Prolog r) wanted answer (Err error.Memory) n i = i
sound-noted c (reading.Instance r) wanted answer (Err error.Memory) n i = i
sound-noted c reading.Lost wanted answer (Err error.Memory) n i = refl

pub not-lost : (c : Choices) (there : Reading) (failed : Option ParseError) → (failed ≡ Some error.Memory → ⊥) → IsSound c there failed → is_lost there ≡ false
not-lost c (reading.Prolog r) failed f s = refl
not-lost c (reading.Instance r) failed f s = refl
not-lost c reading.Lost failed f s = absurd (f s)

-- THE SAME of a parser as its code has it
pub gone-answers : (p : Parser) (why : Reason) → p.failed ≡ None → p.gone ≡ Some why
    → NextIsParsing p (record p { failed = Some (error.Refused (record { place = place_in p.reading; reason = why })) }) (Err (error.Refused (record { place = place_in p.reading; reason = why })))
gone-answers p why f g =
    subst (λ (z : Option ParseError). NextIsParsing (parser p.options p.texts p.records p.ended p.reading p.wanted p.gone p.missing z)
    (parser p.options p.texts p.records p.ended p.reading p.wanted p.gone p.missing (Some (error.Refused (record { place = place_in p.reading; reason = why }))))
    (Err (error.Refused (record { place = place_in p.reading; reason = why })))) (sym f)
    (gone-is-parsing p.options p.texts p.records p.ended p.reading p.wanted p.gone p.missing why g)

pub refused-at : (p inside new : Parser) (why : Reason) (result : ParseError) → inside ≡ p → inside.failed ≡ None → inside.gone ≡ Some why
    → result ≡ error.Refused (record { place = place_in p.reading; reason = why }) → new ≡ record p { failed = Some result } → NextIsParsing p new (Err result)
refused-at p inside new why result e f g r n =
    subst (λ (z : Parser). NextIsParsing p z (Err result)) (sym n)
    (subst (λ (z : ParseError). NextIsParsing p (record p { failed = Some z }) (Err z)) (sym r)
    (gone-answers p why (ap (λ (z : Parser). z.failed) (sym e) ∙ f) (ap (λ (z : Parser). z.gone) (sym e) ∙ g)))

noted-answers : (p : Parser) (there : Reading) (wanted : Option Wanted) (answer result : Result ParseStep ParseError) → p.failed ≡ None → p.gone ≡ None
    → ReadsNext p.texts p.ended p.reading there answer → GoesOver p.reading there answer → KeepsDoctype p.reading there → IsNoted answer wanted result
    → NextIsParsing p (record p { reading = there; wanted = wanted; failed = error_in result }) result
noted-answers p there wanted answer result f g n o k t =
    subst (λ (z : Option ParseError). NextIsParsing (parser p.options p.texts p.records p.ended p.reading p.wanted p.gone p.missing z)
    (parser p.options p.texts p.records p.ended there wanted p.gone p.missing (error_in result)) result) (sym f)
    (next-is-parsing p.options p.texts p.records p.ended p.reading there p.wanted wanted p.gone p.missing answer result g n o k t)

pub next-answers : (p : Parser) (there : Reading) (wanted : Option Wanted) (answer result : Result ParseStep ParseError) → p.failed ≡ None → p.gone ≡ None
    → ReadsNext p.texts p.ended p.reading there answer → GoesOver p.reading there answer → KeepsDoctype p.reading there → IsToldOf p.missing (place_in there) answer wanted result
    → NextIsParsing p (record p { reading = there; wanted = wanted; failed = error_in result }) result
next-answers p there wanted answer result f g n o k t =
    subst (λ (z : Result ParseStep ParseError). NextIsParsing p (record p { reading = there; wanted = wanted; failed = error_in z }) z) (sym t.2)
    (checked-is-parsing p (record p { reading = there; wanted = wanted }) t.0 g (noted-answers p there wanted answer t.0 f g n o k t.1))

-- the same of a parser as its code has it
pub next-at : (p inside : Parser) (there : Reading) (wanted : Option Wanted) (failed : Option ParseError) (answer result : Result ParseStep ParseError) → inside ≡ p → inside.failed ≡ None → inside.gone ≡ None → failed ≡ error_in result
    → ReadsNext inside.texts inside.ended inside.reading there answer → GoesOver inside.reading there answer → KeepsDoctype inside.reading there → IsToldOf inside.missing (place_in there) answer wanted result
    → NextIsParsing p (record inside { reading = there; wanted = wanted; failed = failed }) result
next-at p inside there wanted failed answer result same f g e n o k t =
    subst (λ (z : Parser). NextIsParsing z (record inside { reading = there; wanted = wanted; failed = failed }) result) same
    (subst (λ (z : Option ParseError). NextIsParsing inside (record inside { reading = there; wanted = wanted; failed = z }) result) (sym e)
    (next-answers inside there wanted answer result f g n o k t))

-- what was told, noted
wants-over : (old new : Reading) (answer : Result ParseStep ParseError) → IsWant answer → GoesOver old new answer → GoesOver old new (Err error.Memory)
wants-over old new (Ok (step.Want number file)) w o = o
wants-over old new (Ok (step.Event e)) w o = absurd w
wants-over old new (Ok step.Prolog) w o = absurd w
wants-over old new (Ok step.More) w o = absurd w
wants-over old new (Ok step.Finished) w o = absurd w
wants-over old new (Err e) w o = absurd w

over-noted : (old new : Reading) (wanted : Option Wanted) (answer result : Result ParseStep ParseError) → IsNoted answer wanted result → GoesOver old new answer → GoesOver old new result
over-noted old new wanted answer (Ok s) n o = subst (GoesOver old new) n.0 o
over-noted old new wanted answer (Err (error.Refused x)) n o = subst (GoesOver old new) n o
over-noted old new wanted answer (Err error.Memory) (inl e) o = subst (GoesOver old new) e o
over-noted old new wanted answer (Err error.Memory) (inr w) o = wants-over old new answer w o

-- before the instance
early-noted : (old : Reading) (wanted : Option Wanted) (answer result : Result ParseStep ParseError) → IsNoted answer wanted result → TellsInstructions old answer → TellsInstructions old result
early-noted old wanted answer (Ok s) n o = subst (TellsInstructions old) n.0 o
early-noted old wanted answer (Err e) n o = tt

-- in the instance the document type stays
pub same-doctype : (there : Reading) → KeepsDoctype there there
same-doctype (reading.Prolog r) = tt
same-doctype (reading.Instance r) = refl
same-doctype reading.Lost = tt

-- what is noted of what was told
wanted-noted : (wanted : Option Wanted) (answer result : Result ParseStep ParseError) → IsNoted answer wanted result → IsWantedBy result wanted
wanted-noted wanted answer (Ok s) n = n.1 ∙ ap wanted_in n.0
wanted-noted wanted answer (Err (error.Refused x)) n = tt
wanted-noted wanted answer (Err error.Memory) n = tt

-- AND TOLD
over-unless : (old new : Reading) (place : Place) (o : Option Reason) (number : ℕ) (file : Text) → GoesOver old new (Ok (step.Want number file)) → GoesOver old new (unless_missing place o number file)
over-unless old new place None number file g = g
over-unless old new place (Some why) number file g = g

over-checked : (old new : Reading) (ms : List (ℕ × Reason)) (place : Place) (answer : Result ParseStep ParseError) → GoesOver old new answer → GoesOver old new (checked ms place answer)
over-checked old new ms place (Ok (step.Want number file)) g = over-unless old new place (why_missing ms number) number file g
over-checked old new ms place (Ok (step.Event e)) g = g
over-checked old new ms place (Ok step.Prolog) g = g
over-checked old new ms place (Ok step.More) g = g
over-checked old new ms place (Ok step.Finished) g = g
over-checked old new ms place (Err e) g = g

pub over-told : (old new : Reading) (ms : List (ℕ × Reason)) (place : Place) (wanted : Option Wanted) (answer result : Result ParseStep ParseError) → IsToldOf ms place answer wanted result → GoesOver old new answer → GoesOver old new result
over-told old new ms place wanted answer result t o = subst (GoesOver old new) (sym t.2) (over-checked old new ms place t.0 (over-noted old new wanted answer t.0 t.1 o))

early-unless : (old : Reading) (place : Place) (o : Option Reason) (number : ℕ) (file : Text) → TellsInstructions old (unless_missing place o number file)
early-unless old place None number file = tt
early-unless old place (Some why) number file = tt

early-checked : (old : Reading) (ms : List (ℕ × Reason)) (place : Place) (answer : Result ParseStep ParseError) → TellsInstructions old answer → TellsInstructions old (checked ms place answer)
early-checked old ms place (Ok (step.Want number file)) g = early-unless old place (why_missing ms number) number file
early-checked old ms place (Ok (step.Event e)) g = g
early-checked old ms place (Ok step.Prolog) g = g
early-checked old ms place (Ok step.More) g = g
early-checked old ms place (Ok step.Finished) g = g
early-checked old ms place (Err e) g = g

pub early-told : (old : Reading) (ms : List (ℕ × Reason)) (place : Place) (wanted : Option Wanted) (answer result : Result ParseStep ParseError) → IsToldOf ms place answer wanted result → TellsInstructions old answer → TellsInstructions old result
early-told old ms place wanted answer result t o = subst (TellsInstructions old) (sym t.2) (early-checked old ms place t.0 (early-noted old wanted answer t.0 t.1 o))

sound-unless : (c : Choices) (there : Reading) (place : Place) (o : Option Reason) (number : ℕ) (file : Text) → IsSound c there None → IsSound c there (error_in (unless_missing place o number file))
sound-unless c there place None number file s = s
sound-unless c there place (Some why) number file s = sound-with c there (Some (error.Refused (record { place = place; reason = why }))) s

sound-checked : (c : Choices) (there : Reading) (ms : List (ℕ × Reason)) (place : Place) (answer : Result ParseStep ParseError) → IsSound c there (error_in answer) → IsSound c there (error_in (checked ms place answer))
sound-checked c there ms place (Ok (step.Want number file)) s = sound-unless c there place (why_missing ms number) number file s
sound-checked c there ms place (Ok (step.Event e)) s = s
sound-checked c there ms place (Ok step.Prolog) s = s
sound-checked c there ms place (Ok step.More) s = s
sound-checked c there ms place (Ok step.Finished) s = s
sound-checked c there ms place (Err e) s = s

pub sound-told : (c : Choices) (there : Reading) (ms : List (ℕ × Reason)) (place : Place) (wanted : Option Wanted) (answer result : Result ParseStep ParseError) → IsToldOf ms place answer wanted result → IsSound c there (error_in answer)
    → IsSound c there (error_in result)
sound-told c there ms place wanted answer result t s =
    subst (λ (z : Result ParseStep ParseError). IsSound c there (error_in z)) (sym t.2) (sound-checked c there ms place t.0 (sound-noted c there wanted answer t.0 t.1 s))

wanted-unless : (place : Place) (o : Option Reason) (number : ℕ) (file : Text) (wanted : Option Wanted) → IsWantedBy (Ok (step.Want number file)) wanted → IsWantedBy (unless_missing place o number file) wanted
wanted-unless place None number file wanted w = w
wanted-unless place (Some why) number file wanted w = tt

wanted-checked : (ms : List (ℕ × Reason)) (place : Place) (answer : Result ParseStep ParseError) (wanted : Option Wanted) → IsWantedBy answer wanted → IsWantedBy (checked ms place answer) wanted
wanted-checked ms place (Ok (step.Want number file)) wanted w = wanted-unless place (why_missing ms number) number file wanted w
wanted-checked ms place (Ok (step.Event e)) wanted w = w
wanted-checked ms place (Ok step.Prolog) wanted w = w
wanted-checked ms place (Ok step.More) wanted w = w
wanted-checked ms place (Ok step.Finished) wanted w = w
wanted-checked ms place (Err e) wanted w = w

pub wanted-told : (ms : List (ℕ × Reason)) (place : Place) (wanted : Option Wanted) (answer result : Result ParseStep ParseError) → IsToldOf ms place answer wanted result → IsWantedBy result wanted
wanted-told ms place wanted answer result t = subst (λ (z : Result ParseStep ParseError). IsWantedBy z wanted) (sym t.2) (wanted-checked ms place t.0 wanted (wanted-noted wanted answer t.0 t.1))

-- it wasn't supplied
unsupplied-unless : (ms : List (ℕ × Reason)) (place : Place) (o : Option Reason) (number : ℕ) (file : Text) → why_missing ms number ≡ o → WantsUnsupplied ms (unless_missing place o number file)
unsupplied-unless ms place None number file e = e
unsupplied-unless ms place (Some why) number file e = tt

unsupplied-checked : (ms : List (ℕ × Reason)) (place : Place) (answer : Result ParseStep ParseError) → WantsUnsupplied ms (checked ms place answer)
unsupplied-checked ms place (Ok (step.Want number file)) = unsupplied-unless ms place (why_missing ms number) number file refl
unsupplied-checked ms place (Ok (step.Event e)) = tt
unsupplied-checked ms place (Ok step.Prolog) = tt
unsupplied-checked ms place (Ok step.More) = tt
unsupplied-checked ms place (Ok step.Finished) = tt
unsupplied-checked ms place (Err e) = tt

pub unsupplied-told : (ms : List (ℕ × Reason)) (place : Place) (wanted : Option Wanted) (answer result : Result ParseStep ParseError) → IsToldOf ms place answer wanted result → WantsUnsupplied ms result
unsupplied-told ms place wanted answer result t = subst (WantsUnsupplied ms) (sym t.2) (unsupplied-checked ms place t.0)
