-- What the readers of the prolog and of the instance answer, as it is told.
use Rattle.std.proofs.Common.{◌≡◌, ◌==◌, Bool, true, false, not, ◌&&◌, ℕ, List, [], ◌∷◌, ◌++◌, Option, Result, Ok, Err, map, length, refl, sym, ap, ◌∙◌, subst, append-nil}
use Rattle.sgml_text.specs.declared.place.Place.{Place}
use Rattle.sgml_events.specs.declared.event.Event.TheVariants as event
use Rattle.sgml_instance.specs.said.Told.{said, all_said}
use Rattle.sgml_declared.specs.theory_reading.Names.{Text}
use Rattle.sgml_declared.specs.theory_reading.Pieces.{History}
use Rattle.sgml_declared.specs.theory_reading.Unread.{Input, texts}
use Rattle.sgml_declared.specs.theory_reading.State.{state, stage}
use Rattle.sgml_declared.specs.theory_reading.Reads.{Move, ReadOn, after_moves, moved_on, is_after_subset, is_border, ends_in_finish}
use Rattle.sgml_declared.specs.theory_reading.Events.{Event as Said, events}
use Rattle.sgml_declared.proofs.theory_reading.Stack.{length-unread}
use Rattle.sgml_declared.proofs.theory_reading.Borders.{border-is-first}
use Rattle.sgml_declared.specs.theory_spelling.Spelled.{forms}
use Rattle.sgml_declared.specs.theory_standing.Kept.{Kept, Stands}
use Rattle.sgml_declared.specs.theory_standing.Prologs.{is_over, alone}
use Rattle.sgml_declared.specs.Files.{Choices, IsOutsideOf}
use Rattle.sgml_prolog.specs.Reading as prolog
use Rattle.sgml_prolog.specs.declared.answer.PrologStep.{PrologStep}
use Rattle.sgml_prolog.specs.declared.answer.PrologStep.TheVariants as prolog_step
use Rattle.sgml_prolog.specs.declared.answer.PrologError.{PrologError}
use Rattle.sgml_prolog.specs.declared.answer.PrologError.TheVariants as prolog_error
use Rattle.sgml_instance.specs.Reading as content
use Rattle.sgml_instance.specs.declared.answer.InstanceStep.{InstanceStep}
use Rattle.sgml_instance.specs.declared.answer.InstanceStep.TheVariants as instance_step
use Rattle.sgml_instance.specs.declared.answer.InstanceError.{InstanceError}
use Rattle.sgml_instance.specs.declared.answer.InstanceError.TheVariants as instance_error
use Rattle.sgml_parse.specs.declared.answer.ParseStep.{ParseStep}
use Rattle.sgml_parse.specs.declared.answer.ParseStep.TheVariants as step
use Rattle.sgml_parse.specs.declared.answer.ParseError.{ParseError}
use Rattle.sgml_parse.specs.declared.answer.ParseError.TheVariants as error
use Rattle.sgml_parse.specs.There.{Reading}
use Rattle.sgml_parse.specs.There as reading
use Rattle.sgml_parse.specs.Locating.{KnowsThen, HasSources}
use Rattle.sgml_parse.specs.Parsing.{Reads, Leads, AreThoseRead, GoesOver, TellsInstructions, IsSound, KeepsDoctype}
use Rattle.sgml_parse.specs.Going.{ReadsNext, BeginsAfter, BeginsOver, IsOver, IsOverIfDone, AnswersOfProlog, error_of_prolog, answer_of_instance, IsAnswer}
use Rattle.sgml_parse.proofs.Silent.{instruction-piece, instruction-is-placed, silent-moves}
use Rattle.sgml_parse.proofs.Tables.{stands-sources, reads-sources, reads-tables, sources-tables}

-- what was read in two turns
moves-append : (h : History) (ms ns : List Move) → after_moves h (ms ++ ns) ≡ after_moves (after_moves h ms) ns
moves-append h [] ns = refl
moves-append h (m ∷ ms) ns = moves-append (moved_on h m) ms ns

read-append : (I : Input) (h : History) (ms ns : List Move) → ReadOn forms I h ms → ReadOn forms I (after_moves h ms) ns → ReadOn forms I h (ms ++ ns)
read-append I h [] ns a b = b
read-append I h (m ∷ ms) ns a b = (a.0, read-append I (moved_on h m) ms ns a.1 b)

-- WANT OF MEMORY may be told of any
pub lacks : (ts : List (ℕ × Text)) (ended : Bool) (old new : Reading) → ReadsNext ts ended old new (Err error.Memory)
lacks ts ended old new = λ I more h told x. record { moves = []; read = tt; leads = tt; tables = tt; sources = tt }

-- THE PROLOG, in which nothing silent is told
all-told : (old new : prolog.Reader) (ts : List (ℕ × Text)) (ended : Bool) (I : Input) (more : Text) (h : History) (told : List Said) (result : Result PrologStep PrologError)
    → (a : prolog.Answers new ts ended I more h result) → events forms h ≡ told → events forms (after_moves h (map alone a.pieces)) ≡ told
all-told old new ts ended I more h told result a e = silent-moves h a.pieces a.silent a.in_prolog ∙ e

tells-instruction : (ts : List (ℕ × Text)) (ended : Bool) (old new : prolog.Reader) (text : Text) (entity : Option ℕ) (place : Place) → prolog.NextIsReading old new ts ended (Ok (prolog_step.Pi text entity place))
    → ReadsNext ts ended (reading.Prolog old) (reading.Prolog new) (Ok (step.Event (event.Pi text entity place)))
tells-instruction ts ended old new text entity place n = λ I more h told x.
    let a = n I more h x.0 in
    let t = a.leads.0 in
    let ms = map alone a.pieces in
    let h' = after_moves h ms in
    let ev = all-told old new ts ended I more h told (Ok (prolog_step.Pi text entity place)) a x.1 in
    record {
      moves = ms ++ (alone t.piece ∷ []);
      read = read-append I h ms (alone t.piece ∷ []) a.read (t.reads, tt);
      leads = subst (λ (z : History). Leads (reading.Prolog new) ts ended I z told (Reads (reading.Prolog new) ts ended I more z) (Ok (step.Event (event.Pi text entity place))))
          (sym (moves-append h ms (alone t.piece ∷ [])))
          (t.goes_on, instruction-piece h' t.piece text entity t.is ∙ ap (λ (es : List Said). es ++ (Rattle.sgml_declared.specs.theory_reading.Events.Instruction text entity ∷ [])) ev);
      tables = subst (λ (z : History). AreThoseRead (reading.Prolog new) z told (Ok (step.Event (event.Pi text entity place)))) (sym (moves-append h ms (alone t.piece ∷ [])))
          (t.goes_on.stands.doctype_is, instruction-is-placed h' t.piece text entity place told t.is a.leads.1 ev);
      sources = tt;
    }

wants-in-prolog : (ts : List (ℕ × Text)) (ended : Bool) (old new : prolog.Reader) (number : ℕ) (file : Text) → prolog.NextIsReading old new ts ended (Ok (prolog_step.Want number file))
    → ReadsNext ts ended (reading.Prolog old) (reading.Prolog new) (Ok (step.Want number file))
wants-in-prolog ts ended old new number file n = λ I more h told x.
    let a = n I more h x.0 in
    let w = a.leads.1 in
    let ev = all-told old new ts ended I more h told (Ok (prolog_step.Want number file)) a x.1 in
    record {
      moves = map alone a.pieces;
      read = a.read;
      leads = (
        (a.leads.0, ev),
        record {
          unread = w.unread;
          not_given = w.not_given;
          file = (w.named, w.asked);
          all = ev;
          stops = λ why gone. w.stops I more a.leads.0 why gone;
        },
        λ J rest known y why gone. w.stops J rest y.0 why gone,
      );
      tables = a.leads.0.stands.doctype_is;
      sources = tt;
    }

needs-more-in-prolog : (ts : List (ℕ × Text)) (ended : Bool) (old new : prolog.Reader) → prolog.NextIsReading old new ts ended (Ok prolog_step.More)
    → ReadsNext ts ended (reading.Prolog old) (reading.Prolog new) (Ok step.More)
needs-more-in-prolog ts ended old new n = λ I more h told x.
    let a = n I more h x.0 in
    let ev = all-told old new ts ended I more h told (Ok prolog_step.More) a x.1 in
    record { moves = map alone a.pieces; read = a.read; leads = ((a.leads.0, ev), ev, a.leads.1, a.leads.2); tables = (a.leads.0.stands.doctype_is, a.leads.0.stands.goes_on); sources = tt }

refused-in-prolog : (ts : List (ℕ × Text)) (ended : Bool) (old new : prolog.Reader) (x : Rattle.sgml_text.specs.declared.place.Refusal.Refusal) → prolog.NextIsReading old new ts ended (Err (prolog_error.Refused x))
    → ReadsNext ts ended (reading.Prolog old) (reading.Prolog new) (Err (error.Refused x))
refused-in-prolog ts ended old new r n = λ I more h told x.
    let a = n I more h x.0 in
    let ev = all-told old new ts ended I more h told (Err (prolog_error.Refused r)) a x.1 in
    record { moves = map alone a.pieces; read = a.read; leads = (a.leads.0, a.leads.1, ev); tables = a.leads.2.doctype_is; sources = stands-sources new.kept ts I more (after_moves h (map alone a.pieces)) a.leads.2 }

-- IT HAS BEEN READ
at-border : (a b c : Bool) → (a && b) ≡ true → c ≡ false → (a && (b && not c)) ≡ true
at-border true true true e f = absurd (cc)
at-border true true false e f = refl
at-border true false c e f = absurd (cc)
at-border false b c e f = absurd (cc)

over-at-border : (k : Kept) (ts : List (ℕ × Text)) (I : Input) (more : Text) (h : History) → Stands k ts I more h → is_over k ≡ true → is_border h ≡ true
unfolding state
over-at-border k ts I more h s o =
    at-border (is_after_subset (stage h)) (texts h == 1) (ends_in_finish h)
    (sym (λ i. is_after_subset (s.stage_is i) && ((ap length s.places_are ∙ length-unread h) i == 1)) ∙ o) s.goes_on

pub tells-prolog : (c : Choices) (ts : List (ℕ × Text)) (ended : Bool) (old new : prolog.Reader) (x : content.Reader) → new.options ≡ c → prolog.NextIsReading old new ts ended (Ok prolog_step.Done)
    → content.BeginsAfterProlog new.kept x → x.options ≡ c → ReadsNext ts ended (reading.Prolog old) (reading.Instance x) (Ok step.Prolog)
tells-prolog c ts ended old new x e n b f = λ I more h told y.
    let a = n I more h y.0 in
    let r = a.leads.0 in
    let h' = after_moves h (map alone a.pieces) in
    let ev = all-told old new ts ended I more h told (Ok prolog_step.Done) a y.1 in
    let o : IsOutsideOf x.options I.outside = subst (λ (z : Choices). IsOutsideOf z I.outside) (e ∙ sym f) r.of_options in
    let begun = subst (content.IsReading x ts ended I more h') ev (b ts ended I more h' o r.follows r.stands r.in_prolog a.leads.1) in
    record {
      moves = map alone a.pieces;
      read = a.read;
      leads = (begun, ev, record { in_prolog = r.in_prolog; first = border-is-first h' (over-at-border new.kept ts I more h' r.stands a.leads.1) r.none_before });
      tables = reads-tables (reading.Instance x) ts ended I more h' told begun;
      sources = tt;
    }

done-by : (c : Choices) (ts : List (ℕ × Text)) (ended : Bool) (old new : prolog.Reader) (after : Reading) → new.options ≡ c → prolog.NextIsReading old new ts ended (Ok prolog_step.Done)
    → BeginsAfter c new after → IsAnswer c ts ended (reading.Prolog old) after (Ok step.Prolog)
done-by c ts ended old new (reading.Instance x) e n b = record { reads = tells-prolog c ts ended old new x e n b.0 b.1; over = (refl, refl); early = tt; sound = b.1 }
done-by c ts ended old new (reading.Prolog x) e n b = absurd b
done-by c ts ended old new reading.Lost e n b = absurd b

done : (c : Choices) (ts : List (ℕ × Text)) (ended : Bool) (old new : prolog.Reader) (after : Reading) (result : Result ParseStep ParseError) → new.options ≡ c → prolog.NextIsReading old new ts ended (Ok prolog_step.Done)
    → AnswersOfProlog c (reading.Prolog new) after (Ok prolog_step.Done) result → IsAnswer c ts ended (reading.Prolog old) after result
done c ts ended old new after (Ok s) e n t =
    subst (λ (z : ParseStep). IsAnswer c ts ended (reading.Prolog old) after (Ok z)) (sym t.0) (done-by c ts ended old new after e n t.1)
done c ts ended old new after (Err x) e n t =
    subst (λ (z : ParseError). IsAnswer c ts ended (reading.Prolog old) after (Err z)) (sym t.0)
    (subst (λ (z : Reading). IsAnswer c ts ended (reading.Prolog old) z (Err error.Memory)) (sym t.1)
    (record { reads = lacks ts ended (reading.Prolog old) reading.Lost; over = refl; early = tt; sound = refl }))

same-answer : (c : Choices) (ts : List (ℕ × Text)) (ended : Bool) (old : Reading) (new after : Reading) (one other : Result ParseStep ParseError) → other ≡ one → after ≡ new
    → IsAnswer c ts ended old new one → IsAnswer c ts ended old after other
same-answer c ts ended old new after one other r e a = subst (λ (z : Result ParseStep ParseError). IsAnswer c ts ended old after z) (sym r) (subst (λ (z : Reading). IsAnswer c ts ended old z one) (sym e) a)

pub prolog-answers : (c : Choices) (ts : List (ℕ × Text)) (ended : Bool) (old new : prolog.Reader) (after : Reading) (answer : Result PrologStep PrologError) (result : Result ParseStep ParseError) → new.options ≡ c
    → prolog.NextIsReading old new ts ended answer → AnswersOfProlog c (reading.Prolog new) after answer result → IsAnswer c ts ended (reading.Prolog old) after result
prolog-answers c ts ended old new after (Ok prolog_step.Done) result e n t = done c ts ended old new after result e n t
prolog-answers c ts ended old new after (Ok (prolog_step.Pi text entity place)) result e n t =
    same-answer c ts ended (reading.Prolog old) (reading.Prolog new) after (Ok (step.Event (event.Pi text entity place))) result t.0 t.1
    (record { reads = tells-instruction ts ended old new text entity place n; over = refl; early = λ before. refl; sound = e })
prolog-answers c ts ended old new after (Ok (prolog_step.Want number file)) result e n t =
    same-answer c ts ended (reading.Prolog old) (reading.Prolog new) after (Ok (step.Want number file)) result t.0 t.1
    (record { reads = wants-in-prolog ts ended old new number file n; over = refl; early = tt; sound = e })
prolog-answers c ts ended old new after (Ok prolog_step.More) result e n t =
    same-answer c ts ended (reading.Prolog old) (reading.Prolog new) after (Ok step.More) result t.0 t.1
    (record { reads = needs-more-in-prolog ts ended old new n; over = refl; early = tt; sound = e })
prolog-answers c ts ended old new after (Err (prolog_error.Refused x)) result e n t =
    same-answer c ts ended (reading.Prolog old) (reading.Prolog new) after (Err (error.Refused x)) result t.0 t.1
    (record { reads = refused-in-prolog ts ended old new x n; over = refl; early = tt; sound = e })
prolog-answers c ts ended old new after (Err prolog_error.Memory) result e n t =
    same-answer c ts ended (reading.Prolog old) (reading.Prolog new) after (Err error.Memory) result t.0 t.1
    (record { reads = lacks ts ended (reading.Prolog old) (reading.Prolog new); over = refl; early = tt; sound = e })

-- THE INSTANCE
pub all-said-there : (r : content.Reader) (ts : List (ℕ × Text)) (ended : Bool) (I : Input) (more : Text) (h : History) (told : List Said) → content.HasToldAll r ts ended I more h told → events forms h ≡ told
all-said-there r ts ended I more h told t =
    t.reading.all ∙ (ap (λ (es : List _). told ++ all_said r.content.kept.doctype es) t.none ∙ append-nil told)

-- what it stands for, as a parser tells it
pub instance-leads : (r : content.Reader) (ts : List (ℕ × Text)) (ended : Bool) (I : Input) (more : Text) (h : History) (told : List Said) (answer : Result InstanceStep InstanceError)
    → content.Leads r ts ended I more h told answer → Leads (reading.Instance r) ts ended I h told (Reads (reading.Instance r) ts ended I more h) (answer_of_instance answer)
instance-leads r ts ended I more h told (Ok (instance_step.Event e)) l = l.0
instance-leads r ts ended I more h told (Ok (instance_step.Want number file)) l = (
  l.0.reading,
  record {
    unread = l.1.unread;
    not_given = l.1.not_given;
    file = l.1.named;
    all = all-said-there r ts ended I more h told l.0;
    stops = λ why gone. l.1.stops I more told l.0.reading why gone;
  },
  λ J rest known y why gone. l.1.stops J rest known y why gone,
)
instance-leads r ts ended I more h told (Ok instance_step.More) l = (l.0.reading, all-said-there r ts ended I more h told l.0, l.1, l.2)
instance-leads r ts ended I more h told (Ok instance_step.Finished) l = (l.0.reading, all-said-there r ts ended I more h told l.0, l.1)
instance-leads r ts ended I more h told (Err (instance_error.Refused x)) l = (l.0, l.1, l.2)
instance-leads r ts ended I more h told (Err instance_error.Memory) l = tt

pub instance-tables : (r : content.Reader) (ts : List (ℕ × Text)) (ended : Bool) (I : Input) (more : Text) (h : History) (told : List Said) (answer : Result InstanceStep InstanceError)
    → content.Leads r ts ended I more h told answer → AreThoseRead (reading.Instance r) h told (answer_of_instance answer)
instance-tables r ts ended I more h told (Ok (instance_step.Event e)) l = (reads-tables (reading.Instance r) ts ended I more h (told ++ said r.content.kept.doctype e) l.0, l.1)
instance-tables r ts ended I more h told (Ok (instance_step.Want number file)) l = reads-tables (reading.Instance r) ts ended I more h told l.0.reading
instance-tables r ts ended I more h told (Ok instance_step.More) l = (reads-tables (reading.Instance r) ts ended I more h told l.0.reading, l.3)
instance-tables r ts ended I more h told (Ok instance_step.Finished) l = reads-tables (reading.Instance r) ts ended I more h told l.0.reading
instance-tables r ts ended I more h told (Err (instance_error.Refused x)) l = sources-tables (reading.Instance r) ts I h l.3
instance-tables r ts ended I more h told (Err instance_error.Memory) l = tt

instance-sources : (r : content.Reader) (ts : List (ℕ × Text)) (ended : Bool) (I : Input) (more : Text) (h : History) (told : List Said) (answer : Result InstanceStep InstanceError)
    → content.Leads r ts ended I more h told answer → KnowsThen (answer_of_instance answer) (HasSources (reading.Instance r) ts I h)
instance-sources r ts ended I more h told (Ok (instance_step.Event e)) l = tt
instance-sources r ts ended I more h told (Ok (instance_step.Want number file)) l = tt
instance-sources r ts ended I more h told (Ok instance_step.More) l = tt
instance-sources r ts ended I more h told (Ok instance_step.Finished) l = reads-sources (reading.Instance r) ts ended I more h told l.0.reading
instance-sources r ts ended I more h told (Err (instance_error.Refused x)) l = l.3
instance-sources r ts ended I more h told (Err instance_error.Memory) l = tt

instance-reads : (ts : List (ℕ × Text)) (ended : Bool) (old new : content.Reader) (answer : Result InstanceStep InstanceError) → content.NextIsReading old new ts ended answer
    → ReadsNext ts ended (reading.Instance old) (reading.Instance new) (answer_of_instance answer)
instance-reads ts ended old new answer n = λ I more h told x.
    let a = n I more h told x in
    record {
      moves = a.moves;
      read = a.read;
      leads = instance-leads new ts ended I more (after_moves h a.moves) told answer a.leads;
      tables = instance-tables new ts ended I more (after_moves h a.moves) told answer a.leads;
      sources = instance-sources new ts ended I more (after_moves h a.moves) told answer a.leads;
    }

stays : (old new : content.Reader) (answer : Result InstanceStep InstanceError) → GoesOver (reading.Instance old) (reading.Instance new) (answer_of_instance answer)
stays old new (Ok (instance_step.Event e)) = refl
stays old new (Ok (instance_step.Want number file)) = refl
stays old new (Ok instance_step.More) = refl
stays old new (Ok instance_step.Finished) = refl
stays old new (Err (instance_error.Refused r)) = refl
stays old new (Err instance_error.Memory) = refl

instance-early : (old : content.Reader) (answer : Result InstanceStep InstanceError) → TellsInstructions (reading.Instance old) (answer_of_instance answer)
instance-early old (Ok (instance_step.Event e)) = λ before. absurd (never before)
  where
    never : true ≡ false → ⊥
    never e = cc
instance-early old (Ok (instance_step.Want number file)) = tt
instance-early old (Ok instance_step.More) = tt
instance-early old (Ok instance_step.Finished) = tt
instance-early old (Err (instance_error.Refused r)) = tt
instance-early old (Err instance_error.Memory) = tt

pub instance-answers : (c : Choices) (ts : List (ℕ × Text)) (ended : Bool) (old new : content.Reader) (answer : Result InstanceStep InstanceError) (result : Result ParseStep ParseError) → new.options ≡ c
    → content.NextIsReading old new ts ended answer → result ≡ answer_of_instance answer → IsAnswer c ts ended (reading.Instance old) (reading.Instance new) result
instance-answers c ts ended old new answer result e n t =
    same-answer c ts ended (reading.Instance old) (reading.Instance new) (reading.Instance new) (answer_of_instance answer) result t refl
    (record { reads = instance-reads ts ended old new answer n; over = stays old new answer; early = instance-early old answer; sound = e })

-- where reading was lost no memory was there
pub lost-answers : (c : Choices) (ts : List (ℕ × Text)) (ended : Bool) (old : Reading) → old ≡ reading.Lost → IsAnswer c ts ended old old (Err error.Memory)
lost-answers c ts ended old e = subst (λ (z : Reading). IsAnswer c ts ended z z (Err error.Memory)) (sym e) (record { reads = lacks ts ended reading.Lost reading.Lost; over = refl; early = tt; sound = refl })

-- where the prolog was read the instance begins after it
pub begins-over : (c : Choices) (old : Reading) (r : prolog.Reader) (k : Kept) (x : content.Reader) → old ≡ reading.Prolog r → k ≡ r.kept → content.BeginsAfterProlog k x → x.options ≡ c
    → BeginsOver c old (reading.Instance x)
begins-over c old r k x e f b o =
    subst (λ (z : Reading). BeginsOver c z (reading.Instance x)) (sym e) (subst (λ (z : Kept). content.BeginsAfterProlog z x) f b, o)

-- THE SAME of a reader as the code has it: the prolog is over where that was answered
pub over-if-done : (c : Choices) (r : prolog.Reader) (answer : Result PrologStep PrologError) → r.options ≡ c → prolog.IsOverIfDone r.kept answer → IsOverIfDone c (reading.Prolog r) answer
over-if-done c r (Ok prolog_step.Done) e o = (o, e)
over-if-done c r (Ok (prolog_step.Pi text entity place)) e o = tt
over-if-done c r (Ok (prolog_step.Want number file)) e o = tt
over-if-done c r (Ok prolog_step.More) e o = tt
over-if-done c r (Err x) e o = tt

pub prolog-answers-at : (c : Choices) (ts : List (ℕ × Text)) (ended : Bool) (before mid : Reading) (old new : prolog.Reader) (after : Reading) (answer : Result PrologStep PrologError) (result : Result ParseStep ParseError)
    → before ≡ reading.Prolog old → mid ≡ reading.Prolog new → old.options ≡ c → new.options ≡ old.options
    → prolog.NextIsReading old new ts ended answer → AnswersOfProlog c mid after answer result → IsAnswer c ts ended before after result
prolog-answers-at c ts ended before mid old new after answer result b m o e n t =
    subst (λ (z : Reading). IsAnswer c ts ended z after result) (sym b)
    (prolog-answers c ts ended old new after answer result (e ∙ o) n (subst (λ (z : Reading). AnswersOfProlog c z after answer result) m t))

pub instance-answers-at : (c : Choices) (ts : List (ℕ × Text)) (ended : Bool) (before after : Reading) (old new : content.Reader) (answer : Result InstanceStep InstanceError) (result : Result ParseStep ParseError)
    → before ≡ reading.Instance old → after ≡ reading.Instance new → old.options ≡ c → new.options ≡ old.options
    → content.NextIsReading old new ts ended answer → result ≡ answer_of_instance answer → IsAnswer c ts ended before after result
instance-answers-at c ts ended before after old new answer result b a o e n t =
    subst (λ (z : Reading). IsAnswer c ts ended z after result) (sym b)
    (subst (λ (z : Reading). IsAnswer c ts ended (reading.Instance old) z result) (sym a) (instance-answers c ts ended old new answer result (e ∙ o) n t))

-- the options of the reader
pub prolog-options : (c : Choices) (there : Reading) (r : prolog.Reader) (failed : Option ParseError) → there ≡ reading.Prolog r → IsSound c there failed → r.options ≡ c
prolog-options c there r failed e s = subst (λ (z : Reading). IsSound c z failed) e s

pub instance-options : (c : Choices) (there : Reading) (r : content.Reader) (failed : Option ParseError) → there ≡ reading.Instance r → IsSound c there failed → r.options ≡ c
instance-options c there r failed e s = subst (λ (z : Reading). IsSound c z failed) e s

-- the document type of a reader of the instance
pub instance-keeps : (before after : Reading) (old new : content.Reader) → before ≡ reading.Instance old → after ≡ reading.Instance new → new.content.kept.doctype ≡ old.content.kept.doctype
    → KeepsDoctype before after
instance-keeps before after old new b a d =
    subst (λ (z : Reading). KeepsDoctype z after) (sym b) (subst (λ (z : Reading). KeepsDoctype (reading.Instance old) z) (sym a) d)

pub prolog-keeps : (before after : Reading) (old : prolog.Reader) → before ≡ reading.Prolog old → KeepsDoctype before after
prolog-keeps before after old b = subst (λ (z : Reading). KeepsDoctype z after) (sym b) tt

-- what was answered, by which it was told
pub told-error : (c : Choices) (there : Reading) (answer : Result PrologStep PrologError) (e : PrologError) (r : ParseError) → answer ≡ Err e → r ≡ error_of_prolog e → AnswersOfProlog c there there answer (Err r)
told-error c there answer e r a t = subst (λ (z : Result PrologStep PrologError). AnswersOfProlog c there there z (Err r)) (sym a) (ap Err t, refl)

pub told-step : (c : Choices) (old new : Reading) (answer : Result PrologStep PrologError) (s t : PrologStep) (result : Result ParseStep ParseError) → answer ≡ Ok s → s ≡ t → AnswersOfProlog c old new (Ok t) result
    → AnswersOfProlog c old new answer result
told-step c old new answer s t result a b r = subst (λ (z : Result PrologStep PrologError). AnswersOfProlog c old new z result) (sym (a ∙ ap Ok b)) r

pub over-of : (c : Choices) (there : Reading) (r : prolog.Reader) → there ≡ reading.Prolog r → IsOver c there → (is_over r.kept ≡ true) × (r.options ≡ c)
over-of c there r e o = subst (IsOver c) e o
