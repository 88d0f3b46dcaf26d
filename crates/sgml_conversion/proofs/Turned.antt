-- What is told of the instance, and written, from turn to turn.
use Rattle.std.specs.Prelude.{Result, Ok, Err, ◌-◌, take, length, is_none}
use Rattle.std.proofs.Common.{◌≡◌, ◌&&◌, inl, inr, ℕ, Bool, true, false, Option, Some, None, List, [], ◌∷◌, ◌++◌, refl, sym, ap, ◌∙◌, subst, append-nil, append_assoc}
use Rattle.std.proofs.lemmas.Grind.{flat_map-append}
use Rattle.std.specs.Io.KnownBytes.{Appends}
use Rattle.sgml_text.specs.declared.place.Refusal.{Refusal}
use Rattle.sgml_io.specs.Causes.{HasCause}
use Rattle.sgml_io.specs.Pieces.{remaining}
use Rattle.sgml_io.specs.Writes.{AppendsFront}
use Rattle.sgml_event_lines.specs.esis.Spelling.{spell_lines}
use Rattle.sgml_dtd.specs.Doctypes.{Doctype}
use Rattle.sgml_events.specs.declared.event.Event.{Event}
use Rattle.sgml_said.specs.Told.{said, all_said}
use Rattle.sgml_idents.specs.declared.idents.Idents.{Idents}
use Rattle.sgml_said.specs.theory_reading.Names.{Text}
use Rattle.sgml_said.specs.theory_reading.Pieces.{Piece, History}
use Rattle.sgml_said.specs.theory_reading.Nest.{types, nest}
use Rattle.sgml_said.specs.theory_reading.Unread.{Input}
use Rattle.sgml_said.specs.theory_reading.Runs.{after_run}
use Rattle.sgml_said.specs.theory_reading.State.{state}
use Rattle.sgml_said.specs.theory_reading.Reads as reads
use Rattle.sgml_said.specs.theory_reading.Reads.{Move, ReadOn, IsOver, moved_on, after_moves, ends_in_finish}
use Rattle.sgml_said.proofs.theory_reading.Reading.{no-both}
use Rattle.sgml_said.specs.theory_reading.Events.{Event as Said, events, shown, items_in, told as all_told}
use Rattle.sgml_said.specs.theory_reading.Identifiers.{id_fault}
use Rattle.sgml_said.proofs.theory_reading.Cutting.{read-append}
use Rattle.sgml_theory_ending.specs.theory_spelling.Spelled.{forms}
use Rattle.sgml_event_lines.specs.declared.writer.Writer.{Writer}
use Rattle.sgml_event_lines.specs.Lines.{lines_said, lines_told}
use Rattle.sgml_event_lines.specs.Shown.{all_shown}
use Rattle.sgml_source.specs.parse.There.{Reading}
use Rattle.sgml_source.specs.parse.There as reading
use Rattle.sgml_source.specs.parse.Parsing.{Parser, Reads, KnowsTexts, doctype_in, said_in}
use Rattle.sgml_source.specs.declared.source.Source.{Source}
use Rattle.sgml_source.specs.declared.told.Told.{Told}
use Rattle.sgml_source.specs.declared.told.Told.TheVariants as told
use Rattle.sgml_source.specs.Inputs.{Files}
use Rattle.sgml_source.specs.Feeding.{IsAt}
use Rattle.sgml_source.specs.Stopping.{IsStop}
use Rattle.sgml_source.specs.parse.instance.Batches.{EachIsPlaced}
use Rattle.sgml_source.specs.declared.told.Paused.{Paused}
use Rattle.sgml_source.specs.Turning.{LeadsTo, Turns, TurnsMany, told_at}
use Rattle.sgml_conversion.specs.declared.answer.Failure.{Failure}
use Rattle.sgml_conversion.specs.declared.answer.Ending.{Ending}
use Rattle.sgml_conversion.specs.declared.answer.Ending.TheVariants as ending
use Rattle.sgml_conversion.specs.Lines.{bytes_of, conforms, AppendsSome}
use Rattle.sgml_conversion.specs.Converting.{FailsFrom}
use Rattle.sgml_conversion.specs.Ending.{IsEnding, ReadsTo}
use Rattle.sgml_conversion.specs.declared.answer.Failure.TheVariants as failure
use Rattle.sgml_conversion.specs.Writing.{StandAfter, TakesEvents, IsJudgedBy, Finishes, is_conforming}
use Rattle.sgml_conversion.specs.Showing.{ArePlaced, IsShown, ShowsThen, ForEachInput, InstanceTurns}
use Rattle.sgml_conversion.proofs.Written.{said-bytes, put-is-front}
use Rattle.sgml_conversion.proofs.Taken.{conforming-is}
use Rattle.sgml_conversion.proofs.Typed.{instance-goes-on}
use Rattle.sgml_conversion.proofs.Placed.{placed-later, many-placed}

-- WHAT WAS TOLD is a front of what was read
told-so-far : (there : Reading) (ts : List (ℕ × Text)) (ended : Bool) (I : Input) (more : Text) (h : History) (es : List Said) → Reads there ts ended I more h es → (rest : List Said) × (events forms h ≡ es ++ rest)
told-so-far (reading.Prolog r) ts ended I more h es x = ([], x.1 ∙ sym (append-nil es))
told-so-far (reading.Instance r) ts ended I more h es x = (all_said r.content.kept.doctype r.waiting, x.all)
told-so-far reading.Lost ts ended I more h es x = absurd x

pub so-far : (limit : ℕ) (bytes : List ℕ) (left : ℕ → Option (List ℕ)) (s : Source) (p : Parser) (I : Input) (h : History) (es : List Said) → IsAt limit bytes left s p I h es → (rest : List Said) × (events forms h ≡ es ++ rest)
so-far limit bytes left s p I h es a =
    told-so-far p.reading p.texts p.ended I (remaining p.records (take (limit - length a.fed) a.rest)) h es a.has.parsing.reads

-- and its lines are a front of those of what was read
pub front-read : (start taken : Option (List ℕ)) (h : History) (d : Doctype) (es rest : List Said) → AppendsSome start taken d es → d ≡ types h → events forms h ≡ es ++ rest → AppendsFront start taken (bytes_of h)
front-read start taken h d es rest a t e =
    subst (AppendsFront start taken)
    (ap (λ (z : List Said). spell_lines (all_shown (lines_said d z (conforms h)))) (sym e)
    ∙ ap (λ (z : Doctype). spell_lines (all_shown (lines_said z (events forms h) (conforms h)))) t ∙ sym (said-bytes h))
    (a rest (conforms h))

-- or all of them
lines-read : (h : History) (d : Doctype) (es : List Event) (b : Bool) → d ≡ types h → events forms h ≡ all_said d es → conforms h ≡ b → spell_lines (lines_told d es b) ≡ bytes_of h
lines-read h d es b t e c =
    ap (λ (z : Bool). spell_lines (lines_told d es z)) (sym c) ∙ ap (λ (z : List Said). spell_lines (all_shown (lines_said d z (conforms h)))) (sym e)
    ∙ ap (λ (z : Doctype). spell_lines (all_shown (lines_said z (events forms h) (conforms h)))) t ∙ sym (said-bytes h)

-- READING IN TWO TURNS
pub moves-append : (h : History) (ms ns : List Move) → after_moves h (ms ++ ns) ≡ after_moves (after_moves h ms) ns
moves-append h [] ns = refl
moves-append h (m ∷ ms) ns = moves-append (moved_on h m) ms ns

pub reads-on : (I : Input) (h : History) (ms ns : List Move) → ReadOn forms I h ms → ReadOn forms I (after_moves h ms) ns → ReadOn forms I h (ms ++ ns)
reads-on I h ms ns a b = (read-append forms I h ms ns).1 (a, b)

pub ends-after : (p : Parser) (a : Ending) (I : Input) (h : History) (ms : List Move) (start taken : Option (List ℕ)) → ReadOn forms I h ms → ReadsTo p a I (after_moves h ms) start taken → ReadsTo p a I h start taken
ends-after p a I h ms start taken r x = record {
  moves = ms ++ x.moves;
  read = reads-on I h ms x.moves r x.read;
  end = subst (IsEnding a I) (sym (moves-append h ms x.moves)) x.end;
  lines = subst (λ (z : History). Appends start taken (bytes_of z)) (sym (moves-append h ms x.moves)) x.lines;
  knows = subst (λ (z : History). (more : Text) × KnowsTexts p I more z) (sym (moves-append h ms x.moves)) x.knows;
}

-- whatever reads on after a moment
abbrev FrontFrom : Option (List ℕ) → Option (List ℕ) → Input → History → Type 0
FrontFrom start taken I h = (rest : List Move) → ReadOn forms I h rest → AppendsFront start taken (bytes_of (after_moves h rest))

pub fails-after : (I : Input) (h : History) (ms : List Move) (start taken : Option (List ℕ)) → ReadOn forms I h ms → FailsFrom I (after_moves h ms) start taken → FailsFrom I h start taken
fails-after I h ms start taken r x = record {
  moves = ms ++ x.moves;
  read = reads-on I h ms x.moves r x.read;
  lines = subst (FrontFrom start taken I) (sym (moves-append h ms x.moves)) x.lines;
}

shows-after : (limit : ℕ) (bytes : List ℕ) (left : ℕ → Option (List ℕ)) (s : Source) (p : Parser) (I : Input) (h : History) (es : List Event) (ms : List Move) → ReadOn forms I h ms → ShowsThen limit bytes left s p I (after_moves h ms) es
    → ShowsThen limit bytes left s p I h es
shows-after limit bytes left s p I h es ms r x = record {
  moves = ms ++ x.moves;
  read = reads-on I h ms x.moves r x.read;
  shown = subst (λ (z : History). IsShown limit bytes left s p I z es) (sym (moves-append h ms x.moves)) x.shown;
}

-- what holds of each input after a turn holds of each before it
abbrev pub GoesBack : (ℕ → List ℕ → Input → History → Type 0) → Type 0
GoesBack P = (limit : ℕ) (bytes : List ℕ) (I : Input) (h : History) (ms : List Move) → ReadOn forms I h ms → P limit bytes I (after_moves h ms) → P limit bytes I h

pub after-turn : (known : Option Files) (left : ℕ → Option (List ℕ)) (s : Source) (p : Parser) (es : List Event) (left' : ℕ → Option (List ℕ)) (s' : Source) (p' : Parser) (es' : List Event) (P : ℕ → List ℕ → Input → History → Type 0)
    → GoesBack P → ForEachInput known left s p es (λ limit bytes I h. ShowsThen limit bytes left' s' p' I h es') → ForEachInput known left' s' p' es' P → ForEachInput known left s p es P
after-turn None left s p es left' s' p' es' P back x y = tt
after-turn (Some files) left s p es left' s' p' es' P back x y = λ limit c declaration bytes I h input shown.
    let t = x limit c declaration bytes I h input shown in
    back limit bytes I h t.moves t.read (y limit c declaration bytes I (after_moves h t.moves) input t.shown)

pub shows-on : (known known' : Option Files) (left : ℕ → Option (List ℕ)) (s : Source) (p : Parser) (es : List Event) (left' : ℕ → Option (List ℕ)) (s' : Source) (p' : Parser) (es' : List Event) (left'' : ℕ → Option (List ℕ)) (s'' : Source) (p'' : Parser) (es'' : List Event)
    → known' ≡ known → ForEachInput known left s p es (λ limit bytes I h. ShowsThen limit bytes left' s' p' I h es') → ForEachInput known' left' s' p' es' (λ limit bytes I h. ShowsThen limit bytes left'' s'' p'' I h es'')
    → ForEachInput known left s p es (λ limit bytes I h. ShowsThen limit bytes left'' s'' p'' I h es'')
shows-on known known' left s p es left' s' p' es' left'' s'' p'' es'' k x y =
    after-turn known left s p es left' s' p' es' (λ limit bytes I h. ShowsThen limit bytes left'' s'' p'' I h es'') (λ limit bytes I h ms r z. shows-after limit bytes left'' s'' p'' I h es'' ms r z) x (subst (λ (z : Option Files). ForEachInput z left' s' p' es' (λ limit bytes I h. ShowsThen limit bytes left'' s'' p'' I h es'')) k y)

pub ends-on : (known known' : Option Files) (left : ℕ → Option (List ℕ)) (s : Source) (p : Parser) (es : List Event) (left' : ℕ → Option (List ℕ)) (s' : Source) (p' : Parser) (es' : List Event) (q : Parser) (a : Ending) (start taken : Option (List ℕ))
    → known' ≡ known → ForEachInput known left s p es (λ limit bytes I h. ShowsThen limit bytes left' s' p' I h es') → ForEachInput known' left' s' p' es' (λ limit bytes I h. ReadsTo q a I h start taken) → ForEachInput known left s p es (λ limit bytes I h. ReadsTo q a I h start taken)
ends-on known known' left s p es left' s' p' es' q a start taken k x y =
    after-turn known left s p es left' s' p' es' (λ limit bytes I h. ReadsTo q a I h start taken) (λ limit bytes I h ms r z. ends-after q a I h ms start taken r z) x (subst (λ (z : Option Files). ForEachInput z left' s' p' es' (λ limit bytes I h. ReadsTo q a I h start taken)) k y)

pub fails-on : (known known' : Option Files) (left : ℕ → Option (List ℕ)) (s : Source) (p : Parser) (es : List Event) (left' : ℕ → Option (List ℕ)) (s' : Source) (p' : Parser) (es' : List Event) (start taken : Option (List ℕ))
    → known' ≡ known → ForEachInput known left s p es (λ limit bytes I h. ShowsThen limit bytes left' s' p' I h es') → ForEachInput known' left' s' p' es' (λ limit bytes I h. FailsFrom I h start taken) → ForEachInput known left s p es (λ limit bytes I h. FailsFrom I h start taken)
fails-on known known' left s p es left' s' p' es' start taken k x y =
    after-turn known left s p es left' s' p' es' (λ limit bytes I h. FailsFrom I h start taken) (λ limit bytes I h ms r z. fails-after I h ms start taken r z) x (subst (λ (z : Option Files). ForEachInput z left' s' p' es' (λ limit bytes I h. FailsFrom I h start taken)) k y)

-- WHAT IS READ AFTER adds to the events
events-once : (p : Piece) (h : History) → (more : List Said) × (events forms (p ∷ h) ≡ events forms h ++ more)
unfolding events
events-once p h = (all_told (items_in (nest h)) (shown forms (state h) p.kind), refl)

then-more : (one two three : List Said) (x : (more : List Said) × (two ≡ one ++ more)) (y : (more : List Said) × (three ≡ two ++ more)) → (more : List Said) × (three ≡ one ++ more)
then-more one two three x y = (x.0 ++ y.0, y.1 ∙ (ap (λ z. z ++ y.0) x.1 ∙ append_assoc one x.0 y.0))

events-run : (h : History) (os : List Piece) → (more : List Said) × (events forms (after_run h os) ≡ events forms h ++ more)
events-run h [] = ([], sym (append-nil (events forms h)))
events-run h (o ∷ os) = then-more (events forms h) (events forms (o ∷ h)) (events forms (after_run (o ∷ h) os)) (events-once o h) (events-run (o ∷ h) os)

events-on : (h : History) (ms : List Move) → (more : List Said) × (events forms (after_moves h ms) ≡ events forms h ++ more)
events-on h [] = ([], sym (append-nil (events forms h)))
events-on h (m ∷ ms) =
    let one = then-more (events forms h) (events forms (after_run h m.omitted)) (events forms (moved_on h m)) (events-run h m.omitted) (events-once m.visible (after_run h m.omitted)) in
    then-more (events forms h) (events forms (moved_on h m)) (events forms (after_moves (moved_on h m) ms)) one (events-on (moved_on h m) ms)

pub front-on : (start taken : Option (List ℕ)) (h : History) (d : Doctype) (es rest : List Said) (ms : List Move) → AppendsSome start taken d es → d ≡ types h → events forms h ≡ es ++ rest → types (after_moves h ms) ≡ types h
    → AppendsFront start taken (bytes_of (after_moves h ms))
front-on start taken h d es rest ms a t e k =
    let more = events-on h ms in
    front-read start taken (after_moves h ms) d es (rest ++ more.0) a (t ∙ sym k) (more.1 ∙ (ap (λ z. z ++ more.0) e ∙ append_assoc es rest more.0))

-- where nothing more reads
not-over : (I : Input) (h : History) (m : Move) → IsOver forms I h → reads.Reads forms I h m → ⊥
not-over I h m (inl e) r = never (sym e ∙ r.goes_on)
  where
    never : true ≡ false → ⊥
    never e = cc
not-over I h m (inr (r, s)) x = no-both forms I h m r x s

none-after : (I : Input) (h : History) (ms : List Move) → IsOver forms I h → ReadOn forms I h ms → ms ≡ []
none-after I h [] o r = refl
none-after I h (m ∷ ms) o r = absurd (not-over I h m o r.0)

pub types-over : (I : Input) (h : History) (ms : List Move) → IsOver forms I h → ReadOn forms I h ms → types (after_moves h ms) ≡ types h
types-over I h ms o r = ap (λ (z : List Move). types (after_moves h z)) (none-after I h ms o r)

pub whole-front : (start taken : Option (List ℕ)) (I : Input) (h : History) (ms : List Move) → IsOver forms I h → ReadOn forms I h ms → AppendsFront start taken (bytes_of h) → AppendsFront start taken (bytes_of (after_moves h ms))
whole-front start taken I h ms o r a = subst (λ (z : List Move). AppendsFront start taken (bytes_of (after_moves h z))) (sym (none-after I h ms o r)) a

-- NOTHING MORE is told
pub not-told : (known : Option Files) (left : ℕ → Option (List ℕ)) (s : Source) (p : Parser) (es : List Event) (start : Option (List ℕ)) (count : ℕ) (taken : Option (List ℕ)) (faults : ℕ) (w : Writer) (i : Idents)
    → StandAfter start count taken faults w i (doctype_in p.reading) es → ForEachInput known left s p es (λ limit bytes I h. FailsFrom I h start taken)
not-told None left s p es start count taken faults w i stand = tt
not-told (Some files) left s p es start count taken faults w i stand = λ limit c declaration bytes I h input shown.
    let d = doctype_in p.reading in
    let so = so-far limit bytes left s p I h (all_said d es) shown.at in
    record {
      moves = [];
      read = tt;
      lines = λ rest r. front-on start taken h d (all_said d es) so.0 rest (put-is-front start count taken faults w d es stand.lines) shown.at.typed so.1 (instance-goes-on I h rest shown.past r).types_are;
    }

pub turns-as : (known : Option Files) (left : ℕ → Option (List ℕ)) (s : Source) (p : Parser) (left' : ℕ → Option (List ℕ)) (s' : Source) (p' : Parser) (t u : Told) → t ≡ u → Turns known left s p left' s' p' (Some t) → Turns known left s p left' s' p' (Some u)
turns-as known left s p left' s' p' t u is turns = subst (λ (z : Told). Turns known left s p left' s' p' (Some z)) is turns

-- MANY EVENTS
pub many-turned : (known : Option Files) (left : ℕ → Option (List ℕ)) (s : Source) (p : Parser) (left' : ℕ → Option (List ℕ)) (s' : Source) (p' : Parser) (gained : List Event) (t u : Paused) → t ≡ u
    → TurnsMany known left s p left' s' p' gained (told_at t) → TurnsMany known left s p left' s' p' gained (told_at u)
many-turned known left s p left' s' p' gained t u is turns = subst (λ (z : Paused). TurnsMany known left s p left' s' p' gained (told_at z)) is turns

pub many-said : (old there : Doctype) (es gained : List Event) → there ≡ old → all_said old es ++ all_said there gained ≡ all_said old (es ++ gained)
many-said old there es gained k = ap (λ (z : Doctype). all_said old es ++ all_said z gained) k ∙ sym (flat_map-append (said old) es gained)

-- what is told behind them leaves what was told a front of what was read
record IsFrontRead (h : History) (d : Doctype) (es : List Said) : Type 0 where
  pub rest : List Said
  pub all : events forms h ≡ es ++ rest
  pub typed : d ≡ types h

front-of : (limit : ℕ) (bytes : List ℕ) (left : ℕ → Option (List ℕ)) (s : Source) (p : Parser) (I : Input) (h : History) (es more : List Said) → IsAt limit bytes left s p I h (es ++ more) → IsFrontRead h (doctype_in p.reading) es
front-of limit bytes left s p I h es more a =
    let so = so-far limit bytes left s p I h (es ++ more) a in
    record { rest = more ++ so.0; all = so.1 ∙ append_assoc es more so.0; typed = a.typed }

just-so : (h : History) (d : Doctype) (es : List Said) → events forms h ≡ es → d ≡ types h → IsFrontRead h d es
just-so h d es e t = record { rest = []; all = e ∙ sym (append-nil es); typed = t }

leads-front : (limit : ℕ) (bytes : List ℕ) (left : ℕ → Option (List ℕ)) (s : Source) (p : Parser) (I : Input) (h : History) (es : List Said) (answer : Option Told) → LeadsTo limit bytes left s p I h es answer → IsFrontRead h (doctype_in p.reading) es
leads-front limit bytes left s p I h es None x = front-of limit bytes left s p I h es [] (subst (IsAt limit bytes left s p I h) (sym (append-nil es)) x)
leads-front limit bytes left s p I h es (Some (told.Event e)) x = front-of limit bytes left s p I h es (said_in p.reading e) x.0
leads-front limit bytes left s p I h es (Some told.Prolog) x = front-of limit bytes left s p I h es [] (subst (IsAt limit bytes left s p I h) (sym (append-nil es)) x.0)
leads-front limit bytes left s p I h es (Some told.Finished) x = just-so h (doctype_in p.reading) es x.1 x.2
leads-front limit bytes left s p I h es (Some (told.Refused r)) x = just-so h (doctype_in p.reading) es x.1 x.2

pub many-shown : (known : Option Files) (left : ℕ → Option (List ℕ)) (s : Source) (p : Parser) (es : List Event) (left' : ℕ → Option (List ℕ)) (s' : Source) (p' : Parser) (gained : List Event)
    → doctype_in p'.reading ≡ doctype_in p.reading → TurnsMany known left s p left' s' p' gained None → ForEachInput known left s p es (λ limit bytes I h. ShowsThen limit bytes left' s' p' I h (es ++ gained))
many-shown None left s p es left' s' p' gained k t = tt
many-shown (Some files) left s p es left' s' p' gained k t = λ limit c declaration bytes I h input shown.
    let d = doctype_in p.reading in
    let g = t limit c declaration bytes I h (all_said d es) input shown.at in
    let h' = after_moves h g.moves in
    record {
      moves = g.moves;
      read = g.read;
      shown = record {
        at = subst (IsAt limit bytes left' s' p' I h') (many-said d (doctype_in p'.reading) es gained k ∙ ap (λ (z : Doctype). all_said z (es ++ gained)) (sym k)) g.leads;
        placed = subst (λ (z : Doctype). ArePlaced h' z (es ++ gained)) (sym k)
            (many-placed h' d es gained (subst (λ (z : Doctype). EachIsPlaced h' z (all_said d es) gained) k g.placed) (placed-later h g.moves d es shown.placed));
        past = (instance-goes-on I h g.moves shown.past g.read).instance;
      };
    }

many-failed : (known : Option Files) (left : ℕ → Option (List ℕ)) (s : Source) (p : Parser) (es : List Event) (left' : ℕ → Option (List ℕ)) (s' : Source) (p' : Parser) (gained : List Event) (answer : Option Told) (start taken : Option (List ℕ))
    → doctype_in p'.reading ≡ doctype_in p.reading → TurnsMany known left s p left' s' p' gained answer → AppendsSome start taken (doctype_in p.reading) (all_said (doctype_in p.reading) (es ++ gained))
    → ForEachInput known left s p es (λ limit bytes I h. FailsFrom I h start taken)
many-failed None left s p es left' s' p' gained answer start taken k t a = tt
many-failed (Some files) left s p es left' s' p' gained answer start taken k t a = λ limit c declaration bytes I h input shown.
    let d = doctype_in p.reading in
    let g = t limit c declaration bytes I h (all_said d es) input shown.at in
    let h' = after_moves h g.moves in
    let f = leads-front limit bytes left' s' p' I h' (all_said d es ++ all_said (doctype_in p'.reading) gained) answer g.leads in
    record {
      moves = g.moves;
      read = g.read;
      lines = λ rest r. front-on start taken h' d (all_said d (es ++ gained)) f.rest rest a (sym k ∙ f.typed)
          (f.all ∙ ap (λ z. z ++ f.rest) (many-said d (doctype_in p'.reading) es gained k)) (instance-goes-on I h' rest (instance-goes-on I h g.moves shown.past g.read).instance r).types_are;
    }

-- and taken: noted, and written
pub all-taken : (p p' : Parser) (gained : List Event) (d : Doctype) (taken : Option (List ℕ)) (faults : ℕ) (w : Writer) (i : Idents) (taken' : Option (List ℕ)) (faults' : ℕ) (w' : Writer) (i' : Idents)
    → d ≡ doctype_in p'.reading → doctype_in p'.reading ≡ doctype_in p.reading → TakesEvents taken faults w i taken' faults' w' i' d gained (Ok tt)
    → (start : Option (List ℕ)) (count : ℕ) (es : List Event) → StandAfter start count taken faults w i (doctype_in p.reading) es → StandAfter start count taken' faults' w' i' (doctype_in p.reading) (es ++ gained)
all-taken p p' gained d taken faults w i taken' faults' w' i' k l takes = λ start count es stand.
    subst (λ (z : Doctype). StandAfter start count taken' faults' w' i' z (es ++ gained)) (k ∙ l) (takes start count es (subst (λ (z : Doctype). StandAfter start count taken faults w i z es) (sym (k ∙ l)) stand))

pub many-taken : (known : Option Files) (left : ℕ → Option (List ℕ)) (s : Source) (p : Parser) (es : List Event) (left' : ℕ → Option (List ℕ)) (s' : Source) (p' : Parser) (gained : List Event) (start : Option (List ℕ)) (count : ℕ) (taken : Option (List ℕ)) (faults : ℕ) (w : Writer) (i : Idents)
    → doctype_in p'.reading ≡ doctype_in p.reading → TurnsMany known left s p left' s' p' gained None → StandAfter start count taken faults w i (doctype_in p.reading) (es ++ gained)
    → InstanceTurns start count known left s p es left' s' p' taken faults w i (Ok None)
many-taken known left s p es left' s' p' gained start count taken faults w i k turns stand = (
  es ++ gained,
  subst (λ (z : Doctype). StandAfter start count taken faults w i z (es ++ gained)) (sym k) stand,
  many-shown known left s p es left' s' p' gained k turns,
)

pub many-lost : (known : Option Files) (left : ℕ → Option (List ℕ)) (s : Source) (p : Parser) (left' : ℕ → Option (List ℕ)) (s' : Source) (p' : Parser) (gained : List Event) (answer : Option Told) (d : Doctype)
    (taken : Option (List ℕ)) (faults : ℕ) (w : Writer) (i : Idents) (taken' : Option (List ℕ)) (faults' : ℕ) (w' : Writer) (i' : Idents) (f : Failure)
    → d ≡ doctype_in p'.reading → doctype_in p'.reading ≡ doctype_in p.reading → TurnsMany known left s p left' s' p' gained answer → TakesEvents taken faults w i taken' faults' w' i' d gained (Err f)
    → (start : Option (List ℕ)) (count : ℕ) (es : List Event) → StandAfter start count taken faults w i (doctype_in p.reading) es → ForEachInput known left s p es (λ limit bytes I h. FailsFrom I h start taken')
many-lost known left s p left' s' p' gained answer d taken faults w i taken' faults' w' i' f k l turns takes = λ start count es stand.
    many-failed known left s p es left' s' p' gained answer start taken' l turns
    (subst (λ (z : Doctype). AppendsSome start taken' z (all_said z (es ++ gained))) (k ∙ l) (takes start count es (subst (λ (z : Doctype). StandAfter start count taken faults w i z es) (sym (k ∙ l)) stand)))

pub cause-told : {T : Type 0} (p p' : Parser) (d : Doctype) (taken : Option (List ℕ)) (faults : ℕ) (w : Writer) (i : Idents) (faults' : ℕ) (result : Result T Failure) → d ≡ doctype_in p'.reading → doctype_in p'.reading ≡ doctype_in p.reading
    → ((start : Option (List ℕ)) (count : ℕ) (es : List Event) → StandAfter start count taken faults w i d es → HasCause failure.Sink count faults' result)
    → (start : Option (List ℕ)) (count : ℕ) (es : List Event) → StandAfter start count taken faults w i (doctype_in p.reading) es → HasCause failure.Sink count faults' result
cause-told p p' d taken faults w i faults' result k l h = λ start count es stand. h start count es (subst (λ (z : Doctype). StandAfter start count taken faults w i z es) (sym (k ∙ l)) stand)

-- THE END
is-over : (h : History) (d : Doctype) (es : List Event) (a : Ending) → ends_in_finish h ≡ true → events forms h ≡ all_said d es → IsJudgedBy d es a → conforms h ≡ is_conforming a
is-over h d es a over e j =
    ap (λ (b : Bool). b && is_none (id_fault (events forms h))) over ∙ ap (λ (z : List Said). is_none (id_fault z)) e ∙ sym (conforming-is d es a j)

pub over-end : (I : Input) (h : History) (d : Doctype) (es : List Event) (a : Ending) → ends_in_finish h ≡ true → events forms h ≡ all_said d es → ArePlaced h d es → IsJudgedBy d es a → IsEnding a I h
over-end I h d es ending.Conforming over e placed j = (over, ap (λ (z : List Said). id_fault z) e ∙ j)
over-end I h d es (ending.Refused r) over e placed j =
    inr (record { over = over; number = j.0; fault = ap (λ (z : List Said). id_fault z) e ∙ j.1; place = placed.starts j.0 r.place j.2 })

pub end-told : (known : Option Files) (left : ℕ → Option (List ℕ)) (s : Source) (p : Parser) (es : List Event) (left' : ℕ → Option (List ℕ)) (s' : Source) (p' : Parser) (gained : List Event) (a : Ending) (start taken : Option (List ℕ))
    → doctype_in p'.reading ≡ doctype_in p.reading → TurnsMany known left s p left' s' p' gained (Some told.Finished) → Finishes start taken (doctype_in p.reading) (es ++ gained) (Ok a)
    → ForEachInput known left s p es (λ limit bytes I h. ReadsTo p' a I h start taken)
end-told None left s p es left' s' p' gained a start taken k t f = tt
end-told (Some files) left s p es left' s' p' gained a start taken k t f = λ limit c declaration bytes I h input shown.
    let d = doctype_in p.reading in
    let g = t limit c declaration bytes I h (all_said d es) input shown.at in
    let h' = after_moves h g.moves in
    let all : events forms h' ≡ all_said d (es ++ gained) = g.leads.1 ∙ many-said d (doctype_in p'.reading) es gained k in
    let placed : ArePlaced h' d (es ++ gained) =
    many-placed h' d es gained (subst (λ (z : Doctype). EachIsPlaced h' z (all_said d es) gained) k g.placed) (placed-later h g.moves d es shown.placed) in
    record {
      moves = g.moves;
      read = g.read;
      end = over-end I h' d (es ++ gained) a g.leads.0 all placed f.0;
      lines = subst (Appends start taken) (lines-read h' d (es ++ gained) (is_conforming a) (sym k ∙ g.leads.2) all (is-over h' d (es ++ gained) a g.leads.0 all f.0)) f.1;
      knows = g.leads.3;
    }

pub end-failed : (known : Option Files) (left : ℕ → Option (List ℕ)) (s : Source) (p : Parser) (es : List Event) (left' : ℕ → Option (List ℕ)) (s' : Source) (p' : Parser) (gained : List Event) (e : Failure) (start taken : Option (List ℕ))
    → doctype_in p'.reading ≡ doctype_in p.reading → TurnsMany known left s p left' s' p' gained (Some told.Finished) → Finishes start taken (doctype_in p.reading) (es ++ gained) (Err e)
    → ForEachInput known left s p es (λ limit bytes I h. FailsFrom I h start taken)
end-failed None left s p es left' s' p' gained x start taken k t f = tt
end-failed (Some files) left s p es left' s' p' gained x start taken k t f = λ limit c declaration bytes I h input shown.
    let d = doctype_in p.reading in
    let g = t limit c declaration bytes I h (all_said d es) input shown.at in
    let h' = after_moves h g.moves in
    let all : events forms h' ≡ all_said d (es ++ gained) = g.leads.1 ∙ many-said d (doctype_in p'.reading) es gained k in
    let conforming : conforms h' ≡ is_none (id_fault (all_said d (es ++ gained))) =
    ap (λ (b : Bool). b && is_none (id_fault (events forms h'))) g.leads.0 ∙ ap (λ (z : List Said). is_none (id_fault z)) all in
    record {
      moves = g.moves;
      read = g.read;
      lines = λ rest r. whole-front start taken I h' rest (inl g.leads.0) r
          (subst (AppendsFront start taken) (lines-read h' d (es ++ gained) (is_none (id_fault (all_said d (es ++ gained)))) (sym k ∙ g.leads.2) all conforming) f);
    }

-- A REFUSAL
pub stop-read : (I : Input) (h : History) (d : Doctype) (es : List Event) (r : Refusal) → IsStop I h r → events forms h ≡ all_said d es → d ≡ types h → spell_lines (lines_told d es false) ≡ bytes_of h
stop-read I h d es r stop e t = lines-read h d es false t e (ap (λ (b : Bool). b && is_none (id_fault (events forms h))) stop.reason.goes_on)

pub refusal-told : (known : Option Files) (left : ℕ → Option (List ℕ)) (s : Source) (p : Parser) (es : List Event) (left' : ℕ → Option (List ℕ)) (s' : Source) (p' : Parser) (gained : List Event) (r : Refusal) (a : Ending) (start taken : Option (List ℕ))
    → doctype_in p'.reading ≡ doctype_in p.reading → TurnsMany known left s p left' s' p' gained (Some (told.Refused r)) → Appends start taken (spell_lines (lines_told (doctype_in p.reading) (es ++ gained) false)) → a ≡ ending.Refused r
    → ForEachInput known left s p es (λ limit bytes I h. ReadsTo p' a I h start taken)
refusal-told None left s p es left' s' p' gained r a start taken k t w is = tt
refusal-told (Some files) left s p es left' s' p' gained r a start taken k t w is = λ limit c declaration bytes I h input shown.
    let d = doctype_in p.reading in
    let g = t limit c declaration bytes I h (all_said d es) input shown.at in
    let h' = after_moves h g.moves in
    let all : events forms h' ≡ all_said d (es ++ gained) = g.leads.1 ∙ many-said d (doctype_in p'.reading) es gained k in
    record {
      moves = g.moves;
      read = g.read;
      end = subst (λ (z : Ending). IsEnding z I h') (sym is) (inl g.leads.0);
      lines = subst (Appends start taken) (stop-read I h' d (es ++ gained) r g.leads.0 all (sym k ∙ g.leads.2)) w;
      knows = g.leads.3;
    }

pub refusal-failed : (known : Option Files) (left : ℕ → Option (List ℕ)) (s : Source) (p : Parser) (es : List Event) (left' : ℕ → Option (List ℕ)) (s' : Source) (p' : Parser) (gained : List Event) (r : Refusal) (start taken : Option (List ℕ))
    → doctype_in p'.reading ≡ doctype_in p.reading → TurnsMany known left s p left' s' p' gained (Some (told.Refused r)) → AppendsFront start taken (spell_lines (lines_told (doctype_in p.reading) (es ++ gained) false))
    → ForEachInput known left s p es (λ limit bytes I h. FailsFrom I h start taken)
refusal-failed None left s p es left' s' p' gained r start taken k t w = tt
refusal-failed (Some files) left s p es left' s' p' gained r start taken k t w = λ limit c declaration bytes I h input shown.
    let d = doctype_in p.reading in
    let g = t limit c declaration bytes I h (all_said d es) input shown.at in
    let h' = after_moves h g.moves in
    let all : events forms h' ≡ all_said d (es ++ gained) = g.leads.1 ∙ many-said d (doctype_in p'.reading) es gained k in
    record {
      moves = g.moves;
      read = g.read;
      lines = λ rest y. whole-front start taken I h' rest (inr (r.reason, g.leads.0.reason)) y (subst (AppendsFront start taken) (stop-read I h' d (es ++ gained) r g.leads.0 all (sym k ∙ g.leads.2)) w);
    }
