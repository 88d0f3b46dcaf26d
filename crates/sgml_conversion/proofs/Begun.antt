-- What is told of the prolog, and how a document is converted from there.
use Rattle.std.specs.Prelude.{IfOk, Result, Ok, Err, ◌-◌, take, length}
use Rattle.std.proofs.Common.{◌≡◌, ℕ, Bool, true, false, inl, inr, Option, Some, None, List, [], ◌∷◌, ◌++◌, ◌&&◌, not, ◌==◌, refl, sym, ap, ◌∙◌, subst, append-nil}
use Rattle.std.specs.List.{list_all}
use Rattle.std.proofs.lemmas.List.Folds.{list_all-append}
use Rattle.std.proofs.lemmas.Grind.{flat_map-append}
use Rattle.std.specs.Io.KnownBytes.{Appends}
use Rattle.sgml_text.specs.declared.place.Refusal.{Refusal}
use Rattle.sgml_io.specs.Pieces.{remaining}
use Rattle.sgml_io.specs.Writes.{AppendsFront, Writes, Appends-nothing}
use Rattle.sgml_event_lines.specs.esis.Spelling.{spell_lines}
use Rattle.sgml_dtd.specs.Doctypes.{Doctype}
use Rattle.sgml_events.specs.declared.event.Event.{Event}
use Rattle.sgml_said.specs.Told.{said, all_said}
use Rattle.sgml_said.specs.theory_reading.Names.{Text}
use Rattle.sgml_said.specs.theory_reading.Pieces.{History}
use Rattle.sgml_said.specs.theory_reading.State.{state}
use Rattle.sgml_said.specs.theory_reading.Nest.{types}
use Rattle.sgml_said.specs.theory_reading.Unread.{Input}
use Rattle.sgml_said.specs.theory_reading.Reads.{Move, ReadOn, after_moves, is_after_subset, is_border, ends_in_finish}
use Rattle.sgml_said.specs.theory_reading.Events.{Event as Said, events}
use Rattle.sgml_said.proofs.theory_reading.Borders.{first-is-border}
use Rattle.sgml_theory_ending.specs.theory_spelling.Spelled.{forms}
use Rattle.sgml_event_lines.specs.Lines.{lines_told}
use Rattle.sgml_source.specs.instance.Reading.{KeepsUp}
use Rattle.sgml_source.specs.parse.There.{Reading}
use Rattle.sgml_source.specs.parse.There as reading
use Rattle.sgml_source.specs.parse.Parsing.{Parser, Reads, doctype_in, is_in_instance, said_in, is_instruction}
use Rattle.sgml_source.specs.declared.source.Source.{Source}
use Rattle.sgml_source.specs.declared.told.Told.{Told}
use Rattle.sgml_source.specs.declared.told.Told.TheVariants as told
use Rattle.sgml_source.specs.Inputs.{Files}
use Rattle.sgml_source.specs.Feeding.{IsAt}
use Rattle.sgml_source.specs.Turning.{Turns, GoesOverAt}
use Rattle.sgml_conversion.specs.declared.answer.Failure.{Failure}
use Rattle.sgml_conversion.specs.declared.answer.Ending.{Ending}
use Rattle.sgml_conversion.specs.declared.answer.Ending.TheVariants as ending
use Rattle.sgml_conversion.specs.Lines.{bytes_of, AppendsSome}
use Rattle.sgml_conversion.specs.Ending.{IsEnding}
use Rattle.sgml_conversion.specs.Showing.{InstructionsArePlaced, IsPastProlog, InstanceEnds}
use Rattle.sgml_conversion.specs.Beginning.{PrologLeads, PrologGoes, PrologReads, IsNoted, ConvertsFrom}
use Rattle.sgml_conversion.proofs.Typed.{instance-goes-on, stands-at-border}
use Rattle.sgml_conversion.proofs.Placed.{said-alike, instructions-later, one-more-instruction, instructions-placed}
use Rattle.sgml_conversion.proofs.Turned.{so-far, front-on, types-over, whole-front, moves-append, reads-on, ends-after, fails-after, stop-read, turns-as}

-- INSTRUCTIONS
and-is : (a b : Bool) → a ≡ true → b ≡ true → (a && (b && true)) ≡ true
and-is true true x y = refl
and-is true false x y = y
and-is false b x y = x

pub one-instruction : (es fs : List Event) (e : Event) → list_all is_instruction es ≡ true → IsNoted es e fs → list_all is_instruction fs ≡ true
one-instruction es fs e i n =
    ap (λ (z : List Event). list_all is_instruction z) n.1 ∙ list_all-append is_instruction es (e ∷ []) ∙ and-is (list_all is_instruction es) (is_instruction e) i n.0

more-said : (there old : Reading) (es fs : List Event) (e : Event) → list_all is_instruction es ≡ true → IsNoted es e fs → all_said (doctype_in old) es ++ said_in there e ≡ all_said (doctype_in there) fs
more-said there old es fs e i n =
    ap (λ z. z ++ said (doctype_in there) e) (said-alike (doctype_in old) (doctype_in there) es i)
    ∙ ap (λ z. all_said (doctype_in there) es ++ z) (sym (append-nil (said (doctype_in there) e)))
    ∙ sym (flat_map-append (said (doctype_in there)) es (e ∷ [])) ∙ ap (all_said (doctype_in there)) (sym n.1)

-- ONE TURN MORE
pub not-both : (b : Bool) → b ≡ true → b ≡ false → ⊥
not-both b e f = never (sym e ∙ f)
  where
    never : true ≡ false → ⊥
    never e = cc

goes-further : (limit : ℕ) (bytes : List ℕ) (left : ℕ → Option (List ℕ)) (s : Source) (p : Parser) (I : Input) (h : History) (ms ns : List Move) (es : List Event) (refused : Option Refusal)
    → ReadOn forms I h ms → ReadOn forms I (after_moves h ms) ns → PrologLeads limit bytes left s p I (after_moves (after_moves h ms) ns) es refused → InstructionsArePlaced (after_moves (after_moves h ms) ns) es
    → PrologGoes limit bytes left s p I h es refused
goes-further limit bytes left s p I h ms ns es refused a b x y = record {
  moves = ms ++ ns;
  read = reads-on I h ms ns a b;
  leads = subst (λ (z : History). PrologLeads limit bytes left s p I z es refused) (sym (moves-append h ms ns)) x;
  placed = subst (λ (z : History). InstructionsArePlaced z es) (sym (moves-append h ms ns)) y;
}

pub outside-still : (old new : Reading) (t : Told) (e : Event) → GoesOverAt old new (Some t) → t ≡ told.Event e → is_in_instance old ≡ false → is_in_instance new ≡ false
outside-still old new t e g i o = subst (λ x. GoesOverAt old new (Some x)) i g ∙ o

pub event-told : (known : Option Files) (left : ℕ → Option (List ℕ)) (s : Source) (p : Parser) (left' : ℕ → Option (List ℕ)) (s' : Source) (p' : Parser) (left'' : ℕ → Option (List ℕ)) (s'' : Source) (p'' : Parser) (es fs : List Event) (e : Event)
    → is_in_instance p''.reading ≡ false → list_all is_instruction es ≡ true → IsNoted es e fs → PrologReads known left s p left' s' p' es None → Turns known left' s' p' left'' s'' p'' (Some (told.Event e)) → PrologReads known left s p left'' s'' p'' fs None
event-told None left s p left' s' p' left'' s'' p'' es fs e o i n x t = tt
event-told (Some files) left s p left' s' p' left'' s'' p'' es fs e o i n x t = λ limit c declaration bytes I h input at.
    let f = x limit c declaration bytes I h input at in
    let g = t limit c declaration bytes I (after_moves h f.moves) (all_said (doctype_in p'.reading) es) input f.leads.0 in
    goes-further limit bytes left'' s'' p'' I h f.moves g.moves fs None f.read g.read
    (subst (IsAt limit bytes left'' s'' p'' I (after_moves (after_moves h f.moves) g.moves)) (more-said p''.reading p'.reading es fs e i n) g.leads.0, λ inside. absurd (not-both (is_in_instance p''.reading) inside o))
    (subst (InstructionsArePlaced (after_moves (after_moves h f.moves) g.moves)) (sym n.1)
    (one-more-instruction (after_moves (after_moves h f.moves) g.moves) (doctype_in p'.reading) es e g.leads.1 (instructions-later (after_moves h f.moves) g.moves es f.placed)))

pub prolog-told : (known : Option Files) (left : ℕ → Option (List ℕ)) (s : Source) (p : Parser) (left' : ℕ → Option (List ℕ)) (s' : Source) (p' : Parser) (left'' : ℕ → Option (List ℕ)) (s'' : Source) (p'' : Parser) (es : List Event)
    → list_all is_instruction es ≡ true → PrologReads known left s p left' s' p' es None → Turns known left' s' p' left'' s'' p'' (Some told.Prolog) → PrologReads known left s p left'' s'' p'' es None
prolog-told None left s p left' s' p' left'' s'' p'' es i x t = tt
prolog-told (Some files) left s p left' s' p' left'' s'' p'' es i x t = λ limit c declaration bytes I h input at.
    let f = x limit c declaration bytes I h input at in
    let g = t limit c declaration bytes I (after_moves h f.moves) (all_said (doctype_in p'.reading) es) input f.leads.0 in
    goes-further limit bytes left'' s'' p'' I h f.moves g.moves es None f.read g.read
    (subst (IsAt limit bytes left'' s'' p'' I (after_moves (after_moves h f.moves) g.moves)) (said-alike (doctype_in p'.reading) (doctype_in p''.reading) es i) g.leads.0, λ inside. (g.leads.2, g.leads.1 ∙ said-alike (doctype_in p'.reading) (doctype_in p''.reading) es i))
    (instructions-later (after_moves h f.moves) g.moves es f.placed)

pub stop-told : (known : Option Files) (left : ℕ → Option (List ℕ)) (s : Source) (p : Parser) (left' : ℕ → Option (List ℕ)) (s' : Source) (p' : Parser) (left'' : ℕ → Option (List ℕ)) (s'' : Source) (p'' : Parser) (es : List Event) (r : Refusal)
    → list_all is_instruction es ≡ true → PrologReads known left s p left' s' p' es None → Turns known left' s' p' left'' s'' p'' (Some (told.Refused r)) → PrologReads known left s p left'' s'' p'' es (Some r)
stop-told None left s p left' s' p' left'' s'' p'' es r i x t = tt
stop-told (Some files) left s p left' s' p' left'' s'' p'' es r i x t = λ limit c declaration bytes I h input at.
    let f = x limit c declaration bytes I h input at in
    let g = t limit c declaration bytes I (after_moves h f.moves) (all_said (doctype_in p'.reading) es) input f.leads.0 in
    goes-further limit bytes left'' s'' p'' I h f.moves g.moves es (Some r) f.read g.read
    (g.leads.0, g.leads.1 ∙ said-alike (doctype_in p'.reading) (doctype_in p''.reading) es i, g.leads.2, g.leads.3)
    (instructions-later (after_moves h f.moves) g.moves es f.placed)

-- what was told over the files of a store that has them still
pub turns-of : (known known' : Option Files) (left : ℕ → Option (List ℕ)) (s : Source) (p : Parser) (left' : ℕ → Option (List ℕ)) (s' : Source) (p' : Parser) (t u : Told) → known' ≡ known → t ≡ u → Turns known' left s p left' s' p' (Some t)
    → Turns known left s p left' s' p' (Some u)
turns-of known known' left s p left' s' p' t u k is turns = turns-as known left s p left' s' p' t u is (subst (λ (z : Option Files). Turns z left s p left' s' p' (Some t)) k turns)

-- FROM THERE ON
pub nothing-converted : (known : Option Files) (left : ℕ → Option (List ℕ)) (s : Source) (p p' : Parser) (before : Option (List ℕ)) (e : Failure) → ConvertsFrom known left s p p' before before (Err e)
nothing-converted None left s p p' before e = tt
nothing-converted (Some files) left s p p' before e = λ limit c declaration bytes I h input at. record { moves = []; read = tt; lines = λ rest r. ([], bytes_of (after_moves h rest), refl, Appends-nothing before) }

all-so-far : (limit : ℕ) (bytes : List ℕ) (left : ℕ → Option (List ℕ)) (s : Source) (p : Parser) (I : Input) (h : History) (es : List Event) (refused : Option Refusal) → PrologLeads limit bytes left s p I h es refused
    → (rest : List Said) × (events forms h ≡ all_said (doctype_in p.reading) es ++ rest)
all-so-far limit bytes left s p I h es None x = so-far limit bytes left s p I h (all_said (doctype_in p.reading) es) x.0
all-so-far limit bytes left s p I h es (Some r) x = ([], x.1 ∙ sym (append-nil (all_said (doctype_in p.reading) es)))

of-types : (limit : ℕ) (bytes : List ℕ) (left : ℕ → Option (List ℕ)) (s : Source) (p : Parser) (I : Input) (h : History) (es : List Event) (refused : Option Refusal) → PrologLeads limit bytes left s p I h es refused
    → doctype_in p.reading ≡ types h
of-types limit bytes left s p I h es None x = x.0.typed
of-types limit bytes left s p I h es (Some r) x = x.2

-- WHERE THE PROLOG WAS READ
pub not-ended : (a b c : Bool) → (a && (b && not c)) ≡ true → c ≡ false
not-ended true true false e = refl
not-ended true true true e = sym e
not-ended true false c e = absurd (cc)
not-ended false b c e = absurd (cc)

past-here : (there : Reading) (ts : List (ℕ × Text)) (ended : Bool) (I : Input) (more : Text) (h : History) (es : List Said) → is_in_instance there ≡ true → Reads there ts ended I more h es → is_border h ≡ true → IsPastProlog h
past-here (reading.Prolog r) ts ended I more h es i x b = absurd (never i)
  where
    never : false ≡ true → ⊥
    never e = cc
past-here reading.Lost ts ended I more h es i x b = absurd x
past-here (reading.Instance r) ts ended I more h es i x b = by r.over x.keeps
  where
    by : (over : Bool) → KeepsUp over r.content ts I more h → IsPastProlog h
    by true k = absurd (not-both (ends_in_finish h) k.0 (not-ended (is_after_subset (state h).stage) ((state h).texts == 1) (ends_in_finish h) b))
    by false k = stands-at-border k.0.kept ts I more h k.2.stands b

pub past-led : (limit : ℕ) (bytes : List ℕ) (left : ℕ → Option (List ℕ)) (s : Source) (p : Parser) (I : Input) (h : History) (es : List Event) → is_in_instance p.reading ≡ true → PrologLeads limit bytes left s p I h es None → IsPastProlog h
past-led limit bytes left s p I h es i x =
    past-here p.reading p.texts p.ended I (remaining p.records (take (limit - length x.0.fed) x.0.rest)) h (all_said (doctype_in p.reading) es) i x.0.has.parsing.reads (first-is-border h (x.1 i).0.first)

types-led : (limit : ℕ) (bytes : List ℕ) (left : ℕ → Option (List ℕ)) (s : Source) (p : Parser) (I : Input) (h : History) (es : List Event) (refused : Option Refusal) (ms : List Move) → (refused ≡ None → is_in_instance p.reading ≡ true)
    → PrologLeads limit bytes left s p I h es refused → ReadOn forms I h ms → types (after_moves h ms) ≡ types h
types-led limit bytes left s p I h es None ms i x r = (instance-goes-on I h ms (past-led limit bytes left s p I h es (i refl) x) r).types_are
types-led limit bytes left s p I h es (Some q) ms i x r = types-over I h ms (inr (q.reason, x.0.reason)) r

pub early-failed : (known : Option Files) (left : ℕ → Option (List ℕ)) (s : Source) (p : Parser) (left' : ℕ → Option (List ℕ)) (s' : Source) (p' : Parser) (es : List Event) (refused : Option Refusal) (before now : Option (List ℕ)) (d : Doctype) (e : Failure)
    → (refused ≡ None → is_in_instance p'.reading ≡ true) → d ≡ doctype_in p'.reading → PrologReads known left s p left' s' p' es refused → AppendsSome before now d (all_said d es) → ConvertsFrom known left s p p' before now (Err e)
early-failed None left s p left' s' p' es refused before now d e i k x a = tt
early-failed (Some files) left s p left' s' p' es refused before now d e i k x a = λ limit c declaration bytes I h input at.
    let f = x limit c declaration bytes I h input at in
    let h' = after_moves h f.moves in
    let so = all-so-far limit bytes left' s' p' I h' es refused f.leads in
    record {
      moves = f.moves;
      read = f.read;
      lines = λ rest r. front-on before now h' d (all_said d es) so.0 rest a (k ∙ of-types limit bytes left' s' p' I h' es refused f.leads) (so.1 ∙ ap (λ (z : Doctype). all_said z es ++ so.0) (sym k))
          (types-led limit bytes left' s' p' I h' es refused rest i f.leads r);
    }

pub stop-written : (known : Option Files) (left : ℕ → Option (List ℕ)) (s : Source) (p : Parser) (left' : ℕ → Option (List ℕ)) (s' : Source) (p' : Parser) (es : List Event) (r : Refusal) (before now : Option (List ℕ)) (d : Doctype) (result : Result Ending Failure)
    → d ≡ doctype_in p'.reading → PrologReads known left s p left' s' p' es (Some r) → Writes before now result (spell_lines (lines_told d es false)) → IfOk result (λ a. a ≡ ending.Refused r)
    → ConvertsFrom known left s p p' before now result
stop-written None left s p left' s' p' es r before now d (Ok a) k x w is = tt
stop-written None left s p left' s' p' es r before now d (Err e) k x w is = tt
stop-written (Some files) left s p left' s' p' es r before now d (Ok a) k x w is = λ limit c declaration bytes I h input at.
    let f = x limit c declaration bytes I h input at in
    let h' = after_moves h f.moves in
    record {
      moves = f.moves;
      read = f.read;
      end = subst (λ (z : Ending). IsEnding z I h') (sym is) (inl f.leads.0);
      lines = subst (Appends before now) (stop-read I h' d es r f.leads.0 (f.leads.1 ∙ ap (λ (z : Doctype). all_said z es) (sym k)) (k ∙ f.leads.2)) w;
      knows = f.leads.3;
    }
stop-written (Some files) left s p left' s' p' es r before now d (Err e) k x w is = λ limit c declaration bytes I h input at.
    let f = x limit c declaration bytes I h input at in
    let h' = after_moves h f.moves in
    record {
      moves = f.moves;
      read = f.read;
      lines = λ rest y. whole-front before now I h' rest (inr (r.reason, f.leads.0.reason)) y (subst (AppendsFront before now) (stop-read I h' d es r f.leads.0 (f.leads.1 ∙ ap (λ (z : Doctype). all_said z es) (sym k)) (k ∙ f.leads.2)) w);
    }

pub instance-converted : (known : Option Files) (left : ℕ → Option (List ℕ)) (s : Source) (p : Parser) (left' : ℕ → Option (List ℕ)) (s' : Source) (p' : Parser) (es : List Event) (q : Parser) (before now : Option (List ℕ)) (result : Result Ending Failure)
    → is_in_instance p'.reading ≡ true → list_all is_instruction es ≡ true → PrologReads known left s p left' s' p' es None → InstanceEnds before known left' s' p' es q now result → ConvertsFrom known left s p q before now result
instance-converted None left s p left' s' p' es q before now (Ok a) inside i x y = tt
instance-converted None left s p left' s' p' es q before now (Err e) inside i x y = tt
instance-converted (Some files) left s p left' s' p' es q before now (Ok a) inside i x y = λ limit c declaration bytes I h input at.
    let f = x limit c declaration bytes I h input at in
    let h' = after_moves h f.moves in
    ends-after q a I h f.moves before now f.read (y limit c declaration bytes I h' input (record { at = f.leads.0; placed = instructions-placed h' (doctype_in p'.reading) es i f.placed; past = past-led limit bytes left' s' p' I h' es inside f.leads }))
instance-converted (Some files) left s p left' s' p' es q before now (Err e) inside i x y = λ limit c declaration bytes I h input at.
    let f = x limit c declaration bytes I h input at in
    let h' = after_moves h f.moves in
    fails-after I h f.moves before now f.read (y limit c declaration bytes I h' input (record { at = f.leads.0; placed = instructions-placed h' (doctype_in p'.reading) es i f.placed; past = past-led limit bytes left' s' p' I h' es inside f.leads }))
