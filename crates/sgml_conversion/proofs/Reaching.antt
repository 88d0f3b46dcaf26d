-- What is told of a document that is read to its end before anything is written.
use Rattle.std.specs.Prelude.{IfOk, Result, Ok, Err, ◌-◌, take, drop, length}
use Rattle.std.proofs.Common.{◌≡◌, ℕ, suc, ◌+◌, arith, slice_get, Bool, true, false, Option, Some, None, List, [], ◌∷◌, ◌++◌, ◌==◌, inl, ◌⊎◌, refl, sym, ap, ◌∙◌, subst, append_assoc}
use Rattle.std.specs.List.{list_all}
use Rattle.std.proofs.lemmas.Grind.{flat_map-append}
use Rattle.sgml_text.specs.declared.place.Place.{Place}
use Rattle.sgml_text.specs.declared.place.Refusal.{Refusal}
use Rattle.sgml_text.specs.declared.reason.Reason.TheVariants.{Repeated, Dangling}
use Rattle.sgml_io.specs.Pieces.{remaining}
use Rattle.sgml_dtd.specs.Doctypes.{Doctype}
use Rattle.sgml_events.specs.declared.event.Event.{Event}
use Rattle.sgml_said.specs.Told.{said, all_said}
use Rattle.sgml_idents.specs.Judged.{IsJudgedUnless}
use Rattle.sgml_idents.specs.declared.idents.IdError.{IdError}
use Rattle.sgml_idents.specs.declared.idents.IdError.TheVariants as errors
use Rattle.sgml_said.specs.theory_reading.Names.{Text}
use Rattle.sgml_said.specs.theory_reading.Pieces.{History}
use Rattle.sgml_said.specs.theory_reading.Nest.{types}
use Rattle.sgml_said.specs.theory_reading.Unread.{Input}
use Rattle.sgml_said.specs.theory_reading.Reads.{Move, ReadOn, after_moves, stop_place, top_place, is_border, is_after_subset, ends_in_finish}
use Rattle.sgml_said.specs.theory_reading.State.{state}
use Rattle.sgml_said.specs.theory_reading.Identifiers.{id_fault}
use Rattle.sgml_said.specs.theory_reading.Events.{Event as Said, events, instructions}
use Rattle.sgml_said.proofs.theory_reading.Borders.{first-is-border}
use Rattle.sgml_theory_ending.specs.theory_spelling.Spelled.{forms}
use Rattle.sgml_source.specs.theory_standing.Kept.{Kept}
use Rattle.sgml_source.specs.instance.Reading.{KeepsUp}
use Rattle.sgml_source.specs.parse.There.{Reading}
use Rattle.sgml_source.specs.parse.There as reading
use Rattle.sgml_source.specs.parse.Parsing.{Parser, Reads, KnowsTexts, doctype_in, place_in, is_in_instance, is_instruction}
use Rattle.sgml_source.specs.content_steps.Places.{OfInstructions, place_told, places_told}
use Rattle.sgml_source.specs.parse.instance.Batches.{EachIsPlaced}
use Rattle.sgml_source.specs.declared.source.Source.{Source}
use Rattle.sgml_source.specs.declared.told.Paused.{Paused}
use Rattle.sgml_source.specs.declared.told.Paused.TheVariants as paused
use Rattle.sgml_source.specs.declared.told.Told.TheVariants as told
use Rattle.sgml_source.specs.Inputs.{Files}
use Rattle.sgml_source.specs.Feeding.{IsAt}
use Rattle.sgml_source.specs.Stopping.{IsStop}
use Rattle.sgml_source.specs.Turning.{TurnsMany, told_at}
use Rattle.sgml_conversion.specs.declared.answer.Failure.{Failure}
use Rattle.sgml_conversion.specs.declared.answer.Ending.{Ending}
use Rattle.sgml_conversion.specs.declared.answer.Ending.TheVariants as ending
use Rattle.sgml_conversion.specs.Writing.{IsJudgedBy, ending_of}
use Rattle.sgml_conversion.specs.Showing.{InstructionsArePlaced, ArePlaced, ShowsThen, ForEachInput}
use Rattle.sgml_conversion.specs.declared.whole.WholeRead.{WholeRead}
use Rattle.sgml_conversion.specs.declared.whole.WholeRead.TheVariants as read
use Rattle.sgml_conversion.specs.Converting.{IsIdFault}
use Rattle.sgml_conversion.specs.Beginning.{PrologReads}
use Rattle.sgml_conversion.specs.Telling.{IsThereBy, TellsAll, TurnsOn, StopsFrom, RestEnds, WholeEnds, RestReads, ReadsToEnd, HasMore, InstructionsArePlacedFrom}
use Rattle.sgml_conversion.proofs.Begun.{not-both, not-ended, past-led}
use Rattle.sgml_conversion.proofs.Placed.{placed-later, many-placed, instructions-placed, count-instructions}
use Rattle.sgml_conversion.proofs.Turned.{reads-on, moves-append, after-turn, many-said, many-shown, over-end}

-- A TURN
all-told : (known : Option Files) (left : ℕ → Option (List ℕ)) (s : Source) (p : Parser) (es : List Event) (left' : ℕ → Option (List ℕ)) (s' : Source) (p' : Parser) (gained : List Event)
    → doctype_in p'.reading ≡ doctype_in p.reading → TurnsMany known left s p left' s' p' gained (Some told.Finished) → ForEachInput known left s p es (λ limit bytes I h. TellsAll p' None I h (es ++ gained))
all-told None left s p es left' s' p' gained k t = tt
all-told (Some files) left s p es left' s' p' gained k t = λ limit c declaration bytes I h input shown.
    let d = doctype_in p.reading in
    let g = t limit c declaration bytes I h (all_said d es) input shown.at in
    let h' = after_moves h g.moves in
    record {
      moves = g.moves;
      read = g.read;
      there = g.leads.0;
      told = g.leads.1 ∙ many-said d (doctype_in p'.reading) es gained k ∙ ap (λ (z : Doctype). all_said z (es ++ gained)) (sym k);
      placed = subst (λ (z : Doctype). ArePlaced h' z (es ++ gained)) (sym k)
          (many-placed h' d es gained (subst (λ (z : Doctype). EachIsPlaced h' z (all_said d es) gained) k g.placed) (placed-later h g.moves d es shown.placed));
      typed = g.leads.2;
      knows = g.leads.3;
    }

refusal-told : (known : Option Files) (left : ℕ → Option (List ℕ)) (s : Source) (p : Parser) (es : List Event) (left' : ℕ → Option (List ℕ)) (s' : Source) (p' : Parser) (gained : List Event) (r : Refusal)
    → doctype_in p'.reading ≡ doctype_in p.reading → TurnsMany known left s p left' s' p' gained (Some (told.Refused r)) → ForEachInput known left s p es (λ limit bytes I h. TellsAll p' (Some r) I h (es ++ gained))
refusal-told None left s p es left' s' p' gained r k t = tt
refusal-told (Some files) left s p es left' s' p' gained r k t = λ limit c declaration bytes I h input shown.
    let d = doctype_in p.reading in
    let g = t limit c declaration bytes I h (all_said d es) input shown.at in
    let h' = after_moves h g.moves in
    record {
      moves = g.moves;
      read = g.read;
      there = g.leads.0;
      told = g.leads.1 ∙ many-said d (doctype_in p'.reading) es gained k ∙ ap (λ (z : Doctype). all_said z (es ++ gained)) (sym k);
      placed = subst (λ (z : Doctype). ArePlaced h' z (es ++ gained)) (sym k)
          (many-placed h' d es gained (subst (λ (z : Doctype). EachIsPlaced h' z (all_said d es) gained) k g.placed) (placed-later h g.moves d es shown.placed));
      typed = g.leads.2;
      knows = g.leads.3;
    }

turned : (known : Option Files) (left : ℕ → Option (List ℕ)) (s : Source) (p : Parser) (es : List Event) (left' : ℕ → Option (List ℕ)) (s' : Source) (p' : Parser) (gained : List Event) (t : Paused)
    → doctype_in p'.reading ≡ doctype_in p.reading → TurnsMany known left s p left' s' p' gained (told_at t) → TurnsOn known left s p es left' s' p' (es ++ gained) t
turned known left s p es left' s' p' gained paused.Going k t = many-shown known left s p es left' s' p' gained k t
turned known left s p es left' s' p' gained paused.Finished k t = all-told known left s p es left' s' p' gained k t
turned known left s p es left' s' p' gained (paused.Refused r) k t = refusal-told known left s p es left' s' p' gained r k t

pub turned-to : (known : Option Files) (left : ℕ → Option (List ℕ)) (s : Source) (p : Parser) (es : List Event) (left' : ℕ → Option (List ℕ)) (s' : Source) (p' : Parser) (gained all : List Event) (t : Paused)
    → doctype_in p'.reading ≡ doctype_in p.reading → TurnsMany known left s p left' s' p' gained (told_at t) → all ≡ es ++ gained → TurnsOn known left s p es left' s' p' all t
turned-to known left s p es left' s' p' gained all t k x e = subst (λ (z : List Event). TurnsOn known left s p es left' s' p' z t) (sym e) (turned known left s p es left' s' p' gained t k x)

pub turns-so : (known : Option Files) (left : ℕ → Option (List ℕ)) (s : Source) (p : Parser) (es : List Event) (left' : ℕ → Option (List ℕ)) (s' : Source) (p' : Parser) (es' : List Event) (t u : Paused)
    → t ≡ u → TurnsOn known left s p es left' s' p' es' t → TurnsOn known left s p es left' s' p' es' u
turns-so known left s p es left' s' p' es' t u e x = subst (TurnsOn known left s p es left' s' p' es') e x

-- SEVERAL TURNS
tells-after : (p : Parser) (refused : Option Refusal) (I : Input) (h : History) (es : List Event) (ms : List Move) → ReadOn forms I h ms → TellsAll p refused I (after_moves h ms) es → TellsAll p refused I h es
tells-after p refused I h es ms r x = record {
  moves = ms ++ x.moves;
  read = reads-on I h ms x.moves r x.read;
  there = subst (IsThereBy refused I) (sym (moves-append h ms x.moves)) x.there;
  told = subst (λ (z : History). events forms z ≡ all_said (doctype_in p.reading) es) (sym (moves-append h ms x.moves)) x.told;
  placed = subst (λ (z : History). ArePlaced z (doctype_in p.reading) es) (sym (moves-append h ms x.moves)) x.placed;
  typed = subst (λ (z : History). doctype_in p.reading ≡ types z) (sym (moves-append h ms x.moves)) x.typed;
  knows = subst (λ (z : History). (more : Text) × KnowsTexts p I more z) (sym (moves-append h ms x.moves)) x.knows;
}

pub tells-on : (known known' : Option Files) (left : ℕ → Option (List ℕ)) (s : Source) (p : Parser) (es : List Event) (left' : ℕ → Option (List ℕ)) (s' : Source) (p' : Parser) (es' : List Event) (q : Parser) (refused : Option Refusal) (all : List Event)
    → known' ≡ known → ForEachInput known left s p es (λ limit bytes I h. ShowsThen limit bytes left' s' p' I h es') → ForEachInput known' left' s' p' es' (λ limit bytes I h. TellsAll q refused I h all)
    → ForEachInput known left s p es (λ limit bytes I h. TellsAll q refused I h all)
tells-on known known' left s p es left' s' p' es' q refused all k x y =
    after-turn known left s p es left' s' p' es' (λ limit bytes I h. TellsAll q refused I h all) (λ limit bytes I h ms r z. tells-after q refused I h all ms r z) x
    (subst (λ (z : Option Files). ForEachInput z left' s' p' es' (λ limit bytes I h. TellsAll q refused I h all)) k y)

-- at first nothing more was told
pub shows-nothing : (known : Option Files) (left : ℕ → Option (List ℕ)) (s : Source) (p : Parser) (es : List Event) → ForEachInput known left s p es (λ limit bytes I h. ShowsThen limit bytes left s p I h es)
shows-nothing None left s p es = tt
shows-nothing (Some files) left s p es = λ limit c declaration bytes I h input shown. record { moves = []; read = tt; shown = shown }

-- IDENTIFIERS
some-is : (x y : Ending) → Some x ≡ Some y → x ≡ y
some-is x y e = cc

pub judged-as : {T : Type 0} (d : Doctype) (es : List Event) (r : Result T IdError) (a : Ending) → IsJudgedUnless d es r → ending_of r ≡ Some a → IsJudgedBy d es a
judged-as d es (Ok x) a j e = subst (IsJudgedBy d es) (some-is ending.Conforming a e) j
judged-as d es (Err (errors.Repeated place)) a j e = subst (IsJudgedBy d es) (some-is (ending.Refused (record { place = place; reason = Repeated })) a e) j
judged-as d es (Err (errors.Dangling place)) a j e = subst (IsJudgedBy d es) (some-is (ending.Refused (record { place = place; reason = Dangling })) a e) j
judged-as d es (Err errors.Memory) a j e = absurd (never e)
  where
    never : None ≡ Some a → ⊥
    never e = cc

-- THE END OF THE PROLOG is where the parser stands
place-here : (there : Reading) (ts : List (ℕ × Text)) (ended : Bool) (I : Input) (more : Text) (h : History) (es : List Said) → is_in_instance there ≡ true → Reads there ts ended I more h es → is_border h ≡ true → place_in there ≡ stop_place h
place-here (reading.Prolog r) ts ended I more h es i x b = absurd (never i)
  where
    never : false ≡ true → ⊥
    never e = cc
place-here reading.Lost ts ended I more h es i x b = absurd x
place-here (reading.Instance r) ts ended I more h es i x b = by r.over x.keeps
  where
    by : (over : Bool) → KeepsUp over r.content ts I more h → top_place r.content.kept.stack.places ≡ stop_place h
    by true k = absurd (not-both (ends_in_finish h) k.0 (not-ended (is_after_subset (state h).stage) ((state h).texts == 1) (ends_in_finish h) b))
    by false k = ap (λ (z : Kept). top_place z.stack.places) (sym k.1.kept) ∙ ap top_place k.2.stands.places_are

pub stands-at : (limit : ℕ) (bytes : List ℕ) (left : ℕ → Option (List ℕ)) (s : Source) (p : Parser) (I : Input) (h : History) (es : List Said) → is_in_instance p.reading ≡ true → IsAt limit bytes left s p I h es → is_border h ≡ true
    → place_in p.reading ≡ stop_place h
stands-at limit bytes left s p I h es i x b = place-here p.reading p.texts p.ended I (remaining p.records (take (limit - length x.fed) x.rest)) h es i x.has.parsing.reads b

-- FROM THERE ON
drop-front : (es more : List Event) → drop (length es) (es ++ more) ≡ more
drop-front [] more = refl
drop-front (e ∷ es) more = drop-front es more

pub rest-refused : (known : Option Files) (left : ℕ → Option (List ℕ)) (s : Source) (p : Parser) (es : List Event) (p' : Parser) (es' : List Event) (r : Refusal)
    → ForEachInput known left s p es (λ limit bytes I h. TellsAll p' (Some r) I h es') → RestReads known left s p es p' es' (read.Refused r)
rest-refused None left s p es p' es' r x = tt
rest-refused (Some files) left s p es p' es' r x = λ limit c declaration bytes I h input shown border told.
    let t = x limit c declaration bytes I h input shown in
    record { moves = t.moves; read = t.read; end = inl t.there; knows = t.knows }

pub rest-faulty : (known : Option Files) (left : ℕ → Option (List ℕ)) (s : Source) (p : Parser) (es : List Event) (p' : Parser) (es' : List Event) (r : Refusal)
    → ForEachInput known left s p es (λ limit bytes I h. TellsAll p' None I h es') → IsJudgedBy (doctype_in p'.reading) es' (ending.Refused r) → RestReads known left s p es p' es' (read.Refused r)
rest-faulty None left s p es p' es' r x j = tt
rest-faulty (Some files) left s p es p' es' r x j = λ limit c declaration bytes I h input shown border told.
    let t = x limit c declaration bytes I h input shown in
    record {
      moves = t.moves;
      read = t.read;
      end = over-end I (after_moves h t.moves) (doctype_in p'.reading) es' (ending.Refused r) t.there t.told t.placed j;
      knows = t.knows;
    }

rest-said : (d e : Doctype) (es more : List Event) (before after : List Said) → e ≡ d → before ≡ all_said d es → after ≡ all_said e (es ++ more) → after ≡ before ++ all_said e (drop (length es) (es ++ more))
rest-said d e es more before after k b a =
    a ∙ flat_map-append (said e) es more ∙ ap (λ z. z ++ all_said e more) (ap (λ (z : Doctype). all_said z es) k ∙ sym b)
    ∙ ap (λ (z : List Event). before ++ all_said e z) (sym (drop-front es more))

-- the instructions behind those of the prolog
slice-behind : (xs ys : List Place) (n : ℕ) → slice_get (xs ++ ys) (length xs + n) ≡ slice_get ys n
slice-behind [] ys n = let none : 0 + n ≡ n = omega arith in ap (slice_get ys) none
slice-behind (x ∷ xs) ys n =
    let one : suc (length xs) + n ≡ suc (length xs + n) = omega arith in
    ap (slice_get (x ∷ (xs ++ ys))) one ∙ slice-behind xs ys n

placed-behind : (h : History) (es more : List Event) → InstructionsArePlaced h (es ++ more) → InstructionsArePlacedFrom (length (places_told OfInstructions es)) h more
placed-behind h es more a = λ n p e.
    a (length (places_told OfInstructions es) + n) p
    (ap (λ (z : List Place). slice_get z (length (places_told OfInstructions es) + n)) (flat_map-append (place_told OfInstructions) es more)
    ∙ (slice-behind (places_told OfInstructions es) (places_told OfInstructions more) n ∙ e))

pub rest-whole : (known : Option Files) (left : ℕ → Option (List ℕ)) (s : Source) (p : Parser) (es : List Event) (p' : Parser) (es' : List Event) (at : ℕ) → is_in_instance p.reading ≡ true
    → doctype_in p'.reading ≡ doctype_in p.reading → at ≡ (place_in p.reading).at → HasMore es es'
    → ForEachInput known left s p es (λ limit bytes I h. TellsAll p' None I h es') → IsJudgedBy (doctype_in p'.reading) es' ending.Conforming → RestReads known left s p es p' es' (read.Whole (length es) at)
rest-whole None left s p es p' es' at i k a m x j = tt
rest-whole (Some files) left s p es p' es' at i k a m x j = λ limit c declaration bytes I h input shown border told.
    let t = x limit c declaration bytes I h input shown in
    let h' = after_moves h t.moves in
    let all = subst (λ (z : List Event). events forms h' ≡ events forms h ++ all_said (doctype_in p'.reading) (drop (length es) z)) (sym m.1)
    (rest-said (doctype_in p.reading) (doctype_in p'.reading) es m.0 (events forms h) (events forms h') k told (subst (λ (z : List Event). events forms h' ≡ all_said (doctype_in p'.reading) z) m.1 t.told)) in
    let placed : InstructionsArePlacedFrom (length (places_told OfInstructions es)) h' (drop (length es) es') =
    subst (λ (z : List Event). InstructionsArePlacedFrom (length (places_told OfInstructions es)) h' (drop (length es) z)) (sym m.1)
    (subst (InstructionsArePlacedFrom (length (places_told OfInstructions es)) h') (sym (drop-front es m.0)) (placed-behind h' es m.0 (subst (InstructionsArePlaced h') m.1 t.placed.instructions))) in
    record {
      border = border;
      moves = t.moves;
      read = t.read;
      over = t.there;
      agree = ap (λ (z : List Said). id_fault z) t.told ∙ j;
      told = all ∙ ap (λ (z : Doctype). events forms h ++ all_said z (drop (length es) es')) t.typed;
      placed = subst (λ (n : ℕ). InstructionsArePlacedFrom n h' (drop (length es) es')) (sym (ap (λ zs. length (instructions zs)) told ∙ count-instructions (doctype_in p.reading) es)) placed;
      at_is = a ∙ ap (λ (z : Place). z.at) (stands-at limit bytes left s p I h (all_said (doctype_in p.reading) es) i shown.at (first-is-border h border.first));
      typed = t.typed;
      knows = t.knows;
    }

-- WITH THE PROLOG
stops-after : (p : Parser) (r : Refusal) (I : Input) (h : History) (ms : List Move) → ReadOn forms I h ms → StopsFrom p r I (after_moves h ms) → StopsFrom p r I h
stops-after p r I h ms reads x = record {
  moves = ms ++ x.moves;
  read = reads-on I h ms x.moves reads x.read;
  end = subst (λ (z : History). IsStop I z r ⊎ IsIdFault z r) (sym (moves-append h ms x.moves)) x.end;
  knows = subst (λ (z : History). (more : Text) × KnowsTexts p I more z) (sym (moves-append h ms x.moves)) x.knows;
}

ends-with : (p : Parser) (x : WholeRead) (es : List Event) (I : Input) (h : History) (ms : List Move) → ReadOn forms I h ms → RestEnds p x es I (after_moves h ms) → WholeEnds p x es I h
ends-with p (read.Whole from at) es I h ms reads x = record { prolog = ms; read = reads; ends = x }
ends-with p (read.Refused r) es I h ms reads x = stops-after p r I h ms reads x

pub prolog-refused : (known : Option Files) (left : ℕ → Option (List ℕ)) (s : Source) (p : Parser) (left' : ℕ → Option (List ℕ)) (s' : Source) (p' : Parser) (es : List Event) (r : Refusal)
    → PrologReads known left s p left' s' p' es (Some r) → ReadsToEnd known left s p p' es (read.Refused r)
prolog-refused None left s p left' s' p' es r x = tt
prolog-refused (Some files) left s p left' s' p' es r x = λ limit c declaration bytes I h input at.
    let f = x limit c declaration bytes I h input at in
    record { moves = f.moves; read = f.read; end = inl f.leads.0; knows = f.leads.3 }

pub read-whole : (known known' : Option Files) (left : ℕ → Option (List ℕ)) (s : Source) (p : Parser) (left' : ℕ → Option (List ℕ)) (s' : Source) (p' : Parser) (es : List Event) (p'' : Parser) (es' : List Event) (x : WholeRead)
    → is_in_instance p'.reading ≡ true → list_all is_instruction es ≡ true → PrologReads known left s p left' s' p' es None → known' ≡ known → RestReads known' left' s' p' es p'' es' x
    → ReadsToEnd known left s p p'' es' x
read-whole None known' left s p left' s' p' es p'' es' x inside i reads k rest = tt
read-whole (Some files) known' left s p left' s' p' es p'' es' x inside i reads k rest = λ limit c declaration bytes I h input at.
    let f = reads limit c declaration bytes I h input at in
    let h' = after_moves h f.moves in
    let r : RestReads (Some files) left' s' p' es p'' es' x = subst (λ (z : Option Files). RestReads z left' s' p' es p'' es' x) k rest in
    let led = f.leads.1 inside in
    ends-with p'' x es' I h f.moves f.read
    (r limit c declaration bytes I h' input (record { at = f.leads.0; placed = instructions-placed h' (doctype_in p'.reading) es i f.placed; past = past-led limit bytes left' s' p' I h' es inside f.leads }) led.0 led.1)

-- MORE EVENTS
pub more-still : (one two three : List Event) → HasMore one two → HasMore two three → HasMore one three
more-still one two three a b = (a.0 ++ b.0, b.1 ∙ (ap (λ (z : List Event). z ++ b.0) a.1 ∙ append_assoc one a.0 b.0))

pub tells-so : (known : Option Files) (left : ℕ → Option (List ℕ)) (s : Source) (p : Parser) (es : List Event) (p' : Parser) (es' : List Event) (a b : Option Refusal) → a ≡ b
    → ForEachInput known left s p es (λ limit bytes I h. TellsAll p' a I h es') → ForEachInput known left s p es (λ limit bytes I h. TellsAll p' b I h es')
tells-so known left s p es p' es' a b e x = subst (λ (z : Option Refusal). ForEachInput known left s p es (λ limit bytes I h. TellsAll p' z I h es')) e x

pub judged-in : (d e : Doctype) (es fs : List Event) (a b : Ending) → d ≡ e → es ≡ fs → a ≡ b → IsJudgedBy d es a → IsJudgedBy e fs b
judged-in d e es fs a b k l m j = subst (λ (z : Ending). IsJudgedBy e fs z) m (subst (λ (z : List Event). IsJudgedBy e z a) l (subst (λ (z : Doctype). IsJudgedBy z es a) k j))

pub read-whole-so : (known known' : Option Files) (left : ℕ → Option (List ℕ)) (s : Source) (p : Parser) (left' : ℕ → Option (List ℕ)) (s' : Source) (p' : Parser) (es : List Event) (p'' : Parser) (es' : List Event) (result : Result WholeRead Failure)
    → is_in_instance p'.reading ≡ true → list_all is_instruction es ≡ true → PrologReads known left s p left' s' p' es None → known' ≡ known → IfOk result (RestReads known' left' s' p' es p'' es')
    → IfOk result (ReadsToEnd known left s p p'' es')
read-whole-so known known' left s p left' s' p' es p'' es' (Ok x) inside i reads k rest = read-whole known known' left s p left' s' p' es p'' es' x inside i reads k rest
read-whole-so known known' left s p left' s' p' es p'' es' (Err e) inside i reads k rest = tt
