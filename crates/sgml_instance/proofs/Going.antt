-- How the reader of the instance goes from step to step.
use Rattle.std.specs.Prelude.{◌≡◌, ℕ, Bool, true, false, List, [], ◌∷◌, ◌++◌, All, Some, Result, Ok, Err}
use Rattle.std.proofs.Common.{refl, sym, ap, ◌∙◌, subst, append-nil, append_assoc}
use Rattle.std.proofs.lemmas.List.Concat.{flat_map-append}
use Rattle.sgml_text.specs.declared.reason.Reason.{Reason}
use Rattle.sgml_text.specs.declared.place.Place.{Place}
use Rattle.sgml_events.specs.declared.event.Event.{Event}
use Rattle.sgml_content_tags.specs.said.Told.{said, all_said}
use Rattle.sgml_dtd.specs.Doctypes.{Doctype}
use Rattle.sgml_declared.specs.theory_reading.Names.{Name, Text}
use Rattle.sgml_declared.specs.theory_reading.Pieces.{History}
use Rattle.sgml_declared.specs.theory_reading.Unread.{Outside, Input, sources}
use Rattle.sgml_declared.specs.theory_reading.State.{state}
use Rattle.sgml_declared.specs.theory_reading.Reads.{Move, ReadOn, after_moves, moved_on, top_place, stop_place, Stops}
use Rattle.sgml_declared.specs.theory_reading.Events.{events}
use Rattle.sgml_declared.specs.theory_reading.Events as reading
use Rattle.sgml_declared.specs.theory_spelling.Decided.{decided}
use Rattle.sgml_declared.specs.theory_spelling.References.{missing_fetched}
use Rattle.sgml_declared.specs.theory_spelling.Spelled.{forms}
use Rattle.sgml_declared.specs.theory_standing.Kept.{Kept, Stands, given, sources_of}
use Rattle.sgml_declared.specs.theory_standing.Supplied.{AreSuppliedSoFar}
use Rattle.sgml_declared.proofs.theory_standing.Given.{stops-at-top}
use Rattle.sgml_declared.specs.theory_standing.Held.{Held, state_of, Parses}
use Rattle.sgml_declared.specs.theory_standing.Moves.{told_by_moves, IsRefusedNext}
use Rattle.sgml_declared.specs.theory_standing.ContentLaws.{AreReadWith, IsEndRead}
use Rattle.sgml_declared.proofs.theory_standing.Moving.{next-moves-are-read, end-is-read, refused-next-stops}
use Rattle.sgml_declared.specs.Files.{Choices}
use Rattle.sgml_prolog_steps.specs.declared.stepping.Stop.{Stop}
use Rattle.sgml_prolog_steps.specs.declared.stepping.Stop.TheVariants as stop
use Rattle.sgml_content_tags.specs.sgml_content_steps.Content.{Content, Holds}
use Rattle.sgml_content_tags.specs.sgml_content_steps.Steps.{Goes, IsWanting, IsOutside, IsAt, ToldAt}
use Rattle.sgml_instance.specs.Reading.{Reader, IsReading, KeepsSources, HasToldAll, Leads, Answers, reader}
use Rattle.sgml_instance.specs.Stepping.{Ends, IsStepOn}
use Rattle.sgml_instance.specs.Going.{GoesTo, GoesFrom, IsAnswered, stopped_at}
use Rattle.sgml_instance.specs.declared.stepping.Turn.TheVariants as turn
use Rattle.sgml_instance.specs.declared.answer.InstanceStep.{InstanceStep}
use Rattle.sgml_instance.specs.declared.answer.InstanceStep.TheVariants as step
use Rattle.sgml_instance.specs.declared.answer.InstanceError.{InstanceError}
use Rattle.sgml_instance.specs.declared.answer.InstanceError.TheVariants as error
use Rattle.sgml_instance.proofs.Placed.{moves-are-placed, end-keeps-sources}

-- WHAT IS HELD is one, by the state and what is kept of the texts
held-one : (x y : Held) → state_of x ≡ state_of y → x.kept ≡ y.kept → x ≡ y
held-one x y s k = λ i. record {
  kept = k i;
  levels = (s i).context.levels;
  begun = (s i).context.begun;
  record_ends = (s i).record_ends;
  ended = (s i).ended;
  map_settings = (s i).map_settings;
  currents = (s i).currents;
}

-- the outside of an input that is being read
outside-of : (c : Choices) (k : Content) (waiting : List Event) (texts : List (ℕ × Text)) (ended : Bool) (I : Input) (more : Text) (h : History) (told : List reading.Event)
    → IsReading (reader c k waiting false) texts ended I more h told → IsOutside c I.outside k.kept texts
outside-of c k waiting texts ended I more h told r =
    let stands = r.keeps.2.stands in
    let kept = r.keeps.1.kept in
    record {
      of_options = r.of_options;
      supplied = subst (λ (z : Kept). AreSuppliedSoFar I.outside (sources_of z) texts) kept stands.supplied;
      expand = ap (λ (z : Kept). z.stack.expand) (sym kept) ∙ stands.expand_is;
    }

-- where nothing waits, what was told is all
all-told : (c : Choices) (k : Content) (over : Bool) (texts : List (ℕ × Text)) (ended : Bool) (I : Input) (more : Text) (h : History) (told : List reading.Event)
    → IsReading (reader c k [] over) texts ended I more h told → events forms h ≡ told
all-told c k over texts ended I more h told r = r.all ∙ append-nil told

-- what was told and what waits, with what is told now
told-with : (d was : Doctype) (before es : List Event) (h h' : History) (told tells : List reading.Event) → d ≡ was
    → events forms h ≡ told ++ all_said was before → events forms h' ≡ events forms h ++ tells → all_said d es ≡ tells → events forms h' ≡ (told ++ all_said d before) ++ all_said d es
told-with d was before es h h' told tells same t e s = e ∙ ((λ i. t i ++ tells) ∙ (λ i. (told ++ all_said (sym same i) before) ++ sym s i))

waits-with : (d : Doctype) (before es : List Event) (told : List reading.Event) → (told ++ all_said d before) ++ all_said d es ≡ told ++ all_said d (before ++ es)
waits-with d before es told = append_assoc told (all_said d before) (all_said d es) ∙ ap (λ z. told ++ z) (sym (flat_map-append (said d) before es))

-- MOVES read in several turns
moves-append : (h : History) (ms ns : List Move) → after_moves h (ms ++ ns) ≡ after_moves (after_moves h ms) ns
moves-append h [] ns = refl
moves-append h (m ∷ ms) ns = moves-append (moved_on h m) ms ns

read-append : (I : Input) (h : History) (ms ns : List Move) → ReadOn forms I h ms → ReadOn forms I (after_moves h ms) ns → ReadOn forms I h (ms ++ ns)
read-append I h [] ns a b = b
read-append I h (m ∷ ms) ns a b = (a.0, read-append I (moved_on h m) ms ns a.1 b)

goes-after : (r : Reader) (texts : List (ℕ × Text)) (ended : Bool) (I : Input) (more : Text) (h : History) (told : List reading.Event) (ms : List Move)
    → ReadOn forms I h ms → GoesTo r texts ended I more (after_moves h ms) told → GoesTo r texts ended I more h told
goes-after r texts ended I more h told ms a g = record {
  moves = ms ++ g.moves;
  read = read-append I h ms g.moves a g.read;
  goes_on = subst (λ (z : History). IsReading r texts ended I more z told) (sym (moves-append h ms g.moves)) g.goes_on;
}

-- where reading is, and the document type, as they are kept
place-kept : (x : Held) (k : Content) (texts : List (ℕ × Text)) (I : Input) (more : Text) (h : History) → Holds k x → Parses x texts I more h → stop_place h ≡ top_place k.kept.stack.places
place-kept x k texts I more h holds parses = stops-at-top x.kept texts I more h parses.stands ∙ ap (λ (z : Kept). top_place z.stack.places) holds.kept

-- the sources that are kept
sources-kept : (x : Held) (new : Content) (texts : List (ℕ × Text)) (I : Input) (more : Text) (h : History) → Stands x.kept texts I more h → new.kept ≡ x.kept → KeepsSources new.kept texts I h
sources-kept x new texts I more h s e = subst (λ (z : Kept). KeepsSources z texts I h) (sym e) (record {
  sources_are = λ i. record { doctype = s.doctype_is i; subset = s.subset_is i };
  supplied = s.supplied;
})

sources-at-end : (x : Held) (new : Content) (texts : List (ℕ × Text)) (I : Input) (more : Text) (h : History) (m : Move) → Stands x.kept texts I more h → new.kept ≡ x.kept
    → sources (moved_on h m) ≡ sources h → KeepsSources new.kept texts I (moved_on h m)
sources-at-end x new texts I more h m s e same =
    let k = sources-kept x new texts I more h s e in
    record { sources_are = k.sources_are ∙ sym same; supplied = k.supplied }

-- what a step tells has the place of reading
told-there : (x : Held) (k : Content) (texts : List (ℕ × Text)) (I : Input) (more : Text) (h : History) (es : List Event) → Holds k x → Parses x texts I more h → ToldAt k.kept es
    → All (IsAt (stop_place h)) es
told-there x k texts I more h es holds parses at = subst (λ (p : Place). All (IsAt p) es) (sym (place-kept x k texts I more h holds parses)) at

-- ONE STEP FURTHER, which tells its events after those that wait
step-goes : (c : Choices) (texts : List (ℕ × Text)) (ended : Bool) (k new : Content) (before es : List Event) (I : Input) (more : Text) (h : History) (told : List reading.Event)
    → IsStepOn c texts ended k new es (Ok turn.Went) → IsReading (reader c k before false) texts ended I more h told
    → GoesTo (reader c new (before ++ es) false) texts ended I more h told
step-goes c texts ended k new before es I more h told s r =
    let d = new.kept.doctype in
    let x = r.keeps.0 in
    let g : Goes I.outside texts ended x new es = s.steps I.outside x (outside-of c k before texts ended I more h told r) r.keeps.1 in
    let a : AreReadWith x g.now texts I more h g.moves = next-moves-are-read x g.now texts ended I more h g.moves r.keeps.2 r.follows g.next in
    let was : events forms h ≡ told ++ all_said d before = r.all ∙ ap (λ (z : Doctype). told ++ all_said z before) (sym s.doctype) in
    let all : events forms (after_moves h g.moves) ≡ (told ++ all_said d before) ++ all_said d es =
    told-with d k.kept.doctype before es h (after_moves h g.moves) told (told_by_moves x g.moves) s.doctype r.all a.told g.said in
    record {
      moves = g.moves;
      read = a.read;
      goes_on = record {
        well = refl;
        of_options = r.of_options;
        keeps = (g.now, g.holds, a.parses);
        follows = r.follows;
        all = all ∙ waits-with d before es told;
        placed = moves-are-placed d I h g.moves told before es r.placed was a.read g.starts all (told-there x k texts I more h es r.keeps.1 r.keeps.2 s.placed);
      };
    }

step-ends : (c : Choices) (texts : List (ℕ × Text)) (ended : Bool) (k new : Content) (before es : List Event) (I : Input) (more : Text) (h : History) (told : List reading.Event)
    → IsStepOn c texts ended k new es (Ok turn.Ended) → IsReading (reader c k before false) texts ended I more h told
    → GoesTo (reader c new (before ++ es) true) texts ended I more h told
step-ends c texts ended k new before es I more h told s r =
    let d = new.kept.doctype in
    let x = r.keeps.0 in
    let e : Ends I.outside texts ended x new es = s.steps I.outside x (outside-of c k before texts ended I more h told r) r.keeps.1 in
    let a : IsEndRead x I h e.move = end-is-read x texts ended I more h e.move r.keeps.2 r.follows e.next in
    let was : events forms h ≡ told ++ all_said d before = r.all ∙ ap (λ (z : Doctype). told ++ all_said z before) (sym s.doctype) in
    let all : events forms (moved_on h e.move) ≡ (told ++ all_said d before) ++ all_said d es =
    told-with d k.kept.doctype before es h (moved_on h e.move) told (told_by_moves x (e.move ∷ [])) s.doctype r.all a.told e.said in
    record {
      moves = e.move ∷ [];
      read = (a.reads, tt);
      goes_on = record {
        well = refl;
        of_options = r.of_options;
        keeps = (a.ends, sources-at-end x new texts I more h e.move r.keeps.2.stands e.kept (end-keeps-sources I h e.move a.reads a.ends));
        follows = r.follows;
        all = all ∙ waits-with d before es told;
        placed = moves-are-placed d I h (e.move ∷ []) told before es r.placed was (a.reads, tt) refl all (told-there x k texts I more h es r.keeps.1 r.keeps.2 s.placed);
      };
    }

-- FROM STEP TO STEP
pub goes-nowhere : (c : Choices) (texts : List (ℕ × Text)) (ended : Bool) (r : Reader) → GoesFrom c texts ended r r
goes-nowhere c texts ended r = λ I more h told x. record { moves = []; read = tt; goes_on = x }

pub goes-through : (c : Choices) (texts : List (ℕ × Text)) (ended : Bool) (from mid new : Reader) → GoesFrom c texts ended from mid → GoesFrom c texts ended mid new → GoesFrom c texts ended from new
goes-through c texts ended from mid new f g = λ I more h told x.
    let a = f I more h told x in
    goes-after new texts ended I more h told a.moves a.read (g I more (after_moves h a.moves) told a.goes_on)

pub step-goes-on : (c : Choices) (texts : List (ℕ × Text)) (ended : Bool) (k new : Content) (before es : List Event)
    → IsStepOn c texts ended k new es (Ok turn.Went) → GoesFrom c texts ended (reader c k before false) (reader c new (before ++ es) false)
step-goes-on c texts ended k new before es s = λ I more h told x. step-goes c texts ended k new before es I more h told s x

pub step-goes-to-end : (c : Choices) (texts : List (ℕ × Text)) (ended : Bool) (k new : Content) (before es : List Event)
    → IsStepOn c texts ended k new es (Ok turn.Ended) → GoesFrom c texts ended (reader c k before false) (reader c new (before ++ es) true)
step-goes-to-end c texts ended k new before es s = λ I more h told x. step-ends c texts ended k new before es I more h told s x

pub goes-on : (c : Choices) (texts : List (ℕ × Text)) (ended : Bool) (from : Reader) (k new : Content) (es : List Event)
    → GoesFrom c texts ended from (reader c k [] false) → IsStepOn c texts ended k new es (Ok turn.Went) → GoesFrom c texts ended from (reader c new es false)
goes-on c texts ended from k new es g s = goes-through c texts ended from (reader c k [] false) (reader c new es false) g (step-goes-on c texts ended k new [] es s)

pub goes-to-end : (c : Choices) (texts : List (ℕ × Text)) (ended : Bool) (from : Reader) (k new : Content) (es : List Event)
    → GoesFrom c texts ended from (reader c k [] false) → IsStepOn c texts ended k new es (Ok turn.Ended) → GoesFrom c texts ended from (reader c new es true)
goes-to-end c texts ended from k new es g s = goes-through c texts ended from (reader c k [] false) (reader c new es true) g (step-goes-to-end c texts ended k new [] es s)

-- WHY NOTHING WAS TAKEN
answers-by : (from : Reader) (new k : Reader) (texts : List (ℕ × Text)) (ended : Bool) (I : Input) (more : Text) (h : History) (told : List reading.Event) (result : Result InstanceStep InstanceError)
    → (a : GoesTo k texts ended I more h told) → Leads new texts ended I more (after_moves h a.moves) told result
    → Answers new texts ended I more h told result
answers-by from new k texts ended I more h told result a l = record { moves = a.moves; read = a.read; leads = l }

-- the step left what was held
still-told : (c : Choices) (texts : List (ℕ × Text)) (ended : Bool) (k new : Content) (es : List Event) (e : _) (I : Input) (more : Text) (h : History) (told : List reading.Event)
    → IsStepOn c texts ended k new es (Err e) → IsReading (reader c k [] false) texts ended I more h told
    → HasToldAll (reader c new [] false) texts ended I more h told
still-told c texts ended k new es e I more h told s r = record {
  reading = record {
    well = refl;
    of_options = r.of_options;
    keeps = (r.keeps.0, s.left.holds r.keeps.0 r.keeps.1, r.keeps.2);
    follows = r.follows;
    all = r.all;
    placed = r.placed;
  };
  none = refl;
}

more-leads : (c : Choices) (texts : List (ℕ × Text)) (ended : Bool) (k new : Content) (es : List Event) (I : Input) (more : Text) (h : History) (told : List reading.Event)
    → IsStepOn c texts ended k new es (Err stop.More) → IsReading (reader c k [] false) texts ended I more h told → Leads (reader c new [] false) texts ended I more h told (Ok step.More)
more-leads c texts ended k new es I more h told s r =
    let x = r.keeps.0 in
    let parses = r.keeps.2 in
    let kept : x.kept ≡ new.kept = r.keeps.1.kept ∙ sym s.left.kept in
    let t = s.steps I.outside x (outside-of c k [] texts ended I more h told r) r.keeps.1 in (
      still-told c texts ended k new es stop.More I more h told s r,
      t.0,
      (λ i. decided I.outside (parses.state_is i) (given (sym kept i) texts)) ∙ t.1,
      parses.stands.goes_on,
    )

refusal-leads : (c : Choices) (texts : List (ℕ × Text)) (ended : Bool) (k new : Content) (es : List Event) (place : Place) (why : Reason) (I : Input) (more : Text) (h : History) (told : List reading.Event)
    → IsStepOn c texts ended k new es (Err (stop.Refused why)) → place ≡ top_place k.kept.stack.places → IsReading (reader c k [] false) texts ended I more h told
    → Leads (reader c new [] false) texts ended I more h told (Err (error.Refused (record { place = place; reason = why })))
refusal-leads c texts ended k new es place why I more h told s p r =
    let x = r.keeps.0 in
    let parses = r.keeps.2 in
    let t : IsRefusedNext I.outside x texts ended why = s.steps I.outside x (outside-of c k [] texts ended I more h told r) r.keeps.1 in (
      refused-next-stops x texts ended I more h why parses r.follows t,
      p ∙ sym (place-kept x k texts I more h r.keeps.1 parses),
      all-told c k false texts ended I more h told r,
      sources-kept x new texts I more h parses.stands (s.left.kept ∙ sym r.keeps.1.kept),
    )

-- A TEXT IS WANTED: of another input that the reader may be reading the same is held
wanted-stops : (c : Choices) (texts : List (ℕ × Text)) (ended : Bool) (k new : Content) (es : List Event) (number : ℕ) (file : Name) (h : History)
    → IsStepOn c texts ended k new es (Err (stop.Wanted number file)) → (x : Held) → Holds k x → state h ≡ state_of x
    → (I : Input) (more : Text) (told : List reading.Event) → IsReading (reader c new [] false) texts ended I more h told
    → (why : Reason) → missing_fetched (I.outside.fetched file) ≡ Some why → Stops forms I h why
wanted-stops c texts ended k new es number file h s x holds is I more told y why gone =
    let z = y.keeps.0 in
    let kept : z.kept ≡ x.kept = y.keeps.1.kept ∙ (s.left.kept ∙ sym holds.kept) in
    let same : z ≡ x = held-one z x (sym y.keeps.2.state_is ∙ is) kept in
    let parses : Parses x texts I more h = subst (λ (w : Held). Parses w texts I more h) same y.keeps.2 in
    let o = outside-of c new [] texts ended I more h told y in
    let w : IsWanting I.outside texts ended x number file =
    s.steps I.outside x (subst (λ (m : Kept). IsOutside c I.outside m texts) s.left.kept o) holds in
    refused-next-stops x texts ended I more h why parses y.follows (w.refused why gone)

want-leads : (c : Choices) (texts : List (ℕ × Text)) (ended : Bool) (k new : Content) (es : List Event) (number : ℕ) (file : Name) (I : Input) (more : Text) (h : History) (told : List reading.Event)
    → IsStepOn c texts ended k new es (Err (stop.Wanted number file)) → IsReading (reader c k [] false) texts ended I more h told
    → Leads (reader c new [] false) texts ended I more h told (Ok (step.Want number file))
want-leads c texts ended k new es number file I more h told s r =
    let x = r.keeps.0 in
    let holds = r.keeps.1 in
    let kept : x.kept ≡ new.kept = holds.kept ∙ sym s.left.kept in
    let w : IsWanting I.outside texts ended x number file = s.steps I.outside x (outside-of c k [] texts ended I more h told r) holds in (
      still-told c texts ended k new es (stop.Wanted number file) I more h told s r,
      record {
        unread = subst (λ (z : Kept). Rattle.sgml_entity.specs.Stack.is_on number z.stack.places ≡ false) kept w.unread;
        not_given = w.not_given;
        named = subst (λ (z : Kept). Rattle.sgml_declared.specs.theory_reading.Unread.file_of I.outside (sources_of z) number ≡ Some file) kept w.named;
        stops = wanted-stops c texts ended k new es number file h s x holds r.keeps.2.state_is;
      },
    )

-- WHAT IS ANSWERED then
pub stop-leads : (c : Choices) (texts : List (ℕ × Text)) (ended : Bool) (k new : Content) (es : List Event) (s : Stop) (place : Place) (I : Input) (more : Text) (h : History) (told : List reading.Event)
    → IsStepOn c texts ended k new es (Err s) → place ≡ top_place k.kept.stack.places → IsReading (reader c k [] false) texts ended I more h told
    → Leads (reader c new [] false) texts ended I more h told (stopped_at s place)
stop-leads c texts ended k new es (stop.Refused why) place I more h told s p r = refusal-leads c texts ended k new es place why I more h told s p r
stop-leads c texts ended k new es (stop.Wanted number file) place I more h told s p r = want-leads c texts ended k new es number file I more h told s r
stop-leads c texts ended k new es stop.More place I more h told s p r = more-leads c texts ended k new es I more h told s r
stop-leads c texts ended k new es stop.Memory place I more h told s p r = tt

pub stop-answers : (c : Choices) (texts : List (ℕ × Text)) (ended : Bool) (k new : Content) (es : List Event) (s : Stop) (place : Place) → place ≡ top_place k.kept.stack.places
    → IsStepOn c texts ended k new es (Err s) → IsAnswered c texts ended k new (stopped_at s place)
stop-answers c texts ended k new es s place p t from g = λ I more h told y.
    let a = g I more h told y in
    answers-by from (reader c new [] false) (reader c k [] false) texts ended I more h told (stopped_at s place) a
    (stop-leads c texts ended k new es s place I more (after_moves h a.moves) told t p a.goes_on)

pub needs-more : (c : Choices) (texts : List (ℕ × Text)) (ended : Bool) (k new : Content) (es : List Event)
    → IsStepOn c texts ended k new es (Err stop.More) → IsAnswered c texts ended k new (Ok step.More)
needs-more c texts ended k new es s = stop-answers c texts ended k new es stop.More (top_place k.kept.stack.places) refl s

pub is-refused : (c : Choices) (texts : List (ℕ × Text)) (ended : Bool) (k new : Content) (es : List Event) (place : Place) (r : Reason)
    → IsStepOn c texts ended k new es (Err (stop.Refused r)) → place ≡ top_place k.kept.stack.places
    → IsAnswered c texts ended k new (Err (error.Refused (record { place = place; reason = r })))
is-refused c texts ended k new es place r s p = stop-answers c texts ended k new es (stop.Refused r) place p s

pub is-wanted : (c : Choices) (texts : List (ℕ × Text)) (ended : Bool) (k new : Content) (es : List Event) (number : ℕ) (file : Name)
    → IsStepOn c texts ended k new es (Err (stop.Wanted number file)) → IsAnswered c texts ended k new (Ok (step.Want number file))
is-wanted c texts ended k new es number file s = stop-answers c texts ended k new es (stop.Wanted number file) (top_place k.kept.stack.places) refl s
