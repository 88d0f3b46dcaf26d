-- Many events at once.
use Rattle.std.proofs.Common.{◌≡◌, ℕ, Bool, true, false, List, [], ◌∷◌, ◌++◌, Option, Some, None, Result, Ok, Err, refl, sym, ap, ◌∙◌, subst, append-nil, append_assoc}
use Rattle.sgml_text.specs.declared.place.Place.{Place}
use Rattle.sgml_events.specs.declared.event.Event.{Event}
use Rattle.sgml_content_tags.specs.said.Told.{all_said}
use Rattle.sgml_declared.specs.theory_reading.Names.{Text}
use Rattle.sgml_declared.specs.theory_reading.Pieces.{History}
use Rattle.sgml_declared.specs.theory_reading.Unread.{Input}
use Rattle.sgml_declared.specs.theory_reading.Reads.{after_moves, top_place}
use Rattle.sgml_declared.specs.theory_reading.Events.{events}
use Rattle.sgml_declared.specs.theory_reading.Events as reading
use Rattle.sgml_declared.specs.theory_spelling.Spelled.{forms}
use Rattle.sgml_declared.specs.theory_standing.Kept.{Kept}
use Rattle.sgml_declared.specs.Files.{Choices}
use Rattle.sgml_prolog_steps.specs.declared.stepping.Stop.{Stop}
use Rattle.sgml_prolog_steps.specs.declared.stepping.Stop.TheVariants as stop
use Rattle.sgml_content_tags.specs.sgml_content_steps.Content.{Content}
use Rattle.sgml_instance.specs.Reading.{Reader, IsReading, Leads, reader}
use Rattle.sgml_instance.specs.Batches.{Pauses, ReadIsReading, ReadsOn, error_of}
use Rattle.sgml_instance.specs.Stepping.{IsStepOn}
use Rattle.sgml_instance.specs.Going.{GoesFrom, GoesOn, Advances, ReadsRest, stopped_at, paused_at, pause_after}
use Rattle.sgml_instance.specs.declared.answer.InstancePause.{InstancePause}
use Rattle.sgml_instance.specs.declared.answer.InstancePause.TheVariants as pause
use Rattle.sgml_instance.specs.declared.answer.InstanceError.{InstanceError}
use Rattle.sgml_instance.specs.declared.answer.InstanceError.TheVariants as error
use Rattle.sgml_instance.proofs.Going.{stop-leads}
use Rattle.sgml_instance.proofs.Placed.{none-wait, each-is-placed}
use Rattle.sgml_instance.proofs.Answered.{with_failure}

-- WHAT WAITS stands there, so it is told
all-taken : (c : Choices) (k : Content) (es : List Event) (over : Bool) (texts : List (ℕ × Text)) (ended : Bool) (I : Input) (more : Text) (h : History) (told : List reading.Event)
    → IsReading (reader c k es over) texts ended I more h told → IsReading (reader c k [] over) texts ended I more h (told ++ all_said k.kept.doctype es)
all-taken c k es over texts ended I more h told r = record {
  well = refl;
  of_options = r.of_options;
  keeps = r.keeps;
  follows = r.follows;
  all = r.all ∙ sym (append-nil (told ++ all_said k.kept.doctype es));
  placed = none-wait h (told ++ all_said k.kept.doctype es) r.all;
}

-- where nothing was taken
stop-pauses : (new : Reader) (texts : List (ℕ × Text)) (ended : Bool) (I : Input) (more : Text) (h : History) (told : List reading.Event) (s : Stop) (place : Place)
    → Leads new texts ended I more h told (stopped_at s place) → Pauses new texts ended I more h told (paused_at s place)
stop-pauses new texts ended I more h told (stop.Refused why) place l = l
stop-pauses new texts ended I more h told (stop.Wanted number file) place l = l
stop-pauses new texts ended I more h told stop.More place l = l
stop-pauses new texts ended I more h told stop.Memory place l = l

-- the document type is that of the step before
same-type : (new old : Content) (es : List Event) (texts : List (ℕ × Text)) (ended over : Bool) (c : Choices) (I : Input) (more : Text) (h : History) (told : List reading.Event) (result : Result InstancePause InstanceError)
    → new.kept ≡ old.kept → Pauses (reader c new [] over) texts ended I more h (told ++ all_said old.kept.doctype es) result
    → Pauses (reader c new [] over) texts ended I more h (told ++ all_said new.kept.doctype es) result
same-type new old es texts ended over c I more h told result e p =
    subst (λ (z : Kept). Pauses (reader c new [] over) texts ended I more h (told ++ all_said z.doctype es) result) (sym e) p

stop-reads : (c : Choices) (texts : List (ℕ × Text)) (ended : Bool) (from : Reader) (old new : Content) (es : List Event) (s : Stop) (place : Place) → place ≡ top_place new.kept.stack.places
    → IsStepOn c texts ended old new [] (Err s) → GoesFrom c texts ended from (reader c old es false) → ReadIsReading from (reader c new [] false) texts ended es (paused_at s place)
stop-reads c texts ended from old new es s place at t g = λ I more h told x.
    let a = g I more h told x in
    let h' = after_moves h a.moves in
    let said = told ++ all_said old.kept.doctype es in
    let there : place ≡ top_place old.kept.stack.places = at ∙ ap (λ (z : Kept). top_place z.stack.places) t.left.kept in
    record {
      moves = a.moves;
      read = a.read;
      pauses = same-type new old es texts ended false c I more h' told (paused_at s place) t.left.kept
          (stop-pauses (reader c new [] false) texts ended I more h' said s place
          (stop-leads c texts ended old new [] s place I more h' said t there (all-taken c old es false texts ended I more h' told a.goes_on)));
      placed = each-is-placed new.kept.doctype h' told es a.goes_on.placed;
    }

-- where there are enough, or the document has ended
end-pauses : (c : Choices) (k : Content) (over : Bool) (texts : List (ℕ × Text)) (ended : Bool) (I : Input) (more : Text) (h : History) (told : List reading.Event)
    → IsReading (reader c k [] over) texts ended I more h told → Pauses (reader c k [] over) texts ended I more h told (Ok (pause_after over))
end-pauses c k true texts ended I more h told r = (record { reading = r; none = refl }, r.keeps.0)
end-pauses c k false texts ended I more h told r = (record { reading = r; none = refl }, r.keeps.2.stands.goes_on)

end-reads : (c : Choices) (texts : List (ℕ × Text)) (ended : Bool) (from : Reader) (k : Content) (es : List Event) (over : Bool)
    → GoesFrom c texts ended from (reader c k es over) → ReadIsReading from (reader c k [] over) texts ended es (Ok (pause_after over))
end-reads c texts ended from k es over g = λ I more h told x.
    let a = g I more h told x in
    let h' = after_moves h a.moves in
    record {
      moves = a.moves;
      read = a.read;
      pauses = end-pauses c k over texts ended I more h' (told ++ all_said k.kept.doctype es) (all-taken c k es over texts ended I more h' told a.goes_on);
      placed = each-is-placed k.kept.doctype h' told es a.goes_on.placed;
    }

-- THE EVENTS stand behind those that stood there
stands-behind : (earlier waiting before so_far es : List Event) → before ≡ earlier ++ waiting → so_far ≡ before ++ es → so_far ≡ earlier ++ (waiting ++ es)
stands-behind earlier waiting before so_far es e f = f ∙ (ap (λ (z : List Event). z ++ es) e ∙ append_assoc earlier waiting es)

pub reads-to-stop : (c : Choices) (texts : List (ℕ × Text)) (ended : Bool) (start old new : Content) (was mid_over over : Bool) (before so_far after : List Event) (s : Stop) (place : Place)
    (result : Result InstancePause InstanceError) → mid_over ≡ false → place ≡ top_place new.kept.stack.places → result ≡ paused_at s place
    → GoesOn c texts ended start was old mid_over before so_far → Advances c texts ended old new over so_far after (Some s) → ReadsRest c texts ended start was new over before after result
reads-to-stop c texts ended start old new was mid_over over before so_far after s place result on at is g a = λ earlier waiting e. (
  waiting ++ g.0,
  a.1 ∙ stands-behind earlier waiting before so_far g.0 e g.1,
  subst (λ (z : Bool). ReadIsReading (reader c start waiting was) (reader c new [] z) texts ended (waiting ++ g.0) result) (sym a.2)
      (subst (λ (z : Result InstancePause InstanceError). ReadIsReading (reader c start waiting was) (reader c new [] false) texts ended (waiting ++ g.0) z) (sym is)
      (stop-reads c texts ended (reader c start waiting was) old new (waiting ++ g.0) s place at a.0
      (subst (λ (z : Bool). GoesFrom c texts ended (reader c start waiting was) (reader c old (waiting ++ g.0) z)) on (g.2 waiting)))),
)

pub reads-enough : (c : Choices) (texts : List (ℕ × Text)) (ended : Bool) (start new : Content) (was over : Bool) (before after : List Event) (p : InstancePause) → p ≡ pause_after over
    → GoesOn c texts ended start was new over before after → ReadsRest c texts ended start was new over before after (Ok p)
reads-enough c texts ended start new was over before after p is g = λ earlier waiting e. (
  waiting ++ g.0,
  stands-behind earlier waiting before after g.0 e g.1,
  subst (λ (z : InstancePause). ReadIsReading (reader c start waiting was) (reader c new [] over) texts ended (waiting ++ g.0) (Ok z)) (sym is)
      (end-reads c texts ended (reader c start waiting was) new (waiting ++ g.0) over (g.2 waiting)),
)

-- after those that waited
pub rest-is-read : (c : Choices) (texts : List (ℕ × Text)) (ended : Bool) (start new : Content) (waited waits : List Event) (was over : Bool) (before so_far after : List Event) (result : Result InstancePause InstanceError)
    → so_far ≡ before ++ waited → waits ≡ [] → ReadsRest c texts ended start was new over so_far after result → ReadsOn (reader c start waited was) (reader c new waits over) texts ended before after result
rest-is-read c texts ended start new waited waits was over before so_far after result e none r =
    subst (λ (z : List Event). ReadsOn (reader c start waited was) (reader c new z over) texts ended before after result) (sym none) (r before waited e)

-- WANT OF MEMORY may be told of any, with nothing read
pub lacks : (old new : Reader) (texts : List (ℕ × Text)) (ended : Bool) (before after : List Event) → after ≡ before → ReadsOn old new texts ended before after (Err error.Memory)
lacks old new texts ended before after e = ([], e ∙ sym (append-nil before), λ I more h told x. record { moves = []; read = tt; pauses = tt; placed = tt })

-- AFTER AN ERROR each call answers it again
pub answered-before : (old new : Reader) (texts : List (ℕ × Text)) (ended : Bool) (es : List Event) (e : InstanceError) (result : Result InstancePause InstanceError) → old.failed ≡ Some e
    → ReadsOn old new texts ended es es result
answered-before old new texts ended es e result f = ([], sym (append-nil es), λ I more h told x. absurd (never (sym x.well ∙ f)))
  where
    never : None ≡ Some e → ⊥
    never s = cc

-- THE SAME of a reader as its code has it
pauses-still : (c : Choices) (x : Content) (waiting : List Event) (over : Bool) (texts : List (ℕ × Text)) (ended : Bool) (I : Input) (more : Text) (h : History) (told : List reading.Event)
    (result : Result InstancePause InstanceError) → Pauses (reader c x waiting over) texts ended I more h told result
    → Pauses (with_failure c x waiting over (error_of result)) texts ended I more h told result
pauses-still c x waiting over texts ended I more h told (Ok pause.Going) p = p
pauses-still c x waiting over texts ended I more h told (Ok (pause.Want number file)) p = p
pauses-still c x waiting over texts ended I more h told (Ok pause.More) p = p
pauses-still c x waiting over texts ended I more h told (Ok pause.Finished) p = p
pauses-still c x waiting over texts ended I more h told (Err (error.Refused r)) p = p
pauses-still c x waiting over texts ended I more h told (Err error.Memory) p = p

pub reads-then : (c : Choices) (x new : Content) (waiting after : List Event) (over then_over : Bool) (failed : Option InstanceError) (old : Reader) (texts : List (ℕ × Text)) (ended : Bool)
    (before so_far : List Event) (result : Result InstancePause InstanceError) → with_failure c x waiting over failed ≡ old
    → ReadsOn (reader c x waiting over) (reader c new after then_over) texts ended before so_far result
    → ReadsOn old (with_failure c new after then_over (error_of result)) texts ended before so_far result
reads-then c x new waiting after over then_over failed old texts ended before so_far result is n = (
  n.0,
  n.1,
  λ I more h told r.
      let none : failed ≡ None = ap (λ (z : Reader). z.failed) is ∙ r.well in
      let same : old ≡ reader c x waiting over = sym is ∙ ap (with_failure c x waiting over) none in
      let a = n.2 I more h told (subst (λ (z : Reader). IsReading z texts ended I more h told) same r) in
      record { moves = a.moves; read = a.read; pauses = pauses-still c new after then_over texts ended I more (after_moves h a.moves) (told ++ all_said new.kept.doctype n.0) result a.pauses; placed = a.placed },
)
