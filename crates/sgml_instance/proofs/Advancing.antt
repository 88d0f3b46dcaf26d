-- From step to step up to what is told.
use Rattle.std.proofs.Common.{◌≡◌, ℕ, Bool, true, false, List, [], ◌∷◌, ◌++◌, Option, Some, None, Result, Ok, Err, OnErr, refl, sym, ap, ◌∙◌, subst, arith, reverse, append-nil, append_assoc}
use Rattle.std.proofs.lemmas.List.{reverse-reverse}
use Rattle.sgml_text.specs.declared.place.Place.{Place}
use Rattle.sgml_events.specs.declared.event.Event.{Event}
use Rattle.sgml_declared.specs.theory_reading.Names.{Text}
use Rattle.sgml_declared.specs.theory_reading.Reads.{top_place}
use Rattle.sgml_declared.specs.theory_standing.Kept.{Kept}
use Rattle.sgml_declared.specs.Files.{Choices}
use Rattle.sgml_prolog_steps.specs.declared.stepping.Stop.{Stop}
use Rattle.sgml_content_tags.specs.sgml_content_steps.Content.{Content}
use Rattle.sgml_instance.specs.Reading.{Reader, NextIsReading, reader}
use Rattle.sgml_instance.specs.Stepping.{Falls, IsStepOn, TellsOn, turned}
use Rattle.sgml_instance.specs.Going.{GoesFrom, GoesOn, stop_of, stopped_at, is_end, Advances, FallsBy, IsFilled, FirstIsTold, has_none}
use Rattle.sgml_instance.specs.declared.stepping.Turn.{Turn}
use Rattle.sgml_instance.specs.declared.stepping.Turn.TheVariants as turn
use Rattle.sgml_instance.specs.declared.answer.InstanceStep.{InstanceStep}
use Rattle.sgml_instance.specs.declared.answer.InstanceStep.TheVariants as step
use Rattle.sgml_instance.specs.declared.answer.InstanceError.{InstanceError}
use Rattle.sgml_instance.proofs.Going.{goes-nowhere, goes-through, step-goes-on, step-goes-to-end, stop-answers}
use Rattle.sgml_instance.proofs.Waiting.{event-is-told, end-is-told}

-- ONE STEP FURTHER
turn-by : (c : Choices) (texts : List (ℕ × Text)) (ended : Bool) (old new : Content) (es waiting : List Event) (t : Turn)
    → IsStepOn c texts ended old new es (Ok t) → GoesFrom c texts ended (reader c old waiting false) (reader c new (waiting ++ es) (is_end t))
turn-by c texts ended old new es waiting turn.Went s = step-goes-on c texts ended old new waiting es s
turn-by c texts ended old new es waiting turn.Ended s = step-goes-to-end c texts ended old new waiting es s

pub turn-advances : (c : Choices) (texts : List (ℕ × Text)) (ended : Bool) (old new : Content) (before after : List Event) (t : Turn)
    → TellsOn c texts ended old new before after (Ok t) → Advances c texts ended old new (is_end t) before after None
turn-advances c texts ended old new before after t s = (s.0, s.1, λ waiting. turn-by c texts ended old new s.0 waiting t s.2)

falls-by : (texts : List (ℕ × Text)) (old new : Content) (t : Turn) → Falls texts old new (Ok t) → FallsBy texts old new (is_end t) None
falls-by texts old new turn.Went f = omega (arith, f)
falls-by texts old new turn.Ended f = omega (arith, f)

pub turn-falls : (c : Choices) (texts : List (ℕ × Text)) (ended : Bool) (old new : Content) (before after : List Event) (t : Turn) → TellsOn c texts ended old new before after (Ok t)
    → FallsBy texts old new (is_end t) None
turn-falls c texts ended old new before after t s = falls-by texts old new t s.2.falls

pub stop-advances : (c : Choices) (texts : List (ℕ × Text)) (ended : Bool) (old new : Content) (before after : List Event) (s : Stop) (over : Bool) → over ≡ false
    → TellsOn c texts ended old new before after (Err s) → Advances c texts ended old new over before after (Some s)
stop-advances c texts ended old new before after s over on t = (
  subst (λ (z : List Event). IsStepOn c texts ended old new z (Err s)) t.2.left.silent t.2,
  t.1 ∙ (ap (λ (z : List Event). before ++ z) t.2.left.silent ∙ append-nil before),
  on,
)

-- what was taken, or why nothing was
pub result-advances : (c : Choices) (texts : List (ℕ × Text)) (ended : Bool) (old new : Content) (before after : List Event) (over : Bool) (r : Result (Unit {0}) Stop) → OnErr r (over ≡ false)
    → TellsOn c texts ended old new before after (turned over r) → Advances c texts ended old new over before after (stop_of r)
result-advances c texts ended old new before after true (Ok done) e t = turn-advances c texts ended old new before after turn.Ended t
result-advances c texts ended old new before after false (Ok done) e t = turn-advances c texts ended old new before after turn.Went t
result-advances c texts ended old new before after over (Err s) e t = stop-advances c texts ended old new before after s over e t

pub result-falls : (c : Choices) (texts : List (ℕ × Text)) (ended : Bool) (old new : Content) (before after : List Event) (over : Bool) (r : Result (Unit {0}) Stop)
    → TellsOn c texts ended old new before after (turned over r) → FallsBy texts old new over (stop_of r)
result-falls c texts ended old new before after true (Ok done) t = turn-falls c texts ended old new before after turn.Ended t
result-falls c texts ended old new before after false (Ok done) t = turn-falls c texts ended old new before after turn.Went t
result-falls c texts ended old new before after over (Err s) t = tt

-- FROM STEP TO STEP
pub goes-none : (c : Choices) (texts : List (ℕ × Text)) (ended : Bool) (x : Content) (over : Bool) (es : List Event) → GoesOn c texts ended x over x over es es
goes-none c texts ended x over es = (
  [],
  sym (append-nil es),
  λ waiting. subst (λ (z : List Event). GoesFrom c texts ended (reader c x waiting over) (reader c x z over)) (sym (append-nil waiting)) (goes-nowhere c texts ended (reader c x waiting over)),
)

pub goes-on-then : (c : Choices) (texts : List (ℕ × Text)) (ended : Bool) (old mid new : Content) (was mid_over over : Bool) (before so_far after : List Event) → mid_over ≡ false
    → GoesOn c texts ended old was mid mid_over before so_far → GoesOn c texts ended mid false new over so_far after → GoesOn c texts ended old was new over before after
goes-on-then c texts ended old mid new was mid_over over before so_far after on f g = (
  f.0 ++ g.0,
  g.1 ∙ (ap (λ (z : List Event). z ++ g.0) f.1 ∙ append_assoc before f.0 g.0),
  λ waiting. subst (λ (z : List Event). GoesFrom c texts ended (reader c old waiting was) (reader c new z over)) (append_assoc waiting f.0 g.0)
      (goes-through c texts ended (reader c old waiting was) (reader c mid (waiting ++ f.0) false) (reader c new ((waiting ++ f.0) ++ g.0) over)
      (subst (λ (z : Bool). GoesFrom c texts ended (reader c old waiting was) (reader c mid (waiting ++ f.0) z)) on (f.2 waiting)) (g.2 (waiting ++ f.0))),
)

-- AS FAR AS IT WAS READ
pub goes-further : (c : Choices) (texts : List (ℕ × Text)) (ended : Bool) (from : Reader) (old new : Content) (before after : List Event) (was over : Bool) → was ≡ false
    → GoesFrom c texts ended from (reader c old before was) → Advances c texts ended old new over before after None → GoesFrom c texts ended from (reader c new after over)
goes-further c texts ended from old new before after was over on g a =
    goes-through c texts ended from (reader c old before false) (reader c new after over) (subst (λ (z : Bool). GoesFrom c texts ended from (reader c old before z)) on g)
    (subst (λ (z : List Event). GoesFrom c texts ended (reader c old before false) (reader c new z over)) (sym a.1) (a.2 before))

pub answers-filled : (c : Choices) (texts : List (ℕ × Text)) (ended : Bool) (from : Reader) (old new : Content) (before after : List Event) (was over : Bool) (s : Stop) (place : Place)
    (result : Result InstanceStep InstanceError) → before ≡ [] → was ≡ false → place ≡ top_place new.kept.stack.places → result ≡ stopped_at s place
    → GoesFrom c texts ended from (reader c old before was) → Advances c texts ended old new over before after (Some s) → IsFilled c texts ended from new after over (Some result)
answers-filled c texts ended from old new before after was over s place result none on at is g a =
    let there : place ≡ top_place old.kept.stack.places = at ∙ ap (λ (z : Kept). top_place z.stack.places) a.0.left.kept in
    let answers = stop-answers c texts ended old new [] s place there a.0 from
    (subst (λ (z : Bool). GoesFrom c texts ended from (reader c old [] z)) on (subst (λ (z : List Event). GoesFrom c texts ended from (reader c old z was)) none g)) in
    subst (λ (z : Result InstanceStep InstanceError). IsFilled c texts ended from new after over (Some z)) (sym is)
    (subst (λ (z : Bool). IsFilled c texts ended from new after z (Some (stopped_at s place))) (sym a.2)
    (subst (λ (z : List Event). IsFilled c texts ended from new z false (Some (stopped_at s place))) (sym (a.1 ∙ none)) answers))

-- where something waits
pub some-waits : {A : Type 0} (es : List Event) → has_none es ≡ false → es ≡ [] → A
some-waits [] e none = absurd (never e)
  where
    never : true ≡ false → ⊥
    never e = cc
some-waits (x ∷ es) e none = absurd (never none)
  where
    never : x ∷ es ≡ [] → ⊥
    never e = cc

-- where something waits, nothing is read
pub waits-still : (c : Choices) (texts : List (ℕ × Text)) (ended : Bool) (x : Content) (es : List Event) (over : Bool) → (es ≡ [] → ⊥) → IsFilled c texts ended (reader c x es over) x es over None
waits-still c texts ended x es over some = (goes-nowhere c texts ended (reader c x es over), λ none. absurd (some none))

-- where none waited, it was read on, and what waits then is turned round
pub none-is : (es : List Event) → has_none es ≡ true → es ≡ []
none-is [] e = refl
none-is (x ∷ es) e = absurd (never e)
  where
    never : false ≡ true → ⊥
    never e = cc

filled-with : (c : Choices) (texts : List (ℕ × Text)) (ended : Bool) (from : Reader) (new : Content) (es turned : List Event) (over : Bool) (result : Option (Result InstanceStep InstanceError))
    → turned ≡ reverse es → IsFilled c texts ended from new es over result → IsFilled c texts ended from new (reverse turned) over result
filled-with c texts ended from new es turned over result e f =
    subst (λ (z : List Event). IsFilled c texts ended from new z over result) (sym (ap reverse e ∙ reverse-reverse es)) f

pub filled-turned : (c : Choices) (texts : List (ℕ × Text)) (ended : Bool) (old new : Content) (before es turned : List Event) (was over : Bool) (result : Option (Result InstanceStep InstanceError))
    → has_none before ≡ true → turned ≡ reverse es → IsFilled c texts ended (reader c old [] was) new es over result
    → IsFilled c texts ended (reader c old (reverse before) was) new (reverse turned) over result
filled-turned c texts ended old new before es turned was over result none e f =
    subst (λ (z : List Event). IsFilled c texts ended (reader c old (reverse z) was) new (reverse turned) over result) (sym (none-is before none))
    (filled-with c texts ended (reader c old [] was) new es turned over result e f)

-- WHAT IS TOLD THEN
pub first-is-told : (c : Choices) (texts : List (ℕ × Text)) (ended : Bool) (from : Reader) (new : Content) (before after : List Event) (over : Bool) (result : Result InstanceStep InstanceError)
    → IsFilled c texts ended from new before over None → FirstIsTold before after result → NextIsReading from (reader c new after over) texts ended result
first-is-told c texts ended from new before after over (Ok (step.Event e)) f t =
    event-is-told c texts ended from new over e after (subst (λ (z : List Event). GoesFrom c texts ended from (reader c new z over)) t f.0)
first-is-told c texts ended from new before after over (Ok step.Finished) f t =
    let on : over ≡ true = f.1 t.0 in
    subst (λ (z : List Event). NextIsReading from (reader c new z over) texts ended (Ok step.Finished)) (sym t.1)
    (subst (λ (z : Bool). NextIsReading from (reader c new [] z) texts ended (Ok step.Finished)) (sym on)
    (end-is-told c texts ended from new
    (subst (λ (z : Bool). GoesFrom c texts ended from (reader c new [] z)) on (subst (λ (z : List Event). GoesFrom c texts ended from (reader c new z over)) t.0 f.0))))
first-is-told c texts ended from new before after over (Ok (step.Want number file)) f t = absurd t
first-is-told c texts ended from new before after over (Ok step.More) f t = absurd t
first-is-told c texts ended from new before after over (Err e) f t = absurd t
