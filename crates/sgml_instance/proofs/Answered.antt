-- What a reader has answered stays with it where that was an error.
use Rattle.std.proofs.Common.{◌≡◌, ℕ, Bool, List, Option, None, Result, Ok, Err, sym, ap, ◌∙◌, subst}
use Rattle.sgml_events.specs.declared.event.Event.{Event}
use Rattle.sgml_declared.specs.theory_reading.Names.{Text}
use Rattle.sgml_declared.specs.theory_reading.Pieces.{History}
use Rattle.sgml_declared.specs.theory_reading.Unread.{Input}
use Rattle.sgml_declared.specs.theory_reading.Events as reading
use Rattle.sgml_declared.specs.Files.{Choices}
use Rattle.sgml_content_tags.specs.sgml_content_steps.Content.{Content}
use Rattle.sgml_instance.specs.Reading.{Reader, IsReading, Leads, NextIsReading, reader, error_in}
use Rattle.sgml_instance.specs.declared.answer.InstanceStep.{InstanceStep}
use Rattle.sgml_instance.specs.declared.answer.InstanceError.{InstanceError}
use Rattle.sgml_instance.specs.declared.answer.InstanceError.TheVariants as error

abbrev pub with_failure : Choices → Content → List Event → Bool → Option InstanceError → Reader
with_failure c x waiting over failed = record { options = c; content = x; waiting = waiting; over = over; failed = failed }

leads-still : (c : Choices) (x : Content) (waiting : List Event) (over : Bool) (texts : List (ℕ × Text)) (ended : Bool) (I : Input) (more : Text) (h : History) (told : List reading.Event)
    (result : Result InstanceStep InstanceError) → Leads (reader c x waiting over) texts ended I more h told result
    → Leads (with_failure c x waiting over (error_in result)) texts ended I more h told result
leads-still c x waiting over texts ended I more h told (Ok answer) l = l
leads-still c x waiting over texts ended I more h told (Err (error.Refused r)) l = l
leads-still c x waiting over texts ended I more h told (Err error.Memory) l = l

pub answers-then : (c : Choices) (x new : Content) (waiting after : List Event) (over then_over : Bool) (failed : Option InstanceError) (old : Reader) (texts : List (ℕ × Text)) (ended : Bool)
    (result : Result InstanceStep InstanceError) → record { options = c; content = x; waiting = waiting; over = over; failed = failed } ≡ old
    → NextIsReading (reader c x waiting over) (reader c new after then_over) texts ended result
    → NextIsReading old (record { options = c; content = new; waiting = after; over = then_over; failed = error_in result }) texts ended result
answers-then c x new waiting after over then_over failed old texts ended result is n I more h told r =
    let none : failed ≡ None = ap (λ (z : Reader). z.failed) is ∙ r.well in
    let same : old ≡ reader c x waiting over = sym is ∙ ap (with_failure c x waiting over) none in
    let a = n I more h told (subst (λ (z : Reader). IsReading z texts ended I more h told) same r) in
    record { moves = a.moves; read = a.read; leads = leads-still c new after then_over texts ended I more _ told result a.leads }
