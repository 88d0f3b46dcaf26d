-- One step further: what a step comes to is what is answered.
use Rattle.std.proofs.Common.{◌≡◌, ℕ, Bool, List, Option, None, Some, Result, Ok, Err, sym, subst}
use Rattle.sgml_text.specs.declared.place.Place.{Place}
use Rattle.sgml_declared.specs.theory_reading.Names.{Name, Text}
use Rattle.sgml_declared.specs.theory_reading.Reads.{top_place}
use Rattle.sgml_declared.specs.theory_standing.Kept.{Kept}
use Rattle.sgml_declared.specs.Files.{Choices}
use Rattle.sgml_prolog_steps.specs.Steps.{IsStep}
use Rattle.sgml_prolog_steps.specs.declared.stepping.Turn.{Turn}
use Rattle.sgml_prolog_steps.specs.declared.stepping.Turn.TheVariants as turn
use Rattle.sgml_prolog_steps.specs.declared.stepping.Stop.{Stop}
use Rattle.sgml_prolog_steps.specs.declared.stepping.Stop.TheVariants as stop
use Rattle.sgml_prolog.specs.Reading.{IsOverIfDone, asked_in}
use Rattle.sgml_prolog.specs.Going.{Goes, told_at, stopped_at, IsToldStop, IsAnswered, Advances}
use Rattle.sgml_prolog.specs.declared.answer.PrologStep.{PrologStep}
use Rattle.sgml_prolog.specs.declared.answer.PrologError.{PrologError}
use Rattle.sgml_prolog.specs.declared.answer.PrologError.TheVariants as error
use Rattle.sgml_prolog.proofs.Going.{silent-goes-on, more-is-more, instruction-is-told, refusal-is-told, want-is-told, no-memory}

-- where something was taken
pub turn-advances : (c : Choices) (texts : List (ℕ × Text)) (ended : Bool) (asked : Option Name) (k new : Kept) (t : Turn) (place : Place) → place ≡ top_place k.stack.places
    → IsStep c texts ended asked k new (Ok t) → Advances c texts ended asked asked k new (told_at t place)
turn-advances c texts ended asked k new turn.Silent place e s = s
turn-advances c texts ended asked k new (turn.Instruction text entity) place e s = λ old g. instruction-is-told c texts ended asked old k new place text entity g s e

-- where nothing was
stop-answers : (c : Choices) (texts : List (ℕ × Text)) (ended : Bool) (asked : Option Name) (k new : Kept) (s : Stop) (place : Place) → place ≡ top_place k.stack.places
    → IsStep c texts ended asked k new (Err s) → IsAnswered c texts ended asked (asked_in (stopped_at s place) asked) k new (stopped_at s place)
stop-answers c texts ended asked k new (stop.Refused r) place e s = λ old g. refusal-is-told c texts ended asked old k new place r g s e
stop-answers c texts ended asked k new (stop.Wanted number file) place e s = λ old g. want-is-told c texts ended asked old k new number file g s
stop-answers c texts ended asked k new stop.More place e s = λ old g. more-is-more c texts ended asked old k new g s
stop-answers c texts ended asked k new stop.Memory place e s = λ old g. no-memory c texts ended asked asked old k new g

answers-so : (c : Choices) (texts : List (ℕ × Text)) (ended : Bool) (asked asked' : Option Name) (k new : Kept) (s : Stop) (place : Place) (result : Result PrologStep PrologError)
    → place ≡ top_place k.stack.places → IsStep c texts ended asked k new (Err s) → result ≡ stopped_at s place → asked' ≡ asked_in result asked → IsAnswered c texts ended asked asked' k new result
answers-so c texts ended asked asked' k new s place result e x r a =
    subst (λ z. IsAnswered c texts ended asked z k new result) (sym a)
    (subst (λ z. IsAnswered c texts ended asked (asked_in z asked) k new z) (sym r) (stop-answers c texts ended asked k new s place e x))

pub stop-advances : (c : Choices) (texts : List (ℕ × Text)) (ended : Bool) (asked asked' : Option Name) (k new : Kept) (s : Stop) (place : Place) (result : Result PrologStep PrologError)
    → place ≡ top_place k.stack.places → IsStep c texts ended asked k new (Err s) → IsToldStop s place result → asked' ≡ asked_in result asked
    → Advances c texts ended asked asked' k new (Some result)
stop-advances c texts ended asked asked' k new s place (Ok answer) e x t a = answers-so c texts ended asked asked' k new s place (Ok answer) e x t a
stop-advances c texts ended asked asked' k new s place (Err (error.Refused r)) e x t a = answers-so c texts ended asked asked' k new s place (Err (error.Refused r)) e x t a
stop-advances c texts ended asked asked' k new s place (Err error.Memory) e x t a = λ old g. no-memory c texts ended asked asked' old k new g

-- a step alone never tells that the document type has been read
by-stop : (k : Kept) (s : Stop) (place : Place) → IsOverIfDone k (stopped_at s place)
by-stop k (stop.Refused r) place = tt
by-stop k (stop.Wanted number file) place = tt
by-stop k stop.More place = tt
by-stop k stop.Memory place = tt

pub stop-over : (k : Kept) (s : Stop) (place : Place) (result : Result PrologStep PrologError) → IsToldStop s place result → IsOverIfDone k result
stop-over k s place (Ok answer) t = subst (IsOverIfDone k) (sym t) (by-stop k s place)
stop-over k s place (Err e) t = tt

-- where nothing is told
pub goes-further : (c : Choices) (texts : List (ℕ × Text)) (ended : Bool) (asked asked' : Option Name) (old k new : Kept) → Goes c texts ended asked old k
    → Advances c texts ended asked asked' k new None → asked' ≡ asked → Goes c texts ended asked' old new
goes-further c texts ended asked asked' old k new g s a = subst (λ z. Goes c texts ended z old new) (sym a) (silent-goes-on c texts ended asked old k new g s)
