-- What is told of what was read, from one turn to the next.
use Rattle.std.proofs.Common.{◌≡◌, ◌-◌, ℕ, List, [], ◌∷◌, ◌++◌, length, take, Option, Some, None, Ok, Err, refl, sym, ap, ◌∙◌, subst, inl}
use Rattle.sgml_text.specs.declared.place.Refusal.{Refusal}
use Rattle.sgml_events.specs.declared.event.Event.{Event}
use Rattle.sgml_io.specs.Pieces.{HasMade, remaining}
use Rattle.sgml_parse.specs.theory_reading.Names.{Name}
use Rattle.sgml_parse.specs.theory_reading.Pieces.{History}
use Rattle.sgml_parse.specs.theory_reading.Nest.{types}
use Rattle.sgml_parse.specs.theory_reading.Unread.{Input}
use Rattle.sgml_parse.specs.theory_reading.Reads.{Move, moved_on, after_moves}
use Rattle.sgml_parse.specs.theory_reading.Events.{Event as Said}
use Rattle.sgml_parse.proofs.theory_reading.Cutting.{read-append}
use Rattle.sgml_parse.specs.theory_spelling.Spelled.{forms}
use Rattle.sgml_parse.specs.declared.answer.ParseStep.TheVariants as step
use Rattle.sgml_parse.specs.declared.answer.ParseError.TheVariants as error
use Rattle.sgml_parse.specs.There.{Reading}
use Rattle.sgml_parse.specs.Parsing.{Parser, IsParsing, NextIsParsing, doctype_in, is_in_instance}
use Rattle.sgml_source.specs.declared.source.Source.{Source}
use Rattle.sgml_source.specs.declared.told.Told.{Told}
use Rattle.sgml_source.specs.declared.told.Told.TheVariants as told
use Rattle.sgml_source.specs.Inputs.{Files, fetched_in}
use Rattle.sgml_source.specs.Feeding.{IsAt, IsInPhase, StaysThere, SuppliesIfTold, SuppliesRestIfTold}
use Rattle.sgml_source.specs.Turning.{LeadsTo, Turns, ReadsMore, KeepsTables}

-- TURN BY TURN
pub moves-append : (h : History) (ms ns : List Move) → after_moves h (ms ++ ns) ≡ after_moves (after_moves h ms) ns
moves-append h [] ns = refl
moves-append h (m ∷ ms) ns = moves-append (moved_on h m) ms ns

turns-on : (known : Option Files) (left left' left'' : ℕ → Option (List ℕ)) (s s' s'' : Source) (p p' p'' : Parser) (answer : Option Told) → Turns known left s p left' s' p' None
    → Turns known left' s' p' left'' s'' p'' answer → Turns known left s p left'' s'' p'' answer
turns-on None left left' left'' s s' s'' p p' p'' answer a b = tt
turns-on (Some files) left left' left'' s s' s'' p p' p'' answer a b = λ limit c declaration bytes I h earlier i at.
    let x = a limit c declaration bytes I h earlier i at in
    let y = b limit c declaration bytes I (after_moves h x.moves) earlier i x.leads in
    record {
      moves = x.moves ++ y.moves;
      read = (read-append forms I h x.moves y.moves).1 (x.read, y.read);
      leads = subst (λ z. LeadsTo limit bytes left'' s'' p'' I z earlier answer) (sym (moves-append h x.moves y.moves)) y.leads;
    }

-- WHAT THE PARSER STANDS FOR after it answered, with the same of the document fed
pub at-still : (limit : ℕ) (bytes : List ℕ) (left : ℕ → Option (List ℕ)) (s : Source) (old new : Parser) (I : Input) (h h' : History) (earlier earlier' : List Said) → (at : IsAt limit bytes left s old I h earlier) → new.records ≡ old.records
    → IsParsing new I (remaining old.records (take (limit - length at.fed) at.rest)) h' earlier' → doctype_in new.reading ≡ types h' → IsAt limit bytes left s new I h' earlier'
at-still limit bytes left s old new I h h' earlier earlier' at same x typed = record {
  limit_is = at.limit_is;
  fed = at.fed;
  rest = at.rest;
  whole = at.whole;
  has = record {
    so_far = at.has.so_far;
    counted = at.has.counted;
    made = subst (λ z. HasMade z at.fed at.has.so_far) (sym same) at.has.made;
    parsing = subst (λ z. IsParsing new I (remaining z (take (limit - length at.fed) at.rest)) h' earlier') (sym same) x;
  };
  in_phase = at.in_phase;
  typed = typed;
}

-- WHAT IT ANSWERED is told
pub event-is-told : (known : Option Files) (left : ℕ → Option (List ℕ)) (s : Source) (old new : Parser) (e : Event) → new.records ≡ old.records → NextIsParsing old new (Ok (step.Event e))
    → Turns known left s old left s new (Some (told.Event e))
event-is-told None left s old new e same n = tt
event-is-told (Some files) left s old new e same n = λ limit c declaration bytes I h earlier i at.
    let a = n I _ h earlier at.has.parsing in
    record { moves = a.moves; read = a.read; leads = (at-still limit bytes left s old new I h (after_moves h a.moves) earlier _ at same a.leads a.tables.0, a.tables.1) }

pub finish-is-told : (known : Option Files) (left : ℕ → Option (List ℕ)) (s : Source) (old new : Parser) → NextIsParsing old new (Ok step.Finished) → Turns known left s old left s new (Some told.Finished)
finish-is-told None left s old new n = tt
finish-is-told (Some files) left s old new n = λ limit c declaration bytes I h earlier i at.
    let a = n I _ h earlier at.has.parsing in
    record { moves = a.moves; read = a.read; leads = (a.leads.2, a.leads.1, a.tables, (_, a.knows)) }

pub refusal-is-told : (known : Option Files) (left : ℕ → Option (List ℕ)) (s : Source) (old new : Parser) (r : Refusal) → NextIsParsing old new (Err (error.Refused r)) → Turns known left s old left s new (Some (told.Refused r))
refusal-is-told None left s old new r n = tt
refusal-is-told (Some files) left s old new r n = λ limit c declaration bytes I h earlier i at.
    let a = n I _ h earlier at.has.parsing in
    record { moves = a.moves; read = a.read; leads = (record { reason = a.leads.0; place = a.leads.1 }, a.leads.2, a.tables, (_, a.knows)) }

-- WHAT IT STANDS FOR where other texts of the store were read
pub elsewhere : (limit : ℕ) (bytes : List ℕ) (left left' : ℕ → Option (List ℕ)) (s : Source) (p : Parser) (I : Input) (h : History) (earlier : List Said) → left' s.id ≡ left s.id → IsAt limit bytes left s p I h earlier → IsAt limit bytes left' s p I h earlier
elsewhere limit bytes left left' s p I h earlier e x = record { limit_is = x.limit_is; fed = x.fed; rest = x.rest; whole = x.whole; has = x.has; in_phase = subst (λ z. IsInPhase limit s.phase z x.rest s.fed) (sym e) x.in_phase; typed = x.typed }

-- WHAT IT WANTED was given
pub want-is-met : (known : Option Files) (left left' : ℕ → Option (List ℕ)) (s : Source) (old new given : Parser) (entity : ℕ) (name : Name) → new.records ≡ old.records → NextIsParsing old new (Ok (step.Want entity name))
    → left' s.id ≡ left s.id → new.wanted ≡ Some (record { entity = entity; name = name }) → SuppliesIfTold s.limit known entity name new given → StaysThere new given → given.records ≡ new.records → Turns known left s old left' s given None
want-is-met None left left' s old new given entity name same n same-left w f t r = tt
want-is-met (Some files) left left' s old new given entity name same n same-left w f t r = λ limit c declaration bytes I h earlier i at.
    let a = n I _ h earlier at.has.parsing in
    let h' = after_moves h a.moves in
    let x : IsAt limit bytes left s given I h' earlier
    = at-still limit bytes left s old given I h h' earlier earlier at (r ∙ same) (f I _ h' earlier (inl w) (i.fetched name ∙ ap (λ n. fetched_in n files name) (sym at.limit_is)) a.leads.0) (ap doctype_in t.reading ∙ a.tables) in
    record { moves = a.moves; read = a.read; leads = elsewhere limit bytes left left' s given I h' earlier same-left x }

-- THE PROLOG is told once all that wasn't supplied was given
pub prolog-is-told : (known : Option Files) (left left' : ℕ → Option (List ℕ)) (s : Source) (old new given : Parser) → new.records ≡ old.records → NextIsParsing old new (Ok step.Prolog)
    → left' s.id ≡ left s.id → SuppliesRestIfTold s.limit known new given → StaysThere new given → given.records ≡ new.records → Turns known left s old left' s given (Some told.Prolog)
prolog-is-told None left left' s old new given same n same-left f t r = tt
prolog-is-told (Some files) left left' s old new given same n same-left f t r = λ limit c declaration bytes I h earlier i at.
    let a = n I _ h earlier at.has.parsing in
    let h' = after_moves h a.moves in
    let x : IsAt limit bytes left s given I h' earlier
    = at-still limit bytes left s old given I h h' earlier earlier at (r ∙ same) (f I _ h' earlier (λ name. i.fetched name ∙ ap (λ n. fetched_in n files name) (sym at.limit_is)) a.leads.0) (ap doctype_in t.reading ∙ a.tables) in
    record { moves = a.moves; read = a.read; leads = (elsewhere limit bytes left left' s given I h' earlier same-left x, a.leads.1, a.leads.2) }

-- MORE that it asked for
pub more-is-met : (known : Option Files) (left left' : ℕ → Option (List ℕ)) (s s' : Source) (old new fed : Parser) (answer : Option Told) → new.records ≡ old.records → NextIsParsing old new (Ok step.More)
    → ReadsMore known left s new left' s' fed answer → Turns known left s old left' s' fed answer
more-is-met None left left' s s' old new fed answer same n m = tt
more-is-met (Some files) left left' s s' old new fed answer same n m = λ limit c declaration bytes I h earlier i at.
    let a = n I _ h earlier at.has.parsing in
    let h' = after_moves h a.moves in
    let x = at-still limit bytes left s old new I h h' earlier earlier at same a.leads.0 a.tables.0 in
    record { moves = a.moves; read = a.read; leads = m limit c declaration bytes I h' earlier i x a.leads.1 a.tables.1 a.leads.3 }

-- ON AND ON, in a store whose files stay as they are
pub turns-still : (known known' : Option Files) (left left' left'' : ℕ → Option (List ℕ)) (s s' s'' : Source) (p p' p'' : Parser) (answer : Option Told) → known' ≡ known → Turns known left s p left' s' p' None
    → Turns known' left' s' p' left'' s'' p'' answer → Turns known left s p left'' s'' p'' answer
turns-still known known' left left' left'' s s' s'' p p' p'' answer same a b =
    turns-on known left left' left'' s s' s'' p p' p'' answer a (subst (λ z. Turns z left' s' p' left'' s'' p'' answer) same b)

pub tables-still : (old mid new : Reading) → is_in_instance mid ≡ is_in_instance old → KeepsTables old mid → KeepsTables mid new → KeepsTables old new
tables-still old mid new over a b e = b (over ∙ e) ∙ a e
