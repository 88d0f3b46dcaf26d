-- What is told of many events at once, from one turn to the next.
use Rattle.std.proofs.Common.{◌≡◌, ◌-◌, ℕ, true, false, List, [], ◌∷◌, ◌++◌, take, length, Option, Some, None, Ok, Err, refl, sym, ap, ◌∙◌, subst, inl, append-nil}
use Rattle.std.specs.Prelude.{Result}
use Rattle.sgml_text.specs.declared.place.Refusal.{Refusal}
use Rattle.sgml_events.specs.declared.event.Event.{Event}
use Rattle.sgml_parse.specs.said.Told.{all_said}
use Rattle.sgml_parse.specs.theory_reading.Names.{Name}
use Rattle.sgml_parse.specs.theory_reading.Pieces.{History}
use Rattle.sgml_parse.specs.theory_reading.Unread.{Input}
use Rattle.sgml_parse.specs.theory_reading.Reads.{after_moves}
use Rattle.sgml_parse.specs.theory_reading.Events.{Event as Said}
use Rattle.sgml_parse.proofs.theory_reading.Cutting.{read-append}
use Rattle.sgml_parse.specs.theory_spelling.Spelled.{forms}
use Rattle.sgml_parse.specs.declared.answer.ParsePause.{ParsePause}
use Rattle.sgml_parse.specs.declared.answer.ParsePause.TheVariants as pause
use Rattle.sgml_parse.specs.declared.answer.ParseError.{ParseError}
use Rattle.sgml_parse.specs.declared.answer.ParseError.TheVariants as error
use Rattle.sgml_parse.specs.instance.Batches.{EachIsPlaced}
use Rattle.sgml_parse.specs.There.{Reading}
use Rattle.sgml_parse.specs.There as reading
use Rattle.sgml_parse.specs.Parsing.{Parser, KeepsDoctype, doctype_in, is_in_instance}
use Rattle.sgml_parse.specs.Batches.{ReadsOn, ReadIsParsing}
use Rattle.sgml_source.specs.declared.source.Source.{Source}
use Rattle.sgml_source.specs.declared.told.Told.{Told}
use Rattle.sgml_source.specs.declared.told.Told.TheVariants as told
use Rattle.sgml_source.specs.Inputs.{Files, fetched_in}
use Rattle.sgml_source.specs.Feeding.{IsAt, IsInPhase, StaysThere, SuppliesIfTold}
use Rattle.sgml_source.specs.Turning.{LeadsTo, Turns, TurnsMany, ReadsMore, told_then, paused_then, refused_told}
use Rattle.sgml_source.proofs.Turned.{moves-append, at-still, elsewhere}

-- ALL that stands in a list that was empty was gained
pub all-gained : (old new : Parser) (before after : List Event) (result : Result ParsePause ParseError) → before ≡ [] → ReadsOn old new before after result → ReadIsParsing old new after result
all-gained old new before after result none r =
    subst (λ (z : List Event). ReadIsParsing old new z result) (sym (r.appended ∙ ap (λ (z : List Event). z ++ r.gained) none)) r.reads

-- WHAT THE PARSER ANSWERED is told: so many events
pub events-are-told : (known : Option Files) (left : ℕ → Option (List ℕ)) (s : Source) (old new : Parser) (gained : List Event) → new.records ≡ old.records → ReadIsParsing old new gained (Ok pause.Going)
    → TurnsMany known left s old left s new gained None
events-are-told None left s old new gained same n = tt
events-are-told (Some files) left s old new gained same n = λ limit c declaration bytes I h earlier i at.
    let a = n I _ h earlier at.has.parsing in
    record { moves = a.moves; read = a.read; leads = at-still limit bytes left s old new I h (after_moves h a.moves) earlier _ at same a.pauses.0 a.tables; placed = a.placed }

-- the end behind them
pub end-is-told : (known : Option Files) (left : ℕ → Option (List ℕ)) (s : Source) (old new : Parser) (gained : List Event) → ReadIsParsing old new gained (Ok pause.Finished)
    → TurnsMany known left s old left s new gained (Some told.Finished)
end-is-told None left s old new gained n = tt
end-is-told (Some files) left s old new gained n = λ limit c declaration bytes I h earlier i at.
    let a = n I _ h earlier at.has.parsing in
    record { moves = a.moves; read = a.read; leads = (a.pauses.2, a.pauses.1, a.tables, (_, a.knows)); placed = a.placed }

-- a refusal behind them
pub stop-is-told : (known : Option Files) (left : ℕ → Option (List ℕ)) (s : Source) (old new : Parser) (gained : List Event) (r : Refusal) → ReadIsParsing old new gained (Err (error.Refused r))
    → TurnsMany known left s old left s new gained (Some (told.Refused r))
stop-is-told None left s old new gained r n = tt
stop-is-told (Some files) left s old new gained r n = λ limit c declaration bytes I h earlier i at.
    let a = n I _ h earlier at.has.parsing in
    record { moves = a.moves; read = a.read; leads = (record { reason = a.pauses.0; place = a.pauses.1 }, a.pauses.2, a.tables, (_, a.knows)); placed = a.placed }

-- WHAT IT WANTED was given
pub want-is-met-then : (known : Option Files) (left left' : ℕ → Option (List ℕ)) (s : Source) (old new given : Parser) (gained : List Event) (entity : ℕ) (name : Name) → new.records ≡ old.records
    → ReadIsParsing old new gained (Ok (pause.Want entity name)) → left' s.id ≡ left s.id → new.wanted ≡ Some (record { entity = entity; name = name }) → SuppliesIfTold s.limit known entity name new given → StaysThere new given → given.records ≡ new.records → TurnsMany known left s old left' s given gained None
want-is-met-then None left left' s old new given gained entity name same n same-left w f t r = tt
want-is-met-then (Some files) left left' s old new given gained entity name same n same-left w f t r = λ limit c declaration bytes I h earlier i at.
    let a = n I _ h earlier at.has.parsing in
    let h' = after_moves h a.moves in
    let now = earlier ++ all_said (doctype_in new.reading) gained in
    let x : IsAt limit bytes left s given I h' now
    = at-still limit bytes left s old given I h h' earlier now at (r ∙ same) (f I _ h' now (inl w) (i.fetched name ∙ ap (λ n. fetched_in n files name) (sym at.limit_is)) a.pauses.0) (ap doctype_in t.reading ∙ a.tables) in
    record {
      moves = a.moves;
      read = a.read;
      leads = subst (λ (z : Reading). IsAt limit bytes left' s given I h' (earlier ++ all_said (doctype_in z) gained)) (sym t.reading) (elsewhere limit bytes left left' s given I h' now same-left x);
      placed = subst (λ (z : Reading). EachIsPlaced h' (doctype_in z) earlier gained) (sym t.reading) a.placed;
    }

-- MORE that it asked for
pub more-is-met-then : (known : Option Files) (left left' : ℕ → Option (List ℕ)) (s s' : Source) (old new fed : Parser) (gained : List Event) (answer : Option Told) → new.records ≡ old.records
    → ReadIsParsing old new gained (Ok pause.More) → StaysThere new fed → ReadsMore known left s new left' s' fed answer → TurnsMany known left s old left' s' fed gained answer
more-is-met-then None left left' s s' old new fed gained answer same n t m = tt
more-is-met-then (Some files) left left' s s' old new fed gained answer same n t m = λ limit c declaration bytes I h earlier i at.
    let a = n I _ h earlier at.has.parsing in
    let h' = after_moves h a.moves in
    let now = earlier ++ all_said (doctype_in new.reading) gained in
    let x = at-still limit bytes left s old new I h h' earlier now at same a.pauses.0 a.tables.0 in
    record {
      moves = a.moves;
      read = a.read;
      leads = subst (λ (z : Reading). LeadsTo limit bytes left' s' fed I h' (earlier ++ all_said (doctype_in z) gained) answer) (sym t.reading) (m limit c declaration bytes I h' now i x a.pauses.1 a.tables.1 a.pauses.3);
      placed = subst (λ (z : Reading). EachIsPlaced h' (doctype_in z) earlier gained) (sym t.reading) a.placed;
    }

-- then reading pauses, or goes on where nothing was told
told-so : (refused : Option Refusal) (gained : List Event) → told_then (paused_then refused gained) ≡ refused_told refused
told-so (Some r) gained = refl
told-so None [] = refl
told-so None (e ∷ es) = refl

pub paused-so : (known : Option Files) (left left' : ℕ → Option (List ℕ)) (s s' : Source) (p p' : Parser) (gained : List Event) (refused : Option Refusal) → TurnsMany known left s p left' s' p' gained (refused_told refused)
    → TurnsMany known left s p left' s' p' gained (told_then (paused_then refused gained))
paused-so known left left' s s' p p' gained refused t = subst (TurnsMany known left s p left' s' p' gained) (sym (told-so refused gained)) t

pub none_paused : (refused : Option Refusal) (gained : List Event) → paused_then refused gained ≡ None → gained ≡ []
none_paused (Some r) gained e = cc
none_paused None [] e = refl
none_paused None (x ∷ xs) e = cc

-- in the instance the tables stay as they are
pub tables_kept : (old new : Reading) → KeepsDoctype old new → is_in_instance old ≡ true → doctype_in new ≡ doctype_in old
tables_kept (reading.Instance r) new k e = k
tables_kept (reading.Prolog r) new k e = cc
tables_kept reading.Lost new k e = cc

-- ON AND ON, in a store whose files stay as they are
still-many : (known : Option Files) (left left' left'' : ℕ → Option (List ℕ)) (s s' s'' : Source) (p p' p'' : Parser) (gained : List Event) (answer : Option Told) → Turns known left s p left' s' p' None
    → TurnsMany known left' s' p' left'' s'' p'' gained answer → TurnsMany known left s p left'' s'' p'' gained answer
still-many None left left' left'' s s' s'' p p' p'' gained answer a b = tt
still-many (Some files) left left' left'' s s' s'' p p' p'' gained answer a b = λ limit c declaration bytes I h earlier i at.
    let x = a limit c declaration bytes I h earlier i at in
    let y = b limit c declaration bytes I (after_moves h x.moves) earlier i x.leads in
    record {
      moves = x.moves ++ y.moves;
      read = (read-append forms I h x.moves y.moves).1 (x.read, y.read);
      leads = subst (λ z. LeadsTo limit bytes left'' s'' p'' I z (earlier ++ all_said (doctype_in p''.reading) gained) answer) (sym (moves-append h x.moves y.moves)) y.leads;
      placed = subst (λ z. EachIsPlaced z (doctype_in p''.reading) earlier gained) (sym (moves-append h x.moves y.moves)) y.placed;
    }

pub many-still : (known known' : Option Files) (left left' left'' : ℕ → Option (List ℕ)) (s s' s'' : Source) (p p' p'' : Parser) (gained : List Event) (answer : Option Told) → known' ≡ known → Turns known left s p left' s' p' None
    → TurnsMany known' left' s' p' left'' s'' p'' gained answer → TurnsMany known left s p left'' s'' p'' gained answer
many-still known known' left left' left'' s s' s'' p p' p'' gained answer same a b =
    still-many known left left' left'' s s' s'' p p' p'' gained answer a (subst (λ (z : Option Files). TurnsMany z left' s' p' left'' s'' p'' gained answer) same b)

-- where nothing was told
pub nothing-told : (known : Option Files) (left left' : ℕ → Option (List ℕ)) (s s' : Source) (p p' : Parser) (gained : List Event) → gained ≡ [] → TurnsMany known left s p left' s' p' gained None → Turns known left s p left' s' p' None
nothing-told None left left' s s' p p' gained none t = tt
nothing-told (Some files) left left' s s' p p' gained none t = λ limit c declaration bytes I h earlier i at.
    let x = t limit c declaration bytes I h earlier i at in
    record {
      moves = x.moves;
      read = x.read;
      leads = subst (IsAt limit bytes left' s' p' I (after_moves h x.moves)) (ap (λ (z : List Event). earlier ++ all_said (doctype_in p'.reading) z) none ∙ append-nil earlier) x.leads;
    }
