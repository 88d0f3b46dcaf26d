-- What is told of a document from one turn to the next.
use Rattle.std.specs.Prelude.{◌≡◌, ℕ, Bool, true, false, List, [], ◌∷◌, ◌++◌, Option, Some, None, IfSome, IfOk, Result}
use Rattle.sgml_text.specs.declared.place.Refusal.{Refusal}
use Rattle.sgml_parse.specs.syntax.declared.syntax.Syntax.{Syntax}
use Rattle.sgml_events.specs.declared.event.Event.{Event}
use Rattle.sgml_parse.specs.said.Told.{all_said}
use Rattle.sgml_parse.specs.theory_reading.Names.{Text}
use Rattle.sgml_parse.specs.theory_reading.Pieces.{History}
use Rattle.sgml_parse.specs.theory_reading.Nest.{types}
use Rattle.sgml_parse.specs.theory_reading.Unread.{Input}
use Rattle.sgml_parse.specs.theory_reading.Reads.{Move, ReadOn, after_moves, ends_in_finish}
use Rattle.sgml_parse.specs.theory_reading.Events.{Event as Said, events}
use Rattle.sgml_parse.specs.theory_spelling.Spelled.{forms}
use Rattle.sgml_parse.specs.declaring.Files.{Choices}
use Rattle.sgml_parse.specs.content_steps.Places.{IsPlaced}
use Rattle.sgml_parse.specs.instance.Batches.{EachIsPlaced}
use Rattle.sgml_parse.specs.There.{Reading}
use Rattle.sgml_parse.specs.Parsing.{Parser, IsUndecided, IsAfterProlog, said_in, doctype_in, is_in_instance, is_instruction, KnowsTexts}
use Rattle.sgml_parse.specs.Wanting.{IsFirstUnsupplied}
use Rattle.sgml_source.specs.declared.source.Source.{Source}
use Rattle.sgml_source.specs.declared.told.Told.{Told}
use Rattle.sgml_source.specs.declared.told.Told.TheVariants as told
use Rattle.sgml_source.specs.declared.told.Paused.{Paused}
use Rattle.sgml_source.specs.declared.told.Paused.TheVariants as paused
use Rattle.sgml_source.specs.Inputs.{Files, IsInputOf}
use Rattle.sgml_source.specs.Stopping.{IsStop}
use Rattle.sgml_source.specs.Feeding.{IsAt}

-- what is told of what was read
abbrev pub LeadsTo : ℕ → List ℕ → (ℕ → Option (List ℕ)) → Source → Parser → Input → History → List Said → Option Told → Type 0
LeadsTo limit bytes left s p I h earlier None = IsAt limit bytes left s p I h earlier
LeadsTo limit bytes left s p I h earlier (Some (told.Event e)) = IsAt limit bytes left s p I h (earlier ++ said_in p.reading e) × IsPlaced h earlier e
LeadsTo limit bytes left s p I h earlier (Some told.Prolog) = IsAt limit bytes left s p I h earlier × (events forms h ≡ earlier) × IsAfterProlog h
LeadsTo limit bytes left s p I h earlier (Some told.Finished) = (ends_in_finish h ≡ true) × (events forms h ≡ earlier) × (doctype_in p.reading ≡ types h) × ((more : Text) × KnowsTexts p I more h)
LeadsTo limit bytes left s p I h earlier (Some (told.Refused r)) = IsStop I h r × (events forms h ≡ earlier) × (doctype_in p.reading ≡ types h) × ((more : Text) × KnowsTexts p I more h)

-- after some moves
pub record Goes (limit : ℕ) (bytes : List ℕ) (left : ℕ → Option (List ℕ)) (s : Source) (p : Parser) (I : Input) (h : History) (earlier : List Said) (answer : Option Told) : Type 0 where
  pub moves : List Move
  pub read : ReadOn forms I h moves
  pub leads : LeadsTo limit bytes left s p I (after_moves h moves) earlier answer

-- THE TURN, over a store with these files, for every input that the document may be within a limit
abbrev pub TurnsIn : Files → (ℕ → Option (List ℕ)) → Source → Parser → (ℕ → Option (List ℕ)) → Source → Parser → Option Told → Type 0
TurnsIn files left s p left' s' p' answer =
    (limit : ℕ) (c : Choices) (declaration : Option Syntax) (bytes : List ℕ) (I : Input) (h : History) (earlier : List Said)
    → IsInputOf limit files c declaration bytes I → IsAt limit bytes left s p I h earlier → Goes limit bytes left' s' p' I h earlier answer

abbrev pub Turns : Option Files → (ℕ → Option (List ℕ)) → Source → Parser → (ℕ → Option (List ℕ)) → Source → Parser → Option Told → Type 0
Turns known left s p left' s' p' answer = IfSome known (λ files. TurnsIn files left s p left' s' p' answer)

-- THE PROLOG IS TOLD ONCE, where the instance begins
abbrev pub GoesOverAt : Reading → Reading → Option Told → Type 0
GoesOverAt old new (Some told.Prolog) = (is_in_instance old ≡ false) × (is_in_instance new ≡ true)
GoesOverAt old new _ = is_in_instance new ≡ is_in_instance old

-- and then no text of a file is left that wasn't supplied
abbrev pub IsAllSuppliedAt : Parser → Option Told → Type 0
IsAllSuppliedAt p (Some told.Prolog) = IsFirstUnsupplied 0 p None
IsAllSuppliedAt p answer = Unit {0}

-- before the instance nothing is told but instructions
abbrev pub TellsInstructionsAt : Reading → Option Told → Type 0
TellsInstructionsAt there (Some (told.Event e)) = is_in_instance there ≡ false → is_instruction e ≡ true
TellsInstructionsAt there answer = Unit {0}

-- in the instance the tables stay as they are
abbrev pub KeepsTables : Reading → Reading → Type 0
KeepsTables old new = is_in_instance old ≡ true → doctype_in new ≡ doctype_in old

-- after a refusal nothing more is told
abbrev pub is_last : Option Told → Bool
is_last (Some (told.Refused r)) = true
is_last _ = false

abbrev pub refused_told : Option Refusal → Option Told
refused_told None = None
refused_told (Some r) = Some (told.Refused r)

-- AFTER THE PARSER ASKED FOR MORE, with all told that was read, this is told
abbrev pub ReadsMoreIn : Files → (ℕ → Option (List ℕ)) → Source → Parser → (ℕ → Option (List ℕ)) → Source → Parser → Option Told → Type 0
ReadsMoreIn files left s p left' s' p' answer =
    (limit : ℕ) (c : Choices) (declaration : Option Syntax) (bytes : List ℕ) (I : Input) (h : History) (earlier : List Said)
    → IsInputOf limit files c declaration bytes I → IsAt limit bytes left s p I h earlier → events forms h ≡ earlier → ends_in_finish h ≡ false → IsUndecided p.reading p.texts I h
    → LeadsTo limit bytes left' s' p' I h earlier answer

abbrev pub ReadsMore : Option Files → (ℕ → Option (List ℕ)) → Source → Parser → (ℕ → Option (List ℕ)) → Source → Parser → Option Told → Type 0
ReadsMore known left s p left' s' p' answer = IfSome known (λ files. ReadsMoreIn files left s p left' s' p' answer)

-- MANY EVENTS AT ONCE, after some moves: these were told, and then this
pub record GoesMany (limit : ℕ) (bytes : List ℕ) (left : ℕ → Option (List ℕ)) (s : Source) (p : Parser) (I : Input) (h : History) (earlier : List Said) (gained : List Event) (answer : Option Told) : Type 0 where
  pub moves : List Move
  pub read : ReadOn forms I h moves
  pub leads : LeadsTo limit bytes left s p I (after_moves h moves) (earlier ++ all_said (doctype_in p.reading) gained) answer
  pub placed : EachIsPlaced (after_moves h moves) (doctype_in p.reading) earlier gained

abbrev pub TurnsManyIn : Files → (ℕ → Option (List ℕ)) → Source → Parser → (ℕ → Option (List ℕ)) → Source → Parser → List Event → Option Told → Type 0
TurnsManyIn files left s p left' s' p' gained answer =
    (limit : ℕ) (c : Choices) (declaration : Option Syntax) (bytes : List ℕ) (I : Input) (h : History) (earlier : List Said)
    → IsInputOf limit files c declaration bytes I → IsAt limit bytes left s p I h earlier → GoesMany limit bytes left' s' p' I h earlier gained answer

abbrev pub TurnsMany : Option Files → (ℕ → Option (List ℕ)) → Source → Parser → (ℕ → Option (List ℕ)) → Source → Parser → List Event → Option Told → Type 0
TurnsMany known left s p left' s' p' gained answer = IfSome known (λ files. TurnsManyIn files left s p left' s' p' gained answer)

-- THE SAME from a store of which it is told which files it has and what is left of each
abbrev pub TurnsBy : {S : Type 0} → (S → Option Files) → (S → ℕ → Option (List ℕ)) → S → Source → Parser → S → Source → Parser → Option Told → Type 0
TurnsBy files left store s p store' s' p' answer = Turns (files store) (left store) s p (left store') s' p' answer

abbrev pub TellsBy : {S A E : Type 0} → (A → Option Told) → (S → Option Files) → (S → ℕ → Option (List ℕ)) → S → Source → Parser → S → Source → Parser → List Event → Result A E → Type 0
TellsBy tells files left store s p store' s' p' gained result =
    IfOk result (λ answer. TurnsMany (files store) (left store) s p (left store') s' p' gained (tells answer))

abbrev pub ReadsMoreBy : {S E : Type 0} → (S → Option Files) → (S → ℕ → Option (List ℕ)) → S → Source → Parser → S → Source → Parser → Result (Option Refusal) E → Type 0
ReadsMoreBy files left store s p store' s' p' result =
    IfOk result (λ refused. ReadsMore (files store) (left store) s p (left store') s' p' (refused_told refused))

-- what is told behind them: nothing, where reading goes on
abbrev pub told_at : Paused → Option Told
told_at paused.Going = None
told_at paused.Finished = Some told.Finished
told_at (paused.Refused r) = Some (told.Refused r)

abbrev pub told_then : Option Paused → Option Told
told_then None = None
told_then (Some x) = told_at x

-- what was asked for was given, or reading stops there
abbrev pub paused_then : Option Refusal → List Event → Option Paused
paused_then (Some r) told = Some (paused.Refused r)
paused_then None [] = None
paused_then None (e ∷ es) = Some paused.Going
