-- One step of reading the instance: what stands next is taken, or the document ends, or it is told why nothing is.
use Rattle.std.specs.Prelude.{◌≡◌, ◌<◌, ◌≤◌, ℕ, Bool, true, false, ◌++◌, ◌∷◌, [], List, None, Result, Ok, Err, OnErr, length, replicate, if◌then◌else◌}
use Rattle.sgml_scan.specs.declared.state.ScanState.{ScanState}
use Rattle.sgml_events.specs.declared.event.Event.{Event}
use Rattle.sgml_content_tags.specs.said.Told.{all_said}
use Rattle.sgml_dtd.specs.Doctypes.{Doctype}
use Rattle.sgml_declared.specs.theory_reading.Names.{Text}
use Rattle.sgml_declared.specs.theory_reading.Context.{at_start}
use Rattle.sgml_declared.specs.theory_reading.Unread.{Outside}
use Rattle.sgml_declared.specs.theory_reading.Reads.{Move}
use Rattle.sgml_declared.specs.theory_spelling.Decided.{decided}
use Rattle.sgml_declared.specs.theory_standing.Kept.{Kept, given}
use Rattle.sgml_declared.specs.theory_standing.Next.{left_to_read}
use Rattle.sgml_declared.specs.theory_standing.Held.{Held, state_of, content_begins}
use Rattle.sgml_declared.specs.theory_standing.Moves.{IsEndNext, IsRefusedNext, told_by_moves}
use Rattle.sgml_content_tags.specs.theory_starts.Apart.{HasListsApart}
use Rattle.sgml_content_tags.specs.theory_starts.Starts.{Table}
use Rattle.sgml_content_tags.specs.sgml_infer.declared.tree.Tree.{Tree}
use Rattle.sgml_content_tags.specs.sgml_infer.Trees.{IsTreeOf, context_in}
use Rattle.sgml_inside.specs.Inside.{Inside}
use Rattle.sgml_declared.specs.Files.{Choices}
use Rattle.sgml_prolog_steps.specs.declared.stepping.Stop.{Stop}
use Rattle.sgml_prolog_steps.specs.declared.stepping.Stop.TheVariants as stop
use Rattle.sgml_content_tags.specs.sgml_content_steps.Found.{IsEndThere}
use Rattle.sgml_content_tags.specs.sgml_content_steps.Content.{Content, Holds, IsContent}
use Rattle.sgml_content_tags.specs.sgml_content_steps.Plainly.{IsScannedIn}
use Rattle.sgml_content_tags.specs.sgml_content_steps.Steps.{Goes, IsWanting, IsOutside, LeavesAsItWas, ToldAt}
use Rattle.sgml_instance.specs.declared.stepping.Turn.{Turn}
use Rattle.sgml_instance.specs.declared.stepping.Turn.TheVariants as turn
use Rattle.std.specs.Global.{Vec}

-- the document ends there, and this is what its end tells
pub record Ends (outside : Outside) (texts : List (ℕ × Text)) (ended : Bool) (x : Held) (new : Content) (told : List Event) : Type 0 where
  pub move : Move
  pub next : IsEndNext outside x texts ended move
  pub said : all_said new.kept.doctype told ≡ told_by_moves x (move ∷ [])
  pub kept : new.kept ≡ x.kept

abbrev pub StepsTo : Outside → List (ℕ × Text) → Bool → Held → Content → List Event → Result Turn Stop → Type 0
StepsTo outside texts ended x new told (Ok turn.Went) = Goes outside texts ended x new told
StepsTo outside texts ended x new told (Ok turn.Ended) = Ends outside texts ended x new told
StepsTo outside texts ended x new told (Err (stop.Refused r)) = IsRefusedNext outside x texts ended r
StepsTo outside texts ended x new told (Err (stop.Wanted number file)) = IsWanting outside texts ended x number file
StepsTo outside texts ended x new told (Err stop.More) = (ended ≡ false) × (decided outside (state_of x) (given x.kept texts) ≡ false)
StepsTo outside texts ended x new told (Err stop.Memory) = Unit {0}

-- less is left to read, or at the end no more
abbrev pub Falls : List (ℕ × Text) → Content → Content → Result Turn Stop → Type 0
Falls texts old new (Ok turn.Went) = left_to_read new.kept texts < left_to_read old.kept texts
Falls texts old new (Ok turn.Ended) = left_to_read new.kept texts ≤ left_to_read old.kept texts
Falls texts old new (Err e) = Unit {0}

-- A STEP, for all that may be held
pub record IsStepOn (c : Choices) (texts : List (ℕ × Text)) (ended : Bool) (old new : Content) (told : List Event) (result : Result Turn Stop) : Type 0 where
  pub steps : (outside : Outside) (x : Held) → IsOutside c outside old.kept texts → Holds old x → StepsTo outside texts ended x new told result
  pub falls : Falls texts old new result
  pub left : OnErr result (LeavesAsItWas old new told)
  -- what has a place has the place where the step began
  pub placed : ToldAt old.kept told
  pub content : IsContent new
  pub doctype : new.kept.doctype ≡ old.kept.doctype
  pub expand : new.kept.stack.expand ≡ old.kept.stack.expand

-- what it tells comes after what was told before
abbrev pub TellsOn : Choices → List (ℕ × Text) → Bool → Content → Content → List Event → List Event → Result Turn Stop → Type 0
TellsOn c texts ended old new before after result = (told : List Event) × (after ≡ before ++ told) × IsStepOn c texts ended old new told result

-- OF THE END of a text, what it tells
abbrev pub TellsEnd : List (ℕ × Text) → Content → Content → List Event → List Event → Result Turn Stop → Type 0
TellsEnd texts old new before after result =
    (told : List Event) × (after ≡ before ++ told)
    × ((c : Choices) (st : ScanState) (ended : Bool) → IsScannedIn st old → IsEndThere old.kept st texts ended → IsStepOn c texts ended old new told result)

-- BEFORE THE INSTANCE nothing is open, nothing was read in it, and nothing was set
abbrev pub HoldsNothing : Content → Type 0
HoldsNothing x = HasListsApart x.kept.doctype → Holds x (content_begins x.kept)

-- a step of content, as one of reading
abbrev pub on : Result (Unit {0}) Stop → Result Turn Stop
on (Ok done) = Ok turn.Went
on (Err e) = Err e

-- something was taken, or this is why nothing was
abbrev pub taken : Bool → Stop → Result (Unit {0}) Stop
taken went stop = if went then Ok tt else Err stop

-- and the end of the document, by whether it has come
abbrev pub turn_by : Bool → Turn
turn_by true = turn.Ended
turn_by false = turn.Went

abbrev pub turned : Bool → Result (Unit {0}) Stop → Result Turn Stop
turned over (Ok done) = Ok (turn_by over)
turned over (Err e) = Err e

-- beside what was kept of the prolog: no element is open, and no value is current
pub record HasNothing (d : Doctype) (tree : Tree) (inside : Inside) (currents : Table) : Type 0 where
  pub tree_is : IsTreeOf d tree
  pub context_is : context_in d tree ≡ at_start d
  pub none_open : inside.elements ≡ []
  pub none_ended : inside.ended ≡ None
  pub room : d.syntax.quantities.taglvl ≤ inside.room
  pub none_current : currents ≡ replicate (length d.lists) []

-- what is kept then, beside what was kept of the prolog
pub record IsContentOf (k : Kept) (x : Content) : Type 0 where
  pub kept : x.kept ≡ k
  pub content : IsContent x
  pub nothing : HoldsNothing x

-- of a step that answers whether it went on, and else why not
abbrev pub TellsTurn : Choices → List (ℕ × Text) → Bool → Content → Content → Vec Event → Vec Event → Bool → Bool → Stop → Type 0
TellsTurn c texts ended old new told_old told_new over went stop = TellsOn c texts ended old new told_old.items told_new.items (turned over (taken went stop))
