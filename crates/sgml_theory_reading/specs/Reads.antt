-- What it is to read an input, and where reading stops.
use Rattle.std.specs.Prelude.{◌≡◌, ℕ, ◌≤◌, ◌==◌, ◌&&◌, ◌||◌, Bool, true, false, not, IsTrue, IsFalse, ◌⊎◌, Option, Some, None, Result, Ok, Err, List, [], ◌∷◌, ◌++◌, is_some, map, length, if◌then◌else◌}
use Rattle.std.specs.Option.{option_or}
use Rattle.sgml_dtd.specs.text.declared.reason.Reason.{Reason}
use Rattle.sgml_dtd.specs.text.declared.reason.Reason.TheVariants.{Undefined, EntityTooLarge}
use Rattle.sgml_dtd.specs.text.declared.place.Place.{Place}
use Rattle.sgml_dtd.specs.model.Choice.{left_by}
use Rattle.sgml_dtd.specs.entity.Stack.{place_at}
use Rattle.sgml_dtd.specs.attr.declared.definition.Declared.{Declared}
use Rattle.sgml_dtd.specs.attr.declared.value.AttrValue.{AttrValue}
use Rattle.sgml_dtd.specs.Doctypes.{Doctype}
use Rattle.sgml_theory_reading.specs.Names.{Name}
use Rattle.sgml_theory_reading.specs.Types.{Content, Model, Any}
use Rattle.sgml_theory_reading.specs.Types.{is_declared}
use Rattle.sgml_theory_reading.specs.Pieces.{Piece, Kind, Start, End, History}
use Rattle.sgml_theory_reading.specs.Facets.{Token, is_start, shows_instruction, is_finish, Stage, AfterSubset}
use Rattle.sgml_theory_reading.specs.Context.{Level, Context, context}
use Rattle.sgml_theory_reading.specs.Omission.{left_of, level_content, is_declared_token}
use Rattle.sgml_theory_reading.specs.Runs.{LongestRun, after_run}
use Rattle.sgml_theory_reading.specs.Reasons.{reason}
use Rattle.sgml_theory_reading.specs.Unread.{Rest, Standing, Outside, Input, standing, unread, opening}
use Rattle.sgml_theory_reading.specs.State.{State, state}
use Rattle.sgml_theory_reading.specs.Characters.{piece_noted, ends_at_once}

-- an attribute of a start, with its value
pub record Attribute : Type 0 where
  pub attribute : Name
  pub declared : Declared
  pub value : AttrValue

-- THE FORMS that a profile reads. Every law holds for each such record of functions.
pub record Forms : Type 0 where
  -- which visible piece stands next in what is unread, or why none does
  pub spelled : Outside → State → Standing → Result Piece Reason
  -- whether that is decided by the bytes that are there
  pub decided : Outside → State → Standing → Bool
  -- why the attributes of a start have no values, where they have none: the first reason, of the
  -- specifications in their order, and then of the definitions without one
  pub unvalued : State → Kind → Option Reason
  -- the attributes of a start with their values
  pub valued : State → Kind → List Attribute

-- a visible piece, with the omitted ones that stand for it, the oldest first
pub record Move : Type 0 where
  pub omitted : List Piece
  pub visible : Piece

abbrev pub moved_on : History → Move → History
moved_on h m = m.visible ∷ after_run h m.omitted

-- PROPER AND INCLUDED: a start is a proper one where the term that is left takes it; ANY takes
-- each declared type (11.2.4, 11.2.5)
abbrev pub is_proper_for : Context → Content → Token → Bool
is_proper_for s (Model term) k = is_some (left_by (left_of s) k)
is_proper_for s Any k = is_declared_token s.doctype k
is_proper_for s content k = false

abbrev pub is_proper_in : Context → List Level → Token → Bool
is_proper_in s [] k = is_some (left_by (left_of s) k)
is_proper_in s (l ∷ ls) k = is_proper_for s (level_content s l) k

-- What is noted of a start where it stands, after the omitted pieces.
abbrev pub judged : Context → Kind → Kind
judged s (Start n specifications how proper at_once) =
    Start n specifications how (is_proper_in s s.levels (Some n)) (ends_at_once s.doctype n specifications)
judged s kind = kind

abbrev pub judged_piece : Context → Piece → Piece
judged_piece s p = record { kind = judged s p.kind; size = p.size; spent = p.spent }

-- THE ROWS, in their order: the tag's type isn't declared; what is open doesn't let the piece
-- stand; the omitted starts before it have no values, from the outside in; it has none.

abbrev pub unless_declared : Doctype → Name → Option Reason
unless_declared d n = if is_declared d n then None else Some Undefined

abbrev pub undefined : Context → Kind → Option Reason
undefined s (Start n specifications how proper at_once) = unless_declared s.doctype n
undefined s (End n how) = unless_declared s.doctype n
undefined s kind = None

-- the state is the one at each of the omitted starts
abbrev pub run_reason : Forms → History → List Piece → Option Reason
run_reason forms h [] = None
run_reason forms h (o ∷ os) = option_or (forms.unvalued (state h) o.kind) (run_reason forms (o ∷ h) os)

-- of the piece p, with the run os before it, after h
unfoldable pub refusal : Forms → History → List Piece → Piece → Option Reason
refusal forms h os p =
    option_or (undefined (context h) p.kind)
    (option_or (reason (context (after_run h os)) p.kind)
    (option_or (run_reason forms h os)
    (forms.unvalued (state (after_run h os)) p.kind)))

abbrev pub ends_in_finish : History → Bool
ends_in_finish [] = false
ends_in_finish (p ∷ h) = is_finish p.kind

-- READING

-- os is the longest run before the piece p that is spelled, and no reason holds after it
pub record Moves (forms : Forms) (h : History) (p : Piece) (m : Move) : Type 0 where
  pub longest : LongestRun h p.kind m.omitted
  pub visible : m.visible ≡ judged_piece (context (after_run h m.omitted)) p
  pub no_reason : refusal forms h m.omitted p ≡ None

abbrev pub MovesTo : Forms → History → Result Piece Reason → Move → Type 0
MovesTo forms h (Ok p) m = Moves forms h p m
MovesTo forms h (Err r) m = ⊥

abbrev pub answer_noted : State → Result Piece Reason → Result Piece Reason
answer_noted s (Ok p) = Ok (piece_noted s p)
answer_noted s (Err r) = Err r

-- of a document that was cut decided pieces alone are read
abbrev pub unless_undecided : Bool → Result Piece Reason → Result Piece Reason
unless_undecided true answer = Err EntityTooLarge
unless_undecided false answer = answer

-- what is spelled in a state, with what is noted of it there
abbrev pub next_answer : Forms → Bool → Outside → State → Standing → Result Piece Reason
next_answer forms was_cut outside s t =
    unless_undecided (was_cut && not (forms.decided outside s t)) (answer_noted s (forms.spelled outside s t))

-- what is spelled after h
abbrev pub spelled_next : Forms → Input → History → Result Piece Reason
spelled_next forms I h = next_answer forms I.was_cut I.outside (state h) (standing I h)

-- the move reads next
pub record Reads (forms : Forms) (I : Input) (h : History) (m : Move) : Type 0 where
  pub goes_on : IsFalse (ends_in_finish h)
  pub moves : MovesTo forms h (spelled_next forms I h) m

-- the moves read, one after another, after what was read before
abbrev pub ReadOn : Forms → Input → History → List Move → Type 0
ReadOn forms I h [] = Unit {0}
ReadOn forms I h (m ∷ ms) = Reads forms I h m × ReadOn forms I (moved_on h m) ms

abbrev pub after_moves : History → List Move → History
after_moves h [] = h
after_moves h (m ∷ ms) = after_moves (moved_on h m) ms

-- the pieces of moves, the oldest first
abbrev pub pieces : List Move → List Piece
pieces [] = []
pieces (m ∷ ms) = m.omitted ++ (m.visible ∷ pieces ms)

-- what was read of an input after these moves
abbrev pub read_by : Input → List Move → History
read_by I ms = after_moves (opening I.outside) ms

-- these moves read from the start of the input
abbrev pub ReadsFromStart : Forms → Input → List Move → Type 0
ReadsFromStart forms I ms = ReadOn forms I (opening I.outside) ms

-- the list of pieces is a front of the input: it reads
abbrev pub IsFront : Forms → Input → List Piece → Type 0
IsFront forms I ps = (ms : List Move) × ReadsFromStart forms I ms × (ps ≡ pieces ms)

-- a full document is a front that ends in the end of the document
abbrev pub IsFullDocument : Forms → Input → List Piece → Type 0
IsFullDocument forms I ps = (ms : List Move) × ReadsFromStart forms I ms × IsTrue (ends_in_finish (read_by I ms)) × (ps ≡ pieces ms)

-- STOPPING

abbrev pub StopsAt : Forms → History → Result Piece Reason → Reason → Type 0
StopsAt forms h (Err r') r = r ≡ r'
StopsAt forms h (Ok p) r = (os : List Piece) × LongestRun h p.kind os × (refusal forms h os p ≡ Some r)

-- nothing reads next, for this reason
pub record Stops (forms : Forms) (I : Input) (h : History) (r : Reason) : Type 0 where
  pub goes_on : IsFalse (ends_in_finish h)
  pub why : StopsAt forms h (spelled_next forms I h) r

-- where that is: the top of the stack of places
abbrev pub top_place : List Place → Place
top_place [] = place_at 0 0
top_place (p ∷ ps) = p

abbrev pub stop_place : History → Place
stop_place h = top_place (unread h)

-- the places of the pieces of some kind that were read, in their order; an omitted one has the place of the
-- visible piece that follows
abbrev pub with_place : Bool → Place → List Place → List Place
with_place true p ps = ps ++ (p ∷ [])
with_place false p ps = ps

abbrev pub places_of : (Kind → Bool) → History → List Place
places_of of_kind [] = []
places_of of_kind (p ∷ h) = with_place (of_kind p.kind) (stop_place h) (places_of of_kind h)

-- those of the starts (7.4)
abbrev pub start_places : History → List Place
start_places h = places_of is_start h

-- those of the instructions (8)
abbrev pub instruction_places : History → List Place
instruction_places h = places_of shows_instruction h

-- nothing reads after these moves: they end in the document's end, or reading stops there
abbrev pub IsOver : Forms → Input → History → Type 0
IsOver forms I h = IsTrue (ends_in_finish h) ⊎ ((r : Reason) × Stops forms I h r)

abbrev pub IsPrefix : {A : Type 0} → List A → List A → Type 0
IsPrefix xs ys = (zs : List _) × (ys ≡ xs ++ zs)

-- A BORDER: a place between two pieces of the instance at which only the document is on the stack
abbrev pub is_after_subset : Stage → Bool
is_after_subset AfterSubset = true
is_after_subset _ = false

abbrev pub is_border : History → Bool
is_border h = is_after_subset (state h).stage && (((state h).texts == 1) && not (ends_in_finish h))

abbrev pub has_border : History → Bool
has_border [] = false
has_border (p ∷ h) = is_border (p ∷ h) || has_border h

abbrev pub had_border : History → Bool
had_border [] = false
had_border (p ∷ h) = has_border h

-- THE FIRST BORDER is where the document type declaration ends (7.1, 11.1)
abbrev pub is_first_border : History → Bool
is_first_border h = is_border h && not (had_border h)

-- what was read up to there, once it is reached
abbrev pub prolog_of : History → History
prolog_of [] = []
prolog_of (p ∷ h) = if has_border h then prolog_of h else (if is_border (p ∷ h) then (p ∷ h) else [])

-- AGREEMENT: two histories, each of an input, that agree in all that reading on depends on
pub record Agree (I J : Input) (h k : History) : Type 0 where
  pub states : state h ≡ state k
  pub unread_texts : standing I h ≡ standing J k
  pub outsides : I.outside ≡ J.outside
  pub cuts : I.was_cut ≡ J.was_cut
  pub finishes : ends_in_finish h ≡ ends_in_finish k

-- MORE OF THE DOCUMENT at its end, which may have been cut there or not
abbrev pub with_more : Input → List ℕ → Bool → Input
with_more I bytes cut = record { document = I.document ++ bytes; was_cut = cut; outside = I.outside }

-- it stands behind what is unread of the document, which is number 0
abbrev pub more_of : List ℕ → ℕ → List ℕ → List ℕ
more_of bytes number bs = if number == 0 then bs ++ bytes else bs

abbrev pub rest_with_more : List ℕ → Rest → Rest
rest_with_more bytes r = record { entity = r.entity; bytes = more_of bytes r.entity r.bytes }

abbrev pub standing_with_more : List ℕ → Standing → Standing
standing_with_more bytes s = record { rests = map (rest_with_more bytes) s.rests; spent = s.spent }

abbrev pub length_of_first : List Rest → ℕ
length_of_first [] = 0
length_of_first (r ∷ rs) = length r.bytes

-- A decided answer is that of each text that begins so, where it is decided too, and it takes no byte
-- that isn't there yet.
pub record Decides (forms : Forms) : Type 0 where
  pub same : (outside : Outside) (s : State) (t : Standing) (bytes : List ℕ) → IsTrue (forms.decided outside s t) →
      forms.spelled outside s (standing_with_more bytes t) ≡ forms.spelled outside s t
  pub stays : (outside : Outside) (s : State) (t : Standing) (bytes : List ℕ) → IsTrue (forms.decided outside s t) →
      IsTrue (forms.decided outside s (standing_with_more bytes t))
  pub within : (outside : Outside) (s : State) (t : Standing) (p : Piece) → IsTrue (forms.decided outside s t) →
      forms.spelled outside s t ≡ Ok p → p.size ≤ length_of_first t.rests

-- what stands next after h is decided
abbrev pub IsDecided : Forms → Input → History → Type 0
IsDecided forms I h = IsTrue (forms.decided I.outside (state h) (standing I h))

-- the moves read, and each is decided where it stands
abbrev pub ReadDecided : Forms → Input → History → List Move → Type 0
ReadDecided forms I h [] = Unit {0}
ReadDecided forms I h (m ∷ ms) = IsDecided forms I h × Reads forms I h m × ReadDecided forms I (moved_on h m) ms
