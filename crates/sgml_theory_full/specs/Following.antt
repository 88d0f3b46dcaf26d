-- THE EVENTS OF WHAT WAS READ may be written, with each tag and each record end that is data.
use Rattle.std.specs.Prelude.{◌≡◌, ◌⊎◌, ℕ, Bool, true, false, List, [], ◌∷◌, ◌++◌, map}
use Rattle.sgml_theory_values.specs.records.Facts.{Facts, takes_end}
use Rattle.sgml_theory_values.specs.delim.declared.delim.Mode.{Mode}
use Rattle.sgml_theory_values.specs.delim.declared.delim.Mode.TheVariants as mode
use Rattle.sgml_theory_values.specs.dtd_maps.declared.uses.MapOf.{MapOf}
use Rattle.sgml_theory_values.specs.dtd_maps.declared.uses.MapOf.TheVariants as map_of
use Rattle.sgml_theory_values.specs.dtd.Doctypes.{Doctype}
use Rattle.sgml_theory_values.specs.theory_reading.Names.{Name}
use Rattle.sgml_theory_values.specs.theory_reading.Types.{content_of, type_of, body_of}
use Rattle.sgml_theory_values.specs.theory_reading.Pieces.{Piece, Kind, Specification, How, Meaning, Ordinary, ToText, ToData, ToExternalData, ToInstruction, Start, End, Char, Data, DataRef, Re, Rs, Sep, ShortRef, Ref, EntityEnd, SectionStart, SectionEnd, Skipped, Pi, Comment, UseMap}
use Rattle.sgml_theory_values.specs.theory_reading.Facets.{AfterSubset}
use Rattle.sgml_theory_values.specs.theory_reading.Nest.{without_first}
use Rattle.sgml_theory_values.specs.theory_reading.Context.{Level, Context, context_after}
use Rattle.sgml_theory_values.specs.theory_reading.State.{State, after_piece}
use Rattle.sgml_theory_values.specs.theory_reading.Characters.{facts_in, ordinary}
use Rattle.sgml_theory_values.specs.theory_reading.Events.{Event as Said, body_events, events_of_run}
use Rattle.sgml_theory_values.specs.theory_reading.Outcome.{state_after}
use Rattle.sgml_theory_values.specs.theory_spelling.Places.{content_mode}
use Rattle.sgml_theory_values.specs.theory_spelling.Spelled.{forms}
use Rattle.sgml_theory_values.specs.Laws.{HasValues}
use Rattle.sgml_theory_written.specs.Alike.{plain_level}
use Rattle.sgml_theory_full.specs.Named.{AllAre, IsWritten}
use Rattle.sgml_theory_full.specs.Spellings.{after_all, spellings}
use Rattle.sgml_theory_full.specs.Points.{HasReferences, HasEndTags}
use Rattle.sgml_theory_full.specs.Written.{state_by}
use Rattle.sgml_theory_full.specs.Standing.{StartStands, EndStands, DataStands}
use Rattle.sgml_theory_full.specs.Conforming.{IsPlain, mode_in, RawMayBe, Within, InContent, AtEnd, InCdata, inside_for, EventsMayBe}

-- a record end waits in the innermost element (7.6.1)
abbrev pub waits : State → Bool
waits s = (facts_in s.record_ends).waiting

-- WHAT HOLDS OF A PIECE of an instance that is read in a state

-- data may stand there, where references are recognised
pub record DataHolds (s : State) : Type 0 where
  pub stands : DataStands s
  pub mode : HasReferences (mode_in s)

-- a start, visible or left out, whose attributes have values; an included one follows no record end that waits
pub record StartHolds (s : State) (n : Name) (ss : List Specification) (how : How) (proper at_once : Bool)
    : Type 0 where
  pub stands : StartStands s n ss proper at_once
  pub has_values : HasValues s (Start n ss how proper at_once)
  pub quiet : proper ≡ false → waits s ≡ false

-- an end, visible or left out, of the innermost element, which may end there
pub record EndHolds (s : State) (n : Name) : Type 0 where
  pub stands : EndStands s n
  pub mode : HasEndTags (mode_in s)

-- data of an entity has an event: an empty text has none
abbrev pub has_events : List Said → Bool
has_events [] = false
has_events (e ∷ es) = true

-- A SHORT REFERENCE (9.4.6, 11.5): a string that is mapped to an entity is what a reference to it is
abbrev pub HasRecordEnds : State → Type 0
HasRecordEnds s = (f : Facts) × (outer : List Facts) × (s.record_ends ≡ f ∷ outer)

-- a string that stands for itself: what is noted of it is so there, it has items in an element alone, and its data may stand
pub record StringHolds (s : State) (string : List ℕ) (has_items content : Bool) : Type 0 where
  pub noted : ordinary s string ≡ Ordinary has_items content
  pub within : has_items ≡ true → HasRecordEnds s
  pub may : content ≡ true → DataHolds s

abbrev pub MeaningHolds : State → List ℕ → Meaning → Type 0
MeaningHolds s string (Ordinary has_items content) = StringHolds s string has_items content
MeaningHolds s string (ToText e) = Unit {0}
MeaningHolds s string (ToData e) = DataHolds s × (has_events (body_events e (body_of s.context.doctype e)) ≡ true)
MeaningHolds s string (ToExternalData e) = DataHolds s
MeaningHolds s string (ToInstruction e text) = Unit {0}

abbrev pub Holds : State → Kind → Type 0
Holds s (Start n ss how proper at_once) = StartHolds s n ss how proper at_once
Holds s (End n how) = EndHolds s n
Holds s (Char b) = DataHolds s ⊎ RawMayBe s b
Holds s (Data e) = DataHolds s × (has_events (body_events e (body_of s.context.doctype e)) ≡ true)
Holds s (DataRef e) = DataHolds s × (mode_in s ≡ mode.Con)
Holds s (Re live) = (live ≡ takes_end (facts_in s.record_ends)) × (live ≡ true → DataHolds s ⊎ (mode_in s ≡ mode.Cdt))
Holds s (Pi text entity) = mode_in s ≡ mode.Con
Holds s Rs = Unit {0}
Holds s (Sep b) = Unit {0}
Holds s (ShortRef string meaning) = (mode_in s ≡ mode.Con) × MeaningHolds s string meaning
Holds s (Ref e) = Unit {0}
Holds s EntityEnd = Unit {0}
Holds s (SectionStart status) = Unit {0}
Holds s SectionEnd = Unit {0}
Holds s (Skipped b) = Unit {0}
Holds s Comment = Unit {0}
Holds s (UseMap m) = Unit {0}
Holds s _ = ⊥

-- of each piece in its state
abbrev pub AllHold : State → List Piece → Type 0
AllHold s [] = Unit {0}
AllHold s (p ∷ ps) = Holds s p.kind × AllHold (after_piece p s) ps

-- THE STATES of what was read and of what is written of it: the written one is plain, and knows the same elements with
-- the same left of each; but where a record end waits, its datum is still to be written

abbrev pub bared : Context → Context
bared c = record { doctype = c.doctype; levels = map plain_level c.levels; begun = c.begun; inferred = false }

-- a datum
abbrev pub datum : Piece
datum = record { kind = Char 0; size = 0; spent = 0 }

abbrev pub LikeContexts : Bool → State → State → Type 0
LikeContexts false a b = b.context ≡ bared a.context
LikeContexts true a b = (context_after datum b.context ≡ bared a.context) × DataHolds b

pub record Follows (a b : State) : Type 0 where
  pub plain : IsPlain b
  pub quiet : AllAre (λ (f : Facts). f.waiting ≡ false) (without_first a.record_ends)
  pub like : LikeContexts (waits a) a b

-- references are recognised in the innermost element, and tags in those outside it (9.6.1)
abbrev pub mode_of : Doctype → Level → Mode
mode_of d l = content_mode (content_of (type_of d l.element))

abbrev pub AreReferring : List Mode → Type 0
AreReferring [] = Unit {0}
AreReferring (m ∷ ms) = HasReferences m × AllAre (λ (n : Mode). n ≡ mode.Con) ms

abbrev pub IsReferring : Context → Type 0
IsReferring c = AreReferring (map (mode_of c.doctype) c.levels)

-- in CDATA content, of an element within these others, a record end may wait in the written state
pub record IsInCdata (d : Doctype) (element : Name) (outer : List Level) (begun : Bool) (b : State) : Type 0 where
  pub types : b.context.doctype ≡ d
  pub level : Level
  pub levels : b.context.levels ≡ level ∷ outer
  pub its : level.element ≡ element
  pub begun_is : b.context.begun ≡ begun
  pub over : b.stage ≡ AfterSubset
  pub no_section : b.sections ≡ []
  pub no_net : AllAre (λ (l : Level). l.slash ≡ false) b.context.levels
  pub no_setting : AllAre (λ (m : MapOf). m ≡ map_of.Parent) b.map_settings
  pub none_waits : AllAre (λ (f : Facts). f.waiting ≡ false) (without_first b.record_ends)

-- the innermost element of what was read is one with CDATA content, and is so in what is written
pub record FollowsInCdata (a b : State) : Type 0 where
  pub innermost : Level
  pub outer : List Level
  pub levels : a.context.levels ≡ innermost ∷ outer
  pub outer_modes : AllAre (λ (n : Mode). n ≡ mode.Con) (map (mode_of a.context.doctype) outer)
  pub mode : mode_in a ≡ mode.Cdt
  pub quiet : AllAre (λ (f : Facts). f.waiting ≡ false) (without_first a.record_ends)
  pub written : IsInCdata a.context.doctype innermost.element (map plain_level outer) a.context.begun b

-- where the next event is written
abbrev pub FollowsAt : Within → State → State → Type 0
FollowsAt InContent a b = Follows a b × IsReferring a.context
FollowsAt (AtEnd n) a b = ⊥
FollowsAt (InCdata begun) a b = FollowsInCdata a b

-- what follows is reached by writing these events
pub record WrittenTo (d : Doctype) (w : Within) (b : State) (es : List Said) (v : Within) (c : State) : Type 0 where
  pub may : (more : List Said) → EventsMayBe d v c more → EventsMayBe d w b (es ++ more)
  pub state_is : (more : List Said) →
      state_by b (spellings d (inside_for w) (es ++ more)) ≡ state_by c (spellings d (inside_for v) more)
  pub inside_is : after_all d (inside_for w) es ≡ inside_for v

-- LAW: the events of what was read, where each of them can be written, may be written one after another, from a state
-- that follows the one before it to one that follows the one after it.
abbrev pub ReadMayBeWritten : Type 0
ReadMayBeWritten =
    (w : Within) (a b : State) (ps : List Piece) → FollowsAt w a b → AllHold a ps
    → AllAre (IsWritten a.context.doctype) (events_of_run forms a ps)
    → (v : Within) × (c : State) × WrittenTo a.context.doctype w b (events_of_run forms a ps) v c
    × FollowsAt v (state_after a ps) c
