-- EVENTS THAT MAY BE WRITTEN, one after another, each as its pieces, with no tag left out.
use Rattle.std.specs.Prelude.{◌≡◌, ℕ, Bool, true, false, List, [], ◌∷◌, ◌++◌, IsFalse, if◌then◌else◌, IsTrue}
use Rattle.sgml_theory_values.specs.records.Facts.{Facts}
use Rattle.sgml_theory_values.specs.delim.declared.delim.Mode.{Mode}
use Rattle.sgml_theory_values.specs.delim.declared.delim.Mode.TheVariants as mode
use Rattle.sgml_theory_values.specs.dtd_maps.declared.uses.MapOf.{MapOf}
use Rattle.sgml_theory_values.specs.dtd_maps.declared.uses.MapOf.TheVariants as map_of
use Rattle.sgml_theory_values.specs.dtd.Doctypes.{Doctype}
use Rattle.sgml_theory_values.specs.theory_reading.Names.{Name, Text}
use Rattle.sgml_theory_values.specs.theory_reading.Types.{Content, Cdata, content_of, type_of}
use Rattle.sgml_theory_values.specs.theory_reading.Pieces.{Kind, History, Start, End, Char, Data, DataRef, Pi, Tag}
use Rattle.sgml_theory_values.specs.theory_reading.Facets.{AfterSubset}
use Rattle.sgml_theory_values.specs.theory_reading.Context.{Level}
use Rattle.sgml_theory_values.specs.theory_reading.Unread.{Input, standing}
use Rattle.sgml_theory_values.specs.theory_reading.State.{State, state}
use Rattle.sgml_theory_values.specs.theory_reading.Characters.{has_text, ends_at_once}
use Rattle.sgml_theory_values.specs.theory_reading.Reads.{Attribute, Move, ReadOn, ends_in_finish, after_moves}
use Rattle.sgml_theory_values.specs.theory_reading.Events.{Event as Said, Started, Ended, Byte, SpecificData, External, Instruction, events}
use Rattle.sgml_theory_values.specs.theory_spelling.Attributes.{valued}
use Rattle.sgml_theory_values.specs.theory_spelling.Places.{element_mode}
use Rattle.sgml_theory_values.specs.theory_spelling.Spelled.{forms}
use Rattle.sgml_theory_values.specs.full.declared.inside.Inside.{Inside}
use Rattle.sgml_theory_values.specs.full.declared.inside.Inside.TheVariants as inside
use Rattle.sgml_theory_values.specs.full.Full.{after_said}
use Rattle.sgml_theory_values.specs.Full.{value_read}
use Rattle.sgml_theory_values.specs.Starts.{specifications}
use Rattle.sgml_theory_full.specs.Named.{AllAre, IsWritten}
use Rattle.sgml_theory_full.specs.Spellings.{Spelling, line_end, text_of, spellings_of, spellings}
use Rattle.sgml_theory_full.specs.Points.{HasReferences, HasEndTags}
use Rattle.sgml_theory_full.specs.Raw.{is_raw, AllRawStand}
use Rattle.sgml_theory_full.specs.Written.{StandsThere, at_document, moves_of, state_by, ReadAsWritten}

-- THE STATE after a prolog and what is written behind it: no section is open, NET isn't enabled, no map was set, and no
-- record end waits
pub record IsPlain (s : State) : Type 0 where
  pub over : s.stage ≡ AfterSubset
  pub no_section : s.sections ≡ []
  pub no_net : AllAre (λ (l : Level). l.slash ≡ false) s.context.levels
  pub no_setting : AllAre (λ (m : MapOf). m ≡ map_of.Parent) s.map_settings
  pub none_waits : AllAre (λ (f : Facts). f.waiting ≡ false) s.record_ends

-- the mode of the innermost element (9.6.1)
abbrev pub mode_in : State → Mode
mode_in s = element_mode s.context.doctype s.context.levels

abbrev pub start_kind : Doctype → Name → List Attribute → Kind
start_kind d n attributes = Start n (specifications (value_read d) attributes) Tag true false

-- a start, whose attributes have these values
pub record StartMayBe (s : State) (n : Name) (attributes : List Attribute) : Type 0 where
  pub mode : mode_in s ≡ mode.Con
  pub stands : StandsThere s (start_kind s.context.doctype n attributes)
  pub values : valued s (start_kind s.context.doctype n attributes) ≡ attributes

pub record EndMayBe (s : State) (n : Name) : Type 0 where
  pub mode : HasEndTags (mode_in s)
  pub stands : StandsThere s (End n Tag)

-- data, where references are recognised
pub record DataMayBe (s : State) (k : Kind) : Type 0 where
  pub mode : HasReferences (mode_in s)
  pub text : has_text s ≡ true
  pub stands : StandsThere s k

-- external data and instructions, which stand in no replaceable character data
pub record OtherMayBe (s : State) (k : Kind) : Type 0 where
  pub mode : mode_in s ≡ mode.Con
  pub stands : StandsThere s k

abbrev pub MayBeWritten : State → Said → Type 0
MayBeWritten s (Started n attributes) = StartMayBe s n attributes
MayBeWritten s (Ended n) = EndMayBe s n
MayBeWritten s (Byte b) = DataMayBe s (Char b)
MayBeWritten s (SpecificData e text) = DataMayBe s (Data e)
MayBeWritten s (External e) = OtherMayBe s (DataRef e)
MayBeWritten s (Instruction text entity) = OtherMayBe s (Pi text entity)

-- data as it stands in CDATA content
pub record RawMayBe (s : State) (b : ℕ) : Type 0 where
  pub mode : mode_in s ≡ mode.Cdt
  pub character : is_raw b ≡ true

-- WHERE AN EVENT is written: where references are recognised; behind the start of an element that ends at once (7.3,
-- 11.3.4); or in CDATA content, of which lines were written or not
pub data Within : Type 0 where
  InContent : Within
  AtEnd : (name : Name) → Within
  InCdata : (begun : Bool) → Within

abbrev pub inside_for : Within → Inside
inside_for InContent = inside.Mixed
inside_for (AtEnd n) = inside.Nothing
inside_for (InCdata false) = inside.Characters
inside_for (InCdata true) = inside.Lines

abbrev pub within_content : Content → Within
within_content Cdata = InCdata false
within_content _ = InContent

-- and where the next is, after one where references are recognised
abbrev pub within_after : Doctype → Said → Within
within_after d (Started n attributes) =
    if ends_at_once d n (specifications (value_read d) attributes) then AtEnd n
    else within_content (content_of (type_of d n))
within_after d e = InContent

-- the lines of CDATA content end before its end-tag
abbrev pub lines_ended : Bool → List Spelling
lines_ended begun = if begun then line_end else []

-- ALL OF THEM, one after another: an element that ends at once is told to end next
abbrev pub EventsMayBe : Doctype → Within → State → List Said → Type 0
EventsMayBe d w s [] = w ≡ InContent
EventsMayBe d InContent s (e ∷ es) =
    MayBeWritten s e
    × (after_said d inside.Mixed e ≡ inside_for (within_after d e))
    × EventsMayBe d (within_after d e) (state_by s (spellings_of d inside.Mixed e)) es
EventsMayBe d (AtEnd n) s (e ∷ es) = (e ≡ Ended n) × EventsMayBe d InContent s es
EventsMayBe d (InCdata begun) s (Byte b ∷ es) =
    RawMayBe s b × EventsMayBe d (InCdata true) (state_by s (spellings_of d (inside_for (InCdata begun)) (Byte b))) es
EventsMayBe d (InCdata begun) s (Ended n ∷ es) =
    EndMayBe (state_by s (lines_ended begun)) n
    × EventsMayBe d InContent (state_by s (spellings_of d (inside_for (InCdata begun)) (Ended n))) es
EventsMayBe d (InCdata begun) s (e ∷ es) = ⊥

-- what is read of them
pub record EventsRead (I : Input) (h : History) (spent : ℕ) (d : Doctype) (es : List Said) (rest : Text) : Type 0 where
  pub written : ReadAsWritten I h spent (spellings d inside.Mixed es) rest
  pub told : events forms (after_moves h (moves_of (state h) (spellings d inside.Mixed es))) ≡ events forms h ++ es
  pub plain : IsPlain (state_by (state h) (spellings d inside.Mixed es))

-- LAW: events that may be written one after another are read from what is written of them: these events are told, and no
-- tag is left out.
abbrev pub WrittenEventsAreRead : Type 0
WrittenEventsAreRead =
    (I : Input) (h : History) (spent : ℕ) (es : List Said) (rest : Text) → I.was_cut ≡ false → IsFalse (ends_in_finish h) → IsPlain (state h)
    → AllAre (IsWritten (state h).context.doctype) es → AllRawStand (state h).context.doctype inside.Mixed es
    → EventsMayBe (state h).context.doctype InContent (state h) es
    → standing I h ≡ at_document spent (text_of (spellings (state h).context.doctype inside.Mixed es) ++ rest)
    → EventsRead I h spent (state h).context.doctype es rest

-- THE INSTANCE is over: no element is open, and one was begun (7.2)
pub record IsOver (s : State) : Type 0 where
  pub closed : s.context.levels ≡ []
  pub begun : s.context.begun ≡ true

-- what is read up to the end of the document, with no tag left out
pub record InstanceRead (I : Input) (h : History) (es : List Said) : Type 0 where
  pub moves : List Move
  pub reads : ReadOn forms I h moves
  pub over : IsTrue (ends_in_finish (after_moves h moves))
  pub told : events forms (after_moves h moves) ≡ events forms h ++ es
  pub none_omitted : AllAre (λ (m : Move). m.omitted ≡ []) moves

-- LAW: so is an instance read to its end from what is written of its events, and a record end.
abbrev pub WrittenInstancesAreRead : Type 0
WrittenInstancesAreRead =
    (I : Input) (h : History) (spent : ℕ) (es : List Said) → I.was_cut ≡ false → IsFalse (ends_in_finish h) → IsPlain (state h)
    → AllAre (IsWritten (state h).context.doctype) es → AllRawStand (state h).context.doctype inside.Mixed es
    → EventsMayBe (state h).context.doctype InContent (state h) es
    → IsOver (state_by (state h) (spellings (state h).context.doctype inside.Mixed es))
    → standing I h ≡ at_document spent (text_of (spellings (state h).context.doctype inside.Mixed es) ++ 13 ∷ [])
    → InstanceRead I h es
