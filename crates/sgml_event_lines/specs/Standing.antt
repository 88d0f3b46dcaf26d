-- Where a writer of events stands.
use Rattle.std.specs.Prelude.{◌≡◌, ℕ, ◌<◌, length, get_or, ◌⊎◌, Bool, true, false, if◌then◌else◌, ◌&&◌, Option, None, List, [], ◌∷◌, ◌++◌, flat_map, map, codes, Result}
use Rattle.sgml_io.specs.Causes.{CountsFault}
use Rattle.sgml_io.specs.Writes.{Writes}
use Rattle.sgml_esis.specs.Writing.{Stands, Puts, PutsInto}
use Rattle.sgml_esis.specs.Short.{short_end}
use Rattle.sgml_esis.specs.Spelling.{spell_byte, spell_escaped, spell_names, spell_lines}
use Rattle.sgml_text.specs.Characters.{is_separator}
use Rattle.sgml_text.specs.declared.unit.Unit.{Unit as AnyUnit}
use Rattle.sgml_text.specs.declared.data_kind.DataKind.{DataKind}
use Rattle.sgml_attr.specs.declared.definition.Definition.{Definition}
use Rattle.sgml_attr.specs.declared.value.AttrValue.{AttrValue}
use Rattle.sgml_attr.specs.declared.value.AttrValue.TheVariants as value
use Rattle.sgml_entity.specs.declared.kinds.Body.{Body}
use Rattle.sgml_entity.specs.declared.kinds.External.{External}
use Rattle.sgml_dtd.specs.Doctypes.{Doctype}
use Rattle.sgml_theory_reading.specs.Names.{Name}
use Rattle.sgml_theory_reading.specs.Types.{name_of_entity}
use Rattle.sgml_theory_reading.specs.Lines.{Line, StartLine, FinishLine, PiLine, DataRefLine, Known, none_known, lines_of, appinfo_lines, unit_shape, define_notation, define_entity, define_entities, define_as, value_line, attribute_lines}
use Rattle.sgml_events.specs.declared.event.Event.{Event}
use Rattle.sgml_events.specs.declared.event.Event.TheVariants as event
use Rattle.sgml_event_lines.specs.declared.pen.Pen.{Pen}
use Rattle.sgml_event_lines.specs.declared.writer.Writer.{Writer}
use Rattle.sgml_said.specs.Told.{all_said, said_data, name_at, definitions_at, attributes_with}
use Rattle.sgml_event_lines.specs.Shown.{shape_units}
use Rattle.sgml_event_lines.specs.Lines.{lines_told}
use Rattle.sgml_event_lines.specs.Placed.{Placing, placed, placed_line, external_placed}
use Rattle.sgml_event_lines.specs.Spelled.{spelled, closing, Open, all_added, opened}
use Rattle.sgml_event_lines.specs.Marks.{AreMarks}

-- the bytes of a text, and of a unit of data
abbrev pub text_bytes : List ℕ → List ℕ
text_bytes text = flat_map spell_byte text

abbrev pub unit_bytes : Doctype → AnyUnit → List ℕ
unit_bytes d u = spell_escaped (shape_units (unit_shape d u))

-- what a byte adds to a text whose white space is made single
abbrev pub spaced_bytes : Bool → Bool → ℕ → List ℕ
spaced_bytes begun pending b = if is_separator b then [] else ((if begun && pending then 32 ∷ [] else []) ++ spell_byte b)

-- lines with their definitions were put, whatever was known before
pub record Defines (d : Doctype) (f : Placing) (taken_old : Option (List ℕ)) (faults_old : ℕ) (old : Pen) (taken_new : Option (List ℕ)) (faults_new : ℕ) (new : Pen) : Type 0 where
  pub puts : (known : Known) → AreMarks d known old.entities.items old.notations.items → Puts taken_old faults_old old.held taken_new faults_new new.held (spelled (f known).lines)
  pub marks : (known : Known) → AreMarks d known old.entities.items old.notations.items → AreMarks d (f known).known new.entities.items new.notations.items

-- the same into a sink of which it is told what it has taken and how often it failed
abbrev pub DefinesInto : {S : Type 0} → Doctype → (Doctype → Placing) → (S → Option (List ℕ)) → (S → ℕ) → S → Pen → S → Pen → Type 0
DefinesInto d f taken faults sink pen sink_now pen_now = Defines d (f d) (taken sink) (faults sink) pen (taken sink_now) (faults sink_now) pen_now

-- definitions that come before a line: of a notation, of an entity, of entities, of an entity of this body, and of a data
-- entity in a file
abbrev pub notation_placed : Name → Doctype → Placing
notation_placed name d known = define_notation d known name

abbrev pub entity_placed : Name → Doctype → Placing
entity_placed name d known = define_entity d known name

abbrev pub entities_placed : List ℕ → Doctype → Placing
entities_placed numbers d known = define_entities d known (map (name_of_entity d) numbers)

abbrev pub body_placed : Name → Body → Doctype → Placing
body_placed name body d known = define_as d known name body

abbrev pub filed : Name → DataKind → External → Name → Doctype → Placing
filed name kind external notation d = external_placed d name kind external notation

-- what a value names, and what stands behind an attribute's name on the line of a value
abbrev pub value_defined : Doctype → AttrValue → Placing
value_defined d (value.Notation n) known = define_notation d known n
value_defined d (value.Entities es) known = define_entities d known (map (name_of_entity d) es)
value_defined d _ known = record { lines = []; known = known }

abbrev pub value_named : AttrValue → Doctype → Placing
value_named v d = value_defined d v

abbrev pub value_bytes : Doctype → AttrValue → List ℕ
value_bytes d value.Implied = codes " IMPLIED"
value_bytes d (value.Cdata units) = codes " CDATA " ++ flat_map (unit_bytes d) units
value_bytes d (value.Notation n) = codes " NOTATION " ++ n
value_bytes d (value.Entities es) = codes " ENTITY" ++ spell_names (map (name_of_entity d) es)
value_bytes d (value.Tokens ts) = codes " TOKEN" ++ spell_names ts

-- the lines of a start of these definitions, of a start, and of an event that isn't data
abbrev pub start_lines_by : Doctype → List Definition → ℕ → List AttrValue → List Line
start_lines_by d definitions element values = attribute_lines d (attributes_with definitions values) ++ (StartLine (name_at d element) ∷ [])

abbrev pub start_lines : Doctype → ℕ → List AttrValue → List Line
start_lines d element values = start_lines_by d (definitions_at d element) element values

abbrev pub mark_lines : Doctype → Event → List Line
mark_lines d (event.Start element place values) = start_lines d element values
mark_lines d (event.End element) = FinishLine (name_at d element) ∷ []
mark_lines d (event.Chars units) = []
mark_lines d (event.Pi text entity place) = PiLine text ∷ []
mark_lines d (event.DataRef e) = DataRefLine (name_of_entity d e) ∷ []

-- lines, each behind the definitions of what it names: of a value, of values, of a reference to data, and of an event
abbrev pub value_placed : Name → AttrValue → Doctype → Placing
value_placed name v d = placed_line d (value_line d name v)

abbrev pub values_placed : List Definition → List AttrValue → Doctype → Placing
values_placed definitions values d = placed d (attribute_lines d (attributes_with definitions values))

abbrev pub reference_placed : ℕ → Doctype → Placing
reference_placed e d = placed_line d (DataRefLine (name_of_entity d e))

abbrev pub event_placed : Event → Doctype → Placing
event_placed e d = placed d (mark_lines d e)

-- nothing is known and no line is open
abbrev pub nothing_open : Open
nothing_open = record { known = none_known; within = false }

-- the name of each element type with the end of its line, where it is short
abbrev pub AreLines : Doctype → List (List ℕ) → Type 0
AreLines d lines = (n : ℕ) → n < length lines → get_or lines n [] ≡ short_end (name_at d n)

-- the line of a mark and an element type's name, behind the end of an open line
abbrev pub element_line : Doctype → Bool → ℕ → ℕ → List ℕ
element_line d within mark element = closing within ++ (mark ∷ name_at d element ++ 10 ∷ [])

-- it is put, where the lines of the element types' names are these
abbrev pub PutsElementLine : {S : Type 0} → Doctype → List (List ℕ) → Bool → ℕ → ℕ → (S → Option (List ℕ)) → (S → ℕ) → S → List ℕ × Bool → S → List ℕ × Bool → Type 0
PutsElementLine d lines within mark element taken faults sink held sink_now held_now =
    AreLines d lines → PutsInto taken faults sink held sink_now held_now (element_line d within mark element)

abbrev pub PutsName : {S : Type 0} → Doctype → ℕ → ℕ → (S → Option (List ℕ)) → (S → ℕ) → S → Writer → S → Writer → Type 0
PutsName d mark element taken faults sink w sink_now w_now =
    PutsElementLine d w.lines.items w.within mark element taken faults sink w.pen.held sink_now w_now.pen.held

-- Since the sink had taken `start` and failed `count` times, the writer was given these lines: they were
-- put but for the end of an open line of data, and the line of APPINFO is put before the first.
pub record StandsAfterLines (start : Option (List ℕ)) (count : ℕ) (taken : Option (List ℕ)) (faults : ℕ) (w : Writer) (d : Doctype) (ls : List Line) : Type 0 where
  pub bytes : List ℕ
  pub stands : Stands start count taken faults w.pen.held bytes
  pub added : bytes ++ spelled (appinfo_lines w.head) ≡ spelled (appinfo_lines d.syntax.appinfo) ++ all_added d nothing_open ls
  pub fresh : (w.head ≡ None) ⊎ (ls ≡ [])
  pub within : w.within ≡ (opened d nothing_open ls).within
  pub marks : AreMarks d (opened d nothing_open ls).known w.pen.entities.items w.pen.notations.items
  pub lines : AreLines d w.lines.items

-- the same of the lines of events
abbrev pub StandsAfter : Option (List ℕ) → ℕ → Option (List ℕ) → ℕ → Writer → Doctype → List Event → Type 0
StandsAfter start count taken faults w d es = StandsAfterLines start count taken faults w d (lines_of d (all_said d es))

-- some lines more were given, whatever came before
pub record Goes (d : Doctype) (more : List Line) (taken_old : Option (List ℕ)) (faults_old : ℕ) (old : Writer) (taken_new : Option (List ℕ)) (faults_new : ℕ) (new : Writer) : Type 0 where
  pub goes_on : (start : Option (List ℕ)) (count : ℕ) (ls : List Line) → StandsAfterLines start count taken_old faults_old old d ls → StandsAfterLines start count taken_new faults_new new d (ls ++ more)

abbrev pub GoesInto : {S : Type 0} → Doctype → List Line → (S → Option (List ℕ)) → (S → ℕ) → S → Writer → S → Writer → Type 0
GoesInto d more taken faults sink w sink_now w_now = Goes d more (taken sink) (faults sink) w (taken sink_now) (faults sink_now) w_now

-- the lines of a start of these definitions, and of these units of data
abbrev pub StartsInto : {S : Type 0} → Doctype → List Definition → ℕ → List AttrValue → (S → Option (List ℕ)) → (S → ℕ) → S → Writer → S → Writer → Type 0
StartsInto d definitions element values taken faults sink w sink_now w_now =
    GoesInto d (start_lines_by d definitions element values) taken faults sink w sink_now w_now

abbrev pub SaysData : {S : Type 0} → List AnyUnit → (S → Option (List ℕ)) → (S → ℕ) → S → Writer → S → Writer → Type 0
SaysData units taken faults sink w sink_now w_now = (d : Doctype) → GoesInto d (lines_of d (said_data d units)) taken faults sink w sink_now w_now

-- the lines of one event more were given, whatever events came before
abbrev pub WritesEvent : {S : Type 0} → Doctype → Event → (S → Option (List ℕ)) → (S → ℕ) → S → Writer → S → Writer → Type 0
WritesEvent d e taken faults sink w sink_now w_now =
    (start : Option (List ℕ)) (count : ℕ) (es : List Event)
    → StandsAfter start count (taken sink) (faults sink) w d es → StandsAfter start count (taken sink_now) (faults sink_now) w_now d (es ++ e ∷ [])

-- the lines of all events are ended, whatever these were
abbrev pub EndsLines : {S T E : Type 0} → Bool → (S → Option (List ℕ)) → (S → ℕ) → S → Writer → S → Result T E → Type 0
EndsLines conforming taken faults sink w sink_now result =
    (start : Option (List ℕ)) (count : ℕ) (d : Doctype) (es : List Event)
    → StandsAfter start count (taken sink) (faults sink) w d es → Writes start (taken sink_now) result (spell_lines (lines_told d es conforming))

-- a fault is one that the sink counts, since any time before
abbrev pub EndsByCause : {S T E : Type 0} → (S → Option (List ℕ)) → (S → ℕ) → S → Writer → S → Result T E → Type 0
EndsByCause taken faults sink w sink_now result =
    (start : Option (List ℕ)) (count : ℕ) (d : Doctype) (es : List Event)
    → StandsAfter start count (taken sink) (faults sink) w d es → CountsFault count (faults sink_now) result

-- the same is defined
pub record SameMarks (old new : Pen) : Type 0 where
  pub entities : new.entities ≡ old.entities
  pub notations : new.notations ≡ old.notations

-- neither data nor a tag
abbrev pub is_other : Event → Bool
is_other (event.Pi text entity place) = true
is_other (event.DataRef e) = true
is_other _ = false

abbrev pub is_chars : Event → Bool
is_chars (event.Chars units) = true
is_chars _ = false
