-- What is told of a list of pieces: its events, with each record end that is data at its place.
use Rattle.std.specs.Prelude.{ℕ, Bool, true, false, ◌&&◌, Option, Some, None, List, [], ◌∷◌, ◌++◌, map, if◌then◌else◌}
use Rattle.sgml_records.specs.Items.{Item, RecordEnd, RecordStart, Data as DataItem, Subelement, Markup}
use Rattle.sgml_records.specs.Facts.{Facts, releases, one_waits, takes_end, noted}
use Rattle.sgml_dtd.specs.entity.declared.kinds.Body.{Body}
use Rattle.sgml_dtd.specs.entity.declared.kinds.Body.TheVariants as body
use Rattle.sgml_dtd.specs.Doctypes.{Doctype}
use Rattle.sgml_theory_reading.specs.Names.{Name, Text}
use Rattle.sgml_theory_reading.specs.Types.{body_of}
use Rattle.sgml_theory_reading.specs.Pieces.{Piece, Kind, Start, End, Char, Data, DataRef, Pi, ShortRef, Meaning, Ordinary, ToText, ToData, ToExternalData, ToInstruction, History}
use Rattle.sgml_theory_reading.specs.Facets.{items_of, sub_or_mark, byte_item, start_item}
use Rattle.sgml_theory_reading.specs.Nest.{Open, nest, items}
use Rattle.sgml_theory_reading.specs.State.{State, state, after_piece}
use Rattle.sgml_theory_reading.specs.Characters.{facts_in}
use Rattle.sgml_theory_reading.specs.Reads.{Attribute, Forms}

pub data Event : Type 0 where
  Started : (element : Name) (attributes : List Attribute) → Event
  Ended : (element : Name) → Event
  -- a data character
  Byte : (byte : ℕ) → Event
  -- the text of an internal SDATA entity
  SpecificData : (entity : ℕ) (text : Text) → Event
  -- a reference to an external data entity
  External : (entity : ℕ) → Event
  -- one that stands in a text (8), or is the text of a PI entity (10.5.3)
  Instruction : (text : Text) (entity : Option ℕ) → Event

-- an item of a piece, with its events; or events that stand for no item
pub record Shown : Type 0 where
  pub item : Option Item
  pub events : List Event

abbrev pub shown_byte : ℕ → Item → Shown
shown_byte b DataItem = record { item = Some DataItem; events = Byte b ∷ [] }
shown_byte b item = record { item = Some item; events = [] }

abbrev pub shown_bytes : List ℕ → List Shown
shown_bytes [] = []
shown_bytes (b ∷ bs) = shown_byte b (byte_item b) ∷ shown_bytes bs

-- items that show nothing
abbrev pub silent : List Item → List Shown
silent [] = []
silent (i ∷ is) = record { item = Some i; events = [] } ∷ silent is

abbrev pub ended_at_once : Name → Bool → List Event
ended_at_once n true = Ended n ∷ []
ended_at_once n false = []

-- an internal data entity, which is data also where its text is empty
abbrev pub body_events : ℕ → Option Body → List Event
body_events e (Some (body.Cdata text)) = map (λ b. Byte b) text
body_events e (Some (body.Sdata text)) = SpecificData e text ∷ []
body_events e _ = []

abbrev pub shown_data : Doctype → ℕ → Shown
shown_data d e = record { item = Some DataItem; events = body_events e (body_of d e) }

abbrev pub shown_external : ℕ → Shown
shown_external e = record { item = Some DataItem; events = External e ∷ [] }

abbrev pub shown_instruction : Text → Option ℕ → Shown
shown_instruction text entity = record { item = Some Markup; events = Instruction text entity ∷ [] }

abbrev pub shown_meaning : Doctype → List ℕ → Meaning → List Shown
shown_meaning d string (Ordinary true content) = shown_bytes string
shown_meaning d string (Ordinary false content) = []
shown_meaning d string (ToText e) = silent (start_item string)
shown_meaning d string (ToData e) = silent (start_item string) ++ (shown_data d e ∷ [])
shown_meaning d string (ToExternalData e) = silent (start_item string) ++ (shown_external e ∷ [])
shown_meaning d string (ToInstruction e text) = silent (start_item string) ++ (shown_instruction text (Some e) ∷ [])

-- what a piece shows, in the state before it
unfoldable pub shown : Forms → State → Kind → List Shown
shown forms s (Start n specifications how proper at_once) =
    record {
      item = Some (sub_or_mark proper);
      events = Started n (forms.valued s (Start n specifications how proper at_once)) ∷ ended_at_once n at_once;
    } ∷ []
shown forms s (End n how) = record { item = None; events = Ended n ∷ [] } ∷ []
shown forms s (Char b) = record { item = Some DataItem; events = Byte b ∷ [] } ∷ []
shown forms s (Data e) = shown_data s.context.doctype e ∷ []
shown forms s (DataRef e) = shown_external e ∷ []
shown forms s (Pi text entity) = shown_instruction text entity ∷ []
shown forms s (ShortRef string meaning) = shown_meaning s.context.doctype string meaning
shown forms s kind = silent (items_of kind)

-- BY SEARCH: the record end that waits is put out directly before the item that releases it
abbrev pub put_out : List Item → Item → List Event
put_out earlier item = if releases item earlier && one_waits earlier then Byte 13 ∷ [] else []

abbrev pub told_item : List Item → Option Item → List Event
told_item earlier None = []
told_item earlier (Some item) = put_out earlier item

abbrev pub with_item : Option Item → List Item → List Item
with_item None earlier = earlier
with_item (Some item) earlier = item ∷ earlier

abbrev pub told : List Item → List Shown → List Event
told earlier [] = []
told earlier (s ∷ ss) = (told_item earlier s.item ++ s.events) ++ told (with_item s.item earlier) ss

-- the items of the innermost element
abbrev pub items_in : List Open → List Item
items_in [] = []
items_in (o ∷ os) = items o.inside

unfoldable pub events : Forms → History → List Event
events forms [] = []
events forms (p ∷ h) = events forms h ++ told (items_in (nest h)) (shown forms (state h) p.kind)

-- the texts of the instructions among events
abbrev pub instructions : List Event → List Text
instructions [] = []
instructions (Instruction text entity ∷ es) = text ∷ instructions es
instructions (e ∷ es) = instructions es

-- BY STEPS
abbrev pub releases_by : Facts → Item → Bool
releases_by f RecordEnd = takes_end f && f.waiting
releases_by f DataItem = f.waiting
releases_by f Subelement = f.waiting
releases_by f RecordStart = false
releases_by f Markup = false

abbrev pub told_item_by : Facts → Option Item → List Event
told_item_by f None = []
told_item_by f (Some item) = if releases_by f item then Byte 13 ∷ [] else []

abbrev pub noted_option : Facts → Option Item → Facts
noted_option f None = f
noted_option f (Some item) = noted f item

abbrev pub told_by : Facts → List Shown → List Event
told_by f [] = []
told_by f (s ∷ ss) = (told_item_by f s.item ++ s.events) ++ told_by (noted_option f s.item) ss

-- what a piece tells, from the state before it alone
abbrev pub events_at : Forms → State → Piece → List Event
events_at forms s p = told_by (facts_in s.record_ends) (shown forms s p.kind)

-- what pieces tell, from the state before them alone
abbrev pub events_of_run : Forms → State → List Piece → List Event
events_of_run forms s [] = []
events_of_run forms s (p ∷ ps) = events_at forms s p ++ events_of_run forms (after_piece p s) ps
