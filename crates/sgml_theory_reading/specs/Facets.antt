-- The facets of a kind of piece: all that the definitions above know of it. A new kind adds a
-- case to each.
use Rattle.std.specs.Prelude.{ℕ, Bool, true, false, Option, Some, None, option_map, List, [], ◌∷◌, ◌++◌, ◌==◌, if◌then◌else◌}
use Rattle.sgml_records.specs.Items.{Item, RecordEnd, RecordStart, Data as DataItem, Subelement, Markup}
use Rattle.sgml_dtd.specs.entity.declared.kinds.External.{External}
use Rattle.sgml_dtd.specs.marked.declared.status.Status.{Status}
use Rattle.sgml_dtd.specs.decl_forms.declared.doctype.DoctypeHead.{DoctypeHead}
use Rattle.sgml_dtd.specs.decl_forms.declared.declaration.Declaration.TheVariants as form
use Rattle.sgml_dtd.specs.dtd_maps.declared.uses.MapOf.{MapOf}
use Rattle.sgml_dtd.specs.dtd_maps.declared.uses.MapOf.TheVariants as map_of
use Rattle.sgml_dtd.specs.dtd_maps.Tables.{numbered_map}
use Rattle.sgml_dtd.specs.Doctypes.{Doctype, with_declared}
use Rattle.sgml_theory_reading.specs.Names.{Name, Text}
use Rattle.sgml_theory_reading.specs.Pieces.{How, Slash, Omitted, Specification, Meaning, Ordinary, ToText, ToData, ToExternalData, ToInstruction, Kind, Sgml, Head, Declare, SubsetEnd, Start, End, Char, Data, DataRef, Re, Rs, Sep, ShortRef, Ref, EntityEnd, SectionStart, SectionEnd, Skipped, Pi, Comment, UseMap, Finish}

-- WHAT IS OPEN

pub data Effect : Type 0 where
  -- begins an element
  Opens : (element : Name) (slash : Bool) → Effect
  -- ends the innermost element
  Closes : Effect
  -- stands in the innermost element
  Stays : Effect

abbrev pub is_omitted_how : How → Bool
is_omitted_how Omitted = true
is_omitted_how _ = false

abbrev pub is_slash : How → Bool
is_slash Slash = true
is_slash _ = false

abbrev pub effect_of_start : Name → How → Bool → Effect
effect_of_start n how true = Stays
effect_of_start n how false = Opens n (is_slash how)

unfoldable pub effect : Kind → Effect
effect (Start n specifications how proper at_once) = effect_of_start n how at_once
effect (End n how) = Closes
effect _ = Stays

unfoldable pub is_omitted : Kind → Bool
is_omitted (Start n specifications how proper at_once) = is_omitted_how how
is_omitted (End n how) = is_omitted_how how
is_omitted _ = false

unfoldable pub is_omitted_start : Kind → Bool
is_omitted_start (Start n specifications how proper at_once) = is_omitted_how how
is_omitted_start _ = false

unfoldable pub is_start : Kind → Bool
is_start (Start n specifications how proper at_once) = true
is_start _ = false

-- an instruction, or a short reference to the text of one (8, 9.4.6)
unfoldable pub shows_instruction : Kind → Bool
shows_instruction (Pi text entity) = true
shows_instruction (ShortRef string (ToInstruction entity text)) = true
shows_instruction _ = false

unfoldable pub is_finish : Kind → Bool
is_finish Finish = true
is_finish _ = false

-- the type of the element that ended last, where it ends one
unfoldable pub ended_type : Kind → Option Name
ended_type (Start n specifications how proper true) = Some n
ended_type (End n how) = Some n
ended_type _ = None

-- CONTENT (7.6): what it is to a content model, an element's name or none for #PCDATA

abbrev pub Token : Type 0
Token = Option Name

abbrev pub Pcdata : Token
Pcdata = None

abbrev pub text_if : Bool → Option Token
text_if true = Some Pcdata
text_if false = None

abbrev pub token_of_meaning : Meaning → Option Token
token_of_meaning (Ordinary has_items content) = text_if content
token_of_meaning (ToText e) = None
token_of_meaning (ToData e) = Some Pcdata
token_of_meaning (ToExternalData e) = Some Pcdata
token_of_meaning (ToInstruction e text) = None

unfoldable pub token : Kind → Option Token
token (Start n specifications how proper at_once) = Some (Some n)
token (Char b) = Some Pcdata
token (Data e) = Some Pcdata
token (DataRef e) = Some Pcdata
token (Re live) = text_if live
token (ShortRef string meaning) = token_of_meaning meaning
token _ = None

-- ITEMS (7.6.1): what it is to the record ends of its element, in their order

abbrev pub sub_or_mark : Bool → Item
sub_or_mark true = Subelement
sub_or_mark false = Markup

abbrev pub byte_item : ℕ → Item
byte_item b = if b == 13 then RecordEnd else (if b == 10 then RecordStart else DataItem)

abbrev pub byte_items : List ℕ → List Item
byte_items [] = []
byte_items (b ∷ bs) = byte_item b ∷ byte_items bs

-- a string that stands for an entity has a record start as its item, where it begins with one
abbrev pub start_item : List ℕ → List Item
start_item [] = []
start_item (b ∷ bs) = if b == 10 then RecordStart ∷ [] else []

abbrev pub meaning_items : List ℕ → Meaning → List Item
meaning_items string (Ordinary true content) = byte_items string
meaning_items string (Ordinary false content) = []
meaning_items string (ToText e) = start_item string
meaning_items string (ToData e) = start_item string ++ (DataItem ∷ [])
meaning_items string (ToExternalData e) = start_item string ++ (DataItem ∷ [])
meaning_items string (ToInstruction e text) = start_item string ++ (Markup ∷ [])

unfoldable pub items_of : Kind → List Item
items_of (Start n specifications how proper at_once) = sub_or_mark proper ∷ []
items_of (Char b) = DataItem ∷ []
items_of (Data e) = DataItem ∷ []
items_of (DataRef e) = DataItem ∷ []
items_of (Re live) = RecordEnd ∷ []
items_of Rs = RecordStart ∷ []
items_of (ShortRef string meaning) = meaning_items string meaning
items_of (SectionStart status) = Markup ∷ []
items_of SectionEnd = Markup ∷ []
items_of (Skipped byte) = Markup ∷ []
items_of (Pi text entity) = Markup ∷ []
items_of Comment = Markup ∷ []
items_of (UseMap map) = Markup ∷ []
items_of _ = []

-- TEXTS (9.4)

pub data Turn : Type 0 where
  -- of the entity of this number
  OpensText : (entity : ℕ) → Turn
  EndsText : Turn
  StaysInText : Turn

-- number 0 is the document, which no piece opens
abbrev pub turn_to : ℕ → Turn
turn_to number = if number == 0 then StaysInText else OpensText number

-- the number of the external subset
abbrev pub subset_number : ℕ
subset_number = 1

-- the external subset is read where the document type declaration is over
abbrev pub turn_of_external : Option External → Turn
turn_of_external None = StaysInText
turn_of_external (Some external) = OpensText subset_number

abbrev pub turn_of_head : DoctypeHead → Turn
turn_of_head head = if head.subset then StaysInText else turn_of_external head.external

abbrev pub turn_of_end : Bool → Turn
turn_of_end true = OpensText subset_number
turn_of_end false = StaysInText

abbrev pub turn_of_meaning : Meaning → Turn
turn_of_meaning (ToText e) = turn_to e
turn_of_meaning _ = StaysInText

unfoldable pub turn : Kind → Turn
turn (Ref e) = turn_to e
turn (ShortRef string meaning) = turn_of_meaning meaning
turn (Head head base) = turn_of_head head
turn (SubsetEnd reads_external) = turn_of_end reads_external
turn EntityEnd = EndsText
turn _ = StaysInText

-- MARKED SECTIONS (10.4)

pub data Border : Type 0 where
  Begins : (status : Status) → Border
  Ends : Border
  NoBorder : Border

unfoldable pub border : Kind → Border
border (SectionStart status) = Begins status
border SectionEnd = Ends
border _ = NoBorder

-- the map that it sets for its element, or that of the parent where it sets none (11.6)
unfoldable pub map_set : Kind → MapOf
map_set (UseMap map) = numbered_map map
map_set _ = map_of.Parent

-- the element type and the attributes that are specified, of a start (7.9)
unfoldable pub specified : Kind → Option (Name × List Specification)
specified (Start n specifications how proper at_once) = Some (n, specifications)
specified _ = None

-- THE DOCUMENT TYPE (11)

pub data Stage : Type 0 where
  -- no syntax was told yet
  BeforeSyntax : Stage
  -- the syntax of a document without an SGML declaration was told, and then nothing but separators
  -- was read: an SGML declaration may stand here (7.1)
  AtBeginning : Stage
  -- no document type declaration has begun
  BeforeDoctype : Stage
  -- in its internal subset
  InSubset : Stage
  AfterSubset : Stage

abbrev pub stage_of_head : Bool → Stage
stage_of_head true = InSubset
stage_of_head false = AfterSubset

abbrev pub stage_of_syntax : Stage → Stage
stage_of_syntax BeforeSyntax = AtBeginning
stage_of_syntax AtBeginning = BeforeDoctype
stage_of_syntax s = s

-- the beginning is over
abbrev pub stage_begun : Stage → Stage
stage_begun BeforeSyntax = BeforeDoctype
stage_begun AtBeginning = BeforeDoctype
stage_begun s = s

-- how far the document has come in its prolog
unfoldable pub stage_after : Kind → Stage → Stage
stage_after (Sgml syntax) s = stage_of_syntax s
stage_after (Sep byte) s = s
stage_after (Head head base) s = stage_of_head head.subset
stage_after (SubsetEnd reads_external) s = AfterSubset
stage_after _ s = stage_begun s

-- what it adds to the document type
unfoldable pub declares : Kind → Doctype → Doctype
declares (Sgml syntax) d = record d { syntax = syntax }
declares (Head head base) d = with_declared base d (form.Doctype head)
declares (Declare lexemes says base) d = with_declared base d says
declares _ d = d

-- where the external subset is: its identifier, and the name of the file in which that stands (11.1)
pub record ExternalSubset : Type 0 where
  pub external : External
  pub base : Text

-- the external subset that it names
unfoldable pub subset_named : Kind → Option ExternalSubset
subset_named (Head head base) = option_map (λ external. record { external = external; base = base }) head.external
subset_named _ = None
