-- The lines of a list of pieces: the output format of nsgmls, in forms.
use Rattle.std.specs.Prelude.{ℕ, Bool, true, false, ◌&&◌, is_none, Option, Some, None, List, [], ◌∷◌, ◌++◌, map, if◌then◌else◌}
use Rattle.sgml_dtd.specs.text.declared.data_kind.DataKind.{DataKind}
use Rattle.sgml_dtd.specs.text.declared.data_kind.DataKind.TheVariants.{Cdata, Sdata}
use Rattle.sgml_dtd.specs.text.declared.unit.Unit.{Unit as AnyUnit}
use Rattle.sgml_dtd.specs.text.declared.unit.Unit.TheVariants as unit
use Rattle.sgml_dtd.specs.entity.declared.kinds.Space.TheVariants.{General}
use Rattle.sgml_dtd.specs.entity.declared.kinds.External.{External}
use Rattle.sgml_dtd.specs.entity.declared.kinds.Body.{Body}
use Rattle.sgml_dtd.specs.entity.declared.kinds.Body.TheVariants as body
use Rattle.sgml_dtd.specs.entity.declared.kinds.Entity.{Entity}
use Rattle.sgml_dtd.specs.attr.declared.value.AttrValue.{AttrValue}
use Rattle.sgml_dtd.specs.attr.declared.value.AttrValue.TheVariants as value
use Rattle.sgml_dtd.specs.Doctypes.{Doctype}
use Rattle.sgml_theory_reading.specs.Names.{Name, Text}
use Rattle.sgml_theory_reading.specs.Types.{body_of, entity_named, name_of_entity, notation, is_in}
use Rattle.sgml_theory_reading.specs.Pieces.{History}
use Rattle.sgml_theory_reading.specs.Nest.{types}
use Rattle.sgml_dtd.specs.text.Characters.{is_separator}
use Rattle.sgml_theory_reading.specs.Reads.{Attribute, Forms, ends_in_finish}
use Rattle.sgml_theory_reading.specs.Events.{Event, Started, Ended, Byte, SpecificData, External as ExternalEvent, Instruction, events}
use Rattle.sgml_theory_reading.specs.Identifiers.{id_fault}

-- a part of a line of data: a byte, or the text of an SDATA entity between its bars
pub data Shape : Type 0 where
  Plain : (byte : ℕ) → Shape
  Barred : (text : Text) → Shape

pub data Line : Type 0 where
  StartLine : (element : Name) → Line
  FinishLine : (element : Name) → Line
  CharsLine : (shapes : List Shape) → Line
  DataRefLine : (entity : Name) → Line
  PiLine : (text : Text) → Line
  ImpliedLine : (attribute : Name) → Line
  CdataLine : (attribute : Name) (shapes : List Shape) → Line
  NotationLine : (attribute notation : Name) → Line
  EntityLine : (attribute : Name) (entities : List Name) → Line
  TokenLine : (attribute : Name) (tokens : List Name) → Line
  DefineNotation : (notation : Name) → Line
  DefineExternal : (entity : Name) (kind : DataKind) (notation : Name) → Line
  DefineInternal : (entity : Name) (kind : DataKind) (text : Text) → Line
  PublicLine : (text : Text) → Line
  SystemLine : (text : Text) → Line
  AppInfoLine : (text : Text) → Line
  ConformingLine : Line

-- EACH EVENT

abbrev pub sdata_of : Option Body → Text
sdata_of (Some (body.Sdata text)) = text
sdata_of _ = []

abbrev pub unit_shape : Doctype → AnyUnit → Shape
unit_shape d (unit.Byte b) = Plain b
unit_shape d (unit.Coded b) = Plain b
unit_shape d (unit.Sdata e) = Barred (sdata_of (body_of d e))

abbrev pub value_line : Doctype → Name → AttrValue → Line
value_line d a value.Implied = ImpliedLine a
value_line d a (value.Cdata units) = CdataLine a (map (unit_shape d) units)
value_line d a (value.Notation n) = NotationLine a n
value_line d a (value.Entities es) = EntityLine a (map (name_of_entity d) es)
value_line d a (value.Tokens ts) = TokenLine a ts

abbrev pub attribute_lines : Doctype → List Attribute → List Line
attribute_lines d [] = []
attribute_lines d (a ∷ as') = value_line d a.attribute a.value ∷ attribute_lines d as'

-- the attributes come before the start
abbrev pub event_lines : Doctype → Event → List Line
event_lines d (Started n attributes) = attribute_lines d attributes ++ (StartLine n ∷ [])
event_lines d (Ended n) = FinishLine n ∷ []
event_lines d (Byte b) = CharsLine (Plain b ∷ []) ∷ []
event_lines d (SpecificData entity text) = CharsLine (Barred text ∷ []) ∷ []
event_lines d (ExternalEvent e) = DataRefLine (name_of_entity d e) ∷ []
event_lines d (Instruction text entity) = PiLine text ∷ []

abbrev pub lines_of : Doctype → List Event → List Line
lines_of d [] = []
lines_of d (e ∷ es) = event_lines d e ++ lines_of d es

-- NEIGHBOURING DATA IS ONE LINE

abbrev pub joined_to : Line → List Line → List Line
joined_to (CharsLine us) (CharsLine vs ∷ ls) = CharsLine (us ++ vs) ∷ ls
joined_to l ls = l ∷ ls

abbrev pub joined : List Line → List Line
joined [] = []
joined (l ∷ ls) = joined_to l (joined ls)

-- DEFINITIONS: a notation or an entity is defined once, directly before the first line that names
-- it

pub record Known : Type 0 where
  pub notations : List Name
  pub entities : List Name

-- with white space made single and its ends trimmed
abbrev pub single_from : Bool → Bool → Text → Text
single_from begun pending [] = []
single_from begun pending (b ∷ bs) =
    if is_separator b then single_from begun true bs
    else ((if begun && pending then 32 ∷ [] else []) ++ (b ∷ single_from true false bs))

abbrev pub public_lines : Option Text → List Line
public_lines None = []
public_lines (Some text) = PublicLine (single_from false false text) ∷ []

abbrev pub system_lines : Option Text → List Line
system_lines None = []
system_lines (Some text) = SystemLine text ∷ []

abbrev pub external_lines : External → List Line
external_lines external = public_lines external.public ++ system_lines external.system

abbrev pub optional_lines : Option External → List Line
optional_lines None = []
optional_lines (Some external) = external_lines external

-- lines that define something, and what is known after them
pub record Defined : Type 0 where
  pub lines : List Line
  pub known : Known

abbrev pub define_notation : Doctype → Known → Name → Defined
define_notation d known n =
    if is_in n known.notations then record { lines = []; known = known }
    else record {
      lines = optional_lines (notation d n) ++ (DefineNotation n ∷ []);
      known = record { notations = n ∷ known.notations; entities = known.entities };
    }

abbrev pub knowing : Name → Known → Known
knowing e known = record { notations = known.notations; entities = e ∷ known.entities }

-- the notation of an external data entity comes before the entity
abbrev pub define_as : Doctype → Known → Name → Body → Defined
define_as d known e (body.Cdata text) = record { lines = DefineInternal e Cdata text ∷ []; known = knowing e known }
define_as d known e (body.Sdata text) = record { lines = DefineInternal e Sdata text ∷ []; known = knowing e known }
define_as d known e (body.ExternalData kind external n) =
    let first = define_notation d known n in
    record {
      lines = first.lines ++ (external_lines external ++ (DefineExternal e kind n ∷ []));
      known = knowing e first.known;
    }
define_as d known e _ = record { lines = []; known = known }

abbrev pub define_body : Doctype → Known → Name → Option Entity → Defined
define_body d known e None = record { lines = []; known = known }
define_body d known e (Some x) = define_as d known e x.body

abbrev pub define_entity : Doctype → Known → Name → Defined
define_entity d known e =
    if is_in e known.entities then record { lines = []; known = known }
    else define_body d known e (entity_named d General e)

abbrev pub define_entities : Doctype → Known → List Name → Defined
define_entities d known [] = record { lines = []; known = known }
define_entities d known (e ∷ es) =
    let first = define_entity d known e in
    let rest = define_entities d first.known es in
    record { lines = first.lines ++ rest.lines; known = rest.known }

-- what a line names and isn't defined yet
abbrev pub defined_for : Doctype → Known → Line → Defined
defined_for d known (NotationLine a n) = define_notation d known n
defined_for d known (EntityLine a es) = define_entities d known es
defined_for d known (DataRefLine e) = define_entity d known e
defined_for d known _ = record { lines = []; known = known }

abbrev pub with_definitions : Doctype → Known → List Line → List Line
with_definitions d known [] = []
with_definitions d known (l ∷ ls) =
    let first = defined_for d known l in
    first.lines ++ (l ∷ with_definitions d first.known ls)

abbrev pub appinfo_lines : Option Text → List Line
appinfo_lines None = []
appinfo_lines (Some text) = AppInfoLine text ∷ []

abbrev pub none_known : Known
none_known = record { notations = []; entities = [] }

abbrev pub conforming_lines : Bool → List Line
conforming_lines true = ConformingLine ∷ []
conforming_lines false = []

-- of a document type, the events under it, and whether the document is over. The last line says
-- that the document conforms: it is over, and its identifiers agree
abbrev pub lines_by : Doctype → List Event → Bool → List Line
lines_by d es over =
    appinfo_lines d.syntax.appinfo
    ++ (with_definitions d none_known (joined (lines_of d es))
    ++ conforming_lines (over && is_none (id_fault es)))

-- THE LINES of what was read
unfoldable pub lines : Forms → History → List Line
lines forms h = lines_by (types h) (events forms h) (ends_in_finish h)
