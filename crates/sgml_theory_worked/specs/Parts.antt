-- Worked parts of documents: definitions before their first use, data of an SDATA entity, current
-- values, identifiers, the map in force, and how far a document has come.
use Rattle.std.specs.Prelude.{ℕ, true, false, Option, Some, None, Result, Ok, Err, List, [], ◌∷◌, ◌++◌, map, codes}
use Rattle.sgml_theory_reading.specs.text.declared.data_kind.DataKind.TheVariants.{Ndata}
use Rattle.sgml_theory_reading.specs.syntax.Implied.{implied_syntax}
use Rattle.sgml_theory_reading.specs.text.declared.reason.Reason.{Reason}
use Rattle.sgml_theory_reading.specs.text.declared.reason.Reason.TheVariants.{Undeclared}
use Rattle.sgml_theory_reading.specs.text.declared.unit.Unit.{Unit as AnyUnit}
use Rattle.sgml_theory_reading.specs.text.declared.unit.Unit.TheVariants as unit
use Rattle.sgml_theory_reading.specs.text.Units.{characters as units}
use Rattle.sgml_theory_reading.specs.attr.declared.definition.Declared.TheVariants as declared_value
use Rattle.sgml_theory_reading.specs.attr.declared.value.AttrValue.TheVariants as value
use Rattle.sgml_theory_reading.specs.dtd_maps.declared.uses.MapOf.{MapOf}
use Rattle.sgml_theory_reading.specs.dtd.Doctypes.{Doctype}
use Rattle.sgml_theory_reading.specs.dtd.Laws.{Placed, doctype_of}
use Rattle.sgml_theory_reading.specs.Names.{Name, Text}
use Rattle.sgml_theory_reading.specs.Pieces.{Ref, Kind, Specification, Start, End, Char, Data, Finish, Tag, History}
use Rattle.sgml_theory_reading.specs.Facets.{Stage, specified}
use Rattle.sgml_theory_reading.specs.Context.{piece_of}
use Rattle.sgml_theory_reading.specs.Unread.{Input, Sources, opening, base_in}
use Rattle.sgml_theory_reading.specs.State.{state, stage}
use Rattle.sgml_theory_reading.specs.Maps.{map_in_force}
use Rattle.sgml_theory_reading.specs.Reads.{Attribute, Forms, refusal}
use Rattle.sgml_theory_reading.specs.Events.{Event, Started, Ended, Byte}
use Rattle.sgml_theory_reading.specs.Lines.{Line, StartLine, FinishLine, CharsLine, Plain, Barred, PublicLine, SystemLine, DefineNotation, DefineExternal, EntityLine, TokenLine, ConformingLine}
use Rattle.sgml_theory_worked.specs.Declared.{base, declared}
use Rattle.sgml_theory_worked.specs.Spelling.{small}
use Rattle.sgml_theory_worked.specs.Whole.{with_file}
use Rattle.sgml_theory_worked.specs.Documents.{D, P, doctype, prolog, paragraphs, chars, no_outside}

-- these kinds, read after the document type, in their order
abbrev pub after_kinds : History → List Kind → History
after_kinds h [] = h
after_kinds h (k ∷ ks) = after_kinds (piece_of k ∷ h) ks

abbrev pub characters : Text → List Kind
characters text = map (λ b. Char b) text

abbrev pub start : Name → Kind
start n = Start n [] Tag true false

-- A PICTURE, and <D F=pic>
abbrev pub picture_declarations : List Placed
picture_declarations = doctype D (declared (
    codes "ELEMENT D - O EMPTY"
    ∷ (codes "NOTATION cgm PUBLIC \"-//X//NOTATION  CGM//EN \""
    ∷ (codes "ENTITY pic SYSTEM \"pic.cgm\" NDATA cgm"
    ∷ (codes "ATTLIST D F ENTITY #REQUIRED" ∷ [])))))

abbrev pub picture_type : Doctype
picture_type = doctype_of implied_syntax picture_declarations

-- the first entity that is declared has number 2
abbrev pub picture_events : List Event
picture_events =
    Started D (record { attribute = codes "F"; declared = declared_value.Entity; value = value.Entities (2 ∷ []) } ∷ []) ∷ (Ended D ∷ [])

abbrev pub picture_lines : List Line
picture_lines =
    PublicLine (codes "-//X//NOTATION CGM//EN")
    ∷ (DefineNotation (codes "CGM")
    ∷ (SystemLine (codes "pic.cgm")
    ∷ (DefineExternal (codes "pic") Ndata (codes "CGM")
    ∷ (EntityLine (codes "F") (codes "pic" ∷ [])
    ∷ (StartLine D ∷ (FinishLine D ∷ (ConformingLine ∷ [])))))))

-- SDATA: <D>&copy; 1986</D>
abbrev pub sdata_history : History
sdata_history =
    after_kinds (prolog implied_syntax (doctype D (declared (codes "ELEMENT D - - (#PCDATA)" ∷ (codes "ENTITY copy SDATA \"[copy  ]\"" ∷ [])))))
    (start D ∷ (Data 2 ∷ (characters (codes " 1986") ++ (End D Tag ∷ (Finish ∷ [])))))

abbrev pub sdata_lines : List Line
sdata_lines =
    StartLine D
    ∷ (CharsLine (Barred (codes "[copy  ]") ∷ map (λ b. Plain b) (codes " 1986"))
    ∷ (FinishLine D ∷ (ConformingLine ∷ [])))

-- CURRENT VALUES, after <D><P X=u>a
abbrev pub X : Name
X = codes "X"

abbrev pub U : Name
U = codes "U"

abbrev pub current_history : History
current_history =
    after_kinds (prolog implied_syntax (doctype D (declared (codes "ATTLIST P X (U|V) #CURRENT" ∷ []) ++ paragraphs)))
    (start D ∷ (Start P (record { attribute = Some X; written = Ok (units (codes "u")) } ∷ []) Tag true false ∷ (characters (codes "a") ++ (End P Tag ∷ (start P ∷ [])))))

-- the same of character data: a TAB in a literal is a SPACE, and a character by its number stays
abbrev pub Y : Name
Y = codes "Y"

abbrev pub text_history : History
text_history =
    after_kinds (prolog implied_syntax (doctype D (declared (codes "ATTLIST P Y CDATA #CURRENT" ∷ []) ++ paragraphs)))
    (start D ∷ (Start P (record { attribute = Some Y; written = Ok (units (codes "a\tb") ++ (unit.Coded 9 ∷ [])) } ∷ []) Tag true false ∷ []))

-- IDENTIFIERS: the IDREF z of the second start is no ID; the ID a stands twice
abbrev pub id_attribute : Name → Attribute
id_attribute n = record { attribute = codes "I"; declared = declared_value.Id; value = value.Tokens (n ∷ []) }

abbrev pub reference : Name → Attribute
reference n = record { attribute = codes "R"; declared = declared_value.Idref; value = value.Tokens (n ∷ []) }

abbrev pub dangling_events : List Event
dangling_events = Started D [] ∷ (Started P (reference (codes "Z") ∷ []) ∷ (Byte 97 ∷ (Ended P ∷ (Ended D ∷ []))))

abbrev pub dangling_lines : List Line
dangling_lines =
    StartLine D
    ∷ (TokenLine (codes "R") (codes "Z" ∷ [])
    ∷ (StartLine P ∷ (chars (codes "a") ∷ (FinishLine P ∷ (FinishLine D ∷ [])))))

abbrev pub repeated_events : List Event
repeated_events =
    Started D (id_attribute (codes "A") ∷ [])
    ∷ (Started P (reference (codes "A") ∷ [])
    ∷ (Started P (reference (codes "Z") ∷ (id_attribute (codes "A") ∷ [])) ∷ []))

-- MAPS: in <D><P> the map of D is in force, after <!USEMAP #EMPTY> none, and after </P> the map of D
-- again. The map has number 0; its text is a TAB.
abbrev pub map_declarations : List Placed
map_declarations = doctype D (declared (codes "SHORTREF m \"\t\" e" ∷ (codes "USEMAP m D" ∷ [])) ++ paragraphs)

abbrev pub map_after : List Kind → MapOf
map_after ks =
    let s = state (after_kinds (prolog implied_syntax map_declarations) ks) in
    map_in_force s.context.doctype s.context.levels s.map_settings

-- A BAD REFERENCE in a specification is told in its place: behind what the tag's type and what is open
-- say of the start. The forms judge no more of attributes.
abbrev pub first_wrong : List Specification → Option Reason
first_wrong [] = None
first_wrong (s ∷ ss) = wrong_or s.written (first_wrong ss)
  where
    wrong_or : Result (List AnyUnit) Reason → Option Reason → Option Reason
    wrong_or (Err r) next = Some r
    wrong_or (Ok units) next = next

abbrev pub wrong_in : Option (Name × List Specification) → Option Reason
wrong_in None = None
wrong_in (Some start) = first_wrong start.1

abbrev pub judging : Forms
judging = record { spelled = small.spelled; decided = small.decided; unvalued = λ s kind. wrong_in (specified kind); valued = small.valued }

-- <n x=a y="&b;"> directly after the prolog of the paragraphs
abbrev pub refused_with_reference : Name → Option Reason
refused_with_reference n =
    refusal judging (prolog implied_syntax (doctype D paragraphs)) []
    (piece_of (Start n (record { attribute = Some X; written = Ok (units (codes "a")) } ∷ (record { attribute = None; written = Err Undeclared } ∷ [])) Tag true false))

-- A REFERENCE to a text entity, which is number 2: in <D>&e;x its text is on top, and the document goes
-- on behind the reference
abbrev pub reference_input : Input
reference_input = record { document = codes "<D>&e;x"; was_cut = false; outside = no_outside implied_syntax }

abbrev pub reference_history : History
reference_history =
    record { kind = Ref 2; size = 3; spent = 0 }
    ∷ (record { kind = start D; size = 3; spent = 0 }
    ∷ prolog implied_syntax (doctype D (declared (codes "ELEMENT D - - (#PCDATA)" ∷ (codes "ENTITY e \"text\"" ∷ [])))))

-- THE FILE IN WHICH A DECLARATION STANDS: the external subset is in the file s, and entity 2 is a text in
-- its declaration
abbrev pub subset_sources : Sources
subset_sources = record {
  doctype = doctype_of implied_syntax (doctype D (declared (codes "ENTITY e \"text\"" ∷ [])));
  subset = Some (record { external = record { public = None; system = Some (codes "s") }; base = base });
}

abbrev pub base_on : List ℕ → Name
base_on numbers = base_in (with_file (codes "s") []) subset_sources numbers

-- HOW FAR A DOCUMENT HAS COME: after these kinds, from its first byte
abbrev pub stage_after_kinds : List Kind → Stage
stage_after_kinds ks = stage (after_kinds (opening (no_outside implied_syntax)) ks)
