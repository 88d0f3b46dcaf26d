-- How data, values and tags are spelled so that they read back whatever stands around them.
use Rattle.std.specs.Prelude.{ℕ, Bool, ◌==◌, ◌||◌, ◌&&◌, not, nat_le, List, [], ◌∷◌, ◌++◌, flat_map, map, length, codes, decimal, if◌then◌else◌}
use Rattle.sgml_text.specs.Characters.{is_letter, is_digit}
use Rattle.sgml_text.specs.declared.unit.Unit.{Unit as AnyUnit}
use Rattle.sgml_text.specs.declared.unit.Unit.TheVariants as unit
use Rattle.sgml_attr.specs.declared.definition.Definition.{Definition}
use Rattle.sgml_attr.specs.declared.value.AttrValue.{AttrValue}
use Rattle.sgml_attr.specs.declared.value.AttrValue.TheVariants as value
use Rattle.sgml_dtd.specs.Doctypes.{Doctype}
use Rattle.sgml_esis.specs.Spelling.{spell_names}
use Rattle.sgml_said.specs.theory_reading.Names.{Name}
use Rattle.sgml_said.specs.theory_reading.Types.{name_of_entity}
use Rattle.sgml_said.specs.theory_reading.Reads.{Attribute}
use Rattle.sgml_said.specs.Told.{name_at, definitions_at, attributes_with}

-- a numeric character reference (9.5), and a general entity reference (9.4.4)
abbrev pub number_reference : ℕ → List ℕ
number_reference b = codes "&#" ++ (decimal b ++ 59 ∷ [])

abbrev pub entity_reference : Name → List ℕ
entity_reference name = 38 ∷ name ++ 59 ∷ []

-- short references may be recognised where a map is declared (11.5)
abbrev pub has_map : Doctype → Bool
has_map d = not (length d.maps == 0)

-- A letter, a digit, a full stop and a byte above 127 are spelled as themselves, since no delimiter begins with one
-- (figure 3), and a space is where no short reference may be one. Every other character is a reference.
abbrev pub is_itself : Bool → ℕ → Bool
is_itself mapped b = is_letter b || is_digit b || (b == 46) || nat_le 128 b || ((b == 32) && not mapped)

abbrev pub spelled_byte : Bool → ℕ → List ℕ
spelled_byte mapped b = if is_itself mapped b then b ∷ [] else number_reference b

abbrev pub spelled_unit : Doctype → AnyUnit → List ℕ
spelled_unit d (unit.Byte b) = spelled_byte (has_map d) b
spelled_unit d (unit.Coded b) = spelled_byte (has_map d) b
spelled_unit d (unit.Sdata e) = entity_reference (name_of_entity d e)

abbrev pub spelled_data : Doctype → List AnyUnit → List ℕ
spelled_data d us = flat_map (spelled_unit d) us

-- In CDATA content no reference is recognised (9.1): data stands as it is, and a record end ends the line.
abbrev pub raw_byte : ℕ → ℕ
raw_byte b = if b == 13 then 10 else b

abbrev pub raw_unit : Doctype → AnyUnit → List ℕ
raw_unit d (unit.Byte b) = raw_byte b ∷ []
raw_unit d (unit.Coded b) = raw_byte b ∷ []
raw_unit d (unit.Sdata e) = entity_reference (name_of_entity d e)

abbrev pub raw_data : Doctype → List AnyUnit → List ℕ
raw_data d us = flat_map (raw_unit d) us

-- names with a space between each two
abbrev pub spaced : List Name → List ℕ
spaced [] = []
spaced (n ∷ ns) = n ++ spell_names ns

-- a value within its literal (7.9.3): character data by references, and names as they are
abbrev pub spelled_value : Doctype → AttrValue → List ℕ
spelled_value d value.Implied = []
spelled_value d (value.Cdata us) = spelled_data d us
spelled_value d (value.Notation n) = n
spelled_value d (value.Entities es) = spaced (map (name_of_entity d) es)
spelled_value d (value.Tokens ts) = spaced ts

-- a name and its value in a literal (7.9)
abbrev pub valued : Doctype → Name → AttrValue → List ℕ
valued d name v = 32 ∷ name ++ (61 ∷ 34 ∷ (spelled_value d v ++ 34 ∷ []))

-- an attribute specification (7.9), of each attribute that has a value
abbrev pub specification : Doctype → Name → AttrValue → List ℕ
specification d name value.Implied = []
specification d name v = 32 ∷ name ++ (codes "=\"" ++ (spelled_value d v ++ 34 ∷ []))

abbrev pub specification_of : Doctype → Attribute → List ℕ
specification_of d a = specification d a.attribute a.value

-- those of the attributes of these definitions
abbrev pub specifications : Doctype → List Definition → List AttrValue → List ℕ
specifications d definitions values = flat_map (specification_of d) (attributes_with definitions values)

-- a start-tag (7.4) and an end-tag (7.5), with nothing left out
abbrev pub start_tag : Doctype → Name → List Attribute → List ℕ
start_tag d name attributes = (60 ∷ name) ++ (flat_map (specification_of d) attributes ++ 62 ∷ [])

abbrev pub end_tag : Name → List ℕ
end_tag name = (60 ∷ 47 ∷ name) ++ 62 ∷ []

-- the start-tag of the element type of this number
abbrev pub tag_of_start : Doctype → ℕ → List AttrValue → List ℕ
tag_of_start d element values = start_tag d (name_at d element) (attributes_with (definitions_at d element) values)

-- A PROCESSING INSTRUCTION that stands in a text can be spelled where its record ends are RE and RS: RS stands
-- exactly where RE stands before it, and it doesn't end with RE.
abbrev pub is_paired : Bool → List ℕ → Bool
is_paired after_end [] = not after_end
is_paired after_end (b ∷ bs) = ((after_end && (b == 10)) || (not after_end && not (b == 10))) && is_paired (b == 13) bs

-- It is spelled with one line feed for each record end (8).
abbrev pub line_byte : ℕ → List ℕ
line_byte b = if b == 13 then [] else b ∷ []

abbrev pub instruction : List ℕ → List ℕ
instruction text = (60 ∷ 63 ∷ flat_map line_byte text) ++ 62 ∷ []
