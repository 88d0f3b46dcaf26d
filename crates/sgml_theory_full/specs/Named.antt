-- WHAT CAN BE WRITTEN: names as a document type has them, and events that name things by them.
use Rattle.std.specs.Prelude.{◌≡◌, ℕ, Bool, true, false, not, ◌==◌, nat_lt, List, [], ◌∷◌, length, Option, Some, None}
use Rattle.std.specs.List.{list_all}
use Rattle.sgml_theory_values.specs.text.Characters.{is_sgml_character}
use Rattle.sgml_theory_values.specs.text.NameCharacters.{is_name_character, is_name_of}
use Rattle.sgml_theory_values.specs.text.declared.unit.Unit.{Unit as AnyUnit}
use Rattle.sgml_theory_values.specs.text.declared.unit.Unit.TheVariants as unit
use Rattle.sgml_theory_values.specs.syntax.declared.syntax.Syntax.{Syntax}
use Rattle.sgml_theory_values.specs.names.Naming.{general_name, entity_name, is_long}
use Rattle.sgml_theory_values.specs.entity.declared.kinds.Space.TheVariants.{General}
use Rattle.sgml_theory_values.specs.entity.declared.kinds.Body.{Body}
use Rattle.sgml_theory_values.specs.entity.declared.kinds.Body.TheVariants as body
use Rattle.sgml_theory_values.specs.attr.declared.value.AttrValue.{AttrValue}
use Rattle.sgml_theory_values.specs.attr.declared.value.AttrValue.TheVariants as value
use Rattle.sgml_theory_values.specs.dtd.Doctypes.{Doctype}
use Rattle.sgml_theory_values.specs.theory_reading.Names.{Name, Text}
use Rattle.sgml_theory_values.specs.theory_reading.Types.{entity_number, body_of, name_of_entity}
use Rattle.sgml_theory_values.specs.theory_reading.Reads.{Attribute}
use Rattle.sgml_theory_values.specs.theory_reading.Events.{Event as Said, Started, Ended, Byte, SpecificData, External, Instruction}
use Rattle.sgml_theory_values.specs.full.Spelled.{is_paired}

-- each of them is so
abbrev pub AllAre : {A : Type 0} → (A → Type 0) → List A → Type 0
AllAre P [] = Unit {0}
AllAre P (x ∷ xs) = P x × AllAre P xs

-- A NAME (9.3) that is folded (13.4.5) and has at most NAMELEN characters (13.4.8)
pub record IsName (s : Syntax) (fold : Name → Name) (name : Name) : Type 0 where
  pub is_name : is_name_of s.names name ≡ true
  pub folded : fold name ≡ name
  pub short : is_long s name ≡ false

-- of an element type or an attribute, and of an entity
abbrev pub IsGeneralName : Syntax → Name → Type 0
IsGeneralName s name = IsName s (general_name s) name

abbrev pub IsEntityName : Syntax → Name → Type 0
IsEntityName s name = IsName s (entity_name s) name

-- A GENERAL ENTITY is found by its name, and has this body (9.4.4)
pub record IsEntity (d : Doctype) (number : ℕ) (b : Body) : Type 0 where
  pub name : IsEntityName d.syntax (name_of_entity d number)
  pub numbered : entity_number d General (name_of_entity d number) ≡ Some number
  pub body : body_of d number ≡ Some b

abbrev pub IsSdata : Doctype → ℕ → Text → Type 0
IsSdata d number text = IsEntity d number (body.Sdata text)

-- data of another entity (10.5)
abbrev pub is_external_data : Body → Bool
is_external_data (body.ExternalData kind external notation) = true
is_external_data _ = false

pub record IsExternalData (d : Doctype) (number : ℕ) : Type 0 where
  pub b : Body
  pub is : IsEntity d number b
  pub external : is_external_data b ≡ true

-- the text of an instruction has at most PILEN characters (8)
abbrev pub is_short_text : Syntax → Text → Bool
is_short_text s text = not (nat_lt s.quantities.pilen (length text))

-- A VALUE (7.9.3, 7.9.4): its tokens are name characters, and its specific data is of entities
abbrev pub UnitIsWritten : Doctype → AnyUnit → Type 0
UnitIsWritten d (unit.Byte b) = Unit {0}
UnitIsWritten d (unit.Coded b) = Unit {0}
UnitIsWritten d (unit.Sdata e) = (text : Text) × IsSdata d e text

abbrev pub IsToken : Syntax → Text → Type 0
IsToken s token = list_all (is_name_character s.names) token ≡ true

abbrev pub ValueIsWritten : Doctype → AttrValue → Type 0
ValueIsWritten d value.Implied = Unit {0}
ValueIsWritten d (value.Cdata us) = AllAre (UnitIsWritten d) us
ValueIsWritten d (value.Notation n) = IsToken d.syntax n
ValueIsWritten d (value.Entities es) = AllAre (λ e. IsToken d.syntax (name_of_entity d e)) es
ValueIsWritten d (value.Tokens ts) = AllAre (IsToken d.syntax) ts

pub record AttributeIsWritten (d : Doctype) (a : Attribute) : Type 0 where
  pub name : IsGeneralName d.syntax a.attribute
  pub value : ValueIsWritten d a.value

-- AN INSTRUCTION that came from no entity: its record ends are pairs, and it ends with its first `>`
pub record IsWrittenText (s : Syntax) (text : Text) : Type 0 where
  pub paired : is_paired false text ≡ true
  pub unended : list_all (λ b. not (b == 62)) text ≡ true
  pub sgml : list_all is_sgml_character text ≡ true
  pub short : is_short_text s text ≡ true

abbrev pub InstructionIsWritten : Doctype → Text → Option ℕ → Type 0
InstructionIsWritten d text None = IsWrittenText d.syntax text
InstructionIsWritten d text (Some e) = IsEntity d e (body.Pi text) × (is_short_text d.syntax text ≡ true)

-- AN EVENT
abbrev pub IsWritten : Doctype → Said → Type 0
IsWritten d (Started name attributes) = IsGeneralName d.syntax name × AllAre (AttributeIsWritten d) attributes
IsWritten d (Ended name) = IsGeneralName d.syntax name
IsWritten d (Byte b) = Unit {0}
IsWritten d (SpecificData e text) = IsSdata d e text
IsWritten d (External e) = IsExternalData d e
IsWritten d (Instruction text entity) = InstructionIsWritten d text entity
