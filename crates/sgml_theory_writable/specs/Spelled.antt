-- WHAT IS SPELLED can be written again: its references are of entities that are found by their names, and an instruction
-- has a text that an instruction can have.
use Rattle.std.specs.Prelude.{◌≡◌, ℕ, true, not, ◌==◌, List, Some, None, Result, Ok, Err}
use Rattle.std.specs.List.{list_all, slice_get}
use Rattle.sgml_theory_again.specs.text.Characters.{is_sgml_character}
use Rattle.sgml_theory_again.specs.text.declared.reason.Reason.{Reason}
use Rattle.sgml_theory_again.specs.text.declared.unit.Unit.{Unit as AnyUnit}
use Rattle.sgml_theory_again.specs.text.declared.unit.Unit.TheVariants as unit
use Rattle.sgml_theory_again.specs.syntax.declared.syntax.Syntax.{Syntax}
use Rattle.sgml_theory_again.specs.entity.declared.kinds.Body.TheVariants as body
use Rattle.sgml_theory_again.specs.attr.declared.definition.Definition.{Definition}
use Rattle.sgml_theory_again.specs.attr.declared.value.AttrValue.{AttrValue}
use Rattle.sgml_theory_again.specs.attr.declared.value.AttrValue.TheVariants as value
use Rattle.sgml_theory_again.specs.attr.Literal.{is_cdata}
use Rattle.sgml_theory_again.specs.decl_lexemes.declared.lexeme.Lexeme.{Lexeme}
use Rattle.sgml_theory_again.specs.decl_lexemes.declared.lexeme.Lexeme.TheVariants as lexeme
use Rattle.sgml_theory_again.specs.decl_forms.Declarations.{declaration_at}
use Rattle.sgml_theory_again.specs.dtd_attlists.Interpreted.{default_units}
use Rattle.sgml_theory_again.specs.dtd.Doctypes.{Doctype}
use Rattle.sgml_theory_again.specs.theory_reading.Names.{Name, Text}
use Rattle.sgml_theory_again.specs.theory_reading.Types.{attributes}
use Rattle.sgml_theory_again.specs.theory_reading.Pieces.{Specification, Kind, Declare, Start, Pi}
use Rattle.sgml_theory_again.specs.theory_reading.Currents.{Currents}
use Rattle.sgml_theory_again.specs.sgml_theory_full.Named.{AllAre, is_short_text}
use Rattle.sgml_theory_again.specs.Content.{IsReferred}

-- A UNIT of a literal (7.9.3): specific data is of an entity that is referred to by a name
abbrev pub UnitRefers : Doctype → AnyUnit → Type 0
UnitRefers d (unit.Byte b) = Unit {0}
UnitRefers d (unit.Coded b) = Unit {0}
UnitRefers d (unit.Sdata e) = (text : Text) × IsReferred d e (body.Sdata text)

abbrev pub UnitsRefer : Doctype → List AnyUnit → Type 0
UnitsRefer d us = AllAre (UnitRefers d) us

-- a literal of a declaration (11), and what is written in a specification (7.9)
abbrev pub LexemeRefers : Doctype → Lexeme → Type 0
LexemeRefers d (lexeme.Value us) = UnitsRefer d us
LexemeRefers d x = Unit {0}

abbrev pub WrittenRefers : Doctype → Result (List AnyUnit) Reason → Type 0
WrittenRefers d (Ok us) = UnitsRefer d us
WrittenRefers d (Err r) = Unit {0}

abbrev pub SpecificationRefers : Doctype → Specification → Type 0
SpecificationRefers d s = WrittenRefers d s.written

-- THE TEXT OF AN INSTRUCTION of its own (8): SGML characters, without `>`, of at most PILEN
pub record IsInstructionText (s : Syntax) (text : Text) : Type 0 where
  pub unended : list_all (λ b. not (b == 62)) text ≡ true
  pub sgml : list_all is_sgml_character text ≡ true
  pub short : is_short_text s text ≡ true

-- A PIECE that is spelled: the literals of a start-tag, and of a declaration, which says what its lexemes say; and the
-- text of an instruction of its own
abbrev pub IsSpelledSo : Doctype → Kind → Type 0
IsSpelledSo d (Start n ss how proper at_once) = AllAre (SpecificationRefers d) ss
IsSpelledSo d (Declare lexemes says base) = AllAre (LexemeRefers d) lexemes × (declaration_at lexemes ≡ Some says)
IsSpelledSo d (Pi text None) = IsInstructionText d.syntax text
IsSpelledSo d kind = Unit {0}

-- THE VALUES that an attribute may have without a specification (11.3.4): of character data its default, and the
-- current one
abbrev pub ValueRefers : Doctype → AttrValue → Type 0
ValueRefers d (value.Cdata us) = UnitsRefer d us
ValueRefers d v = Unit {0}

pub record ValuesRefer (d : Doctype) (c : Currents) : Type 0 where
  pub defaults : (n : Name) (i : ℕ) (x : Definition) (us : List AnyUnit) → slice_get (attributes d n) i ≡ Some x
      → is_cdata x.declared ≡ true → default_units x.default ≡ Some us → UnitsRefer d us
  pub currents : (n a : Name) (v : AttrValue) → c n a ≡ Some v → ValueRefers d v
