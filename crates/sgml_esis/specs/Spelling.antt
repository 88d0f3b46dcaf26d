-- How lines are spelled. (profile: the line format of `nsgmls`)
use Rattle.std.specs.Prelude.{ℕ, ◌+◌, ◌/◌, ◌%◌, List, [], ◌∷◌, ◌++◌, nat_lt, ◌==◌, if◌then◌else◌, flat_map, codes}
use Rattle.sgml_text.specs.declared.data_kind.DataKind.{DataKind}
use Rattle.sgml_text.specs.declared.data_kind.DataKind.TheVariants as kinds
use Rattle.sgml_esis.specs.declared.line.EscUnit.{EscUnit}
use Rattle.sgml_esis.specs.declared.line.EscUnit.TheVariants as units
use Rattle.sgml_esis.specs.declared.line.Line.{Line}
use Rattle.sgml_esis.specs.declared.line.Line.TheVariants as lines

-- a backslash is 92, and its escapes have a second backslash, an n for RE (13), or three octal digits
abbrev pub spell_byte : ℕ → List ℕ
spell_byte b =
    if b == 92 then 92 ∷ 92 ∷ [] else if b == 13 then 92 ∷ 110 ∷ [] else if nat_lt b 32 then 92 ∷ 48 ∷ (48 + b / 8) ∷ (48 + b % 8) ∷ [] else b ∷ []

abbrev pub spell_unit : EscUnit → List ℕ
spell_unit (units.Byte b) = spell_byte b
spell_unit units.Bar = 92 ∷ 124 ∷ []

abbrev pub spell_escaped : List EscUnit → List ℕ
spell_escaped us = flat_map spell_unit us

-- a blank (32) and the kind of a data entity
abbrev pub spell_kind : DataKind → List ℕ
spell_kind kinds.Cdata = codes " CDATA"
spell_kind kinds.Ndata = codes " NDATA"
spell_kind kinds.Sdata = codes " SDATA"

-- a blank before each name
abbrev pub spell_names : List (List ℕ) → List ℕ
spell_names names = flat_map (λ name. 32 ∷ name) names

-- what stands before the end of a line
abbrev pub spell_content : Line → List ℕ
spell_content (lines.Start name) = 40 ∷ name
spell_content (lines.Finish name) = 41 ∷ name
spell_content (lines.Chars text) = 45 ∷ spell_escaped text
spell_content (lines.DataRef name) = 38 ∷ name
spell_content (lines.Pi text) = 63 ∷ spell_escaped text
spell_content (lines.Implied name) = 65 ∷ name ++ codes " IMPLIED"
spell_content (lines.Cdata name text) = 65 ∷ name ++ codes " CDATA " ++ spell_escaped text
spell_content (lines.Notation name notation) = 65 ∷ name ++ codes " NOTATION " ++ notation
spell_content (lines.Entity name names) = 65 ∷ name ++ codes " ENTITY" ++ spell_names names
spell_content (lines.Token name tokens) = 65 ∷ name ++ codes " TOKEN" ++ spell_names tokens
spell_content (lines.DefineNotation name) = 78 ∷ name
spell_content (lines.DefineExternal name kind notation) = 69 ∷ name ++ spell_kind kind ++ 32 ∷ notation
spell_content (lines.DefineInternal name kind text) = 73 ∷ name ++ spell_kind kind ++ 32 ∷ spell_escaped text
spell_content (lines.Public text) = 112 ∷ spell_escaped text
spell_content (lines.System text) = 115 ∷ spell_escaped text
spell_content (lines.AppInfo text) = 35 ∷ spell_escaped text
spell_content lines.Conforming = 67 ∷ []

-- each line ends with LF (10)
abbrev pub spell_line : Line → List ℕ
spell_line line = spell_content line ++ 10 ∷ []

abbrev pub spell_lines : List Line → List ℕ
spell_lines ls = flat_map spell_line ls
