-- The grammar of lines, apart from how they are written and read. (profile: the line format of `nsgmls`)
use Rattle.std.specs.Prelude.{◌≡◌, ◌≢◌, ℕ, ◌+◌, ◌*◌, ◌%◌, ◌<◌, ◌≤◌, ◌==◌, ◌&&◌, not, Bool, true, false, List, [], ◌∷◌, ◌++◌, length, nat_le, codes}
use Rattle.std.specs.Prelude.{◌⊎◌}
use Rattle.std.specs.List.{list_all, count_by}
use Rattle.sgml_text.specs.declared.data_kind.DataKind.{DataKind}
use Rattle.sgml_text.specs.declared.data_kind.DataKind.TheVariants as kinds
use Rattle.sgml_esis.specs.declared.line.EscUnit.{EscUnit}
use Rattle.sgml_esis.specs.declared.line.EscUnit.TheVariants as units
use Rattle.sgml_esis.specs.declared.line.Line.{Line}
use Rattle.sgml_esis.specs.declared.line.Line.TheVariants as lines

-- a name or token has one or more bytes; none of them is below 33, and none is 127
abbrev pub is_word_byte : ℕ → Bool
is_word_byte b = nat_le 33 b && not (b == 127)

abbrev pub is_word : List ℕ → Bool
is_word [] = false
is_word (b ∷ bs) = list_all is_word_byte (b ∷ bs)

-- a byte from 32 up other than the backslash (92) stands for itself
abbrev pub IsPlain : ℕ → List ℕ → Type 0
IsPlain b bytes = (32 ≤ b) × (b ≢ 92) × (bytes ≡ b ∷ [])

-- a backslash is doubled
abbrev pub IsBackslash : ℕ → List ℕ → Type 0
IsBackslash b bytes = (b ≡ 92) × (bytes ≡ 92 ∷ 92 ∷ [])

-- RE (13) is a backslash and n (110)
abbrev pub IsRecordEnd : ℕ → List ℕ → Type 0
IsRecordEnd b bytes = (b ≡ 13) × (bytes ≡ 92 ∷ 110 ∷ [])

-- another byte below 32 is a backslash and its three octal digits, the first of which is 0 (48)
abbrev pub IsOctal : ℕ → List ℕ → Type 0
IsOctal b bytes =
    (b < 32) × (b ≢ 13) × (middle : ℕ) × (low : ℕ) × (low < 8) × (b ≡ 8 * middle + low) × (bytes ≡ 92 ∷ 48 ∷ (48 + middle) ∷ (48 + low) ∷ [])

-- the escape before and after the text of an SDATA entity is a backslash and a bar (124)
abbrev pub IsUnit : EscUnit → List ℕ → Type 0
IsUnit (units.Byte b) bytes = IsPlain b bytes ⊎ (IsBackslash b bytes ⊎ (IsRecordEnd b bytes ⊎ IsOctal b bytes))
IsUnit units.Bar bytes = bytes ≡ 92 ∷ 124 ∷ []

-- units one after another
abbrev pub AreUnits : List EscUnit → List ℕ → Type 0
AreUnits [] bytes = bytes ≡ []
AreUnits (u ∷ us) bytes = (front : List ℕ) × (rest : List ℕ) × (bytes ≡ front ++ rest) × IsUnit u front × AreUnits us rest

abbrev pub is_bar : EscUnit → Bool
is_bar (units.Byte b) = false
is_bar units.Bar = true

-- the bars of a line come in pairs
abbrev pub is_paired : List EscUnit → Bool
is_paired us = count_by is_bar us % 2 == 0

pub record IsText (text : List EscUnit) (bytes : List ℕ) : Type 0 where
  pub units : AreUnits text bytes
  pub paired : is_paired text ≡ true

-- names or tokens, one or more, each after a blank (32)
abbrev pub AreWords : List (List ℕ) → List ℕ → Type 0
AreWords [] bytes = ⊥
AreWords (word ∷ []) bytes = (is_word word ≡ true) × (bytes ≡ 32 ∷ word)
AreWords (word ∷ next ∷ words) bytes =
    (rest : List ℕ) × (is_word word ≡ true) × (bytes ≡ 32 ∷ word ++ rest) × AreWords (next ∷ words) rest

-- the kind of an external data entity
abbrev pub kind_name : DataKind → List ℕ
kind_name kinds.Cdata = codes "CDATA"
kind_name kinds.Ndata = codes "NDATA"
kind_name kinds.Sdata = codes "SDATA"

-- an internal one is CDATA or SDATA
abbrev pub is_internal : DataKind → Bool
is_internal kinds.Cdata = true
is_internal kinds.Ndata = false
is_internal kinds.Sdata = true

-- a mark and a name; a mark and a text; a mark, a name, and what follows it
abbrev pub Named : List ℕ → ℕ → List ℕ → Type 0
Named bytes mark name = (is_word name ≡ true) × (bytes ≡ mark ∷ name)

abbrev pub Texted : List ℕ → ℕ → List EscUnit → Type 0
Texted bytes mark text = (tail : List ℕ) × IsText text tail × (bytes ≡ mark ∷ tail)

abbrev pub Follows : List ℕ → ℕ → List ℕ → List ℕ → Type 0
Follows bytes mark name tail = (is_word name ≡ true) × (bytes ≡ mark ∷ name ++ tail)

-- The forms of a line, without the LF that ends it: `first` and `last` tell whether it is the first and the last one.
abbrev pub Form : Bool → Bool → Line → List ℕ → Type 0
Form first last (lines.Start name) bytes = Named bytes 40 name
Form first last (lines.Finish name) bytes = Named bytes 41 name
Form first last (lines.Chars text) bytes = (text ≢ []) × Texted bytes 45 text
Form first last (lines.DataRef name) bytes = Named bytes 38 name
Form first last (lines.Pi text) bytes = Texted bytes 63 text
Form first last (lines.Implied name) bytes = Follows bytes 65 name (codes " IMPLIED")
Form first last (lines.Cdata name text) bytes =
    (tail : List ℕ) × IsText text tail × Follows bytes 65 name (codes " CDATA " ++ tail)
Form first last (lines.Notation name notation) bytes =
    (is_word notation ≡ true) × Follows bytes 65 name (codes " NOTATION " ++ notation)
Form first last (lines.Entity name names) bytes =
    (tail : List ℕ) × AreWords names tail × Follows bytes 65 name (codes " ENTITY" ++ tail)
Form first last (lines.Token name tokens) bytes =
    (tail : List ℕ) × AreWords tokens tail × Follows bytes 65 name (codes " TOKEN" ++ tail)
Form first last (lines.DefineNotation name) bytes = Named bytes 78 name
Form first last (lines.DefineExternal name kind notation) bytes =
    (is_word notation ≡ true) × Follows bytes 69 name (32 ∷ kind_name kind ++ 32 ∷ notation)
Form first last (lines.DefineInternal name kind text) bytes =
    (tail : List ℕ) × (is_internal kind ≡ true) × IsText text tail × Follows bytes 73 name (32 ∷ kind_name kind ++ 32 ∷ tail)
Form first last (lines.Public text) bytes = Texted bytes 112 text
Form first last (lines.System text) bytes = Texted bytes 115 text
Form first last (lines.AppInfo text) bytes = (first ≡ true) × Texted bytes 35 text
Form first last lines.Conforming bytes = (last ≡ true) × (bytes ≡ 67 ∷ [])

abbrev pub is_none : {A : Type 0} → List A → Bool
is_none [] = true
is_none (x ∷ xs) = false

-- Lines in their forms at the front of the bytes, each ended by LF (10), and what is left. `first`: a file begins here.
abbrev pub Front : Bool → List ℕ → List Line → List ℕ → Type 0
Front first bytes [] rest = bytes ≡ rest
Front first bytes (line ∷ lines) rest =
    (content : List ℕ) × (more : List ℕ) × (bytes ≡ content ++ 10 ∷ more) × Form first (is_none more) line content × Front false more lines rest

-- the bytes are these lines and nothing else
pub record IsFile (lines : List Line) (bytes : List ℕ) : Type 0 where
  pub whole : Front true bytes lines []

-- no line in a form stands at the front
abbrev pub NoLine : Bool → List ℕ → Type 0
NoLine first bytes = (line : Line) (content more : List ℕ) → bytes ≡ content ++ 10 ∷ more → Form first (is_none more) line content → ⊥

-- the line of this number, counted from 1, is the first in no form
pub record IsBad (number : ℕ) (bytes : List ℕ) : Type 0 where
  pub before : List Line
  pub rest : List ℕ
  pub front : Front true bytes before rest
  pub some : rest ≢ []
  pub counted : number ≡ length before + 1
  pub bad : NoLine (is_none before) rest
