-- The lines of what is read as lines of a file, by a plain map.
use Rattle.std.specs.Prelude.{ℕ, List, [], ◌∷◌, ◌++◌, map, flat_map}
use Rattle.sgml_esis.specs.declared.line.EscUnit.{EscUnit}
use Rattle.sgml_esis.specs.declared.line.EscUnit.TheVariants as escape
use Rattle.sgml_esis.specs.declared.line.Line.{Line as FileLine}
use Rattle.sgml_esis.specs.declared.line.Line.TheVariants as file
use Rattle.sgml_theory_reading.specs.Lines.{Line, Shape, Plain, Barred, StartLine, FinishLine, CharsLine, DataRefLine, PiLine, ImpliedLine, CdataLine, NotationLine, EntityLine, TokenLine, DefineNotation, DefineExternal, DefineInternal, PublicLine, SystemLine, AppInfoLine, ConformingLine}

-- the text of an SDATA entity stands between two bars
abbrev pub shape_units : Shape → List EscUnit
shape_units (Plain b) = escape.Byte b ∷ []
shape_units (Barred text) = escape.Bar ∷ (map escape.Byte text ++ escape.Bar ∷ [])

abbrev pub data_units : List Shape → List EscUnit
data_units shapes = flat_map shape_units shapes

abbrev pub text_units : List ℕ → List EscUnit
text_units text = map escape.Byte text

abbrev pub shown : Line → FileLine
shown (StartLine n) = file.Start n
shown (FinishLine n) = file.Finish n
shown (CharsLine shapes) = file.Chars (data_units shapes)
shown (DataRefLine n) = file.DataRef n
shown (PiLine text) = file.Pi (text_units text)
shown (ImpliedLine a) = file.Implied a
shown (CdataLine a shapes) = file.Cdata a (data_units shapes)
shown (NotationLine a n) = file.Notation a n
shown (EntityLine a es) = file.Entity a es
shown (TokenLine a ts) = file.Token a ts
shown (DefineNotation n) = file.DefineNotation n
shown (DefineExternal e kind n) = file.DefineExternal e kind n
shown (DefineInternal e kind text) = file.DefineInternal e kind (text_units text)
shown (PublicLine text) = file.Public (text_units text)
shown (SystemLine text) = file.System (text_units text)
shown (AppInfoLine text) = file.AppInfo (text_units text)
shown ConformingLine = file.Conforming

abbrev pub all_shown : List Line → List FileLine
all_shown ls = map shown ls
