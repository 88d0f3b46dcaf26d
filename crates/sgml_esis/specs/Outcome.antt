-- What reading lines answers, and the laws of the format.
use Rattle.std.specs.Prelude.{◌≡◌, ℕ, Bool, true, false, List, [], ◌∷◌, Vec, Result, Ok, Err, ⊤}
use Rattle.std.specs.declared.alloc.Global.{Global}
use Rattle.sgml_esis.specs.Grammar.{Form, is_none, IsFile, IsBad}
use Rattle.sgml_esis.specs.Spelling.{spell_lines}
use Rattle.sgml_esis.specs.declared.line.Line.{Line}
use Rattle.sgml_esis.specs.declared.read.LinesError.{LinesError}
use Rattle.sgml_esis.specs.declared.read.LinesError.TheVariants as errors

-- the lines of the bytes, or the number of the first line in no form
abbrev pub Reads : List ℕ → Result (Vec Line Global) LinesError → Type 0
Reads bytes (Ok v) = IsFile v.items bytes
Reads bytes (Err (errors.BadLine number)) = IsBad number bytes
Reads bytes (Err errors.Memory) = ⊤

-- bytes are at most one file; a file has no bad line; and there is one first bad line
pub record OneReading : Type 0 where
  pub file : (a b : List Line) (bytes : List ℕ) → IsFile a bytes → IsFile b bytes → a ≡ b
  pub apart : (lines : List Line) (number : ℕ) (bytes : List ℕ) → IsFile lines bytes → IsBad number bytes → ⊥
  pub bad : (m n : ℕ) (bytes : List ℕ) → IsBad m bytes → IsBad n bytes → m ≡ n

-- lines each of which has its form
abbrev pub AreLines : Bool → List Line → Type 0
AreLines first [] = ⊤
AreLines first (line ∷ lines) = ((content : List ℕ) × Form first (is_none lines) line content) × AreLines false lines

-- what was read is written back byte for byte, and what was written is read back
pub record RoundTrip : Type 0 where
  pub written : (lines : List Line) (bytes : List ℕ) → IsFile lines bytes → spell_lines lines ≡ bytes
  pub read : (lines : List Line) → AreLines true lines → IsFile lines (spell_lines lines)
