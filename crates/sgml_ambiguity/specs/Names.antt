-- The numbers of the names of tokens, and of #PCDATA.
use Rattle.std.specs.Prelude.{ℕ, List, Option, Some, None}
use Rattle.sgml_names.specs.Index.{found}

-- the number of a name, or, for None, of #PCDATA
abbrev pub number_in : List (List ℕ × ℕ) → Option ℕ → Option (List ℕ) → Option ℕ
number_in es text None = text
number_in es text (Some n) = found es n
