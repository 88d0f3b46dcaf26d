-- What is read of a document in a file of a store, and what is read for it from the store besides.
use Rattle.std.specs.Prelude.{◌≡◌, ℕ, List, length, take, nat_lt, Option, Some, None, unwrap_or, if◌then◌else◌}
use Rattle.sgml_io.specs.Files.{file_in}
use Rattle.sgml_io.specs.Records.{records}
use Rattle.sgml_parse.specs.syntax.declared.syntax.Syntax.{Syntax}
use Rattle.sgml_parse.specs.syntax.Implied.{implied_syntax}
use Rattle.sgml_parse.specs.theory_reading.Names.{Name}
use Rattle.sgml_parse.specs.theory_reading.Unread.{Input, Fetched, NotThere, TooLarge, Found}
use Rattle.sgml_parse.specs.declaring.Files.{Choices, IsOutsideOf, outside_of}

-- the files of a store, by their names
abbrev pub Files : Type 0
Files = List (List ℕ × List ℕ)

-- no text has more storage bytes, where no other limit is set (profile)
abbrev pub most_bytes : ℕ
most_bytes = 268435456

-- WHAT THE STORE HAS under a name, where no text has more storage bytes than the limit
abbrev pub fetched_as : ℕ → Option (List ℕ) → Fetched
fetched_as limit None = NotThere
fetched_as limit (Some bytes) = if nat_lt limit (length bytes) then TooLarge else Found (records bytes)

abbrev pub fetched_in : ℕ → Files → Name → Fetched
fetched_in limit files name = fetched_as limit (file_in files name)

-- THE INPUT that a document of these storage bytes is, in a run with this limit and these options: the document is cut
-- at the limit.
-- `declaration` is the syntax of the SGML declaration that a catalog names, where it names one (TR9401).
pub record IsInputOf (limit : ℕ) (files : Files) (c : Choices) (declaration : Option Syntax) (bytes : List ℕ) (I : Input) : Type 0 where
  pub of_options : IsOutsideOf c I.outside
  pub syntax : I.outside.syntax ≡ unwrap_or declaration implied_syntax
  pub fetched : (name : Name) → I.outside.fetched name ≡ fetched_in limit files name
  pub document : I.document ≡ records (take limit bytes)
  pub was_cut : I.was_cut ≡ nat_lt limit (length bytes)

-- there is one for each file
abbrev pub input_of : ℕ → Files → Choices → Option Syntax → List ℕ → Input
input_of limit files c declaration bytes = record {
  document = records (take limit bytes);
  was_cut = nat_lt limit (length bytes);
  outside = outside_of c (unwrap_or declaration implied_syntax) (fetched_in limit files);
}

abbrev pub EachFileIsInput : Type 0
EachFileIsInput =
    (limit : ℕ) (files : Files) (c : Choices) (declaration : Option Syntax) (bytes : List ℕ)
    → IsInputOf limit files c declaration bytes (input_of limit files c declaration bytes)
