-- What is answered of the book.
use Rattle.std.specs.Prelude.{◌≡◌, ℕ, List, [], ◌∷◌, Option, Some}
use Rattle.sgml_syntax.specs.declared.syntax.Syntax.{Syntax}
use Rattle.sgml_gen.specs.Book.{document_of}
use Rattle.sgml_conversion.specs.theory_reading.Unread.{Input, opening}
use Rattle.sgml_conversion.specs.declared.answer.Outcome.TheVariants as outcome
use Rattle.sgml_conversion.specs.source.Inputs.{Files, IsInputOf}
use Rattle.sgml_conversion.specs.declaring.Files.{Choices}
use Rattle.sgml_conversion.specs.Converting.{EndsFrom}
use Rattle.sgml_selfcheck.specs.Counts.{summary_of}
use Rattle.sgml_selfcheck.specs.declared.answer.Checked.{Checked}
use Rattle.sgml_selfcheck.specs.declared.answer.Checked.TheVariants as checked

-- THE ANSWER for an input: where it conforms, the summary of the bytes of its lines, else where reading stops
abbrev pub IsAnswer : Checked → Input → Type 0
IsAnswer (checked.Summary text) I =
    (out : List ℕ) × EndsFrom outcome.Conforming I (opening I.outside) (Some []) (Some out) × (text ≡ summary_of out)
IsAnswer (checked.Refused r x) I =
    (out : List ℕ) × EndsFrom (outcome.Refused r x) I (opening I.outside) (Some []) (Some out)

-- a store whose one file is the book of so many chapters
abbrev pub book_files : List ℕ → ℕ → Files
book_files name number = (name, document_of number) ∷ []

-- the answer for every input that the book is within this limit
abbrev pub Checks : ℕ → ℕ → Choices → Option Syntax → Checked → Type 0
Checks limit number c declaration answer =
    (I : Input) → IsInputOf limit (book_files c.base number) c declaration (document_of number) I → IsAnswer answer I

-- an input has one answer
abbrev pub OneCheck : Type 0
OneCheck = (I : Input) (a b : Checked) → IsAnswer a I → IsAnswer b I → a ≡ b
