-- The book is found in its store, and is converted.
use Rattle.std.proofs.Common.{◌≡◌, ℕ, List, [], refl, ap, subst, cond, Option, None, Some, Ok}
use Rattle.std.specs.Prelude.{IfSome, Result}
use Rattle.std.proofs.lemmas.Slice.Eq.{bytes_eq-Decides}
use Rattle.sgml_io.specs.Files.{file_in}
use Rattle.sgml_syntax.specs.declared.syntax.Syntax.{Syntax}
use Rattle.sgml_gen.specs.Book.{document_of}
use Rattle.sgml_conversion.specs.theory_reading.Unread.{Input, opening}
use Rattle.sgml_conversion.specs.declared.answer.Outcome.{Outcome}
use Rattle.sgml_conversion.specs.declared.answer.Outcome.TheVariants as outcome
use Rattle.sgml_conversion.specs.declared.answer.Failure.{Failure}
use Rattle.sgml_conversion.specs.source.Inputs.{Files, IsInputOf, input_of, EachFileIsInput}
use Rattle.sgml_conversion.specs.declaring.Files.{Choices}
use Rattle.sgml_conversion.specs.Converting.{AnswersFrom, ConvertsFile, Converts}
use Rattle.sgml_selfcheck.specs.Checking.{book_files}

book_found : (name : List ℕ) (number : ℕ) → file_in (book_files name number) name ≡ Some (document_of number)
book_found name number = ap (λ t. cond t (Some (document_of number)) None) ((bytes_eq-Decides name name).1 refl)

is_input : EachFileIsInput
is_input = λ limit files c declaration bytes. record {
  of_options = record { expand = refl; file = refl; resolved = λ kind name external base. refl };
  syntax = refl;
  fetched = λ name. refl;
  document = refl;
  was_cut = refl;
}

-- what was converted is the book
pub converted : (limit : ℕ) (known : Option Files) (c : Choices) (declaration : Option Syntax) (number : ℕ) (old new : List ℕ) (result : Result Outcome Failure)
    → known ≡ Some (book_files c.base number) → old ≡ [] → IfSome known (λ files. Converts limit files c declaration (Some old) (Some new) result)
    → (I : Input) → IsInputOf limit (book_files c.base number) c declaration (document_of number) I → AnswersFrom I (opening I.outside) (Some []) (Some new) result
converted limit known c declaration number old new result told none h I input =
    let K : Option Files → Type 0 = λ o. IfSome o (λ files. Converts limit files c declaration (Some old) (Some new) result) in
    let F : Option (List ℕ) → Type 0 = λ o. ConvertsFile limit (book_files c.base number) c declaration o (Some old) (Some new) result in
    let A : List ℕ → Type 0 = λ v. AnswersFrom I (opening I.outside) (Some v) (Some new) result in
    subst A none ((subst F (book_found c.base number) (subst K told h)) I input)

-- it isn't absent
pub never_absent : (limit : ℕ) (known : Option Files) (c : Choices) (declaration : Option Syntax) (number : ℕ) (old new : List ℕ)
    → known ≡ Some (book_files c.base number) → old ≡ [] → IfSome known (λ files. Converts limit files c declaration (Some old) (Some new) (Ok outcome.Absent)) → ⊥
never_absent limit known c declaration number old new told none h =
    let files : Files = book_files c.base number in
    (converted limit known c declaration number old new (Ok outcome.Absent) told none h (input_of limit files c declaration (document_of number)) (is_input limit files c declaration (document_of number))).end
