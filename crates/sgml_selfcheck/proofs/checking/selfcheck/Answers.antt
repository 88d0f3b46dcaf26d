use Rattle.std.proofs.Common.{◌≡◌, ℕ, List, ap, ◌∙◌, Option, Some, Ok}
use Rattle.sgml_io.specs.InMemory.{files_told}
use Rattle.sgml_conversion.specs.declared.answer.Outcome.TheVariants as outcome
use Rattle.sgml_conversion.specs.source.Inputs.{Files}
use Rattle.sgml_conversion.specs.declaring.Files.{Choices}
use Rattle.sgml_selfcheck.specs.Checking.{book_files}
use Rattle.sgml_selfcheck.proofs.Converted.{converted, never_absent}
use Rattle.sgml_selfcheck.proofs.checking.selfcheck.Goals as goal

-- the store has the book under the name that the options tell
told : (known : Option Files) (c d : Choices) (name : List ℕ) (number : ℕ) → known ≡ Some (book_files name number) → name ≡ d.base → d ≡ c → known ≡ Some (book_files c.base number)
told known c d name number is named same = is ∙ ap (λ n. Some (book_files n number)) (named ∙ ap (λ v. v.base) same)

pub returns-in-Ok-Conforming : goal.returns-in-Ok-Conforming
returns-in-Ok-Conforming g c = λ I input.
    let o = c.args.options.value in
    let there = told (files_told c.in_ok-store.store) o c.deref.result.now c.items.result.now c.args.number c.in_ok-store.ensures c.items.ensures c.deref.ensures in
    let read = rw c.in-Ok-Conforming.field-0-is at c.in-Ok-Conforming.ensures.converts in
    let out : List ℕ = c.convert.new.out.taken.numbers in
    (out, converted c.args.limit (files_told c.in_ok-store.store) o c.args.declaration c.args.number c.new-tally.result.taken.numbers out (Ok outcome.Conforming) there c.new-tally.ensures read I input, c.in_ok-summary-in-Ok-Conforming.ensures)

pub returns-in-Ok-Refused : goal.returns-in-Ok-Refused
returns-in-Ok-Refused g c = λ I input.
    let o = c.args.options.value in
    let there = told (files_told c.in_ok-store.store) o c.deref.result.now c.items.result.now c.args.number c.in_ok-store.ensures c.items.ensures c.deref.ensures in
    let read = rw c.in-Ok-Refused.field-0-is at c.in-Ok-Refused.ensures.converts in
    let out : List ℕ = c.convert.new.out.taken.numbers in
    (out, converted c.args.limit (files_told c.in_ok-store.store) o c.args.declaration c.args.number c.new-tally.result.taken.numbers out (Ok (outcome.Refused c.in-Ok-Refused.refusal c.in-Ok-Refused.position)) there c.new-tally.ensures read I input)

pub unreachable-requires : goal.unreachable-requires
unreachable-requires g c =
    let o = c.args.options.value in
    let there = told (files_told c.in_ok-store.store) o c.deref.result.now c.items.result.now c.args.number c.in_ok-store.ensures c.items.ensures c.deref.ensures in
    let read = rw c.in-Ok-Absent.field-0-is at c.in-Ok-Absent.ensures.converts in
    never_absent c.args.limit (files_told c.in_ok-store.store) o c.args.declaration c.args.number c.new-tally.result.taken.numbers c.convert.new.out.taken.numbers there c.new-tally.ensures read
