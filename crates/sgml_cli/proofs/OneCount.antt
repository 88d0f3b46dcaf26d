-- What is counted is one, and what is answered then.
use Rattle.std.proofs.Common.{◌≡◌, ℕ, false, List, Option, None, Some, refl, sym, ap, ◌∙◌, subst}
use Rattle.std.specs.Prelude.{IfSome}
use Rattle.sgml_io.specs.Files.{file_in}
use Rattle.sgml_words.specs.declared.command.Command.{Command}
use Rattle.sgml_words.specs.declared.mode.Mode.{Mode}
use Rattle.sgml_words.specs.declared.mode.Mode.TheVariants as modes
use Rattle.sgml_settings.specs.declared.setting.Settings.{Settings}
use Rattle.sgml_selfcheck.specs.sgml_conversion.source.Inputs.{Files, input_of}
use Rattle.sgml_line_summary.proofs.One as lines
use Rattle.sgml_selfcheck.specs.Checking.{book_files}
use Rattle.sgml_selfcheck.proofs.One as book
use Rattle.sgml_selfcheck.specs.gen.Book.{document_of}
use Rattle.sgml_cli.specs.Asked.{is_document, choices_of}
use Rattle.sgml_cli.specs.Counting.{Counts, ForCount, IsCountTold, count_of_lines, count_of_book}
use Rattle.sgml_cli.specs.Outcome.{ForMode}
use Rattle.sgml_cli.proofs.Inputs.{file-is-input}
use Rattle.sgml_cli.specs.declared.counted.Counted.{Counted}
use Rattle.sgml_cli.specs.declared.counted.Counted.TheVariants as counted
use Rattle.sgml_cli.specs.declared.status.Status.{Status}

-- ONE COUNT
pub one-count : (limit : ℕ) (mode : Mode) (files : Files) (c : Command) (set : Settings) (x y : Counted) → Counts limit mode files c set x → Counts limit mode files c set y → x ≡ y
one-count limit modes.Lines files c set x y h k =
    h.2 ∙ ap (count_of_lines c) (lines.one (file_in files c.file) limit h.0 k.0 h.1 k.1) ∙ sym k.2
one-count limit (modes.Selfcheck number) files c set x y h k =
    let own = book_files (choices_of c set).base number in
    let I = input_of limit own (choices_of c set) set.declaration (document_of number) in
    let i = file-is-input limit own c set (document_of number) in
    h.2 ∙ ap count_of_book (book.one I h.0 k.0 (h.1 I i) (k.1 I i)) ∙ sym k.2
one-count limit modes.Esis files c set x y h k = absurd h
one-count limit modes.Full files c set x y h k = absurd h
one-count limit modes.Check files c set x y h k = absurd h

same-told : (x : Counted) (s t : Status) (a b l m : List ℕ) → IsCountTold x s a l → IsCountTold x t b m → (s ≡ t) × (a ≡ b) × (l ≡ m)
same-told (counted.Summary text) s t a b l m h k = (h.0 ∙ sym k.0, h.1 ∙ sym k.1, h.2 ∙ sym k.2)
same-told (counted.Refused r name line column) s t a b l m h k = (h.0 ∙ sym k.0, h.1 ∙ sym k.1, h.2 ∙ sym k.2)

pub same-count : (limit : ℕ) (mode : Mode) (files : Files) (c : Command) (set : Settings) (s t : Status) (a b l m : List ℕ) → ForCount limit mode files c set s a l → ForCount limit mode files c set t b m → (s ≡ t) × (a ≡ b) × (l ≡ m)
same-count limit mode files c set s t a b l m h k =
    let same = one-count limit mode files c set h.0 k.0 h.1 k.1 in
    same-told k.0 s t a b l m (subst (λ (x : Counted). IsCountTold x s a l) same h.2) k.2

-- in a mode that counts, the outcome is of a count
pub mode-count : (limit : ℕ) (mode : Mode) (files : Files) (c : Command) (set : Settings) (s : Status) (a l : List ℕ) → is_document mode ≡ false → ForCount limit mode files c set s a l → ForMode limit mode files c set s a l
mode-count limit modes.Lines files c set s a l d h = h
mode-count limit (modes.Selfcheck number) files c set s a l d h = h
mode-count limit modes.Esis files c set s a l d h = absurd (cc d)
mode-count limit modes.Full files c set s a l d h = absurd (cc d)
mode-count limit modes.Check files c set s a l d h = absurd (cc d)

-- the book's count is that of the mode, whatever the store has
pub book-counts : (limit : ℕ) (known : Option Files) (mode : Mode) (number : ℕ) (c : Command) (set : Settings) (x : Counted) → mode ≡ modes.Selfcheck number → ((files : Files) → Counts limit (modes.Selfcheck number) files c set x)
    → IfSome known (λ files. Counts limit mode files c set x)
book-counts limit None mode number c set x e h = tt
book-counts limit (Some files) mode number c set x e h = subst (λ (m : Mode). Counts limit m files c set x) (sym e) (h files)
