-- Each run has an outcome.
use Rattle.std.proofs.Common.{◌≡◌, ℕ, List, [], Option, None, Some, Result, Ok, Err, refl, sym, subst}
use Rattle.sgml_text.specs.declared.reason.Reason.TheVariants as reasons
use Rattle.sgml_io.specs.Files.{file_in}
use Rattle.sgml_syntax.specs.declared.syntax.Syntax.{Syntax}
use Rattle.sgml_words.specs.Usage.{usage_line}
use Rattle.sgml_words.specs.declared.command.Command.{Command}
use Rattle.sgml_words.specs.declared.mode.Mode.{Mode}
use Rattle.sgml_words.specs.declared.mode.Mode.TheVariants as modes
use Rattle.sgml_selfcheck.specs.theory_reading.Unread.{Input}
use Rattle.sgml_selfcheck.specs.theory_reading.Pieces.{History}
use Rattle.sgml_selfcheck.specs.theory_reading.Reads.{Move, ReadsFromStart, read_by}
use Rattle.sgml_settings.specs.theory_spelling.Spelled.{forms}
use Rattle.sgml_settings.specs.declared.bad_file.BadFile.{BadFile}
use Rattle.sgml_settings.specs.declared.setting.Settings.{Settings}
use Rattle.sgml_settings.proofs.Each.{each-run-is-set}
use Rattle.sgml_selfcheck.specs.sgml_conversion.source.Inputs.{Files, IsInputOf, input_of}
use Rattle.sgml_selfcheck.specs.sgml_conversion.declaring.Files.{Choices}
use Rattle.sgml_selfcheck.specs.sgml_conversion.declared.answer.Outcome.{Outcome as Ending}
use Rattle.sgml_selfcheck.specs.sgml_conversion.declared.answer.Outcome.TheVariants as ending
use Rattle.sgml_selfcheck.specs.sgml_conversion.Converting.{IsEnd}
use Rattle.sgml_selfcheck.specs.sgml_conversion.Lines.{bytes_of}
use Rattle.sgml_selfcheck.specs.sgml_conversion.Full.{EndsFull}
use Rattle.sgml_selfcheck.proofs.sgml_conversion.Ended.{each-input-has-an-end}
use Rattle.sgml_selfcheck.proofs.sgml_conversion.FullEnded.{each-input-has-a-full-end}
use Rattle.sgml_cli.proofs.Inputs.{file-is-input}
use Rattle.sgml_line_summary.proofs.Each as lines
use Rattle.sgml_selfcheck.specs.gen.Book.{document_of}
use Rattle.sgml_selfcheck.specs.Counts.{summary_of}
use Rattle.sgml_selfcheck.specs.Checking.{IsAnswer as IsChecked, book_files, Checks}
use Rattle.sgml_selfcheck.specs.declared.answer.Checked.{Checked}
use Rattle.sgml_selfcheck.specs.declared.answer.Checked.TheVariants as checked
use Rattle.sgml_cli.specs.Asked.{choices_of}
use Rattle.sgml_cli.specs.Logging.{log_line}
use Rattle.sgml_cli.specs.Counting.{count_of_lines, count_of_book, Counts, IsCountTold, ForCount}
use Rattle.sgml_cli.specs.Outcome.{refused_at, IsJudged, out_in, IsAnswer, ForFile, ForFull, bad_line, ForMode, ForSettings, Outcome}
use Rattle.sgml_cli.specs.declared.counted.Counted.{Counted}
use Rattle.sgml_cli.specs.declared.counted.Counted.TheVariants as counted
use Rattle.sgml_cli.specs.declared.status.Status.{Status}
use Rattle.sgml_cli.specs.declared.status.Status.TheVariants as statuses

-- there are an answer, an output and a log of which this holds
abbrev AnAnswer : (Status → List ℕ → List ℕ → Type 0) → Type 0
AnAnswer P = (s : Status) × (a : List ℕ) × (l : List ℕ) × P s a l

-- of a document
judged : (how : Ending) (I : Input) (h : History) → IsEnd how I h → (s : Status) × (l : List ℕ) × IsJudged how s l
judged ending.Conforming I h e = (statuses.Conforming, [], (refl, refl))
judged (ending.Refused r x) I h e = (statuses.Refused r, log_line x.name (x.line, x.column) r.reason, (refl, refl))
judged ending.Absent I h e = absurd e

of-input : (mode : Mode) (I : Input) → AnAnswer (IsAnswer mode I)
of-input mode I =
    let x = each-input-has-an-end I in
    let y = judged x.2.0 I (read_by I x.0) x.2.1 in
    (y.0, out_in mode (bytes_of (read_by I x.0)), y.1, record { moves = x.0; read = x.1; how = x.2.0; end = x.2.1; judged = y.2; lines = refl })

of-file : (limit : ℕ) (mode : Mode) (files : Files) (c : Command) (set : Settings) (found : Option (List ℕ)) → AnAnswer (ForFile limit mode files c set found)
of-file limit mode files c set None = (refused_at 0 reasons.Absent, [], log_line c.file (1, 1) reasons.Absent, (refl, refl, refl))
of-file limit mode files c set (Some bytes) = of-input mode (input_of limit files (choices_of c set) set.declaration bytes)

-- with all its tags
full-judged : (how : Ending) (bytes : List ℕ) (I : Input) (out : List ℕ) → EndsFull how bytes I (Some []) (Some out) → (s : Status) × (l : List ℕ) × IsJudged how s l
full-judged ending.Conforming bytes I out e = (statuses.Conforming, [], (refl, refl))
full-judged (ending.Refused r x) bytes I out e = (statuses.Refused r, log_line x.name (x.line, x.column) r.reason, (refl, refl))
full-judged ending.Absent bytes I out e = absurd e.end

of-full : (limit : ℕ) (files : Files) (c : Command) (set : Settings) (found : Option (List ℕ)) → AnAnswer (ForFull limit files c set found)
of-full limit files c set None = (refused_at 0 reasons.Absent, [], log_line c.file (1, 1) reasons.Absent, (refl, refl, refl))
of-full limit files c set (Some bytes) =
    let I = input_of limit files (choices_of c set) set.declaration bytes in
    let x = each-input-has-a-full-end limit files (choices_of c set) set.declaration bytes I (file-is-input limit files c set bytes) in
    let y = full-judged x.0 bytes I x.1 x.2 in
    (y.0, x.1, y.1, record { how = x.0; ends = x.2; judged = y.2 })

-- of a count
told : (x : Counted) → AnAnswer (IsCountTold x)
told (counted.Summary text) = (statuses.Conforming, text, [], (refl, refl, refl))
told (counted.Refused r name line column) = (statuses.Refused r, [], log_line name (line, column) r.reason, (refl, refl, refl))

counting : (limit : ℕ) (mode : Mode) (files : Files) (c : Command) (set : Settings) (x : Counted) → Counts limit mode files c set x → AnAnswer (ForCount limit mode files c set)
counting limit mode files c set x h = let y = told x in (y.0, y.1, y.2, (x, h, y.3))

-- of the book: the input that it is has an answer
checked-by : (I : Input) (ms : List Move) (how : Ending) → ReadsFromStart forms I ms → IsEnd how I (read_by I ms) → (x : Checked) × IsChecked x I
checked-by I ms ending.Conforming r e =
    let out = bytes_of (read_by I ms) in
    (checked.Summary (summary_of out), (out, record { moves = ms; read = r; end = e; lines = refl }, refl))
checked-by I ms (ending.Refused q x) r e = (checked.Refused q x, (bytes_of (read_by I ms), record { moves = ms; read = r; end = e; lines = refl }))
checked-by I ms ending.Absent r e = absurd e

each-check : (I : Input) → (x : Checked) × IsChecked x I
each-check I = let x = each-input-has-an-end I in checked-by I x.0 x.2.0 x.1 x.2.1

-- and all inputs that it is are that one
same-input : (limit : ℕ) (files : Files) (c : Choices) (declaration : Option Syntax) (bytes : List ℕ) (I : Input) → IsInputOf limit files c declaration bytes I → input_of limit files c declaration bytes ≡ I
same-input limit files c declaration bytes I is = λ i. record {
  document = sym is.document i;
  was_cut = sym is.was_cut i;
  outside = record {
    syntax = sym is.syntax i;
    expand = sym is.of_options.expand i;
    file = sym is.of_options.file i;
    resolved = λ kind name external base. sym (is.of_options.resolved kind name external base) i;
    fetched = λ name. sym (is.fetched name) i;
  };
}

each-book : (limit : ℕ) (number : ℕ) (c : Choices) (declaration : Option Syntax) → (x : Checked) × Checks limit number c declaration x
each-book limit number c declaration =
    let files = book_files c.base number in
    let x = each-check (input_of limit files c declaration (document_of number)) in
    (x.0, λ I is. subst (IsChecked x.0) (same-input limit files c declaration (document_of number) I is) x.1)

-- by the mode
of-mode : (limit : ℕ) (mode : Mode) (files : Files) (c : Command) (set : Settings) → AnAnswer (ForMode limit mode files c set)
of-mode limit modes.Esis files c set = of-file limit modes.Esis files c set (file_in files c.file)
of-mode limit modes.Full files c set = of-full limit files c set (file_in files c.file)
of-mode limit modes.Check files c set = of-file limit modes.Check files c set (file_in files c.file)
of-mode limit modes.Lines files c set =
    let x = lines.each (file_in files c.file) limit in
    counting limit modes.Lines files c set (count_of_lines c x.0) (x.0, x.1, refl)
of-mode limit (modes.Selfcheck number) files c set =
    let x = each-book limit number (choices_of c set) set.declaration in
    counting limit (modes.Selfcheck number) files c set (count_of_book x.0) (x.0, x.1, refl)

of-settings : (limit : ℕ) (files : Files) (c : Command) (set : Result Settings BadFile) → AnAnswer (ForSettings limit files c set)
of-settings limit files c (Err bad) = (statuses.Refused bad.refusal, [], bad_line bad, (refl, refl, refl))
of-settings limit files c (Ok set) = of-mode limit c.mode files c set

pub each-run-has-an-outcome : (limit : ℕ) (files : Files) (command : Option Command) → (s : Status) × (a : List ℕ) × (l : List ℕ) × Outcome limit files command s a l
each-run-has-an-outcome limit files None = (statuses.Usage, [], usage_line, (refl, refl, refl))
each-run-has-an-outcome limit files (Some c) =
    let set = each-run-is-set files c.catalog in
    let x = of-settings limit files c set.0 in
    (x.0, x.1, x.2, (set.0, set.1, x.3))
