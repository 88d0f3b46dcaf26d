-- What a run wrote of a document with all its tags is read as the document is.
use Rattle.std.proofs.Common.{◌≡◌, ℕ, inl, List, [], ◌++◌, Option, Some, None, Result, Ok, refl, sym, ap, ◌∙◌, subst}
use Rattle.std.specs.Io.KnownBytes.{Appends}
use Rattle.sgml_io.specs.Files.{file_in}
use Rattle.sgml_words.specs.declared.command.Command.{Command}
use Rattle.sgml_words.specs.declared.mode.Mode.{Mode}
use Rattle.sgml_words.specs.declared.mode.Mode.TheVariants as modes
use Rattle.sgml_settings.specs.Setting.{Sets}
use Rattle.sgml_settings.specs.declared.bad_file.BadFile.{BadFile}
use Rattle.sgml_settings.specs.declared.setting.Settings.{Settings}
use Rattle.sgml_settings.proofs.One.{one-setting}
use Rattle.sgml_selfcheck.specs.theory_reading.Unread.{Input}
use Rattle.sgml_selfcheck.specs.theory_reading.Reads.{Move, read_by}
use Rattle.sgml_selfcheck.proofs.theory_reading.Sessions.{over-is-longest}
use Rattle.sgml_settings.specs.theory_spelling.Spelled.{forms}
use Rattle.sgml_selfcheck.specs.sgml_conversion.source.Inputs.{Files, input_of}
use Rattle.sgml_selfcheck.specs.sgml_conversion.declared.answer.Outcome.{Outcome as Ending}
use Rattle.sgml_selfcheck.specs.sgml_conversion.declared.answer.Outcome.TheVariants as ending
use Rattle.sgml_selfcheck.specs.sgml_conversion.Full.{unspelled, IsFullDocument, EndsFull}
use Rattle.sgml_selfcheck.proofs.sgml_conversion.Answered.{same-moves}
use Rattle.sgml_theory_round.specs.Stored.{FilesAreReadAgain, ReadsBack}
use Rattle.sgml_cli.specs.Asked.{choices_of}
use Rattle.sgml_cli.specs.Outcome.{IsJudged, IsFullAnswer, ForFull, ForMode, ForSettings, Outcome, Taken, Whole, Answers, AnswersFrom}
use Rattle.sgml_cli.specs.Back.{FullReadsBack, AnswersReadBack}
use Rattle.sgml_cli.specs.declared.status.Status.{Status}
use Rattle.sgml_cli.specs.declared.status.Status.TheVariants as statuses

-- the document conforms where the status says so
is-conforming : (how : Ending) (log : List ℕ) → IsJudged how statuses.Conforming log → how ≡ ending.Conforming
is-conforming ending.Conforming log j = refl
is-conforming (ending.Refused r x) log j = absurd (cc)
is-conforming ending.Absent log j = absurd j

reads-back : FilesAreReadAgain → (limit : ℕ) (files : Files) (c : Command) (s : Settings) (bytes out : List ℕ)
    → EndsFull ending.Conforming bytes (input_of limit files (choices_of c s) s.declaration bytes) (Some []) (Some out)
    → ReadsBack limit files (choices_of c s) s.declaration bytes out
reads-back again limit files c s bytes out x ms p r over may short =
    let I = input_of limit files (choices_of c s) s.declaration bytes in
    let same : x.moves ≡ ms =
    same-moves x.moves ms (over-is-longest forms I x.moves ms x.read (inl x.end.0.0) r) (over-is-longest forms I ms x.moves r (inl over) x.read) in
    let is : out ≡ x.gained.0 = x.gained.2 in
    let full : IsFullDocument bytes (read_by I ms) out =
    subst (IsFullDocument bytes (read_by I ms)) (sym is) (subst (λ (ns : List Move). IsFullDocument bytes (read_by I ns) x.gained.0) same x.gained.1) in
    let none : unspelled (read_by I ms) ≡ None = subst (λ (ns : List Move). unspelled (read_by I ns) ≡ None) same x.end.1 in
    again limit files (choices_of c s) s.declaration bytes out ms p r over may none full short

full-answer : FilesAreReadAgain → (limit : ℕ) (files : Files) (c : Command) (s : Settings) (bytes out log : List ℕ)
    → IsFullAnswer bytes (input_of limit files (choices_of c s) s.declaration bytes) statuses.Conforming out log
    → ReadsBack limit files (choices_of c s) s.declaration bytes out
full-answer again limit files c s bytes out log x =
    let I = input_of limit files (choices_of c s) s.declaration bytes in
    reads-back again limit files c s bytes out
    (subst (λ (how : Ending). EndsFull how bytes I (Some []) (Some out)) (is-conforming x.how log x.judged) x.ends)

outcome-back : FilesAreReadAgain → (limit : ℕ) (files : Files) (c : Command) (s : Settings) (bytes out log : List ℕ)
    → c.mode ≡ modes.Full → file_in files c.file ≡ Some bytes → ForMode limit c.mode files c s statuses.Conforming out log
    → ReadsBack limit files (choices_of c s) s.declaration bytes out
outcome-back again limit files c s bytes out log m f x =
    let full : ForFull limit files c s (file_in files c.file) statuses.Conforming out log =
    subst (λ (k : Mode). ForMode limit k files c s statuses.Conforming out log) m x in
    full-answer again limit files c s bytes out log (subst (λ (o : Option (List ℕ)). ForFull limit files c s o statuses.Conforming out log) f full)

whole-back : FilesAreReadAgain → (limit : ℕ) (files : Files) (c : Command) (s : Settings) (bytes : List ℕ) (out log : Taken) → c.mode ≡ modes.Full
    → Sets files c.catalog (Ok s) → file_in files c.file ≡ Some bytes → Whole limit files (Some c) statuses.Conforming out log
    → (text : List ℕ) × Appends out.before out.now text × ReadsBack limit files (choices_of c s) s.declaration bytes text
whole-back again limit files c s bytes out log m set f w =
    let o = w.2 in
    let same : o.0 ≡ Ok s = one-setting files c.catalog o.0 (Ok s) o.1 set in (
      w.0,
      w.3,
      outcome-back again limit files c s bytes w.0 w.1 m f (subst (λ (x : Result Settings BadFile). ForSettings limit files c x statuses.Conforming w.0 w.1) same o.2),
    )

-- LAW
pub answers-read-back : FilesAreReadAgain → AnswersReadBack
answers-read-back again limit known command status out log a files c s bytes k m full t set f =
    let by_known = subst (λ (o : Option Files). AnswersFrom limit o command status out log) k a in
    let by_command = subst (λ (o : Option Command). Answers limit files o status out log) m by_known in
    whole-back again limit files c s bytes out log full set f (subst (λ (x : Status). Answers limit files (Some c) x out log) t by_command)
