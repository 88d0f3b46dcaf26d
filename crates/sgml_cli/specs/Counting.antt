-- What is counted in the modes `lines` and `selfcheck`, and how it is told. (profile)
use Rattle.std.specs.Prelude.{◌≡◌, ◌⊎◌, ℕ, List, [], Option, codes, true}
use Rattle.std.specs.Io.KnownBytes.{Appends}
use Rattle.sgml_text.specs.declared.place.Refusal.{Refusal}
use Rattle.sgml_io.specs.Files.{file_in}
use Rattle.sgml_io.specs.Causes.{Rose}
use Rattle.sgml_io.specs.Writes.{AppendsFront}
use Rattle.sgml_words.specs.declared.command.Command.{Command}
use Rattle.sgml_words.specs.declared.mode.Mode.{Mode}
use Rattle.sgml_words.specs.declared.mode.Mode.TheVariants as modes
use Rattle.sgml_settings.specs.declared.setting.Settings.{Settings}
use Rattle.sgml_selfcheck.specs.sgml_conversion.source.Inputs.{Files}
use Rattle.sgml_line_summary.specs.Summary.{IsAnswer}
use Rattle.sgml_line_summary.specs.declared.answer.Summarized.{Summarized}
use Rattle.sgml_line_summary.specs.declared.answer.Summarized.TheVariants as summarized
use Rattle.sgml_selfcheck.specs.Checking.{Checks}
use Rattle.sgml_selfcheck.specs.declared.answer.Checked.{Checked}
use Rattle.sgml_selfcheck.specs.declared.answer.Checked.TheVariants as checked
use Rattle.sgml_cli.specs.Asked.{choices_of}
use Rattle.sgml_cli.specs.Logging.{log_line, Finished}
use Rattle.sgml_cli.specs.declared.counted.Counted.{Counted}
use Rattle.sgml_cli.specs.declared.counted.Counted.TheVariants as counted
use Rattle.sgml_cli.specs.declared.status.Status.{Status}
use Rattle.sgml_cli.specs.declared.status.Status.TheVariants as statuses
use Rattle.sgml_cli.specs.Places.{is_first_read}
use Rattle.sgml_text.specs.declared.reason.Reason.TheVariants.{Absent}

-- of a file of lines, by its summary
abbrev pub count_of_lines : Command → Summarized → Counted
count_of_lines c (summarized.Summary text) = counted.Summary text
count_of_lines c (summarized.Refused r line column) = counted.Refused r c.file line column

-- of the generated book, by how it was read
abbrev pub count_of_book : Checked → Counted
count_of_book (checked.Summary text) = counted.Summary text
count_of_book (checked.Refused r x) = counted.Refused r x.name x.line x.column

-- WHAT IS COUNTED in a run that is set so
abbrev pub Counts : ℕ → Mode → Files → Command → Settings → Counted → Type 0
Counts limit modes.Lines files c s x = (a : Summarized) × IsAnswer (file_in files c.file) limit a × (x ≡ count_of_lines c a)
Counts limit (modes.Selfcheck number) files c s x = (a : Checked) × Checks limit number (choices_of c s) s.declaration a × (x ≡ count_of_book a)
Counts limit mode files c s x = ⊥

-- WHAT IS ANSWERED and written then
abbrev pub IsCountTold : Counted → Status → List ℕ → List ℕ → Type 0
IsCountTold (counted.Summary text) status out log = (status ≡ statuses.Conforming) × (out ≡ text) × (log ≡ [])
IsCountTold (counted.Refused r name line column) status out log =
    (status ≡ statuses.Refused r) × (out ≡ []) × (log ≡ log_line name (line, column) r.reason)

abbrev pub ForCount : ℕ → Mode → Files → Command → Settings → Status → List ℕ → List ℕ → Type 0
ForCount limit mode files c s status out log = (x : Counted) × Counts limit mode files c s x × IsCountTold x status out log

-- it is refused so
abbrev pub IsRefusedBy : Counted → Refusal → Type 0
IsRefusedBy (counted.Summary text) q = ⊥
IsRefusedBy (counted.Refused r name line column) q = r ≡ q

-- A SUMMARY WAS WRITTEN, or the output failed; the line of a refusal was written to the log, or no memory was there for it
abbrev pub IsCountAnswered : Counted → Option (List ℕ) → Option (List ℕ) → ℕ → ℕ → Option (List ℕ) → Option (List ℕ) → ℕ → ℕ → Status → Type 0
IsCountAnswered (counted.Summary text) before now faults_before faults_now log_before log_now log_faults_before log_faults_now result =
    (Appends before now text × Finished log_before log_now log_faults_before log_faults_now statuses.Conforming [] result)
    ⊎ (AppendsFront before now text × Rose faults_before faults_now × Finished log_before log_now log_faults_before log_faults_now statuses.Sink (codes "sgmlesis: sink\n") result)
IsCountAnswered (counted.Refused r name line column) before now faults_before faults_now log_before log_now log_faults_before log_faults_now result =
    (now ≡ before)
    × (Finished log_before log_now log_faults_before log_faults_now (statuses.Refused r) (log_line name (line, column) r.reason) result
    ⊎ Finished log_before log_now log_faults_before log_faults_now statuses.Memory (codes "sgmlesis: memory\n") result)

-- what holds where it is refused as a file that isn't there, at the start of one that is read first of all
abbrev pub WhereAbsent : Counted → Type 0 → Type 0
WhereAbsent x Holds = (q : Refusal) → IsRefusedBy x q → q.reason ≡ Absent → q.place.at ≡ 0 → is_first_read q.place.entity ≡ true → Holds

-- into an output and a log of which it is told what they have taken and how often they failed
abbrev pub AnswersCount : {O E : Type 0} → Counted → (O → Option (List ℕ)) → (O → ℕ) → O → O → (E → Option (List ℕ)) → (E → ℕ) → E → E → Status → Type 0
AnswersCount x taken faults out out' log_taken log_faults log log' result =
    IsCountAnswered x (taken out) (taken out') (faults out) (faults out') (log_taken log) (log_taken log') (log_faults log) (log_faults log') result

-- what holds where it is refused as a file that isn't there
abbrev pub WhereMissing : Counted → Type 0 → Type 0
WhereMissing x Holds = (q : Refusal) → IsRefusedBy x q → q.reason ≡ Absent → Holds
