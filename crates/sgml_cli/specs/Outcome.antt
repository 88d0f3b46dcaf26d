-- What a run of the command answers and writes.
use Rattle.std.specs.Prelude.{◌≡◌, ◌⊎◌, ◌==◌, ◌||◌, ℕ, Bool, Result, Ok, Err, List, [], Option, None, Some, codes, true, map, string_bytes, String}
use Rattle.std.specs.Io.KnownBytes.{Appends}
use Rattle.sgml_text.specs.declared.reason.Reason.{Reason}
use Rattle.sgml_text.specs.declared.reason.Reason.TheVariants as reasons
use Rattle.sgml_io.specs.Files.{file_in}
use Rattle.sgml_io.specs.Writes.{AppendsFront}
use Rattle.sgml_words.specs.Usage.{usage_line}
use Rattle.sgml_words.specs.declared.command.Command.{Command}
use Rattle.sgml_words.specs.declared.mode.Mode.{Mode}
use Rattle.sgml_words.specs.declared.mode.Mode.TheVariants as modes
use Rattle.sgml_selfcheck.specs.theory_reading.Unread.{Input}
use Rattle.sgml_selfcheck.specs.theory_reading.Reads.{Move, ReadsFromStart, read_by}
use Rattle.sgml_settings.specs.theory_spelling.Spelled.{forms}
use Rattle.sgml_settings.specs.Setting.{Sets}
use Rattle.sgml_settings.specs.declared.bad_file.BadFile.{BadFile}
use Rattle.sgml_settings.specs.declared.bad_file.SettingsError.{SettingsError}
use Rattle.sgml_settings.specs.declared.bad_file.SettingsError.TheVariants as unset
use Rattle.sgml_settings.specs.declared.setting.Settings.{Settings}
use Rattle.sgml_selfcheck.specs.sgml_conversion.source.Inputs.{Files, input_of}
use Rattle.sgml_selfcheck.specs.sgml_conversion.declared.answer.Outcome.{Outcome as Ending}
use Rattle.sgml_selfcheck.specs.sgml_conversion.declared.answer.Outcome.TheVariants as ending
use Rattle.sgml_selfcheck.specs.sgml_conversion.Converting.{IsEnd}
use Rattle.sgml_selfcheck.specs.sgml_conversion.Full.{EndsFull}
use Rattle.sgml_selfcheck.specs.sgml_conversion.Lines.{bytes_of}
use Rattle.sgml_cli.specs.Asked.{choices_of, asked}
use Rattle.sgml_cli.specs.Logging.{log_line, Finished}
use Rattle.sgml_cli.specs.Places.{is_first_read}
use Rattle.sgml_cli.specs.Counting.{ForCount}
use Rattle.sgml_cli.specs.declared.status.Status.{Status}
use Rattle.sgml_cli.specs.declared.status.Status.TheVariants as statuses
use Rattle.sgml_io.specs.Causes.{Rose}

-- refused at this offset of the text of this number; that of the document is 0
abbrev pub refused_in : ℕ → ℕ → Reason → Status
refused_in number at reason = statuses.Refused (record { place = record { entity = number; at = at }; reason = reason })

abbrev pub refused_at : ℕ → Reason → Status
refused_at at reason = refused_in 0 at reason

-- the status and the log, by how a document was read
abbrev pub IsJudged : Ending → Status → List ℕ → Type 0
IsJudged ending.Conforming status log = (status ≡ statuses.Conforming) × (log ≡ [])
IsJudged (ending.Refused r x) status log = (status ≡ statuses.Refused r) × (log ≡ log_line x.name (x.line, x.column) r.reason)
IsJudged ending.Absent status log = ⊥

-- in the mode `check` no line is written
abbrev pub out_in : Mode → List ℕ → List ℕ
out_in modes.Check lines = []
out_in mode lines = lines

-- THE ANSWER for an input: what is read of it, up to its end or to where reading stops, with its lines
pub record IsAnswer (mode : Mode) (I : Input) (status : Status) (out log : List ℕ) : Type 0 where
  pub moves : List Move
  pub read : ReadsFromStart forms I moves
  pub how : Ending
  pub end : IsEnd how I (read_by I moves)
  pub judged : IsJudged how status log
  pub lines : out ≡ out_in mode (bytes_of (read_by I moves))

-- for a file, in a run that is set so
abbrev pub ForFile : ℕ → Mode → Files → Command → Settings → Option (List ℕ) → Status → List ℕ → List ℕ → Type 0
ForFile limit mode files c s None status out log =
    (status ≡ refused_at 0 reasons.Absent) × (out ≡ []) × (log ≡ log_line c.file (1, 1) reasons.Absent)
ForFile limit mode files c s (Some bytes) status out log = IsAnswer mode (input_of limit files (choices_of c s) s.declaration bytes) status out log

-- THE ANSWER for an input that is written with all its tags: its full document, or nothing where it is refused
pub record IsFullAnswer (bytes : List ℕ) (I : Input) (status : Status) (out log : List ℕ) : Type 0 where
  pub how : Ending
  pub ends : EndsFull how bytes I (Some []) (Some out)
  pub judged : IsJudged how status log

abbrev pub ForFull : ℕ → Files → Command → Settings → Option (List ℕ) → Status → List ℕ → List ℕ → Type 0
ForFull limit files c s None status out log = ForFile limit modes.Full files c s None status out log
ForFull limit files c s (Some bytes) status out log = IsFullAnswer bytes (input_of limit files (choices_of c s) s.declaration bytes) status out log

-- a catalog, or its SGML declaration, that can't be read ends the run; else the document is read, or it is counted
abbrev pub bad_line : BadFile → List ℕ
bad_line bad = log_line bad.position.name (bad.position.line, bad.position.column) bad.refusal.reason

-- by the mode
abbrev pub ForMode : ℕ → Mode → Files → Command → Settings → Status → List ℕ → List ℕ → Type 0
ForMode limit modes.Lines files c s status out log = ForCount limit modes.Lines files c s status out log
ForMode limit (modes.Selfcheck number) files c s status out log = ForCount limit (modes.Selfcheck number) files c s status out log
ForMode limit modes.Full files c s status out log = ForFull limit files c s (file_in files c.file) status out log
ForMode limit mode files c s status out log = ForFile limit mode files c s (file_in files c.file) status out log

abbrev pub ForSettings : ℕ → Files → Command → Result Settings BadFile → Status → List ℕ → List ℕ → Type 0
ForSettings limit files c (Err bad) status out log = (status ≡ statuses.Refused bad.refusal) × (out ≡ []) × (log ≡ bad_line bad)
ForSettings limit files c (Ok s) status out log = ForMode limit c.mode files c s status out log

-- THE ONE ANSWER of a run that meets no fault, with what it writes: the document, or what is read in its place, and each text that it
-- opens may have as many bytes as the limit; the catalog and its SGML declaration as many as ever (profile)
abbrev pub Outcome : ℕ → Files → Option Command → Status → List ℕ → List ℕ → Type 0
Outcome limit files None status out log = (status ≡ statuses.Usage) × (out ≡ []) × (log ≡ usage_line)
Outcome limit files (Some c) status out log = (set : Result Settings BadFile) × Sets files c.catalog set × ForSettings limit files c set status out log

-- the exit code of each answer (profile)
abbrev pub exit_code : Status → ℕ
exit_code statuses.Conforming = 0
exit_code (statuses.Refused r) = 1
exit_code statuses.Usage = 2
exit_code statuses.Store = 3
exit_code statuses.Sink = 4
exit_code statuses.Memory = 5

-- What a sink gained in a run, where it tells its bytes.
pub record Taken : Type 0 where
  pub before : Option (List ℕ)
  pub now : Option (List ℕ)

-- out gained a front of what the run without the fault would have written
abbrev pub Front : ℕ → Files → Option Command → Taken → Type 0
Front limit files command out =
    (status : Status) (bytes line : List ℕ) → Outcome limit files command status bytes line → AppendsFront out.before out.now bytes

-- the answer is that of the outcome, which was written whole
abbrev pub Whole : ℕ → Files → Option Command → Status → Taken → Taken → Type 0
Whole limit files command status out log =
    (bytes : List ℕ) × (line : List ℕ) × Outcome limit files command status bytes line × Appends out.before out.now bytes × Appends log.before log.now line

-- over a store that tells its files
abbrev pub Answers : ℕ → Files → Option Command → Status → Taken → Taken → Type 0
Answers limit files command statuses.Store out log = Front limit files command out × Appends log.before log.now (codes "sgmlesis: store\n")
Answers limit files command statuses.Memory out log = Front limit files command out × Appends log.before log.now (codes "sgmlesis: memory\n")
Answers limit files command statuses.Sink out log = Front limit files command out
Answers limit files command statuses.Conforming out log = Whole limit files command statuses.Conforming out log
Answers limit files command (statuses.Refused r) out log = Whole limit files command (statuses.Refused r) out log
Answers limit files command statuses.Usage out log = Whole limit files command statuses.Usage out log

abbrev pub AnswersFrom : ℕ → Option Files → Option Command → Status → Taken → Taken → Type 0
AnswersFrom limit None command status out log = status ≡ statuses.Usage → command ≡ None
AnswersFrom limit (Some files) command status out log = Answers limit files command status out log

-- OF A DOCUMENT that was read so, or isn't there, the status and the line of the log were told, or no memory was there for it
abbrev pub IsTold : Command → Ending → Status → List ℕ → Type 0
IsTold c ending.Absent status line = (status ≡ refused_at 0 reasons.Absent) × (line ≡ log_line c.file (1, 1) reasons.Absent)
IsTold c how status line = IsJudged how status line

pub record IsAnswered (c : Command) (how : Ending) (before now : Option (List ℕ)) (faults_before faults_now : ℕ) (result : Status) : Type 0 where
  pub status : Status
  pub line : List ℕ
  pub told : IsTold c how status line ⊎ ((status ≡ statuses.Memory) × (line ≡ codes "sgmlesis: memory\n"))
  pub finished : Finished before now faults_before faults_now status line result

-- OF A RUN that isn't set the status and the line of the log were told, or no memory was there for the line
abbrev pub IsRefusing : BadFile → Option (List ℕ) → Option (List ℕ) → ℕ → ℕ → Status → Type 0
IsRefusing bad before now faults_before faults_now result =
    Finished before now faults_before faults_now (statuses.Refused bad.refusal) (bad_line bad) result
    ⊎ Finished before now faults_before faults_now statuses.Memory (codes "sgmlesis: memory\n") result

abbrev pub IsStopped : SettingsError → Option (List ℕ) → Option (List ℕ) → ℕ → ℕ → Status → Type 0
IsStopped (unset.Refused bad) before now faults_before faults_now result = IsRefusing bad before now faults_before faults_now result
IsStopped unset.Store before now faults_before faults_now result = Finished before now faults_before faults_now statuses.Store (codes "sgmlesis: store\n") result
IsStopped unset.Memory before now faults_before faults_now result = Finished before now faults_before faults_now statuses.Memory (codes "sgmlesis: memory\n") result

-- an answer that may take the place of the outcome
abbrev pub IsFault : Status → Type 0
IsFault statuses.Conforming = ⊥
IsFault (statuses.Refused r) = ⊥
IsFault statuses.Usage = ⊥
IsFault statuses.Store = Unit {0}
IsFault statuses.Sink = Unit {0}
IsFault statuses.Memory = Unit {0}

-- IN A RUN that is set so and counts, the answer
abbrev pub CountsIn : ℕ → Option Files → Command → Settings → Status → Taken → Taken → Type 0
CountsIn limit None c s status out log = Unit {0}
CountsIn limit (Some files) c s status out log = Sets files c.catalog (Ok s) → Answers limit files (Some c) status out log

-- what a sink gained, of which it is told what it has taken
abbrev pub gain : {S : Type 0} → (S → Option (List ℕ)) → S → S → Taken
gain taken sink sink' = record { before = taken sink; now = taken sink' }

-- the command that these words mean
abbrev pub meant : {Z : Type 0} → List (String Z) → Option Command
meant words = asked (map string_bytes words)

-- THE OUTPUT FAILED, which the log tells, or the log did
abbrev pub SinkFailed : {O E : Type 0} → (O → ℕ) → O → O → (E → Option (List ℕ)) → (E → ℕ) → E → E → Type 0
SinkFailed faults out out' taken log_faults log log' =
    (Rose (faults out) (faults out') × Appends (taken log) (taken log') (codes "sgmlesis: sink\n")) ⊎ Rose (log_faults log) (log_faults log')

-- what holds where a file that is read first of all is told absent
abbrev pub WhereAbsentFirst : Status → Type 0 → Type 0
WhereAbsentFirst status Holds = (number : ℕ) → is_first_read number ≡ true → status ≡ refused_in number 0 reasons.Absent → Holds

-- that the store counted it
abbrev pub AbsentIsCounted : Status → ℕ → ℕ → Type 0
AbsentIsCounted status before now = WhereAbsentFirst status (Rose before now)

-- a catalog or its SGML declaration isn't there
abbrev pub IsOfAbsent : SettingsError → Type 0
IsOfAbsent error = (bad : BadFile) × (error ≡ unset.Refused bad) × (bad.refusal.reason ≡ reasons.Absent)

-- THE ANSWER TO THESE WORDS, over a store and sinks of which it is told what they have and have taken
abbrev pub AnswersWords : {Z O E : Type 0} → ℕ → Option Files → List (String Z) → (O → Option (List ℕ)) → O → O → (E → Option (List ℕ)) → E → E → Status → Type 0
AnswersWords limit known words taken out out' log_taken log log' status =
    AnswersFrom limit known (meant words) status (gain taken out out') (gain log_taken log log')

-- IN A RUN that is set so and counts, the same
abbrev pub CountsInto : {O E : Type 0} → ℕ → Option Files → Command → Settings → (O → Option (List ℕ)) → O → O → (E → Option (List ℕ)) → E → E → Status → Type 0
CountsInto limit known c s taken out out' log_taken log log' status =
    CountsIn limit known c s status (gain taken out out') (gain log_taken log log')

-- THE USAGE LINE is told only of words that are no command; of these nothing else is, but that the log failed, or want of memory
abbrev pub TellsUsage : {Z : Type 0} → List (String Z) → Status → Type 0
TellsUsage words status =
    (status ≡ statuses.Usage → meant words ≡ None)
    × (meant words ≡ None → (status ≡ statuses.Usage) ⊎ (status ≡ statuses.Sink) ⊎ (status ≡ statuses.Memory))

-- THE CAUSES of what a store and sinks answer, also where they tell nothing: a fault of the store was counted; the output failed, which
-- the log tells, or the log did; that the catalog, its SGML declaration or the document isn't there was said by the store
abbrev pub HaveCauses : {S O E : Type 0} → (S → ℕ) → (S → ℕ) → S → S → (O → ℕ) → O → O → (E → Option (List ℕ)) → (E → ℕ) → E → E → Status → Type 0
HaveCauses faults absents store store' out_faults out out' taken log_faults log log' status =
    (status ≡ statuses.Store → Rose (faults store) (faults store'))
    × (status ≡ statuses.Sink → SinkFailed out_faults out out' taken log_faults log log')
    × AbsentIsCounted status (absents store) (absents store')
