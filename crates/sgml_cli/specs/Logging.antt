-- The lines of the log.
use Rattle.std.specs.Prelude.{◌≡◌, ◌⊎◌, ◌≤◌, ℕ, List, [], ◌∷◌, ◌++◌, Option, decimal}
use Rattle.std.specs.Io.KnownBytes.{Appends}
use Rattle.sgml_text.specs.Codes.{code_of}
use Rattle.sgml_text.specs.declared.reason.Reason.{Reason}
use Rattle.sgml_io.specs.Causes.{Rose}
use Rattle.sgml_cli.specs.declared.status.Status.{Status}
use Rattle.sgml_cli.specs.declared.status.Status.TheVariants as statuses

-- a place by its line and column, and the code of a reason, to the end of the line
abbrev pub place_and_code : ℕ → ℕ → Reason → List ℕ
place_and_code line column reason = 58 ∷ (decimal line ++ (58 ∷ (decimal column ++ (58 ∷ (code_of reason ++ 10 ∷ [])))))

-- a line of the log, for the name of a text and a place in it
abbrev pub log_line : List ℕ → ℕ × ℕ → Reason → List ℕ
log_line name at reason =
    name ++ place_and_code at.0 at.1 reason

-- the line of the log was written, and the answer stands; or the log's sink failed
abbrev pub Finished : Option (List ℕ) → Option (List ℕ) → ℕ → ℕ → Status → List ℕ → Status → Type 0
Finished before now faults_before faults_now status line result =
    (faults_before ≤ faults_now) × (((result ≡ status) × Appends before now line) ⊎ ((result ≡ statuses.Sink) × Rose faults_before faults_now))
