-- The exits of a run.
use Rattle.std.proofs.Common.{◌≡◌, ◌⊎◌, inl, inr, ℕ, true, false, List, [], ◌∷◌, ◌++◌, Option, None, Some, Result, Ok, Err, refl, sym, ap, ◌∙◌, subst, append-nil}
use Rattle.std.specs.Prelude.{IfSome, codes}
use Rattle.std.specs.Io.KnownBytes.{Appends}
use Rattle.sgml_text.specs.declared.reason.Reason.TheVariants as reasons
use Rattle.sgml_text.specs.declared.place.Refusal.{Refusal}
use Rattle.sgml_io.specs.Files.{file_in}
use Rattle.sgml_io.specs.Causes.{Rose}
use Rattle.sgml_io.specs.Writes.{AppendsFront, Appends-nothing}
use Rattle.sgml_words.specs.Usage.{usage_line}
use Rattle.sgml_words.specs.declared.command.Command.{Command}
use Rattle.sgml_words.specs.declared.mode.Mode.{Mode}
use Rattle.sgml_words.specs.declared.mode.Mode.TheVariants as modes
use Rattle.sgml_selfcheck.specs.theory_reading.Pieces.{History}
use Rattle.sgml_selfcheck.specs.theory_reading.Unread.{Input, opening}
use Rattle.sgml_selfcheck.specs.theory_reading.Reads.{Move, ReadOn, after_moves, moved_on, read_by}
use Rattle.sgml_selfcheck.proofs.theory_reading.Sessions.{over-is-longest}
use Rattle.sgml_settings.specs.theory_spelling.Spelled.{forms}
use Rattle.sgml_settings.specs.Setting.{Sets, OrFails}
use Rattle.sgml_settings.specs.declared.bad_file.BadFile.{BadFile}
use Rattle.sgml_settings.specs.declared.bad_file.SettingsError.{SettingsError}
use Rattle.sgml_settings.specs.declared.bad_file.SettingsError.TheVariants as unset
use Rattle.sgml_settings.specs.declared.setting.Settings.{Settings}
use Rattle.sgml_settings.proofs.One.{one-setting}
use Rattle.sgml_selfcheck.specs.sgml_conversion.source.Inputs.{Files, input_of}
use Rattle.sgml_selfcheck.specs.sgml_conversion.declared.answer.Outcome.{Outcome as Ending}
use Rattle.sgml_selfcheck.specs.sgml_conversion.declared.answer.Outcome.TheVariants as ending
use Rattle.sgml_selfcheck.specs.sgml_conversion.declared.answer.Failure.{Failure}
use Rattle.sgml_selfcheck.specs.sgml_conversion.declared.answer.Failure.TheVariants as failure
use Rattle.sgml_selfcheck.specs.sgml_conversion.Converting.{IsEnd, EndsFrom, FailsFrom, ConvertsFile}
use Rattle.sgml_selfcheck.specs.sgml_conversion.Full.{EndsFull, FullAnswers, FullFile}
use Rattle.sgml_selfcheck.specs.sgml_conversion.Lines.{bytes_of}
use Rattle.sgml_selfcheck.proofs.sgml_conversion.Answered.{over}
use Rattle.sgml_selfcheck.proofs.sgml_conversion.OneFull.{one-full-answer}
use Rattle.sgml_selfcheck.proofs.sgml_conversion.Documented.{same-answer}
use Rattle.sgml_cli.specs.Asked.{is_document, choices_of}
use Rattle.sgml_cli.specs.Counting.{Counts, IsCountTold, IsCountAnswered, IsRefusedBy}
use Rattle.sgml_cli.specs.Logging.{log_line, Finished}
use Rattle.sgml_cli.specs.declared.counted.Counted.{Counted}
use Rattle.sgml_cli.specs.declared.counted.Counted.TheVariants as counted
use Rattle.sgml_cli.proofs.OneCount.{mode-count}
use Rattle.sgml_cli.specs.Converting.{ConvertsIn, ConvertsFor}
use Rattle.sgml_cli.specs.Outcome.{IsJudged, out_in, IsAnswer, ForFile, IsFullAnswer, ForFull, ForMode, ForSettings, Outcome, bad_line, Taken, Front, Whole, Answers, AnswersFrom, CountsIn, IsTold, IsAnswered, IsRefusing, IsStopped, refused_at}
use Rattle.sgml_cli.proofs.Inputs.{file-is-input}
use Rattle.sgml_cli.proofs.Outcomes.{one-outcome}
use Rattle.sgml_cli.specs.declared.status.Status.{Status}
use Rattle.sgml_cli.specs.declared.status.Status.TheVariants as statuses

-- A FRONT of what the run without a fault writes
nothing-front : (before now : Option (List ℕ)) (bytes : List ℕ) → Appends before now [] → AppendsFront before now bytes
nothing-front before now bytes a = ([], bytes, refl, a)

read-behind : (I : Input) (h : History) (ms ns : List Move) → ReadOn forms I h (ms ++ ns) → ReadOn forms I (after_moves h ms) ns
read-behind I h [] ns r = r
read-behind I h (m ∷ ms) ns r = read-behind I (moved_on h m) ms ns r.1

moves-append : (h : History) (ms ns : List Move) → after_moves h (ms ++ ns) ≡ after_moves (after_moves h ms) ns
moves-append h [] ns = refl
moves-append h (m ∷ ms) ns = moves-append (moved_on h m) ms ns

-- what was read before the fault is a front of what reads to the end
failed-front : (I : Input) (how : Ending) (ms : List Move) (before now : Option (List ℕ)) → ReadOn forms I (opening I.outside) ms → IsEnd how I (read_by I ms) → FailsFrom I (opening I.outside) before now
    → AppendsFront before now (bytes_of (read_by I ms))
failed-front I how ms before now r e f =
    let start = opening I.outside in
    let longest = over-is-longest forms I ms f.moves r (over how I (after_moves start ms) e) f.read in
    let rest : ReadOn forms I (after_moves start f.moves) longest.0 = read-behind I start f.moves longest.0 (subst (ReadOn forms I start) longest.1 r) in
    let same : after_moves (after_moves start f.moves) longest.0 ≡ after_moves start ms = sym (moves-append start f.moves longest.0) ∙ ap (after_moves start) (sym longest.1) in
    subst (λ (g : History). AppendsFront before now (bytes_of g)) same (f.lines longest.0 rest)

-- in a mode in which the lines are written
abbrev writes : Mode → Type 0
writes modes.Check = ⊥
writes mode = Unit {0}

writes-lines : (mode : Mode) (lines : List ℕ) → writes mode → out_in mode lines ≡ lines
writes-lines modes.Check lines w = absurd w
writes-lines modes.Esis lines w = refl
writes-lines modes.Full lines w = refl
writes-lines modes.Lines lines w = refl
writes-lines (modes.Selfcheck number) lines w = refl

failed-file : (limit : ℕ) (mode : Mode) (files : Files) (c : Command) (set : Settings) (file : Option (List ℕ)) (before now : Option (List ℕ)) (e : Failure) (s : Status) (a l : List ℕ) → writes mode
    → ConvertsFile limit files (choices_of c set) set.declaration file before now (Err e) → ForFile limit mode files c set file s a l → AppendsFront before now a
failed-file limit mode files c set None before now e s a l w h o = nothing-front before now a h.1
failed-file limit mode files c set (Some bytes) before now e s a l w h o =
    let I = input_of limit files (choices_of c set) set.declaration bytes in
    subst (AppendsFront before now) (sym (o.lines ∙ writes-lines mode (bytes_of (read_by I o.moves)) w))
    (failed-front I o.how o.moves before now o.read o.end (h I (file-is-input limit files c set bytes)))

-- a front of its full document
same-text : (before now : Option (List ℕ)) (a : List ℕ) → now ≡ before → AppendsFront before now a
same-text before now a e = nothing-front before now a (subst (λ (x : Option (List ℕ)). Appends before x []) (sym e) (Appends-nothing before))

failed-full : (bytes : List ℕ) (I : Input) (before now : Option (List ℕ)) (e : Failure) (s : Status) (a l : List ℕ) → FullAnswers bytes I before now (Err e) → IsFullAnswer bytes I s a l → AppendsFront before now a
failed-full bytes I before now failure.Store s a l h o = same-text before now a h
failed-full bytes I before now failure.Memory s a l h o = same-text before now a h
failed-full bytes I before now failure.Sink s a l h o =
    let whole : EndsFull ending.Conforming bytes I (Some []) (Some h.text) = record { moves = h.moves; read = h.read; end = h.end; gained = (h.text, h.is, refl) } in
    subst (AppendsFront before now) (one-full-answer bytes I ending.Conforming o.how [] h.text a whole o.ends).1 h.front

failed-full-file : (limit : ℕ) (files : Files) (c : Command) (set : Settings) (file : Option (List ℕ)) (before now : Option (List ℕ)) (e : Failure) (s : Status) (a l : List ℕ)
    → FullFile limit files (choices_of c set) set.declaration file before now (Err e) → ForFull limit files c set file s a l → AppendsFront before now a
failed-full-file limit files c set None before now e s a l h o = same-text before now a h.1
failed-full-file limit files c set (Some bytes) before now e s a l h o =
    let I = input_of limit files (choices_of c set) set.declaration bytes in
    failed-full bytes I before now e s a l (h I (file-is-input limit files c set bytes)) o

failed-in : (limit : ℕ) (mode : Mode) (files : Files) (c : Command) (set : Settings) (before now : Option (List ℕ)) (e : Failure) (s : Status) (a l : List ℕ) → is_document mode ≡ true → ConvertsIn limit mode files c set before now (Err e)
    → ForMode limit mode files c set s a l → AppendsFront before now a
failed-in limit modes.Check files c set before now e s a l d h o = nothing-front before now a h.1
failed-in limit modes.Esis files c set before now e s a l d h o = failed-file limit modes.Esis files c set (file_in files c.file) before now e s a l tt h o
failed-in limit modes.Full files c set before now e s a l d h o = failed-full-file limit files c set (file_in files c.file) before now e s a l h o
failed-in limit modes.Lines files c set before now e s a l d h o = absurd (cc d)
failed-in limit (modes.Selfcheck number) files c set before now e s a l d h o = absurd (cc d)

-- THE OUTCOME of a run that is set so is that of its document
set-so : (limit : ℕ) (files : Files) (c : Command) (set : Settings) (s : Status) (a l : List ℕ) → Sets files c.catalog (Ok set) → Outcome limit files (Some c) s a l → ForMode limit c.mode files c set s a l
set-so limit files c set s a l h o = subst (λ (x : Result Settings BadFile). ForSettings limit files c x s a l) (one-setting files c.catalog o.0 (Ok set) o.1 h) o.2

-- the run is set so, and its document was converted
abbrev pub SetConverts : ℕ → Option Files → Command → Settings → Option (List ℕ) → Option (List ℕ) → Result Ending Failure → Type 0
SetConverts limit known c set before now result = IfSome known (λ files. Sets files c.catalog (Ok set) × (is_document c.mode ≡ true) × ConvertsIn limit c.mode files c set before now result)

pub set-converts : (limit : ℕ) (known found : Option Files) (named : Option (List ℕ)) (c : Command) (set : Settings) (before now : Option (List ℕ)) (result : Result Ending Failure) → is_document c.mode ≡ true → found ≡ known → named ≡ c.catalog
    → IfSome known (λ files. OrFails (Sets files named) (Ok set)) → ConvertsFor limit found c set before now result → SetConverts limit known c set before now result
set-converts limit known found named c set before now result d e n h k =
    both known (subst (λ (x : Option (List ℕ)). IfSome known (λ files. Sets files x (Ok set))) n h) (subst (λ (x : Option Files). ConvertsFor limit x c set before now result) e k)
  where
    both : (known : Option Files) → IfSome known (λ files. Sets files c.catalog (Ok set)) → ConvertsFor limit known c set before now result → SetConverts limit known c set before now result
    both None h k = tt
    both (Some files) h k = (h, d, k)

pub front-failed : (limit : ℕ) (known : Option Files) (c : Command) (set : Settings) (before now : Option (List ℕ)) (e : Failure) → SetConverts limit known c set before now (Err e) → IfSome known (λ files. Front limit files (Some c) (record { before = before; now = now }))
front-failed limit None c set before now e h = tt
front-failed limit (Some files) c set before now e h = λ s a l o. failed-in limit c.mode files c set before now e s a l h.1 h.2 (set-so limit files c set s a l h.0 o)

pub front-none : (limit : ℕ) (known : Option Files) (command : Option Command) (out : Option (List ℕ)) → IfSome known (λ files. Front limit files command (record { before = out; now = out }))
front-none limit None command out = tt
front-none limit (Some files) command out = λ s b l o. nothing-front out out b (Appends-nothing out)

-- THE OUTCOME of a document that was read
judged-by : (c : Command) (how : Ending) (I : Input) (h : History) (s : Status) (l : List ℕ) → IsEnd how I h → IsTold c how s l → IsJudged how s l
judged-by c ending.Conforming I h s l e t = t
judged-by c (ending.Refused r x) I h s l e t = t
judged-by c ending.Absent I h s l e t = absurd e

ended-so : (mode : Mode) (c : Command) (I : Input) (how : Ending) (before now : Option (List ℕ)) (s : Status) (l : List ℕ) → (f : EndsFrom how I (opening I.outside) before now) → IsTold c how s l
    → IsAnswer mode I s (out_in mode (bytes_of (read_by I f.moves))) l
ended-so mode c I how before now s l f t = record {
  moves = f.moves;
  read = f.read;
  how = how;
  end = f.end;
  judged = judged-by c how I (read_by I f.moves) s l f.end t;
  lines = refl;
}

absent-told : (c : Command) (how : Ending) (s : Status) (l : List ℕ) → how ≡ ending.Absent → IsTold c how s l → (s ≡ refused_at 0 reasons.Absent) × (l ≡ log_line c.file (1, 1) reasons.Absent)
absent-told c how s l e t = subst (λ (h : Ending). IsTold c h s l) e t

-- what is written for a file
record WrittenFile (limit : ℕ) (mode : Mode) (files : Files) (c : Command) (set : Settings) (file before now : Option (List ℕ)) (s : Status) (l : List ℕ) : Type 0 where
  bytes : List ℕ
  outcome : ForFile limit mode files c set file s bytes l
  taken : Appends before now bytes

-- and in a mode
pub record Written (limit : ℕ) (mode : Mode) (files : Files) (c : Command) (set : Settings) (before now : Option (List ℕ)) (s : Status) (l : List ℕ) : Type 0 where
  pub bytes : List ℕ
  pub outcome : ForMode limit mode files c set s bytes l
  pub taken : Appends before now bytes

written-file : (limit : ℕ) (mode : Mode) (files : Files) (c : Command) (set : Settings) (file before now : Option (List ℕ)) (how : Ending) (s : Status) (l : List ℕ) → writes mode
    → ConvertsFile limit files (choices_of c set) set.declaration file before now (Ok how) → IsTold c how s l → WrittenFile limit mode files c set file before now s l
written-file limit mode files c set None before now how s l w h t =
    let a = absent-told c how s l h.0 t in
    record { bytes = []; outcome = (a.0, refl, a.1); taken = h.1 }
written-file limit mode files c set (Some bytes) before now how s l w h t =
    let I = input_of limit files (choices_of c set) set.declaration bytes in
    let f = h I (file-is-input limit files c set bytes) in
    record {
      bytes = out_in mode (bytes_of (read_by I f.moves));
      outcome = ended-so mode c I how before now s l f t;
      taken = subst (Appends before now) (sym (writes-lines mode (bytes_of (read_by I f.moves)) w)) f.lines;
    }

checked-file : (limit : ℕ) (files : Files) (c : Command) (set : Settings) (file before now : Option (List ℕ)) (how : Ending) (s : Status) (l : List ℕ)
    → ConvertsFile limit files (choices_of c set) set.declaration file None None (Ok how) → Appends before now [] → IsTold c how s l → WrittenFile limit modes.Check files c set file before now s l
checked-file limit files c set None before now how s l h a t =
    let e = absent-told c how s l h.0 t in
    record { bytes = []; outcome = (e.0, refl, e.1); taken = a }
checked-file limit files c set (Some bytes) before now how s l h a t =
    let I = input_of limit files (choices_of c set) set.declaration bytes in
    record { bytes = []; outcome = ended-so modes.Check c I how None None s l (h I (file-is-input limit files c set bytes)) t; taken = a }

-- what is written with all its tags
written-full : (bytes : List ℕ) (I : Input) (c : Command) (how : Ending) (before now : Option (List ℕ)) (s : Status) (l : List ℕ) → EndsFull how bytes I before now → IsTold c how s l
    → (out : List ℕ) × IsFullAnswer bytes I s out l × Appends before now out
written-full bytes I c ending.Conforming before now s l e t = (
  e.gained.0,
  record {
    how = ending.Conforming;
    ends = record { moves = e.moves; read = e.read; end = e.end; gained = (e.gained.0, e.gained.1, refl) };
    judged = t;
  },
  e.gained.2,
)
written-full bytes I c (ending.Refused r x) before now s l e t = (
  [],
  record {
    how = ending.Refused r x;
    ends = record { moves = e.moves; read = e.read; end = e.end; gained = refl };
    judged = t;
  },
  subst (λ (z : Option (List ℕ)). Appends before z []) (sym e.gained) (Appends-nothing before),
)
written-full bytes I c ending.Absent before now s l e t = absurd e.end

full-file : (limit : ℕ) (files : Files) (c : Command) (set : Settings) (file before now : Option (List ℕ)) (how : Ending) (s : Status) (l : List ℕ) → FullFile limit files (choices_of c set) set.declaration file before now (Ok how) → IsTold c how s l
    → (out : List ℕ) × ForFull limit files c set file s out l × Appends before now out
full-file limit files c set None before now how s l h t =
    let a = absent-told c how s l h.0 t in
    ([], (a.0, refl, a.1), subst (λ (z : Option (List ℕ)). Appends before z []) (sym h.1) (Appends-nothing before))
full-file limit files c set (Some bytes) before now how s l h t =
    let I = input_of limit files (choices_of c set) set.declaration bytes in
    written-full bytes I c how before now s l (h I (file-is-input limit files c set bytes)) t

written-in : (limit : ℕ) (mode : Mode) (files : Files) (c : Command) (set : Settings) (before now : Option (List ℕ)) (how : Ending) (s : Status) (l : List ℕ) → is_document mode ≡ true → ConvertsIn limit mode files c set before now (Ok how) → IsTold c how s l
    → Written limit mode files c set before now s l
written-in limit modes.Check files c set before now how s l d h t =
    let w = checked-file limit files c set (file_in files c.file) before now how s l h.0 h.1 t in record { bytes = w.bytes; outcome = w.outcome; taken = w.taken }
written-in limit modes.Esis files c set before now how s l d h t =
    let w = written-file limit modes.Esis files c set (file_in files c.file) before now how s l tt h t in record { bytes = w.bytes; outcome = w.outcome; taken = w.taken }
written-in limit modes.Full files c set before now how s l d h t =
    let w = full-file limit files c set (file_in files c.file) before now how s l h t in record { bytes = w.0; outcome = w.1; taken = w.2 }
written-in limit modes.Lines files c set before now how s l d h t = absurd (cc d)
written-in limit (modes.Selfcheck number) files c set before now how s l d h t = absurd (cc d)

-- THE LINE OF THE LOG was written, or its sink failed
pub answered : (limit : ℕ) (known : Option Files) (command : Option Command) (status result : Status) (line : List ℕ) (out log : Taken) (faults_before faults_now : ℕ)
    → IfSome known (λ files. Appends log.before log.now line → Answers limit files command status out log) → IfSome known (λ files. Front limit files command out) → (status ≡ statuses.Usage → command ≡ None)
    → Finished log.before log.now faults_before faults_now status line result → AnswersFrom limit known command result out log
answered limit None command status result line out log fb fn whole front usage h = λ e.
    elim h.1 [ inl w ↦ usage (sym w.0 ∙ e) | inr w ↦ (let bad : statuses.Sink ≡ statuses.Usage = sym w.0 ∙ e in absurd (cc bad)) ]
answered limit (Some files) command status result line out log fb fn whole front usage h =
    elim h.1 [
      | inl w ↦ subst (λ v. Answers limit files command v out log) (sym w.0) (whole w.1)
      | inr w ↦ subst (λ v. Answers limit files command v out log) (sym w.0) front
    ]

-- no command
pub exit-usage : (limit : ℕ) (known : Option Files) (command : Option Command) (result : Status) (out : Option (List ℕ)) (log : Taken) (fb fn : ℕ) → None ≡ command
    → Finished log.before log.now fb fn statuses.Usage usage_line result → AnswersFrom limit known command result (record { before = out; now = out }) log
exit-usage limit known command result out log fb fn e f =
    subst (λ x. AnswersFrom limit known x result (record { before = out; now = out }) log) e
    (answered limit known None statuses.Usage result usage_line (record { before = out; now = out }) log fb fn (whole known) (front-none limit known None out) (λ e. refl) f)
  where
    whole : (known : Option Files) → IfSome known (λ files. Appends log.before log.now usage_line → Answers limit files None statuses.Usage (record { before = out; now = out }) log)
    whole None = tt
    whole (Some files) = λ w. ([], usage_line, (refl, refl, refl), Appends-nothing out, w)

-- no memory, whatever was written
pub exit-memory : (limit : ℕ) (known : Option Files) (command : Option Command) (result : Status) (out log : Taken) (fb fn : ℕ) → IfSome known (λ files. Front limit files command out)
    → Finished log.before log.now fb fn statuses.Memory (codes "sgmlesis: memory\n") result → AnswersFrom limit known command result out log
exit-memory limit known command result out log fb fn front f =
    answered limit known command statuses.Memory result (codes "sgmlesis: memory\n") out log fb fn (whole known front) front (λ e. absurd (cc e)) f
  where
    whole : (known : Option Files) → IfSome known (λ files. Front limit files command out) → IfSome known (λ files. Appends log.before log.now (codes "sgmlesis: memory\n") → Answers limit files command statuses.Memory out log)
    whole None front = tt
    whole (Some files) front = λ w. (front, w)

pub exit-store : (limit : ℕ) (known : Option Files) (command : Option Command) (result : Status) (out log : Taken) (fb fn : ℕ) → IfSome known (λ files. Front limit files command out)
    → Finished log.before log.now fb fn statuses.Store (codes "sgmlesis: store\n") result → AnswersFrom limit known command result out log
exit-store limit known command result out log fb fn front f =
    answered limit known command statuses.Store result (codes "sgmlesis: store\n") out log fb fn (whole known front) front (λ e. absurd (cc e)) f
  where
    whole : (known : Option Files) → IfSome known (λ files. Front limit files command out) → IfSome known (λ files. Appends log.before log.now (codes "sgmlesis: store\n") → Answers limit files command statuses.Store out log)
    whole None front = tt
    whole (Some files) front = λ w. (front, w)

pub exit-sink : (limit : ℕ) (known : Option Files) (command : Option Command) (result : Status) (line : List ℕ) (out log : Taken) (fb fn : ℕ) → IfSome known (λ files. Front limit files command out)
    → Finished log.before log.now fb fn statuses.Sink line result → AnswersFrom limit known command result out log
exit-sink limit known command result line out log fb fn front f = answered limit known command statuses.Sink result line out log fb fn (whole known front) front (λ e. absurd (cc e)) f
  where
    whole : (known : Option Files) → IfSome known (λ files. Front limit files command out) → IfSome known (λ files. Appends log.before log.now line → Answers limit files command statuses.Sink out log)
    whole None front = tt
    whole (Some files) front = λ w. front

-- no command, with the line that was written
pub told-usage : (limit : ℕ) (known : Option Files) (command : Option Command) (result : Status) (line : List ℕ) (out : Option (List ℕ)) (log : Taken) (fb fn : ℕ) → None ≡ command → line ≡ usage_line
    → Finished log.before log.now fb fn statuses.Usage line result → AnswersFrom limit known command result (record { before = out; now = out }) log
told-usage limit known command result line out log fb fn e u f =
    exit-usage limit known command result out log fb fn e (subst (λ l. Finished log.before log.now fb fn statuses.Usage l result) u f)

-- the document wasn't read to where nothing more reads
pub failed-store : (limit : ℕ) (known : Option Files) (command : Option Command) (c : Command) (set : Settings) (before now : Option (List ℕ)) (e : Failure) (result : Status) (log : Taken) (fb fn : ℕ) → Some c ≡ command → SetConverts limit known c set before now (Err e)
    → Finished log.before log.now fb fn statuses.Store (codes "sgmlesis: store\n") result → AnswersFrom limit known command result (record { before = before; now = now }) log
failed-store limit known command c set before now e result log fb fn s h f =
    subst (λ x. AnswersFrom limit known x result (record { before = before; now = now }) log) s
    (exit-store limit known (Some c) result (record { before = before; now = now }) log fb fn (front-failed limit known c set before now e h) f)

pub failed-memory : (limit : ℕ) (known : Option Files) (command : Option Command) (c : Command) (set : Settings) (before now : Option (List ℕ)) (e : Failure) (result : Status) (log : Taken) (fb fn : ℕ) → Some c ≡ command → SetConverts limit known c set before now (Err e)
    → Finished log.before log.now fb fn statuses.Memory (codes "sgmlesis: memory\n") result → AnswersFrom limit known command result (record { before = before; now = now }) log
failed-memory limit known command c set before now e result log fb fn s h f =
    subst (λ x. AnswersFrom limit known x result (record { before = before; now = now }) log) s
    (exit-memory limit known (Some c) result (record { before = before; now = now }) log fb fn (front-failed limit known c set before now e h) f)

pub failed-sink : (limit : ℕ) (known : Option Files) (command : Option Command) (c : Command) (set : Settings) (before now : Option (List ℕ)) (e : Failure) (result : Status) (line : List ℕ) (log : Taken) (fb fn : ℕ) → Some c ≡ command → SetConverts limit known c set before now (Err e)
    → Finished log.before log.now fb fn statuses.Sink line result → AnswersFrom limit known command result (record { before = before; now = now }) log
failed-sink limit known command c set before now e result line log fb fn s h f =
    subst (λ x. AnswersFrom limit known x result (record { before = before; now = now }) log) s
    (exit-sink limit known (Some c) result line (record { before = before; now = now }) log fb fn (front-failed limit known c set before now e h) f)

-- THE DOCUMENT WAS READ
front-written : (limit : ℕ) (files : Files) (c : Command) (set : Settings) (before now : Option (List ℕ)) (s : Status) (l : List ℕ) → Sets files c.catalog (Ok set) → Written limit c.mode files c set before now s l
    → Front limit files (Some c) (record { before = before; now = now })
front-written limit files c set before now s l h w = λ t b m o.
    (w.bytes, [], sym (one-outcome limit files (Some c) s t w.bytes b l m (Ok set, h, w.outcome) o).1 ∙ sym (append-nil w.bytes), w.taken)

told-front : (limit : ℕ) (known : Option Files) (c : Command) (set : Settings) (how : Ending) (before now : Option (List ℕ)) (s : Status) (l : List ℕ) → SetConverts limit known c set before now (Ok how) → IsTold c how s l
    → IfSome known (λ files. Front limit files (Some c) (record { before = before; now = now }))
told-front limit None c set how before now s l h t = tt
told-front limit (Some files) c set how before now s l h t = front-written limit files c set before now s l h.0 (written-in limit c.mode files c set before now how s l h.1 h.2 t)

of-file : (limit : ℕ) (files : Files) (c : Command) (how : Ending) (s : Status) (l : List ℕ) (out log : Taken) → IsTold c how s l → Whole limit files (Some c) s out log → Answers limit files (Some c) s out log
of-file limit files c ending.Conforming s l out log t h = subst (λ v. Answers limit files (Some c) v out log) (sym t.0) (subst (λ v. Whole limit files (Some c) v out log) t.0 h)
of-file limit files c (ending.Refused r x) s l out log t h = subst (λ v. Answers limit files (Some c) v out log) (sym t.0) (subst (λ v. Whole limit files (Some c) v out log) t.0 h)
of-file limit files c ending.Absent s l out log t h = subst (λ v. Answers limit files (Some c) v out log) (sym t.0) (subst (λ v. Whole limit files (Some c) v out log) t.0 h)

told-whole : (limit : ℕ) (known : Option Files) (c : Command) (set : Settings) (how : Ending) (before now : Option (List ℕ)) (log : Taken) (s : Status) (l : List ℕ) → SetConverts limit known c set before now (Ok how) → IsTold c how s l
    → IfSome known (λ files. Appends log.before log.now l → Answers limit files (Some c) s (record { before = before; now = now }) log)
told-whole limit None c set how before now log s l h t = tt
told-whole limit (Some files) c set how before now log s l h t =
    let w = written-in limit c.mode files c set before now how s l h.1 h.2 t in
    λ v. of-file limit files c how s l (record { before = before; now = now }) log t (w.bytes, l, (Ok set, h.0, w.outcome), w.taken, v)

told-no-usage : (c : Command) (how : Ending) (s : Status) (l : List ℕ) → IsTold c how s l → s ≡ statuses.Usage → ⊥
told-no-usage c ending.Conforming s l t e = never (sym t.0 ∙ e)
  where
    never : statuses.Conforming ≡ statuses.Usage → ⊥
    never e = cc
told-no-usage c (ending.Refused r x) s l t e = never (sym t.0 ∙ e)
  where
    never : statuses.Refused r ≡ statuses.Usage → ⊥
    never e = cc
told-no-usage c ending.Absent s l t e = never (sym t.0 ∙ e)
  where
    never : refused_at 0 reasons.Absent ≡ statuses.Usage → ⊥
    never e = cc

-- some front was written whatever comes: the whole, of which the log may say nothing
unsaid-front : (limit : ℕ) (known : Option Files) (c : Command) (set : Settings) (how : Ending) (before now : Option (List ℕ)) → SetConverts limit known c set before now (Ok how) → IfSome known (λ files. Front limit files (Some c) (record { before = before; now = now }))
unsaid-front limit None c set how before now h = tt
unsaid-front limit (Some files) c set how before now h =
    let t = told-of how in
    front-written limit files c set before now t.0 t.1 h.0 (written-in limit c.mode files c set before now how t.0 t.1 h.1 h.2 t.2)
  where
    told-of : (how : Ending) → (s : Status) × (l : List ℕ) × IsTold c how s l
    told-of ending.Conforming = (statuses.Conforming, [], (refl, refl))
    told-of (ending.Refused r x) = (statuses.Refused r, log_line x.name (x.line, x.column) r.reason, (refl, refl))
    told-of ending.Absent = (refused_at 0 reasons.Absent, log_line c.file (1, 1) reasons.Absent, (refl, refl))

exit-by : (limit : ℕ) (known : Option Files) (c : Command) (set : Settings) (how : Ending) (before now : Option (List ℕ)) (result : Status) (log : Taken) (fb fn : ℕ) → SetConverts limit known c set before now (Ok how)
    → IsAnswered c how log.before log.now fb fn result → AnswersFrom limit known (Some c) result (record { before = before; now = now }) log
exit-by limit known c set how before now result log fb fn h a =
    elim a.told [
      | inl t ↦ answered limit known (Some c) a.status result a.line (record { before = before; now = now }) log fb fn (told-whole limit known c set how before now log a.status a.line h t)
          (told-front limit known c set how before now a.status a.line h t) (λ e. absurd (told-no-usage c how a.status a.line t e)) a.finished
      | inr t ↦ exit-memory limit known (Some c) result (record { before = before; now = now }) log fb fn (unsaid-front limit known c set how before now h)
          (subst (λ v. Finished log.before log.now fb fn statuses.Memory v result) t.1 (subst (λ v. Finished log.before log.now fb fn v a.line result) t.0 a.finished))
    ]

pub exit-read : (limit : ℕ) (known : Option Files) (command : Option Command) (c : Command) (set : Settings) (how : Ending) (before now : Option (List ℕ)) (result : Status) (log : Taken) (fb fn : ℕ) → Some c ≡ command → SetConverts limit known c set before now (Ok how)
    → IsAnswered c how log.before log.now fb fn result → AnswersFrom limit known command result (record { before = before; now = now }) log
exit-read limit known command c set how before now result log fb fn e h a =
    subst (λ x. AnswersFrom limit known x result (record { before = before; now = now }) log) e (exit-by limit known c set how before now result log fb fn h a)

-- THE RUN ISN'T SET: nothing was written
refused-whole : (limit : ℕ) (known : Option Files) (c : Command) (bad : BadFile) (out : Option (List ℕ)) (log : Taken) → IfSome known (λ files. Sets files c.catalog (Err bad))
    → IfSome known (λ files. Appends log.before log.now (bad_line bad) → Answers limit files (Some c) (statuses.Refused bad.refusal) (record { before = out; now = out }) log)
refused-whole limit None c bad out log h = tt
refused-whole limit (Some files) c bad out log h = λ w. ([], bad_line bad, (Err bad, h, (refl, refl, refl)), Appends-nothing out, w)

refused-no-usage : (bad : BadFile) → statuses.Refused bad.refusal ≡ statuses.Usage → ⊥
refused-no-usage bad e = cc

exit-refused : (limit : ℕ) (known : Option Files) (c : Command) (bad : BadFile) (out : Option (List ℕ)) (result : Status) (log : Taken) (fb fn : ℕ) → IfSome known (λ files. Sets files c.catalog (Err bad))
    → IsRefusing bad log.before log.now fb fn result → AnswersFrom limit known (Some c) result (record { before = out; now = out }) log
exit-refused limit known c bad out result log fb fn h (inl f) =
    answered limit known (Some c) (statuses.Refused bad.refusal) result (bad_line bad) (record { before = out; now = out }) log fb fn (refused-whole limit known c bad out log h)
    (front-none limit known (Some c) out) (λ e. absurd (refused-no-usage bad e)) f
exit-refused limit known c bad out result log fb fn h (inr f) = exit-memory limit known (Some c) result (record { before = out; now = out }) log fb fn (front-none limit known (Some c) out) f

stopped-by : (limit : ℕ) (known : Option Files) (c : Command) (e : SettingsError) (out : Option (List ℕ)) (result : Status) (log : Taken) (fb fn : ℕ) → IfSome known (λ files. OrFails (Sets files c.catalog) (Err e))
    → IsStopped e log.before log.now fb fn result → AnswersFrom limit known (Some c) result (record { before = out; now = out }) log
stopped-by limit known c (unset.Refused bad) out result log fb fn h f = exit-refused limit known c bad out result log fb fn h f
stopped-by limit known c unset.Store out result log fb fn h f = exit-store limit known (Some c) result (record { before = out; now = out }) log fb fn (front-none limit known (Some c) out) f
stopped-by limit known c unset.Memory out result log fb fn h f = exit-memory limit known (Some c) result (record { before = out; now = out }) log fb fn (front-none limit known (Some c) out) f

pub exit-stopped : (limit : ℕ) (known : Option Files) (command : Option Command) (named : Option (List ℕ)) (c : Command) (e : SettingsError) (out : Option (List ℕ)) (result : Status) (log : Taken) (fb fn : ℕ) → Some c ≡ command → named ≡ c.catalog
    → IfSome known (λ files. OrFails (Sets files named) (Err e)) → IsStopped e log.before log.now fb fn result → AnswersFrom limit known command result (record { before = out; now = out }) log
exit-stopped limit known command named c e out result log fb fn s n h f =
    subst (λ x. AnswersFrom limit known x result (record { before = out; now = out }) log) s
    (stopped-by limit known c e out result log fb fn (subst (λ (x : Option (List ℕ)). IfSome known (λ files. OrFails (Sets files x) (Err e))) n h) f)

-- nothing was read of the document
fails-at-once : (I : Input) (before : Option (List ℕ)) → FailsFrom I (opening I.outside) before before
fails-at-once I before = record { moves = []; read = tt; lines = λ rest r. ([], bytes_of (after_moves (opening I.outside) rest), refl, Appends-nothing before) }

unread-file : (limit : ℕ) (files : Files) (c : Command) (set : Settings) (file before : Option (List ℕ)) (e : Failure) → ConvertsFile limit files (choices_of c set) set.declaration file before before (Err e)
unread-file limit files c set None before e = (tt, Appends-nothing before)
unread-file limit files c set (Some bytes) before e = λ I i. fails-at-once I before

unread-full : (limit : ℕ) (files : Files) (c : Command) (set : Settings) (file before : Option (List ℕ)) (e : Failure) → (e ≡ failure.Sink → ⊥) → FullFile limit files (choices_of c set) set.declaration file before before (Err e)
unread-full limit files c set None before e n = (tt, refl)
unread-full limit files c set (Some bytes) before e n = λ I i. same-answer bytes I before before e n refl

unread-in : (limit : ℕ) (mode : Mode) (files : Files) (c : Command) (set : Settings) (before : Option (List ℕ)) (e : Failure) → (e ≡ failure.Sink → ⊥) → ConvertsIn limit mode files c set before before (Err e)
unread-in limit modes.Check files c set before e n = (unread-file limit files c set (file_in files c.file) None e, Appends-nothing before)
unread-in limit modes.Full files c set before e n = unread-full limit files c set (file_in files c.file) before e n
unread-in limit modes.Esis files c set before e n = unread-file limit files c set (file_in files c.file) before e
unread-in limit modes.Lines files c set before e n = unread-file limit files c set (file_in files c.file) before e
unread-in limit (modes.Selfcheck number) files c set before e n = unread-file limit files c set (file_in files c.file) before e

pub unread : (limit : ℕ) (known : Option Files) (c : Command) (set : Settings) (before : Option (List ℕ)) (e : Failure) → (e ≡ failure.Sink → ⊥) → ConvertsFor limit known c set before before (Err e)
unread limit None c set before e n = tt
unread limit (Some files) c set before e n = unread-in limit c.mode files c set before e n

-- A RUN THAT COUNTS
count-outcome : (limit : ℕ) (files : Files) (c : Command) (set : Settings) (x : Counted) (s : Status) (a l : List ℕ) → is_document c.mode ≡ false → Sets files c.catalog (Ok set) → Counts limit c.mode files c set x → IsCountTold x s a l
    → Outcome limit files (Some c) s a l
count-outcome limit files c set x s a l d h k t = (Ok set, h, mode-count limit c.mode files c set s a l d (x, k, t))

front-of : (limit : ℕ) (files : Files) (c : Command) (before now : Option (List ℕ)) (s : Status) (a l : List ℕ) → Outcome limit files (Some c) s a l → AppendsFront before now a → Front limit files (Some c) (record { before = before; now = now })
front-of limit files c before now s a l o f = λ t b m p. subst (AppendsFront before now) (one-outcome limit files (Some c) s t a b l m o p).1 f

whole-front : (before now : Option (List ℕ)) (a : List ℕ) → Appends before now a → AppendsFront before now a
whole-front before now a h = (a, [], sym (append-nil a), h)

count-told : (limit : ℕ) (files : Files) (c : Command) (set : Settings) (x : Counted) (before now : Option (List ℕ)) (log : Taken) (fb fn gb gn : ℕ) (result : Status) → is_document c.mode ≡ false → Sets files c.catalog (Ok set) → Counts limit c.mode files c set x
    → IsCountAnswered x before now fb fn log.before log.now gb gn result → Answers limit files (Some c) result (record { before = before; now = now }) log
count-told limit files c set (counted.Summary text) before now log fb fn gb gn result d h k a =
    let o = count-outcome limit files c set (counted.Summary text) statuses.Conforming text [] d h k (refl, refl, refl) in
    elim a [
      | inl w ↦ answered limit (Some files) (Some c) statuses.Conforming result [] (record { before = before; now = now }) log gb gn (λ v. (text, [], o, w.0, v))
          (front-of limit files c before now statuses.Conforming text [] o (whole-front before now text w.0)) (λ e. absurd (cc e)) w.1
      | inr w ↦ exit-sink limit (Some files) (Some c) result (codes "sgmlesis: sink\n") (record { before = before; now = now }) log gb gn (front-of limit files c before now statuses.Conforming text [] o w.0) w.2
    ]
count-told limit files c set (counted.Refused r name line column) before now log fb fn gb gn result d h k a =
    let said = log_line name (line, column) r.reason in
    let o = count-outcome limit files c set (counted.Refused r name line column) (statuses.Refused r) [] said d h k (refl, refl, refl) in
    let nothing : Appends before now [] = subst (λ (x : Option (List ℕ)). Appends before x []) (sym a.0) (Appends-nothing before) in
    let front = front-of limit files c before now (statuses.Refused r) [] said o (whole-front before now [] nothing) in
    elim a.1 [
      | inl f ↦ answered limit (Some files) (Some c) (statuses.Refused r) result said (record { before = before; now = now }) log gb gn (λ v. ([], said, o, nothing, v)) front (λ e. absurd (cc e)) f
      | inr f ↦ exit-memory limit (Some files) (Some c) result (record { before = before; now = now }) log gb gn front f
    ]

pub counted-so : (limit : ℕ) (known : Option Files) (c : Command) (set : Settings) (x : Counted) (before now : Option (List ℕ)) (log : Taken) (fb fn gb gn : ℕ) (result : Status) → is_document c.mode ≡ false
    → IfSome known (λ files. Counts limit c.mode files c set x) → IsCountAnswered x before now fb fn log.before log.now gb gn result → CountsIn limit known c set result (record { before = before; now = now }) log
counted-so limit None c set x before now log fb fn gb gn result d k a = tt
counted-so limit (Some files) c set x before now log fb fn gb gn result d k a = λ h. count-told limit files c set x before now log fb fn gb gn result d h k a

pub count-store : (limit : ℕ) (known : Option Files) (c : Command) (set : Settings) (out : Option (List ℕ)) (log : Taken) (gb gn : ℕ) (result : Status)
    → Finished log.before log.now gb gn statuses.Store (codes "sgmlesis: store\n") result → CountsIn limit known c set result (record { before = out; now = out }) log
count-store limit None c set out log gb gn result f = tt
count-store limit (Some files) c set out log gb gn result f = λ h. exit-store limit (Some files) (Some c) result (record { before = out; now = out }) log gb gn (front-none limit (Some files) (Some c) out) f

pub count-memory : (limit : ℕ) (known : Option Files) (c : Command) (set : Settings) (out : Option (List ℕ)) (log : Taken) (gb gn : ℕ) (result : Status)
    → Finished log.before log.now gb gn statuses.Memory (codes "sgmlesis: memory\n") result → CountsIn limit known c set result (record { before = out; now = out }) log
count-memory limit None c set out log gb gn result f = tt
count-memory limit (Some files) c set out log gb gn result f = λ h. exit-memory limit (Some files) (Some c) result (record { before = out; now = out }) log gb gn (front-none limit (Some files) (Some c) out) f

-- what is answered of a count
pub count-no-usage : (x : Counted) (before now log_before log_now : Option (List ℕ)) (fb fn gb gn : ℕ) (result : Status) → IsCountAnswered x before now fb fn log_before log_now gb gn result → result ≡ statuses.Usage → ⊥
count-no-usage (counted.Summary text) before now lb ln fb fn gb gn result a e = elim a [
  | inl w ↦ elim w.1.1 [ inl v ↦ (let bad : statuses.Conforming ≡ statuses.Usage = sym v.0 ∙ e in cc bad) | inr v ↦ (let bad : statuses.Sink ≡ statuses.Usage = sym v.0 ∙ e in cc bad) ]
  | inr w ↦ elim w.2.1 [ inl v ↦ (let bad : statuses.Sink ≡ statuses.Usage = sym v.0 ∙ e in cc bad) | inr v ↦ (let bad : statuses.Sink ≡ statuses.Usage = sym v.0 ∙ e in cc bad) ]
]
count-no-usage (counted.Refused r name line column) before now lb ln fb fn gb gn result a e = elim a.1 [
  | inl w ↦ elim w.1 [ inl v ↦ (let bad : statuses.Refused r ≡ statuses.Usage = sym v.0 ∙ e in cc bad) | inr v ↦ (let bad : statuses.Sink ≡ statuses.Usage = sym v.0 ∙ e in cc bad) ]
  | inr w ↦ elim w.1 [ inl v ↦ (let bad : statuses.Memory ≡ statuses.Usage = sym v.0 ∙ e in cc bad) | inr v ↦ (let bad : statuses.Sink ≡ statuses.Usage = sym v.0 ∙ e in cc bad) ]
]

pub count-no-store : (x : Counted) (before now log_before log_now : Option (List ℕ)) (fb fn gb gn : ℕ) (result : Status) → IsCountAnswered x before now fb fn log_before log_now gb gn result → result ≡ statuses.Store → ⊥
count-no-store (counted.Summary text) before now lb ln fb fn gb gn result a e = elim a [
  | inl w ↦ elim w.1.1 [ inl v ↦ (let bad : statuses.Conforming ≡ statuses.Store = sym v.0 ∙ e in cc bad) | inr v ↦ (let bad : statuses.Sink ≡ statuses.Store = sym v.0 ∙ e in cc bad) ]
  | inr w ↦ elim w.2.1 [ inl v ↦ (let bad : statuses.Sink ≡ statuses.Store = sym v.0 ∙ e in cc bad) | inr v ↦ (let bad : statuses.Sink ≡ statuses.Store = sym v.0 ∙ e in cc bad) ]
]
count-no-store (counted.Refused r name line column) before now lb ln fb fn gb gn result a e = elim a.1 [
  | inl w ↦ elim w.1 [ inl v ↦ (let bad : statuses.Refused r ≡ statuses.Store = sym v.0 ∙ e in cc bad) | inr v ↦ (let bad : statuses.Sink ≡ statuses.Store = sym v.0 ∙ e in cc bad) ]
  | inr w ↦ elim w.1 [ inl v ↦ (let bad : statuses.Memory ≡ statuses.Store = sym v.0 ∙ e in cc bad) | inr v ↦ (let bad : statuses.Sink ≡ statuses.Store = sym v.0 ∙ e in cc bad) ]
]

pub count-sink : (x : Counted) (before now log_before log_now : Option (List ℕ)) (fb fn gb gn : ℕ) (result : Status) → IsCountAnswered x before now fb fn log_before log_now gb gn result → result ≡ statuses.Sink
    → (Rose fb fn × Appends log_before log_now (codes "sgmlesis: sink\n")) ⊎ Rose gb gn
count-sink (counted.Summary text) before now lb ln fb fn gb gn result a e = elim a [
  | inl w ↦ elim w.1.1 [ inl v ↦ (let bad : statuses.Conforming ≡ statuses.Sink = sym v.0 ∙ e in absurd (cc bad)) | inr v ↦ inr v.1 ]
  | inr w ↦ elim w.2.1 [ inl v ↦ inl (w.1, v.1) | inr v ↦ inr v.1 ]
]
count-sink (counted.Refused r name line column) before now lb ln fb fn gb gn result a e = elim a.1 [
  | inl w ↦ elim w.1 [ inl v ↦ (let bad : statuses.Refused r ≡ statuses.Sink = sym v.0 ∙ e in absurd (cc bad)) | inr v ↦ inr v.1 ]
  | inr w ↦ elim w.1 [ inl v ↦ (let bad : statuses.Memory ≡ statuses.Sink = sym v.0 ∙ e in absurd (cc bad)) | inr v ↦ inr v.1 ]
]

pub count-refused : (x : Counted) (before now log_before log_now : Option (List ℕ)) (fb fn gb gn : ℕ) (result : Status) (q : Refusal) → IsCountAnswered x before now fb fn log_before log_now gb gn result → result ≡ statuses.Refused q
    → IsRefusedBy x q
count-refused (counted.Summary text) before now lb ln fb fn gb gn result q a e = elim a [
  | inl w ↦ elim w.1.1 [ inl v ↦ (let bad : statuses.Conforming ≡ statuses.Refused q = sym v.0 ∙ e in cc bad) | inr v ↦ (let bad : statuses.Sink ≡ statuses.Refused q = sym v.0 ∙ e in cc bad) ]
  | inr w ↦ elim w.2.1 [ inl v ↦ (let bad : statuses.Sink ≡ statuses.Refused q = sym v.0 ∙ e in cc bad) | inr v ↦ (let bad : statuses.Sink ≡ statuses.Refused q = sym v.0 ∙ e in cc bad) ]
]
count-refused (counted.Refused r name line column) before now lb ln fb fn gb gn result q a e = elim a.1 [
  | inl w ↦ elim w.1 [ inl v ↦ (let same : statuses.Refused r ≡ statuses.Refused q = sym v.0 ∙ e in cc same) | inr v ↦ (let bad : statuses.Sink ≡ statuses.Refused q = sym v.0 ∙ e in absurd (cc bad)) ]
  | inr w ↦ elim w.1 [ inl v ↦ (let bad : statuses.Memory ≡ statuses.Refused q = sym v.0 ∙ e in absurd (cc bad)) | inr v ↦ (let bad : statuses.Sink ≡ statuses.Refused q = sym v.0 ∙ e in absurd (cc bad)) ]
]

-- THE RUN IS SET SO, and counts
pub counts-answer : (limit : ℕ) (known found : Option Files) (named : Option (List ℕ)) (command : Option Command) (c : Command) (set : Settings) (result : Status) (out log : Taken) → Some c ≡ command → found ≡ known → named ≡ c.catalog
    → IfSome known (λ files. OrFails (Sets files named) (Ok set)) → CountsIn limit found c set result out log → (result ≡ statuses.Usage → ⊥) → AnswersFrom limit known command result out log
counts-answer limit known found named command c set result out log s e n h k u =
    subst (λ x. AnswersFrom limit known x result out log) s
    (both known (subst (λ (x : Option (List ℕ)). IfSome known (λ files. Sets files x (Ok set))) n h) (subst (λ (x : Option Files). CountsIn limit x c set result out log) e k))
  where
    both : (known : Option Files) → IfSome known (λ files. Sets files c.catalog (Ok set)) → CountsIn limit known c set result out log → AnswersFrom limit known (Some c) result out log
    both None h k = λ e. absurd (u e)
    both (Some files) h k = k h
