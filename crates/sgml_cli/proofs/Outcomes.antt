-- A run has one outcome.
use Rattle.std.proofs.Common.{◌≡◌, ◌⊎◌, inl, inr, ℕ, List, [], Option, None, Some, Result, Ok, Err, refl, sym, ap, ◌∙◌, subst}
use Rattle.sgml_io.specs.Files.{file_in}
use Rattle.sgml_words.specs.declared.command.Command.{Command}
use Rattle.sgml_words.specs.declared.mode.Mode.{Mode}
use Rattle.sgml_words.specs.declared.mode.Mode.TheVariants as modes
use Rattle.sgml_selfcheck.specs.theory_reading.Unread.{Input, opening}
use Rattle.sgml_selfcheck.specs.theory_reading.Reads.{read_by}
use Rattle.sgml_settings.specs.declared.bad_file.BadFile.{BadFile}
use Rattle.sgml_settings.specs.declared.setting.Settings.{Settings}
use Rattle.sgml_settings.proofs.One.{one-setting}
use Rattle.sgml_selfcheck.specs.sgml_conversion.source.Inputs.{Files, input_of}
use Rattle.sgml_selfcheck.specs.sgml_conversion.declared.answer.Outcome.{Outcome as Ending}
use Rattle.sgml_selfcheck.specs.sgml_conversion.declared.answer.Outcome.TheVariants as ending
use Rattle.sgml_selfcheck.specs.sgml_conversion.Converting.{EndsFrom}
use Rattle.sgml_selfcheck.specs.sgml_conversion.Lines.{bytes_of}
use Rattle.sgml_selfcheck.proofs.sgml_conversion.Answered.{one-answer}
use Rattle.sgml_selfcheck.proofs.sgml_conversion.OneFull.{one-full-answer}
use Rattle.sgml_cli.specs.Asked.{choices_of}
use Rattle.sgml_cli.proofs.OneCount.{same-count}
use Rattle.sgml_cli.specs.Outcome.{IsJudged, out_in, IsAnswer, ForFile, IsFullAnswer, ForFull, ForMode, ForSettings, Outcome, Taken, Answers, IsFault}
use Rattle.sgml_cli.specs.declared.status.Status.{Status}
use Rattle.sgml_cli.specs.declared.status.Status.TheVariants as statuses

same-judged : (how : Ending) (s t : Status) (l m : List ℕ) → IsJudged how s l → IsJudged how t m → (s ≡ t) × (l ≡ m)
same-judged ending.Conforming s t l m h k = (h.0 ∙ sym k.0, h.1 ∙ sym k.1)
same-judged (ending.Refused r x) s t l m h k = (h.0 ∙ sym k.0, h.1 ∙ sym k.1)
same-judged ending.Absent s t l m h k = absurd h

-- what was read to the end is what was converted, to an empty sink
as-converted : (mode : Mode) (I : Input) (s : Status) (a l : List ℕ) → (x : IsAnswer mode I s a l) → EndsFrom x.how I (opening I.outside) (Some []) (Some (bytes_of (read_by I x.moves)))
as-converted mode I s a l x = record { moves = x.moves; read = x.read; end = x.end; lines = refl }

same-answer : (mode : Mode) (I : Input) (s t : Status) (a b l m : List ℕ) → IsAnswer mode I s a l → IsAnswer mode I t b m → (s ≡ t) × (a ≡ b) × (l ≡ m)
same-answer mode I s t a b l m x y =
    let one = one-answer I x.how y.how [] (bytes_of (read_by I x.moves)) (bytes_of (read_by I y.moves)) (as-converted mode I s a l x) (as-converted mode I t b m y) in
    let judged = same-judged y.how s t l m (subst (λ (h : Ending). IsJudged h s l) one.0 x.judged) y.judged in
    (judged.0, x.lines ∙ (ap (out_in mode) one.1 ∙ sym y.lines), judged.1)

same-file : (limit : ℕ) (mode : Mode) (files : Files) (c : Command) (set : Settings) (file : Option (List ℕ)) (s t : Status) (a b l m : List ℕ) → ForFile limit mode files c set file s a l → ForFile limit mode files c set file t b m → (s ≡ t) × (a ≡ b) × (l ≡ m)
same-file limit mode files c set None s t a b l m h k = (h.0 ∙ sym k.0, h.1 ∙ sym k.1, h.2 ∙ sym k.2)
same-file limit mode files c set (Some bytes) s t a b l m h k = same-answer mode (input_of limit files (choices_of c set) set.declaration bytes) s t a b l m h k

-- with all its tags
same-full-answer : (bytes : List ℕ) (I : Input) (s t : Status) (a b l m : List ℕ) → IsFullAnswer bytes I s a l → IsFullAnswer bytes I t b m → (s ≡ t) × (a ≡ b) × (l ≡ m)
same-full-answer bytes I s t a b l m x y =
    let one = one-full-answer bytes I x.how y.how [] a b x.ends y.ends in
    let judged = same-judged y.how s t l m (subst (λ (h : Ending). IsJudged h s l) one.0 x.judged) y.judged in
    (judged.0, one.1, judged.1)

same-full : (limit : ℕ) (files : Files) (c : Command) (set : Settings) (file : Option (List ℕ)) (s t : Status) (a b l m : List ℕ) → ForFull limit files c set file s a l → ForFull limit files c set file t b m → (s ≡ t) × (a ≡ b) × (l ≡ m)
same-full limit files c set None s t a b l m h k = (h.0 ∙ sym k.0, h.1 ∙ sym k.1, h.2 ∙ sym k.2)
same-full limit files c set (Some bytes) s t a b l m h k = same-full-answer bytes (input_of limit files (choices_of c set) set.declaration bytes) s t a b l m h k

same-mode : (limit : ℕ) (mode : Mode) (files : Files) (c : Command) (set : Settings) (s t : Status) (a b l m : List ℕ) → ForMode limit mode files c set s a l → ForMode limit mode files c set t b m → (s ≡ t) × (a ≡ b) × (l ≡ m)
same-mode limit modes.Esis files c set s t a b l m h k = same-file limit modes.Esis files c set (file_in files c.file) s t a b l m h k
same-mode limit modes.Full files c set s t a b l m h k = same-full limit files c set (file_in files c.file) s t a b l m h k
same-mode limit modes.Check files c set s t a b l m h k = same-file limit modes.Check files c set (file_in files c.file) s t a b l m h k
same-mode limit modes.Lines files c set s t a b l m h k = same-count limit modes.Lines files c set s t a b l m h k
same-mode limit (modes.Selfcheck number) files c set s t a b l m h k = same-count limit (modes.Selfcheck number) files c set s t a b l m h k

same-set : (limit : ℕ) (files : Files) (c : Command) (set : Result Settings BadFile) (s t : Status) (a b l m : List ℕ) → ForSettings limit files c set s a l → ForSettings limit files c set t b m → (s ≡ t) × (a ≡ b) × (l ≡ m)
same-set limit files c (Err bad) s t a b l m h k = (h.0 ∙ sym k.0, h.1 ∙ sym k.1, h.2 ∙ sym k.2)
same-set limit files c (Ok set) s t a b l m h k = same-mode limit c.mode files c set s t a b l m h k

pub one-outcome : (limit : ℕ) (files : Files) (command : Option Command) (s t : Status) (a b l m : List ℕ) → Outcome limit files command s a l → Outcome limit files command t b m → (s ≡ t) × (a ≡ b) × (l ≡ m)
one-outcome limit files None s t a b l m h k = (h.0 ∙ sym k.0, h.1 ∙ sym k.1, h.2 ∙ sym k.2)
one-outcome limit files (Some c) s t a b l m h k =
    let same = one-setting files c.catalog h.0 k.0 h.1 k.1 in
    same-set limit files c k.0 s t a b l m (subst (λ (x : Result Settings BadFile). ForSettings limit files c x s a l) same h.2) k.2

-- an answer that is no fault is that of the outcome
pub answer-of-outcome : (limit : ℕ) (files : Files) (command : Option Command) (result s : Status) (a l : List ℕ) (out log : Taken) → Answers limit files command result out log → Outcome limit files command s a l → (result ≡ s) ⊎ IsFault result
answer-of-outcome limit files command statuses.Conforming s a l out log h o = inl ((one-outcome limit files command _ s _ a _ l h.2 o).0)
answer-of-outcome limit files command (statuses.Refused r) s a l out log h o = inl ((one-outcome limit files command _ s _ a _ l h.2 o).0)
answer-of-outcome limit files command statuses.Usage s a l out log h o = inl ((one-outcome limit files command _ s _ a _ l h.2 o).0)
answer-of-outcome limit files command statuses.Store s a l out log h o = inr tt
answer-of-outcome limit files command statuses.Sink s a l out log h o = inr tt
answer-of-outcome limit files command statuses.Memory s a l out log h o = inr tt
