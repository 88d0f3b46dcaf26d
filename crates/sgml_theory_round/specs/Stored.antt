-- THE FILE OF A FULL DOCUMENT, in the place of the document's own.
use Rattle.std.specs.Prelude.{◌≡◌, ℕ, false, List, length, nat_lt, Option, None, IsTrue}
use Rattle.sgml_conversion.specs.syntax.declared.syntax.Syntax.{Syntax}
use Rattle.sgml_conversion.specs.theory_reading.State.{state}
use Rattle.sgml_conversion.specs.theory_reading.Reads.{Move, ReadsFromStart, read_by, ends_in_finish}
use Rattle.sgml_theory_prologs.specs.theory_spelling.Spelled.{forms}
use Rattle.sgml_theory_writable.specs.sgml_theory_full.Named.{AllAre, IsWritten}
use Rattle.sgml_conversion.specs.declaring.Files.{Choices}
use Rattle.sgml_conversion.specs.source.Inputs.{Files, input_of}
use Rattle.sgml_conversion.specs.Full.{unspelled, IsFullDocument}
use Rattle.sgml_theory_round.specs.Parted.{Parted}
use Rattle.sgml_theory_round.specs.Again.{instance_told, IsFullOf, IsReadAgain}
use Rattle.sgml_theory_round.specs.Plain.{MayBeReadAgain}

-- LAW: where a file of a store has these bytes, and the full document of what is read of it within a limit these, which are
-- no more, the second file has the full document of the first
abbrev pub FilesHaveFullDocuments : Type 0
FilesHaveFullDocuments =
    (limit : ℕ) (files : Files) (c : Choices) (declaration : Option Syntax) (bytes text : List ℕ) (ms : List Move) →
    let I = input_of limit files c declaration bytes in
    (p : Parted I ms) → ReadsFromStart forms I ms → AllAre (IsWritten (state (read_by I p.prolog)).context.doctype) (instance_told I ms p)
    → IsFullDocument bytes (read_by I ms) text → nat_lt limit (length text) ≡ false → IsFullOf I (input_of limit files c declaration text) ms p

-- LAW: so it is read to the same events and lines, with no tag left out in its instance, where each instruction can be spelled
abbrev pub FilesAreReadAgain : Type 0
FilesAreReadAgain =
    (limit : ℕ) (files : Files) (c : Choices) (declaration : Option Syntax) (bytes text : List ℕ) (ms : List Move) →
    let I = input_of limit files c declaration bytes in
    (p : Parted I ms) → ReadsFromStart forms I ms → IsTrue (ends_in_finish (read_by I ms)) → MayBeReadAgain I ms p
    → unspelled (read_by I ms) ≡ None → IsFullDocument bytes (read_by I ms) text → nat_lt limit (length text) ≡ false → IsReadAgain I (input_of limit files c declaration text) ms p

-- A FILE WITH THE SECOND BYTES IS READ as the first one is: whatever was read of that to its end, where it may be read again,
-- and the second is no longer than the limit
abbrev pub ReadsBack : ℕ → Files → Choices → Option Syntax → List ℕ → List ℕ → Type 0
ReadsBack limit files c declaration bytes text =
    let I = input_of limit files c declaration bytes in
    (ms : List Move) (p : Parted I ms) → ReadsFromStart forms I ms → IsTrue (ends_in_finish (read_by I ms))
    → MayBeReadAgain I ms p → nat_lt limit (length text) ≡ false → IsReadAgain I (input_of limit files c declaration text) ms p
