-- A DOCUMENT IN ITS TWO PARTS (7.1): the prolog, and the instance.
use Rattle.std.specs.Prelude.{◌≡◌, true, List, ◌++◌, IsTrue}
use Rattle.sgml_conversion.specs.theory_reading.Unread.{Input}
use Rattle.sgml_conversion.specs.theory_reading.Reads.{Move, ReadOn, ReadsFromStart, read_by, ends_in_finish, is_first_border}
use Rattle.sgml_theory_prologs.specs.theory_spelling.Spelled.{forms}

-- the moves up to the end of the document type, and those after it
pub record Parted (I : Input) (ms : List Move) : Type 0 where
  pub prolog : List Move
  pub instance : List Move
  pub together : ms ≡ prolog ++ instance
  pub border : is_first_border (read_by I prolog) ≡ true
  pub prolog_reads : ReadsFromStart forms I prolog
  pub instance_reads : ReadOn forms I (read_by I prolog) instance

-- LAW: what is read to its end has both
abbrev pub DocumentsHavePrologs : Type 0
DocumentsHavePrologs = (I : Input) (ms : List Move) → ReadsFromStart forms I ms → IsTrue (ends_in_finish (read_by I ms)) → Parted I ms
