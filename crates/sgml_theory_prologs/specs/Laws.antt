-- The laws of prologs.
use Rattle.std.specs.Prelude.{◌≡◌, true, false, List, ◌++◌}
use Rattle.sgml_io.specs.text.Characters.{all_sgml}
use Rattle.sgml_io.specs.Records.{EndsInRecord}
use Rattle.sgml_theory_standing.specs.syntax.Implied.{implied_syntax}
use Rattle.sgml_theory_standing.specs.theory_reading.Names.{Text}
use Rattle.sgml_theory_standing.specs.theory_reading.Unread.{Input, opening}
use Rattle.sgml_theory_standing.specs.theory_reading.State.{state}
use Rattle.sgml_theory_standing.specs.theory_reading.Reads.{Move, ReadsFromStart, ReadDecided, read_by, is_first_border}
use Rattle.sgml_theory_standing.specs.theory_reading.Events.{events}
use Rattle.sgml_theory_standing.specs.theory_spelling.Spelled.{forms}
use Rattle.sgml_theory_standing.specs.Prologs.{is_in_prolog}
use Rattle.sgml_theory_prologs.specs.Names.{HasReferenceNames}
use Rattle.sgml_theory_prologs.specs.Prologs.{ReadsProlog, reads_sgml, cut_at, IsBeforeInstance, instructions_of}

-- WHERE THE FIRST BORDER is reached the document alone is open, and a prolog was read of it
abbrev pub PrologsAreThere : Type 0
PrologsAreThere =
    (I : Input) (ms : List Move) → ReadsFromStart forms I ms → is_first_border (read_by I ms) ≡ true
    → (prolog : Text) × (rest : Text) × ReadsProlog I ms prolog rest

-- it ends within a record, with what ends the document type declaration (11.1)
abbrev pub PrologsEndWithinRecords : Type 0
PrologsEndWithinRecords =
    (I : Input) (ms : List Move) (prolog rest : Text) → ReadsProlog I ms prolog rest → EndsInRecord prolog

-- there is no other
abbrev pub PrologsAreOne : Type 0
PrologsAreOne =
    (I : Input) (ms ns : List Move) → ReadsFromStart forms I ms → is_first_border (read_by I ms) ≡ true
    → ReadsFromStart forms I ns → is_first_border (read_by I ns) ≡ true → ms ≡ ns

-- An SGML declaration that is read ends where any declaration does, if `-` and `.` go on names in the syntax of a document
-- without one, as they do in the declaration itself (13). In another syntax `--` in a name of it would begin a comment,
-- which may have no end in the prolog.
abbrev pub DeclarationEnds : Input → List Move → Type 0
DeclarationEnds I ms = reads_sgml ms ≡ true → HasReferenceNames I.outside.syntax.names

-- so it is in the syntax that an SGML system implies
abbrev pub ImpliedNames : Type 0
ImpliedNames = HasReferenceNames implied_syntax.names

-- A PROLOG IS DECIDED by its own bytes: it reads in the document that is cut behind them
abbrev pub PrologsAreDecided : Type 0
PrologsAreDecided =
    (I : Input) (ms : List Move) (prolog rest : Text) → DeclarationEnds I ms → ReadsProlog I ms prolog rest
    → ReadDecided forms (cut_at I.outside prolog) (opening I.outside) ms

-- all that was read is the same, and so is all that is known of it
pub record IsSamePrologOf (I J : Input) (ms : List Move) (prolog other : Text) : Type 0 where
  pub reads : ReadsProlog J ms prolog other
  pub read_same : read_by J ms ≡ read_by I ms
  pub state_same : state (read_by J ms) ≡ state (read_by I ms)

-- TWO DOCUMENTS under the same outside that begin with the bytes of a prolog have the same prolog, in whatever syntax, where
-- the second one isn't cut and has SGML characters alone behind it (13.1): an SGML declaration is read up to its own end,
-- and of what is looked over for an end in the syntax outside nothing else is asked
abbrev pub SamePrologsAreRead : Type 0
SamePrologsAreRead =
    (I J : Input) (ms : List Move) (prolog rest other : Text) → J.was_cut ≡ false → all_sgml other ≡ true
    → I.outside ≡ J.outside → ReadsProlog I ms prolog rest → J.document ≡ prolog ++ other → IsSamePrologOf I J ms prolog other

-- and one that is decided is the same before anything, and in a document that is cut
abbrev pub DecidedPrologsAreRead : Type 0
DecidedPrologsAreRead =
    (I J : Input) (ms : List Move) (prolog rest other : Text) → DeclarationEnds I ms → I.outside ≡ J.outside
    → ReadsProlog I ms prolog rest → J.document ≡ prolog ++ other → IsSamePrologOf I J ms prolog other

-- WHAT STANDS at the first border: pieces of the prolog alone were read, and nothing is open
abbrev pub NothingIsOpen : Type 0
NothingIsOpen =
    (I : Input) (ms : List Move) → ReadsFromStart forms I ms → is_first_border (read_by I ms) ≡ true
    → (is_in_prolog (read_by I ms) ≡ true) × IsBeforeInstance (state (read_by I ms))

-- the instructions are all that is told of them
abbrev pub InstructionsAreTold : Type 0
InstructionsAreTold =
    (I : Input) (ms : List Move) → ReadsFromStart forms I ms → is_first_border (read_by I ms) ≡ true
    → events forms (read_by I ms) ≡ instructions_of (read_by I ms)
