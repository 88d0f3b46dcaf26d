-- DOCUMENTS WHOSE FULL DOCUMENT IS READ AGAIN: what is asked of one.
use Rattle.std.specs.Prelude.{List, IsTrue}
use Rattle.sgml_conversion.specs.theory_reading.Unread.{Input}
use Rattle.sgml_conversion.specs.theory_reading.State.{state}
use Rattle.sgml_conversion.specs.theory_reading.Reads.{Move, read_by, ends_in_finish, pieces}
use Rattle.sgml_theory_writable.specs.sgml_theory_full.Named.{AllAre}
use Rattle.sgml_theory_writable.specs.sgml_theory_again.Moves.{Along, OfEach, StaysLive}
use Rattle.sgml_theory_writable.specs.sgml_theory_again.Strings.{StringEndsStay}
use Rattle.sgml_theory_writable.specs.sgml_theory_again.Holding.{MayBeAgain, CdataStays}
use Rattle.sgml_theory_writable.specs.Laws.{MayBeSpelled}
use Rattle.sgml_theory_round.specs.Parted.{Parted}
use Rattle.sgml_theory_round.specs.Again.{instance_told, IsFullOf, IsReadAgain}

-- IN ITS INSTANCE each record end that is live where it comes is live, too, in the element in which it then stands, also
-- one at the head of a short reference string that stands for itself (9.4.6), and no included start follows a record end
-- that waits (7.6.1); no internal CDATA entity with an empty text is referred to; while an element with CDATA content is
-- the innermost one (11.2.3) no entity ends, and no record start stands but directly after a record end
pub record MayBeReadAgain (I : Input) (ms : List Move) (p : Parted I ms) : Type 0 where
  pub cdata_stays : CdataStays (state (read_by I p.prolog)) (pieces p.instance)
  pub stay : OfEach StaysLive (read_by I p.prolog) p.instance
  pub strings : StringEndsStay (read_by I p.prolog) p.instance
  pub may : Along MayBeAgain (state (read_by I p.prolog)) (pieces p.instance)

-- LAW: the full document of such a document, which is read to its end and whose own instructions can be spelled (8), is read
-- again
abbrev pub DocumentsAreReadAgain : Type 0
DocumentsAreReadAgain =
    (I J : Input) (ms : List Move) (p : Parted I ms) → IsTrue (ends_in_finish (read_by I ms))
    → MayBeReadAgain I ms p → AllAre MayBeSpelled (instance_told I ms p) → IsFullOf I J ms p → IsReadAgain I J ms p
