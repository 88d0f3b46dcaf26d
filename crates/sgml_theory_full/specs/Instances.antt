-- AN INSTANCE THAT WAS READ is read again from what is written of it.
use Rattle.std.specs.Prelude.{◌≡◌, ℕ, false, List, [], ◌∷◌, ◌++◌, IsTrue, IsFalse}
use Rattle.sgml_theory_values.specs.theory_reading.Pieces.{Piece, History}
use Rattle.sgml_theory_values.specs.theory_reading.Unread.{Input, standing}
use Rattle.sgml_theory_values.specs.theory_reading.State.{state}
use Rattle.sgml_theory_values.specs.theory_reading.Reads.{Move, ReadOn, ends_in_finish, after_moves, pieces}
use Rattle.sgml_theory_values.specs.theory_reading.Events.{Event as Said, events_of_run}
use Rattle.sgml_theory_values.specs.theory_spelling.Spelled.{forms}
use Rattle.sgml_theory_values.specs.full.declared.inside.Inside.TheVariants as inside
use Rattle.sgml_theory_full.specs.Named.{AllAre, IsWritten}
use Rattle.sgml_theory_full.specs.Spellings.{text_of, spellings}
use Rattle.sgml_theory_full.specs.ReadRaw.{AllReadRaw}
use Rattle.sgml_theory_full.specs.Written.{at_document}
use Rattle.sgml_theory_full.specs.Conforming.{InstanceRead}
use Rattle.sgml_theory_full.specs.Following.{AllHold, Follows, IsReferring}

-- these moves of a document read from a place in it to its end
pub record ReadToEnd (I : Input) (h : History) (ms : List Move) : Type 0 where
  pub goes_on : IsFalse (ends_in_finish h)
  pub reads : ReadOn forms I h ms
  pub ends : IsTrue (ends_in_finish (after_moves h ms))

-- the pieces before the last one, which is the end of the document
abbrev pub all_but_last : List Piece → List Piece
all_but_last [] = []
all_but_last (p ∷ []) = []
all_but_last (p ∷ q ∷ ps) = p ∷ all_but_last (q ∷ ps)

-- what holds of the pieces of the first document
pub record InstanceHolds (h : History) (ms : List Move) : Type 0 where
  pub hold : AllHold (state h) (all_but_last (pieces ms))
  pub raw : AllReadRaw (state h) (all_but_last (pieces ms))
  pub written : AllAre (IsWritten (state h).context.doctype) (events_of_run forms (state h) (pieces ms))

-- at a place of the second document that follows the one in the first, what is written of these events stands alone, up
-- to its end
pub record StandsFor (h : History) (es : List Said) (J : Input) (k : History) : Type 0 where
  pub whole : J.was_cut ≡ false
  pub goes_on : IsFalse (ends_in_finish k)
  pub follows : Follows (state h) (state k)
  pub refers : IsReferring (state h).context
  pub spent : ℕ
  pub left : standing J k ≡ at_document spent (text_of (spellings (state h).context.doctype inside.Mixed es) ++ 13 ∷ [])

-- LAW: the second document is read to its end, these events are told, and no tag is left out.
abbrev pub InstancesAreReadAgain : Type 0
InstancesAreReadAgain =
    (I J : Input) (h k : History) (ms : List Move) → ReadToEnd I h ms → InstanceHolds h ms
    → StandsFor h (events_of_run forms (state h) (pieces ms)) J k
    → InstanceRead J k (events_of_run forms (state h) (pieces ms))
