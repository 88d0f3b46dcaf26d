-- A FULL DOCUMENT IS READ AGAIN: what stands in it, and that it is read to the same events with no tag left out.
use Rattle.std.specs.Prelude.{◌≡◌, false, List, [], ◌∷◌, ◌++◌, IsTrue}
use Rattle.sgml_conversion.specs.theory_reading.Names.{Text}
use Rattle.sgml_conversion.specs.theory_reading.Unread.{Input}
use Rattle.sgml_conversion.specs.theory_reading.State.{state}
use Rattle.sgml_conversion.specs.theory_reading.Reads.{Move, ReadsFromStart, read_by, ends_in_finish, pieces}
use Rattle.sgml_conversion.specs.theory_reading.Events.{Event as Said, events, events_of_run}
use Rattle.sgml_conversion.specs.theory_reading.Lines.{lines}
use Rattle.sgml_theory_prologs.specs.theory_spelling.Spelled.{forms}
use Rattle.sgml_conversion.specs.sgml_full.declared.inside.Inside.TheVariants as inside
use Rattle.sgml_theory_writable.specs.sgml_theory_full.Named.{AllAre}
use Rattle.sgml_theory_writable.specs.sgml_theory_full.Spellings.{text_of, spellings}
use Rattle.sgml_theory_writable.specs.sgml_theory_full.Instances.{InstanceHolds}
use Rattle.sgml_theory_prologs.specs.Prologs.{ReadsProlog}
use Rattle.sgml_theory_round.specs.Parted.{Parted}

-- THE EVENTS OF THE INSTANCE, by what is told of it from its beginning on
abbrev pub instance_told : (I : Input) → (ms : List Move) → Parted I ms → List Said
instance_told I ms p = events_of_run forms (state (read_by I p.prolog)) (pieces p.instance)

-- J HAS THE FULL DOCUMENT of what was read of I: the bytes of its prolog, what is written of the events of its instance, and
-- a record end
pub record IsFullOf (I J : Input) (ms : List Move) (p : Parted I ms) : Type 0 where
  pub outside : I.outside ≡ J.outside
  pub whole : J.was_cut ≡ false
  pub prolog : Text
  pub rest : Text
  pub reads : ReadsProlog I p.prolog prolog rest
  pub document : J.document ≡ prolog ++ (text_of (spellings (state (read_by I p.prolog)).context.doctype inside.Mixed (instance_told I ms p)) ++ 13 ∷ [])

-- what reads of it: the same prolog, and an instance in which no tag is left out, up to its end; and the same is told, in the
-- same lines
pub record IsReadAgain (I J : Input) (ms : List Move) (p : Parted I ms) : Type 0 where
  pub instance : List Move
  pub reads : ReadsFromStart forms J (p.prolog ++ instance)
  pub over : IsTrue (ends_in_finish (read_by J (p.prolog ++ instance)))
  pub told : events forms (read_by J (p.prolog ++ instance)) ≡ events forms (read_by I ms)
  pub same_lines : lines forms (read_by J (p.prolog ++ instance)) ≡ lines forms (read_by I ms)
  pub none_omitted : AllAre (λ (m : Move). m.omitted ≡ []) instance

-- LAW: where what is asked of its pieces holds of a document that is read to its end, its full document is read again
abbrev pub FullDocumentsAreReadAgain : Type 0
FullDocumentsAreReadAgain =
    (I J : Input) (ms : List Move) (p : Parted I ms) → IsTrue (ends_in_finish (read_by I ms))
    → InstanceHolds (read_by I p.prolog) p.instance → IsFullOf I J ms p → IsReadAgain I J ms p
