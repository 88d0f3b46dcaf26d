-- The laws of written tags.
use Rattle.std.specs.Prelude.{◌≡◌, ◌⊎◌, true, false, bytes_eq, Some, None, option_map, List, [], ◌∷◌, map}
use Rattle.sgml_theory_worked.specs.model.Term.{Term, empty, name, pcdata, seq, or, none, more}
use Rattle.sgml_theory_worked.specs.model.Group.{one_of, any_times, begin, finish, text, word, by, mark}
use Rattle.sgml_theory_worked.specs.model.Reading.{reading}
use Rattle.sgml_theory_worked.specs.model.Choice.{left_by}
use Rattle.sgml_theory_worked.specs.theory_reading.Names.{Name}
use Rattle.sgml_theory_worked.specs.dtd.Doctypes.{Doctype}
use Rattle.sgml_theory_worked.specs.theory_reading.Pieces.{Piece, Kind, History}
use Rattle.sgml_theory_worked.specs.theory_reading.Facets.{Token, Pcdata}
use Rattle.sgml_theory_worked.specs.theory_reading.Context.{Context, context, context_after, token_left}
use Rattle.sgml_theory_worked.specs.theory_reading.ShortTags.{net_in_force}
use Rattle.sgml_theory_worked.specs.theory_reading.Omission.{MayStand}
use Rattle.sgml_theory_worked.specs.theory_reading.Runs.{context_after_run}
use Rattle.sgml_theory_worked.specs.theory_reading.Unread.{Input}
use Rattle.sgml_theory_worked.specs.theory_reading.Reads.{Forms, Move, ReadOn, after_moves, pieces}
use Rattle.sgml_theory_kinds.specs.theory_spelling.Spelled.{forms}
use Rattle.sgml_theory_written.specs.Written.{written_kind, written, IsWritten, enables_net}
use Rattle.sgml_theory_written.specs.Alike.{Alike}
use Rattle.sgml_theory_written.specs.Covering.{Covers, IsSilent, IsData, is_needed, AreRewritten}
use Rattle.sgml_theory_written.specs.Free.{DataIsFree, is_free}
use Rattle.sgml_theory_written.specs.Freely.{IsFree, TakeAlike, AreFreelyRewritten}
use Rattle.sgml_theory_written.specs.Standing.{TypesItsEnds, StandsBy, StandsAlone, StandAlone, StandBy, AreWritten, AreSpelled, alone_move}

-- it stands with no tag left out before it, and the contexts after both are alike
pub record StandsFor (c d : Context) (p q : Piece) : Type 0 where
  pub stands : StandsAlone d q
  pub alike : Alike (context_after p c) (context_after q d)

-- A TAG THAT MAY BE LEFT OUT may be written there, in each context that is alike
abbrev pub OmittedMayBeWritten : Type 0
OmittedMayBeWritten =
    (c d : Context) (o q : Piece) (x : Kind) → MayStand c o x → Alike c d → IsWritten c.doctype o.kind q.kind → StandsFor c d o q

-- with the attributes that are specified in it: none
abbrev pub OmittedIsWritten : Type 0
OmittedIsWritten = (c : Context) (o : Piece) (x : Kind) → MayStand c o x → IsWritten c.doctype o.kind (written_kind o.kind)

-- A VISIBLE PIECE may be written, where the omitted pieces before it were written
abbrev pub VisibleMayBeWritten : Type 0
VisibleMayBeWritten =
    (c d : Context) (x : Kind) (m : Move) (q : Piece) → StandsBy c x m → Alike (context_after_run c m.omitted) d
    → IsWritten d.doctype m.visible.kind q.kind → StandsFor (context_after_run c m.omitted) d m.visible q

-- with the attributes that are specified in it
abbrev pub VisibleIsWritten : Type 0
VisibleIsWritten =
    (c : Context) (x : Kind) (m : Move) → StandsBy c x m
    → IsWritten (context_after_run c m.omitted).doctype m.visible.kind (written_kind m.visible.kind)

-- WRITTEN PIECES ENABLE NO NET, and where NET isn't in force, nor is it after a piece that doesn't enable it
abbrev pub WrittenEnableNoNet : Type 0
WrittenEnableNoNet = (d : Doctype) (x y : Kind) → IsWritten d x y → enables_net y ≡ false

abbrev pub NetStaysOut : Type 0
NetStaysOut = (c : Context) (p : Piece) → enables_net p.kind ≡ false → net_in_force c ≡ false → net_in_force (context_after p c) ≡ false

-- THE PIECES OF MOVES that stand, each of them written, stand one after another with no tag left out
abbrev pub MovesMayBeWritten : Type 0
MovesMayBeWritten =
    (c d : Context) (ms : List Move) (qs : List Piece) → StandBy c ms → Alike c d → AreWritten c (pieces ms) qs
    → StandAlone d qs × Alike (context_after_run c (pieces ms)) (context_after_run d qs)

-- with the attributes that are specified in them
abbrev pub MovesAreWritten : Type 0
MovesAreWritten = (c : Context) (ms : List Move) → StandBy c ms → AreWritten c (pieces ms) (map written (pieces ms))

-- A PIECE that is no tag, no declaration and not the end of the document is silent or data
abbrev pub OthersAreSilentOrData : Type 0
OthersAreSilentOrData = (x : Kind) → is_needed x ≡ false → IsSilent x ⊎ IsData x

-- AND SO DO THEY in each context that covers theirs, with data elsewhere or without it
abbrev pub MovesMayBeRewritten : Type 0
MovesMayBeRewritten =
    (c d : Context) (ms : List Move) (qs : List Piece) → StandBy c ms → Covers d c → AreRewritten c d (pieces ms) qs
    → StandAlone d qs × Covers (context_after_run d qs) (context_after_run c (pieces ms))

-- IN MIXED CONTENT AND IN ELEMENT CONTENT data is free, and what is left of the one or the other is so too
abbrev pub FreeContent : Type 0
FreeContent = (r : Term) → is_free r ≡ true → DataIsFree r × ((k : Token) → is_free (token_left r k) ≡ true)

-- as what is read of (#PCDATA), and of (#PCDATA | a)*
abbrev pub UsualIsFree : Type 0
UsualIsFree =
    (n : Name) → (option_map is_free (reading (begin ∷ text ∷ finish ∷ [])) ≡ Some true)
    × (option_map is_free (reading (begin ∷ text ∷ by one_of ∷ word n ∷ finish ∷ mark any_times ∷ [])) ≡ Some true)

-- NOT IN ALL CONTENT: as in ((a | #PCDATA), b), what is left may take an element that it doesn't take after data, so that
-- where that is included it would be a proper one if the data stood elsewhere
abbrev pub NotAllIsFree : Type 0
NotAllIsFree =
    (n m : Name) → let r = seq (more (or (more (name 0 n) (more (pcdata 1) none))) (more (name 2 m) none)) in
    bytes_eq m n ≡ false → (left_by (token_left r Pcdata) (Some n) ≡ None) × (left_by r (Some n) ≡ Some (seq (more empty (more (name 2 m) none))))

-- WHERE DATA IS FREE they stand with data elsewhere or without it
abbrev pub MovesMayBeFreelyRewritten : Type 0
MovesMayBeFreelyRewritten =
    (c d : Context) (ms : List Move) (qs : List Piece) → StandBy c ms → IsFree c → TakeAlike c d → AreFreelyRewritten c (pieces ms) qs
    → StandAlone d qs × TakeAlike (context_after_run c (pieces ms)) (context_after_run d qs)

abbrev pub AlikeTakeAlike : Type 0
AlikeTakeAlike = (c d : Context) → Alike c d → TakeAlike c d

-- WHAT READS STANDS, one after another, where </> and NET are spelled as ends of the types that they have there
abbrev pub ReadingStands : Type 0
ReadingStands =
    (forms : Forms) (I : Input) (h : History) (ms : List Move) → TypesItsEnds forms → ReadOn forms I h ms
    → StandBy (context h) ms × (context (after_moves h ms) ≡ context_after_run (context h) (pieces ms))

-- and what stands alone reads, where it is spelled
abbrev pub StandingReads : Type 0
StandingReads =
    (forms : Forms) (J : Input) (k : History) (qs : List Piece) → StandAlone (context k) qs → AreSpelled forms J k qs
    → ReadOn forms J k (map alone_move qs)

-- A DOCUMENT THAT IS WRITTEN so, after k, of what was read after h, reads where its pieces are spelled
abbrev pub WrittenReads : Type 0
WrittenReads =
    (I J : Input) (h k : History) (ms : List Move) (qs : List Piece) → ReadOn forms I h ms → Alike (context h) (context k)
    → AreWritten (context h) (pieces ms) qs → AreSpelled forms J k qs → ReadOn forms J k (map alone_move qs)

-- with data elsewhere or without it
abbrev pub RewrittenReads : Type 0
RewrittenReads =
    (I J : Input) (h k : History) (ms : List Move) (qs : List Piece) → ReadOn forms I h ms → Covers (context k) (context h)
    → AreRewritten (context h) (context k) (pieces ms) qs → AreSpelled forms J k qs → ReadOn forms J k (map alone_move qs)

-- where it is free
abbrev pub FreelyRewrittenReads : Type 0
FreelyRewrittenReads =
    (I J : Input) (h k : History) (ms : List Move) (qs : List Piece) → ReadOn forms I h ms → IsFree (context h) → TakeAlike (context h) (context k)
    → AreFreelyRewritten (context h) (pieces ms) qs → AreSpelled forms J k qs → ReadOn forms J k (map alone_move qs)
