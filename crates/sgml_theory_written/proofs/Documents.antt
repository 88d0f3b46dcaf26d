-- Documents that are written read.
use Rattle.std.specs.Prelude.{List, map}
use Rattle.sgml_theory_worked.specs.theory_reading.Pieces.{Piece, History}
use Rattle.sgml_theory_worked.specs.theory_reading.Context.{context}
use Rattle.sgml_theory_worked.specs.theory_reading.Unread.{Input}
use Rattle.sgml_theory_worked.specs.theory_reading.Reads.{Move, ReadOn, pieces}
use Rattle.sgml_theory_kinds.specs.theory_spelling.Spelled.{forms}
use Rattle.sgml_theory_written.specs.Alike.{Alike}
use Rattle.sgml_theory_written.specs.Standing.{StandBy, AreWritten, AreSpelled, alone_move}
use Rattle.sgml_theory_written.specs.Covering.{Covers, AreRewritten}
use Rattle.sgml_theory_written.specs.Freely.{IsFree, TakeAlike, AreFreelyRewritten}
use Rattle.sgml_theory_written.proofs.Moving.{moves-written}
use Rattle.sgml_theory_written.proofs.Rewriting.{moves-rewritten}
use Rattle.sgml_theory_written.proofs.Freely.{moves-freely}
use Rattle.sgml_theory_written.proofs.Reading.{reading-stands, standing-reads}
use Rattle.sgml_theory_written.proofs.Spelled.{types-its-ends}

stand-so : (I : Input) (h : History) (ms : List Move) → ReadOn forms I h ms → StandBy (context h) ms
stand-so I h ms r = (reading-stands forms I h ms types-its-ends r).0

pub written-reads : (I J : Input) (h k : History) (ms : List Move) (qs : List Piece) → ReadOn forms I h ms → Alike (context h) (context k) → AreWritten (context h) (pieces ms) qs → AreSpelled forms J k qs → ReadOn forms J k (map alone_move qs)
written-reads I J h k ms qs r a w s =
    standing-reads forms J k qs (moves-written (context h) (context k) ms qs (stand-so I h ms r) a w).0 s

pub rewritten-reads : (I J : Input) (h k : History) (ms : List Move) (qs : List Piece) → ReadOn forms I h ms → Covers (context k) (context h) → AreRewritten (context h) (context k) (pieces ms) qs → AreSpelled forms J k qs → ReadOn forms J k (map alone_move qs)
rewritten-reads I J h k ms qs r a w s =
    standing-reads forms J k qs (moves-rewritten (context h) (context k) ms qs (stand-so I h ms r) a w).0 s

pub freely-reads : (I J : Input) (h k : History) (ms : List Move) (qs : List Piece) → ReadOn forms I h ms → IsFree (context h) → TakeAlike (context h) (context k) → AreFreelyRewritten (context h) (pieces ms) qs → AreSpelled forms J k qs → ReadOn forms J k (map alone_move qs)
freely-reads I J h k ms qs r f a w s =
    standing-reads forms J k qs (moves-freely (context h) (context k) ms qs (stand-so I h ms r) f a w).0 s
